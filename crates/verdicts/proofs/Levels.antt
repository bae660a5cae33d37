-- What the search knows as it goes from level to level. After k levels it has seen exactly their standings, each once, and of the
-- next level it has the fresh ones with their least prefixes, in order. A prefix that it does not follow has a standing that an
-- earlier level has, and so have all that come of it: they stand in a level before their own.
-- Assumes nothing.
use Prim.Native.Nat.{ℕ, suc, ◌+◌, ◌≤◌}
use native.Mathlib.Nat.{eq-or-lt_of_le, le_of_suc-le-suc}
use native.Mathlib.Omega.{arith}
use mathlib.Core.Path.{◌≡◌, refl, sym, ◌∙◌, ap, subst}
use mathlib.Core.Logic.{⊎_elim}
use mathlib.Core.Logic.◌⊎◌.{inl, inr}
use mathlib.Core.Bool.{true}
use mathlib.Core.List.{List, [], ◌∷◌, ◌++◌}
use mathlib.Core.Option.{none}
use lib.ListN.{length, length-append}
use Rattle.kat.specs.Lists.{In}
use Rattle.kat.specs.Word.{Word, end, at, size}
use Rattle.kat.specs.Ring.{Prefix, then, onto}
use Rattle.kat.proofs.Sets.{in_map, map_in, in_append, in_append_left, in_append_right}
use Rattle.kat.proofs.Bools.{true_not_false, false_of_not}
use Rattle.verdicts.specs.Standings.{System, Letter, letters}
use Rattle.verdicts.specs.Passing.{refuting}
use Rattle.verdicts.specs.Search.{Entry, first_level, next_level, fresh, completed}
use Rattle.notation.specs.Words.{Guarded}
use Rattle.verdicts.specs.Verdicts.{relations_in, Distinct, StandingOf, begun, grown, Holds, Within, NoneShorter, FreshAt}
use Rattle.verdicts.specs.Lawful.{Lawful}
use Rattle.verdicts.specs.Orders.{Pairwise, letter_of, NotLater}
use Rattle.verdicts.proofs.Distinct.{distinct_append, distinct_apart, distinct_second, in_long}
use Rattle.verdicts.proofs.Letters.{Fits}
use Rattle.verdicts.proofs.Order.{not_later_trans, not_later_then}
use Rattle.verdicts.proofs.Prefixes
use Rattle.verdicts.proofs.Fresh.{standings, Ahead, entry_of, entry_after, KeptFor, fresh_in, in_fresh, fresh_ahead, fresh_distinct}
use Rattle.verdicts.proofs.Candidates.{first_in_lem, in_first, first_ahead, next_in, in_next, next_ahead, completed_none}

-- the entry's prefix has k relations and the entry's standing
abbrev pub Stands : (S : System) → ℕ → Entry S → Type 0
Stands S k e = StandingOf S e.prefix e.standing × (relations_in e.prefix ≡ k)

-- what is behind after k levels
pub record Behind (S : System) (k : ℕ) (seen : List (Entry S)) : Type 0 where
  pub sound : (s : S.Standing) → In s (standings S seen) → Within S k s
  pub complete : (s : S.Standing) → Within S k s → In s (standings S seen)
  pub distinct : Distinct (standings S seen)
  pub filled : k ≤ length seen
  pub none_shorter : NoneShorter S (suc k)
  pub each_fresh : (m : ℕ) → 1 ≤ m → m ≤ k → FreshAt S m

-- the candidates of level k + 1
pub record Offered (S : System) (laws : Lawful S) (k : ℕ) (seen cands : List (Entry S)) : Type 0 where
  pub stands : (e : Entry S) → In e cands → Stands S (suc k) e
  pub ahead : Pairwise (Ahead S) cands
  pub least : (e : Entry S) → Stands S (suc k) e → S.possible e.standing ≡ true → KeptFor S laws seen cands e

-- level k + 1 reached: what is behind, and the fresh of the level
pub record Reached (S : System) (laws : Lawful S) (k : ℕ) (seen new : List (Entry S)) : Type 0 where
  pub behind : Behind S k seen
  pub stands : (e : Entry S) → In e new → Stands S (suc k) e × (S.possible e.standing ≡ true)
  pub ahead : Pairwise (Ahead S) new
  pub least : (e : Entry S) → Stands S (suc k) e → S.possible e.standing ≡ true → KeptFor S laws seen new e
  pub apart : Distinct (standings S (seen ++ new))

-- the standings of two lists of entries
standings_append : (S : System) (xs ys : List (Entry S)) → standings S (xs ++ ys) ≡ standings S xs ++ standings S ys
standings_append S [] ys = refl
standings_append S (x ∷ xs) ys = ap (λ ss. x.standing ∷ ss) (standings_append S xs ys)

module _ (S : System) (laws : Lawful S) where
  -- no level holds a standing of no relation
  pub within_none : (s : S.Standing) → Within S 0 s → ⊥
  within_none s (m, h, (l, p, q, o)) = let k = Prefixes.standing_long S p in omega arith

  alone_shorter : S.alone ≡ [] → NoneShorter S 1
  unfolding refuting
  alone_shorter e (end a) g h = rw e refl
  alone_shorter e (at a r w) g h = absurd (omega arith)

  -- before any level
  pub start_behind : S.alone ≡ [] → Behind S 0 []
  start_behind e =
      record {
        sound = λ s i. elim i [ ];
        complete = λ s h. absurd (within_none s h);
        distinct = tt;
        filled = omega arith;
        none_shorter = alone_shorter e;
        each_fresh = λ m h k. absurd (omega arith);
      }

  first_least : (l : Prefix) (s : S.Standing) → StandingOf S l s → relations_in l ≡ 1
      → KeptFor S laws [] (first_level S (letters S)) (record { standing = s; prefix = l })
  first_least l s (begun {a = a} {r = r} h k) e =
      inr (entry_of S (letter_of a r), in_first S (letter_of a r) (h, k), refl, inl refl)
  first_least l s (grown p h k) e = let q = Prefixes.standing_long S p in absurd (omega arith)

  pub first_offered : Offered S laws 0 [] (first_level S (letters S))
  first_offered =
      record {
        stands = λ x i. let (l, (h, k), e) = first_in_lem S x i in subst (Stands S 1) (sym e) (begun h k, refl);
        ahead = first_ahead S laws.live_rising;
        least = λ e h o. first_least e.prefix e.standing h.0 h.1;
      }

  -- an entry that keeps the standing of a kept one, itself no later
  kept_through : (seen new : List (Entry S)) (e x : Entry S) → x.standing ≡ e.standing → NotLater x.prefix e.prefix
      → KeptFor S laws seen new x → KeptFor S laws seen new e
  kept_through seen new e x q h (inl i) = inl (subst (λ s. In s (standings S seen)) q i)
  kept_through seen new e x q h (inr (y, j, p, k)) =
      inr (y, j, p ∙ q, not_later_trans y.prefix x.prefix e.prefix k h)

  module _ (k : ℕ) (seen cands : List (Entry S)) (b : Behind S k seen) (o : Offered S laws k seen cands) where
    fresh_least : (e : Entry S) → S.possible e.standing ≡ true → KeptFor S laws seen cands e
        → KeptFor S laws seen (fresh S seen cands) e
    fresh_least e h (inl i) = inl i
    fresh_least e h (inr (x, i, q, p)) =
        kept_through seen (fresh S seen cands) e x q p
        (in_fresh S laws seen cands x o.ahead i (subst (λ s. S.possible s ≡ true) (sym q) h))

    fresh_apart : Distinct (standings S (seen ++ fresh S seen cands))
    fresh_apart =
        rw (standings_append S seen (fresh S seen cands))
        (distinct_append (standings S seen) (standings S (fresh S seen cands)) b.distinct (fresh_distinct S laws seen cands)
        (λ s i j. let (e, n, q) = map_in (λ f. f.standing) (fresh S seen cands) j in
        (fresh_in S laws seen cands e n).unseen (subst (λ t. In t (standings S seen)) q i)))

    pub fresh_reached : Reached S laws k seen (fresh S seen cands)
    fresh_reached =
        record {
          behind = b;
          stands = λ e i. let f = fresh_in S laws seen cands e i in (o.stands e f.candidate, f.is_possible);
          ahead = fresh_ahead S laws seen cands o.ahead;
          least = λ e h q. fresh_least e q (o.least e h q);
          apart = fresh_apart;
        }

  module _ (k : ℕ) (seen new : List (Entry S)) (r : Reached S laws k seen new) where
    in_new : (e : Entry S) → In e new → Holds S (suc k) e.standing
    in_new e i = let (p, o) = r.stands e i in (e.prefix, p.0, p.1, o)

    -- with the fresh ones it has exactly the standings of k + 1 levels
    pub now_sound : (s : S.Standing) → In s (standings S (seen ++ new)) → Within S (suc k) s
    now_sound s i =
        ⊎_elim (λ j. let (m, h, w) = r.behind.sound s j in (m, omega arith, w))
        (λ j. let (e, n, q) = map_in (λ f. f.standing) new j in (suc k, omega arith, subst (Holds S (suc k)) (sym q) (in_new e n)))
        (in_append (standings S seen) (subst (In s) (standings_append S seen new) i))

    pub now_complete : (s : S.Standing) → Within S (suc k) s → In s (standings S (seen ++ new))
    now_complete s (m, h, (l, p, q, o)) =
        rw (standings_append S seen new)
        (⊎_elim (λ e. last (r.least (record { standing = s; prefix = l }) (p, q ∙ e) o))
        (λ n. in_append_left (standings S new) (r.behind.complete s (m, omega arith, (l, p, q, o))))
        (eq-or-lt_of_le h))
      where
        last : KeptFor S laws seen new (record { standing = s; prefix = l }) → In s (standings S seen ++ standings S new)
        last (inl i) = in_append_left (standings S new) i
        last (inr (x, i, e, n)) = in_append_right (standings S seen) (subst (λ t. In t (standings S new)) e (in_map (λ f. f.standing) i))

    -- what was seen completes nothing, since shorter words would refute
    pub seen_completes_none : (s : S.Standing) (b : ℕ) → In s (standings S seen) → In b (S.finals s) → ⊥
    seen_completes_none s b i j =
        let (m, h, (l, p, q, o)) = r.behind.sound s i in
        let e : size (onto l (end b)) ≡ relations_in l + 0 = Prefixes.size_onto l (end b) in
        true_not_false (Prefixes.finals_refute S b p j)
        (r.behind.none_shorter (onto l (end b)) (Prefixes.finals_guarded S laws b p j) (omega arith))

    -- a refuting word of k + 1 relations is completed from a fresh entry, no later than its own prefix
    pub record Found (v : Word) : Type 0 where
      pub cut : Prefixes.Cut S v
      pub entry : Entry S
      pub inside : In entry new
      pub standing : entry.standing ≡ cut.s
      pub not_later : NotLater entry.prefix cut.l
      pub final : In cut.b (S.finals cut.s)

    pub refuting_found : (v : Word) → Guarded S.live S.relations v → size v ≡ suc k → refuting S v ≡ true → Found v
    refuting_found v g e h =
        go (r.least (record { standing = c.s; prefix = c.l }) (c.standing, Prefixes.cut_size S v c ∙ e)
        (Prefixes.completing_possible S laws c.s c.b f))
      where
        c : Prefixes.Cut S v
        c = Prefixes.cut_word S v g (omega arith)

        f : In c.b (S.finals c.s)
        f = Prefixes.cut_final S v c h

        go : KeptFor S laws seen new (record { standing = c.s; prefix = c.l }) → Found v
        go (inl i) = absurd (seen_completes_none c.s c.b i f)
        go (inr (x, i, q, n)) = record { cut = c; entry = x; inside = i; standing = q; not_later = n; final = f }

    -- a level that completes nothing
    pub next_shorter : completed S new ≡ none → NoneShorter S (suc (suc k))
    next_shorter none' v g h =
        ⊎_elim (λ e. false_of_not (refuting S v) (λ t. none_found v (refuting_found v g e t)))
        (λ n. r.behind.none_shorter v g n) (eq-or-lt_of_le (le_of_suc-le-suc h))
      where
        none_found : (u : Word) → Found u → ⊥
        none_found u f =
            completed_none S new none' f.entry f.cut.b f.inside
            (subst (λ s. In f.cut.b (S.finals s)) (sym f.standing) f.final)

    parted : Distinct (standings S seen ++ standings S new)
    parted = subst Distinct (standings_append S seen new) r.apart

    pub new_distinct : Distinct (standings S new)
    new_distinct = distinct_second (standings S seen) (standings S new) parted

    pub new_unseen : (e : Entry S) → In e new → In e.standing (standings S seen) → ⊥
    new_unseen e i j = distinct_apart (standings S seen) (standings S new) parted e.standing j (in_map (λ f. f.standing) i)

    -- a fresh entry's standing stands in no level before
    new_fresh : (e : Entry S) → In e new → FreshAt S (suc k)
    new_fresh e i = (e.standing, in_new e i, λ m h w. new_unseen e i (r.behind.complete e.standing (m, omega arith, w)))

    -- with a fresh entry there are as many seen as levels
    pub longer : (e : Entry S) → In e new → suc k ≤ length (seen ++ new)
    longer e i = let h = in_long i in let b = r.behind.filled in rw (length-append seen new) (omega arith)

    pub next_behind : completed S new ≡ none → (e : Entry S) → In e new → Behind S (suc k) (seen ++ new)
    next_behind none' e i =
        record {
          sound = now_sound;
          complete = now_complete;
          distinct = r.apart;
          filled = longer e i;
          none_shorter = next_shorter none';
          each_fresh = λ m h n.
              ⊎_elim (λ q. subst (FreshAt S) (sym q) (new_fresh e i)) (λ q. r.behind.each_fresh m h (le_of_suc-le-suc q))
              (eq-or-lt_of_le n);
        }

    -- a prefix of the next level: its standing stands in a level before, or a fresh entry that is no later goes on with the letter
    grown_least : (m : Prefix) (t : S.Standing) (l : Letter) → Fits S l → S.possible (S.onward t l) ≡ true
        → KeptFor S laws seen new (record { standing = t; prefix = m })
        → KeptFor S laws (seen ++ new) (next_level S new)
        (record { standing = S.onward t l; prefix = then m l.atom l.relation })
    grown_least m t l h o (inl i) =
        let (n, b, w) = r.behind.sound t i in
        inl (now_complete (S.onward t l) (suc n, omega arith, Prefixes.holds_onward S n t l w h o))
    grown_least m t l h o (inr (x, i, e, n)) =
        inr (entry_after S x l, in_next S x l i h, ap (λ u. S.onward u l) e, not_later_then x.prefix m l.atom l.relation n)

    next_least : (l : Prefix) (s : S.Standing) → StandingOf S l s → relations_in l ≡ suc (suc k) → S.possible s ≡ true
        → KeptFor S laws (seen ++ new) (next_level S new) (record { standing = s; prefix = l })
    next_least l s (begun h j) e o = absurd (omega arith)
    next_least l s (grown {l = m} {s = t} {a = a} {r = q} p h j) e o =
        grown_least m t (letter_of a q) (h, j) o
        (r.least (record { standing = t; prefix = m }) (p, omega arith) (Prefixes.before_possible S laws t (letter_of a q) o))

    pub next_offered : Offered S laws (suc k) (seen ++ new) (next_level S new)
    next_offered =
        record {
          stands = λ x i. let (e, l, j, (h, n), q) = next_in S new x i in
              let (p, o) = r.stands e j in subst (Stands S (suc (suc k))) (sym q) (grown p.0 h n, ap suc p.1);
          ahead = next_ahead S new laws.live_rising r.ahead;
          least = λ e h o. next_least e.prefix e.standing h.0 h.1 o;
        }
