-- Of atoms that are alike before a relation, ring claims need only the lowest, from level 2 on: the first atom is part of a standing, so
-- level 1 takes them all. Alike atoms give a standing the same step: P and the rows of M by the occurrences that may have been read last;
-- N by those that it pairs, by 0 and by what may be last; Z by the single atom. After a prefix that ends with relation o, P, M and N hold
-- only occurrences that read o. So the verdict over the kept atoms is the verdict, and a sheet passes over them exactly where it passes.
-- Assumes nothing.
use Prim.Native.Nat.{ℕ, zero, suc, ◌≤◌, ◌<◌}
use mathlib.Core.Path.{◌≡◌, refl, sym, ◌∙◌, ap, ap₂, subst}
use mathlib.Core.Logic.{◌⊎◌, ⊎_elim}
use mathlib.Core.Logic.◌⊎◌.{inl, inr}
use mathlib.Core.Bool.{Bool, true, false, ◌&&◌, ◌||◌, beq, true≢false}
use mathlib.Core.List.{List, [], ◌∷◌, map}
use Rattle.kat.specs.Expr.{Expr}
use Rattle.kat.specs.Lists.{In, here, there, upto, some, member}
use Rattle.kat.specs.Ring.{Prefix}
use Rattle.kat.specs.Tables.{occurrences, reads, null, next, stop, after, ends}
use Rattle.kat.proofs.Bools.{bool_ext, le_or_lt, or_cases, and_left, and_right, and_both}
use Rattle.kat.proofs.Sets.{some_in, filter_in, filter_same, some_same, map_in, map_same, member_in}
use Rattle.notation.specs.Sides.{Decision}
use Rattle.verdicts.specs.Standings.{Letter, Ring, row, states, moves, ring_begin, pairs, ring_step, ring_system}
use Rattle.verdicts.specs.Search.{Entry, verdict}
use Rattle.verdicts.specs.Passing.{proving}
use Rattle.verdicts.specs.Thin.{thin_verdict, thin_proving}
use Rattle.verdicts.specs.Alike.{occurrences_of, states_of, readers_of, same_next, same_last, alike_ring, alike_ring_after, kept_ring, kept_ring_after, last_relation, ring_letter, ring_letter_after}
use Rattle.verdicts.specs.Verdicts.{StandingOf, begun, grown}
use Rattle.verdicts.specs.Orders.{Rising, letter_of}
use Rattle.verdicts.proofs.Rows.{row_made, rows_made, row_past, nothing_in_empty}
use Rattle.verdicts.proofs.RingStandings.{begin_n}
use Rattle.verdicts.proofs.Letters.{Fits}
use Rattle.verdicts.proofs.Lawful.{beq_sound, and-false, ring_lawful}
use Rattle.verdicts.proofs.ThinVerdict.{MayLeave, Thins, ThinsAnywhere, anywhere_thins, thin_verdict_lem, thin_proving_lem}
use Rattle.verdicts.proofs.Alike.{SameStep, step_next, after_same, ends_same, next_is_same, next_is_same_anywhere, last_is_same, last_is_same_anywhere, reads_in, after_readers, lower_alike}

-- a row that holds something is one of the table's rows
row_listed : (t : List (List ℕ)) (k p : ℕ) → In p (row t k) → In (row t k) t
row_listed [] k p i = elim i [ ]
row_listed (x ∷ t) zero p i = here refl
row_listed (x ∷ t) (suc k) p i = there (row_listed t k p i)

module _ (D : Decision) where
  moves_half : (r a b p q : ℕ) → SameStep D.right a b r p → moves D (letter_of a r) p q ≡ true → moves D (letter_of b r) p q ≡ true
  unfolding moves
  moves_half r a b p q h e =
      let m : reads D.right 0 q r ≡ true = and_left (reads D.right 0 q r) (next D.right p q a) e in
      and_both m (step_next D.right a b r p q h m (and_right (reads D.right 0 q r) (next D.right p q a) e))

  moves_same : (r a b p q : ℕ) → SameStep D.right a b r p → moves D (letter_of a r) p q ≡ moves D (letter_of b r) p q
  moves_same r a b p q h =
      bool_ext (moves D (letter_of a r) p q) (moves D (letter_of b r) p q) (moves_half r a b p q h) (moves_half r b a p q (sym h))

  -- what two atoms must have in common for a standing s and a relation r
  pub record SameFor (s : Ring) (r a b : ℕ) : Type 0 where
    pub word : null D.right a ≡ null D.right b
    pub left : (p : ℕ) → In p s.P → SameStep D.left a b r p
    pub start : SameStep D.right a b r 0
    pub rows : (x : List ℕ) (p : ℕ) → In x s.M → In p x → SameStep D.right a b r p
    pub paired : (q p : ℕ) → In p (row s.N q) → SameStep D.right a b r q
    pub last : (x : List ℕ) (p : ℕ) → In x s.M → In p x → stop D.right p a ≡ stop D.right p b

  module _ (s : Ring) (r a b : ℕ) (h : SameFor s r a b) where
    -- a pair that goes on from o
    paired_same : (p q o : ℕ) → (moves D (letter_of a r) o q && member p (row s.N o)) ≡ (moves D (letter_of b r) o q && member p (row s.N o))
    paired_same p q o = go (member p (row s.N o)) refl
      where
        go : (c : Bool) → member p (row s.N o) ≡ c → (moves D (letter_of a r) o q && c) ≡ (moves D (letter_of b r) o q && c)
        go true e = ap (λ m. m && true) (moves_same r a b o q (h.paired o p (member_in p (row s.N o) e)))
        go false e = and-false (moves D (letter_of a r) o q) ∙ sym (and-false (moves D (letter_of b r) o q))

    row_ends_same : (p : ℕ) → ends D.right (row s.M p) a ≡ ends D.right (row s.M p) b
    row_ends_same p = ends_same D.right a b (row s.M p) (λ o i. h.last (row s.M p) o (row_listed s.M p o i) i)

    pairs_same : (q : ℕ) → pairs D s (letter_of a r) q ≡ pairs D s (letter_of b r) q
    unfolding pairs
    pairs_same q =
        filter_same
        (λ p. some (λ o. moves D (letter_of a r) o q && member p (row s.N o)) (states D) || (moves D (letter_of a r) 0 q && ends D.right (row s.M p) a))
        (λ p. some (λ o. moves D (letter_of b r) o q && member p (row s.N o)) (states D) || (moves D (letter_of b r) 0 q && ends D.right (row s.M p) b))
        (states D)
        (λ p i. ap₂ ◌||◌
        (some_same (λ o. moves D (letter_of a r) o q && member p (row s.N o)) (λ o. moves D (letter_of b r) o q && member p (row s.N o)) (states D)
        (λ o j. paired_same p q o))
        (ap₂ ◌&&◌ (moves_same r a b 0 q h.start) (row_ends_same p)))

    ring_step_same : ring_step D s (letter_of a r) ≡ ring_step D s (letter_of b r)
    unfolding ring_step
    ring_step_same =
        let z : (s.Z || null D.right a) ≡ (s.Z || null D.right b) = ap (λ c. s.Z || c) h.word in
        let p : after D.left s.P a r ≡ after D.left s.P b r = after_same D.left a b r s.P h.left in
        let m : map (λ x. after D.right x a r) s.M ≡ map (λ x. after D.right x b r) s.M =
        map_same (λ x. after D.right x a r) (λ x. after D.right x b r) s.M
        (λ x i. after_same D.right a b r x (λ o j. h.rows x o i j)) in
        let n : map (pairs D s (letter_of a r)) (states D) ≡ map (pairs D s (letter_of b r)) (states D) =
        map_same (pairs D s (letter_of a r)) (pairs D s (letter_of b r)) (states D) (λ q i. pairs_same q) in
        λ i. record { first = s.first; Z = z i; P = p i; M = m i; N = n i }

  -- alike before r, whatever was read last: for every standing
  alike_ring_for : (s : Ring) (r a b : ℕ) → alike_ring D r a b ≡ true → SameFor s r a b
  unfolding alike_ring
  alike_ring_for s r a b e =
      let E : Expr = D.right in
      let z : Bool = beq (null E a) (null E b) in
      let t : Bool = same_last E (occurrences_of E) a b in
      let l : Bool = same_next D.left (states_of D.left) r a b in
      let m : Bool = same_next E (states_of E) r a b in
      let e₂ : (z && t && l) ≡ true = and_left (z && t && l) m e in
      let e₁ : (z && t) ≡ true = and_left (z && t) l e₂ in
      let w : null E a ≡ null E b = beq_sound (null E a) (null E b) (and_left z t e₁) in
      let k : (p : ℕ) → SameStep E a b r p = next_is_same_anywhere E r a b (and_right (z && t && l) m e) in
      record {
        word = w;
        left = λ p i. next_is_same_anywhere D.left r a b (and_right (z && t) l e₂) p;
        start = k 0;
        rows = λ x p i j. k p;
        paired = λ q p i. k q;
        last = λ x p i j. last_is_same_anywhere E a b w (and_right z t e₁) p;
      }

  -- P, the rows of M and the first of the pairs of N hold only occurrences that read relation o
  pub record ReadersOnly (o : ℕ) (s : Ring) : Type 0 where
    pub left : (p : ℕ) → In p s.P → In p (readers_of D.left o)
    pub rows : (x : List ℕ) (p : ℕ) → In x s.M → In p x → In p (readers_of D.right o)
    pub paired : (q p : ℕ) → In p (row s.N q) → In q (readers_of D.right o)

  -- alike before r where o was read last: for a standing of such occurrences
  alike_ring_after_for : (s : Ring) (o r a b : ℕ) → ReadersOnly o s → alike_ring_after D o r a b ≡ true → SameFor s r a b
  unfolding alike_ring_after
  alike_ring_after_for s o r a b h e =
      let E : Expr = D.right in
      let z : Bool = beq (null E a) (null E b) in
      let t : Bool = same_last E (readers_of E o) a b in
      let l : Bool = same_next D.left (readers_of D.left o) r a b in
      let m : Bool = same_next E (0 ∷ readers_of E o) r a b in
      let e₂ : (z && t && l) ≡ true = and_left (z && t && l) m e in
      let e₁ : (z && t) ≡ true = and_left (z && t) l e₂ in
      let k : (p : ℕ) → In p (0 ∷ readers_of E o) → SameStep E a b r p =
      next_is_same E (0 ∷ readers_of E o) r a b (and_right (z && t && l) m e) in
      record {
        word = beq_sound (null E a) (null E b) (and_left z t e₁);
        left = λ p i. next_is_same D.left (readers_of D.left o) r a b (and_right (z && t) l e₂) p (h.left p i);
        start = k 0 (here refl);
        rows = λ x p i j. k p (there (h.rows x p i j));
        paired = λ q p i. k q (there (h.paired q p i));
        last = λ x p i j. last_is_same E (readers_of E o) a b (and_right z t e₁) p (h.rows x p i j);
      }

  pub alike_ring_step : (s : Ring) (r a b : ℕ) → alike_ring D r a b ≡ true → ring_step D s (letter_of a r) ≡ ring_step D s (letter_of b r)
  alike_ring_step s r a b e = ring_step_same s r a b (alike_ring_for s r a b e)

  pub alike_ring_after_lem : (s : Ring) (o r a b : ℕ) → ReadersOnly o s → alike_ring_after D o r a b ≡ true
      → ring_step D s (letter_of a r) ≡ ring_step D s (letter_of b r)
  alike_ring_after_lem s o r a b h e = ring_step_same s r a b (alike_ring_after_for s o r a b h e)

  moves_readers : (l : Letter) (o q : ℕ) → moves D l o q ≡ true → In q (readers_of D.right l.relation)
  unfolding moves
  moves_readers l o q e =
      reads_in D.right q l.relation (and_left (reads D.right 0 q l.relation) (next D.right o q l.atom) e)

  pairs_readers : (s : Ring) (l : Letter) (q p : ℕ) → In p (pairs D s l q) → In q (readers_of D.right l.relation)
  unfolding pairs
  pairs_readers s l q p i =
      let f : ℕ → Bool = λ p. some (λ o. moves D l o q && member p (row s.N o)) (states D) || (moves D l 0 q && ends D.right (row s.M p) l.atom) in
      let (j, e) = filter_in f (states D) i in
      ⊎_elim
      (λ x.
      let (o, k, y) = some_in (λ o. moves D l o q && member p (row s.N o)) (states D) x in
      moves_readers l o q (and_left (moves D l o q) (member p (row s.N o)) y))
      (λ x. moves_readers l 0 q (and_left (moves D l 0 q) (ends D.right (row s.M p) l.atom) x))
      (or_cases (some (λ o. moves D l o q && member p (row s.N o)) (states D)) (moves D l 0 q && ends D.right (row s.M p) l.atom) e)

  rows_readers : (s : Ring) (l : Letter) (q p : ℕ) → In p (row (map (pairs D s l) (states D)) q) → In q (readers_of D.right l.relation)
  unfolding states
  rows_readers s l q p = go (le_or_lt (suc (occurrences D.right)) q)
    where
      n : ℕ
      n = suc (occurrences D.right)

      go : (suc (occurrences D.right) ≤ q) ⊎ (q < suc (occurrences D.right))
          → In p (row (map (pairs D s l) (upto 0 (suc (occurrences D.right)))) q) → In q (readers_of D.right l.relation)
      go (inl b) i =
          absurd (nothing_in_empty (row_past (map (pairs D s l) (upto 0 n)) q (subst (λ x. x ≤ q) (sym (rows_made (pairs D s l) n)) b)) i)
      go (inr b) i = pairs_readers s l q p (subst (In p) (row_made (pairs D s l) n q b) i)

  pub ring_readers : {l : Prefix} {s : Ring} → StandingOf (ring_system D) l s → ReadersOnly (last_relation l) s
  unfolding ring_begin ring_step
  ring_readers (begun {a = a} {r = r} h k) =
      record {
        left = after_readers D.left (0 ∷ []) a r;
        rows = λ x p i j.
            let (o, m, e) = map_in (λ o. after D.right (o ∷ []) a r) (states D) i in
            after_readers D.right (o ∷ []) a r p (subst (In p) e j);
        paired = λ q p i. absurd (begin_n D q p i);
      }
  ring_readers (grown {s = s} {a = a} {r = r} t h k) =
      record {
        left = after_readers D.left s.P a r;
        rows = λ x p i j.
            let (o, m, e) = map_in (λ o. after D.right o a r) s.M i in
            after_readers D.right o a r p (subst (In p) e j);
        paired = rows_readers s (letter_of a r);
      }

  -- a letter whose atom is not kept may be left out
  leaves_ring : (s : Ring) (l : Letter) → Fits (ring_system D) l → kept_ring D l.relation l.atom ≡ false
      → MayLeave (ring_system D) (ring_step D s) l
  unfolding kept_ring
  leaves_ring s l (m, h) e =
      let (b, k, n, q) = lower_alike (alike_ring D l.relation) D.live l.atom m e in
      inr (letter_of b l.relation, (n, h), inl k, sym (alike_ring_step s l.relation l.atom b q))

  leaves_ring_after : (e : Entry (ring_system D)) → StandingOf (ring_system D) e.prefix e.standing → (l : Letter) → Fits (ring_system D) l
      → kept_ring_after D (last_relation e.prefix) l.relation l.atom ≡ false
      → MayLeave (ring_system D) (ring_step D e.standing) l
  unfolding kept_ring_after
  leaves_ring_after e t l (m, h) f =
      let o : ℕ = last_relation e.prefix in
      let (b, k, n, q) = lower_alike (alike_ring_after D o l.relation) D.live l.atom m f in
      inr (letter_of b l.relation, (n, h), inl k, sym (alike_ring_after_lem e.standing o l.relation l.atom b (ring_readers t) q))

  pub ring_thins_anywhere : ThinsAnywhere (ring_system D) (λ l. true) (ring_letter D)
  ring_thins_anywhere = record { begins = λ l h e. absurd (true≢false e); goes_on = leaves_ring }

  pub ring_thins : Thins (ring_system D) (λ l. true) (ring_letter_after D)
  ring_thins = record { begins = λ l h e. absurd (true≢false e); goes_on = leaves_ring_after }

  module _ (rising : Rising D.live) where
    -- the verdict over the atoms kept by the next relation
    pub kept_ring_verdict : (allowance : ℕ)
        → thin_verdict (ring_system D) (λ l. true) (λ e. ring_letter D) allowance ≡ verdict (ring_system D) allowance
    kept_ring_verdict =
        thin_verdict_lem (ring_system D) (ring_lawful D rising) (λ l. true) (λ e. ring_letter D)
        (anywhere_thins (ring_system D) (λ l. true) (ring_letter D) ring_thins_anywhere)

    -- the verdict over the atoms kept by the last and the next relation
    pub kept_ring_verdict_after : (allowance : ℕ)
        → thin_verdict (ring_system D) (λ l. true) (ring_letter_after D) allowance ≡ verdict (ring_system D) allowance
    kept_ring_verdict_after = thin_verdict_lem (ring_system D) (ring_lawful D rising) (λ l. true) (ring_letter_after D) ring_thins

    -- the check of a sheet over the atoms kept by the next relation
    pub kept_ring_proves : (ss : List (ring_system D).Standing) → thin_proving (ring_system D) (λ l. true) (ring_letter D) ss ≡ proving (ring_system D) ss
    kept_ring_proves = thin_proving_lem (ring_system D) (ring_lawful D rising) (λ l. true) (ring_letter D) ring_thins_anywhere
