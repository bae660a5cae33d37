-- The fresh of a list of candidates: those whose standing is possible and was not seen, each standing at its first candidate. A
-- possible candidate that is dropped has a standing that was seen, or that an earlier one keeps.
-- Assumes nothing.
use mathlib.Core.Path.{◌≡◌, refl, sym, ◌∙◌, ap, subst}
use mathlib.Core.Logic.{◌⊎◌, ⊎_elim}
use mathlib.Core.Logic.◌⊎◌.{inl, inr}
use mathlib.Core.Bool.{Bool, true, false, not, ◌&&◌}
use mathlib.Core.List.{List, [], ◌∷◌, map}
use Rattle.kat.specs.Lists.{In, here, there}
use Rattle.kat.specs.Ring.{nothing, then}
use Rattle.kat.proofs.Sets.{some_in, in_some, in_map, map_in}
use Rattle.kat.proofs.Bools.{bool_cases, true_not_false, and_left, and_right, and_both, not_true_false, false_not_true}
use Rattle.verdicts.specs.Standings.{System, Letter}
use Rattle.verdicts.specs.Search.{Entry, seen_in, fresh}
use Rattle.verdicts.specs.Verdicts.{Distinct}
use Rattle.verdicts.specs.Lawful.{Lawful}
use Rattle.verdicts.specs.Orders.{Pairwise, Earlier, NotLater}

module _ (S : System) where
  -- the standings of a list of entries
  abbrev pub standings : List (Entry S) → List S.Standing
  standings es = map (λ e. e.standing) es

  -- the order of entries
  abbrev pub Ahead : Entry S → Entry S → Type 0
  Ahead e f = Earlier e.prefix f.prefix

  -- the entry of one letter, and that of an entry and one letter more
  abbrev pub entry_of : Letter → Entry S
  entry_of l = record { standing = S.begin l; prefix = then nothing l.atom l.relation }

  abbrev pub entry_after : Entry S → Letter → Entry S
  entry_after e l = record { standing = S.onward e.standing l; prefix = then e.prefix l.atom l.relation }

module _ (S : System) (laws : Lawful S) where
  pub seen_in_lem : (seen : List (Entry S)) (s : S.Standing) → seen_in S seen s ≡ true → In s (standings S seen)
  unfolding seen_in
  seen_in_lem seen s h =
      let (e, i, q) = some_in (λ f. S.equal s f.standing) seen h in
      subst (λ t. In t (standings S seen)) (sym (laws.equal_sound s e.standing q)) (in_map (λ f. f.standing) i)

  pub in_seen : (seen : List (Entry S)) (s : S.Standing) → In s (standings S seen) → seen_in S seen s ≡ true
  unfolding seen_in
  in_seen seen s i =
      let (e, j, q) = map_in (λ f. f.standing) seen i in
      in_some (λ f. S.equal s f.standing) j (subst (λ t. S.equal s t ≡ true) q (laws.equal_self s))

  -- the test by which an entry is kept
  abbrev pub keeps : List (Entry S) → Entry S → Bool
  keeps seen e = S.possible e.standing && not (seen_in S seen e.standing)

  keeps_possible : (seen : List (Entry S)) (e : Entry S) → keeps seen e ≡ true → S.possible e.standing ≡ true
  keeps_possible seen e h = and_left (S.possible e.standing) (not (seen_in S seen e.standing)) h

  keeps_unseen : (seen : List (Entry S)) (e : Entry S) → keeps seen e ≡ true → In e.standing (standings S seen) → ⊥
  keeps_unseen seen e h i =
      true_not_false (in_seen seen e.standing i)
      (not_true_false (seen_in S seen e.standing) (and_right (S.possible e.standing) (not (seen_in S seen e.standing)) h))

  pub kept : (seen : List (Entry S)) (e : Entry S) (es : List (Entry S)) → keeps seen e ≡ true
      → fresh S seen (e ∷ es) ≡ e ∷ fresh S (e ∷ seen) es
  unfolding fresh
  kept seen e es h = rw (h, fresh) refl

  pub dropped : (seen : List (Entry S)) (e : Entry S) (es : List (Entry S)) → keeps seen e ≡ false
      → fresh S seen (e ∷ es) ≡ fresh S seen es
  unfolding fresh
  dropped seen e es h = rw (h, fresh) refl

  -- who is kept
  pub record Kept (seen cands : List (Entry S)) (e : Entry S) : Type 0 where
    pub candidate : In e cands
    pub is_possible : S.possible e.standing ≡ true
    pub unseen : In e.standing (standings S seen) → ⊥

  pub fresh_in : (seen cands : List (Entry S)) (e : Entry S) → In e (fresh S seen cands) → Kept seen cands e
  unfolding fresh
  fresh_in seen [] e i = elim i [ ]
  fresh_in seen (c ∷ cs) e i = go (keeps seen c) refl (fresh_in (c ∷ seen) cs e) (fresh_in seen cs e)
    where
      wider : {before : List (Entry S)} → Kept before cs e → (In e.standing (standings S seen) → ⊥) → Kept seen (c ∷ cs) e
      wider k u = record { candidate = there k.candidate; is_possible = k.is_possible; unseen = u }

      head : keeps seen c ≡ true → In e (c ∷ fresh S (c ∷ seen) cs)
          → (In e (fresh S (c ∷ seen) cs) → Kept (c ∷ seen) cs e) → Kept seen (c ∷ cs) e
      head h (here q) f =
          record {
            candidate = here q;
            is_possible = subst (λ x. S.possible x.standing ≡ true) (sym q) (keeps_possible seen c h);
            unseen = subst (λ x. In x.standing (standings S seen) → ⊥) (sym q) (keeps_unseen seen c h);
          }
      head h (there j) f = let k = f j in wider k (λ m. k.unseen (there m))

      go : (b : Bool) → keeps seen c ≡ b → (In e (fresh S (c ∷ seen) cs) → Kept (c ∷ seen) cs e)
          → (In e (fresh S seen cs) → Kept seen cs e) → Kept seen (c ∷ cs) e
      go true h f g = head h (subst (In e) (kept seen c cs h) i) f
      go false h f g = let k = g (subst (In e) (dropped seen c cs h) i) in wider k k.unseen

  -- the standing of a candidate was seen, or an entry of the list no later than the candidate has it
  abbrev pub KeptFor : List (Entry S) → List (Entry S) → Entry S → Type 0
  KeptFor seen es e =
      In e.standing (standings S seen)
      ⊎ ((x : Entry S) × In x es × (x.standing ≡ e.standing) × NotLater x.prefix e.prefix)

  -- of a candidate that is kept, and of one that is not
  kept_first : (seen cs : List (Entry S)) (c e : Entry S) → Pairwise (Ahead S) (c ∷ cs) → In e (c ∷ cs)
      → (In e cs → KeptFor (c ∷ seen) (fresh S (c ∷ seen) cs) e) → KeptFor seen (c ∷ fresh S (c ∷ seen) cs) e
  kept_first seen cs c e p (here q) f = inr (c, here refl, ap (λ x. x.standing) (sym q), inl (ap (λ x. x.prefix) (sym q)))
  kept_first seen cs c e p (there i) f = go (f i)
    where
      go : KeptFor (c ∷ seen) (fresh S (c ∷ seen) cs) e → KeptFor seen (c ∷ fresh S (c ∷ seen) cs) e
      go (inl (here q)) = inr (c, here refl, sym q, inr (p.0 e i))
      go (inl (there j)) = inl j
      go (inr (x, j, q, h)) = inr (x, there j, q, h)

  dropped_first : (seen cs : List (Entry S)) (c e : Entry S) → keeps seen c ≡ false → In e (c ∷ cs)
      → S.possible e.standing ≡ true → (In e cs → KeptFor seen (fresh S seen cs) e) → KeptFor seen (fresh S seen cs) e
  dropped_first seen cs c e h (there i) o f = f i
  dropped_first seen cs c e h (here q) o f =
      ⊎_elim (λ k. inl (seen_in_lem seen e.standing k))
      (λ k. absurd (true_not_false (and_both o (false_not_true k)) (ap (keeps seen) q ∙ h)))
      (bool_cases (seen_in S seen e.standing))

  pub in_fresh : (seen cands : List (Entry S)) (e : Entry S) → Pairwise (Ahead S) cands → In e cands → S.possible e.standing ≡ true
      → KeptFor seen (fresh S seen cands) e
  in_fresh seen [] e p i o = elim i [ ]
  in_fresh seen (c ∷ cs) e p i o =
      go (keeps seen c) refl (λ j. in_fresh (c ∷ seen) cs e p.1 j o) (λ j. in_fresh seen cs e p.1 j o)
    where
      go : (b : Bool) → keeps seen c ≡ b → (In e cs → KeptFor (c ∷ seen) (fresh S (c ∷ seen) cs) e)
          → (In e cs → KeptFor seen (fresh S seen cs) e) → KeptFor seen (fresh S seen (c ∷ cs)) e
      go true h f g = subst (λ es. KeptFor seen es e) (sym (kept seen c cs h)) (kept_first seen cs c e p i f)
      go false h f g = subst (λ es. KeptFor seen es e) (sym (dropped seen c cs h)) (dropped_first seen cs c e h i o g)

  -- what is kept stays in order, and has each standing once
  pub fresh_ahead : (seen cands : List (Entry S)) → Pairwise (Ahead S) cands → Pairwise (Ahead S) (fresh S seen cands)
  unfolding fresh
  fresh_ahead seen [] p = tt
  fresh_ahead seen (c ∷ cs) p = go (keeps seen c) refl (fresh_ahead (c ∷ seen) cs p.1) (fresh_ahead seen cs p.1)
    where
      go : (b : Bool) → keeps seen c ≡ b → Pairwise (Ahead S) (fresh S (c ∷ seen) cs) → Pairwise (Ahead S) (fresh S seen cs)
          → Pairwise (Ahead S) (fresh S seen (c ∷ cs))
      go true h f g =
          subst (Pairwise (Ahead S)) (sym (kept seen c cs h)) (λ e i. p.0 e (fresh_in (c ∷ seen) cs e i).candidate, f)
      go false h f g = subst (Pairwise (Ahead S)) (sym (dropped seen c cs h)) g

  pub fresh_distinct : (seen cands : List (Entry S)) → Distinct (standings S (fresh S seen cands))
  unfolding fresh
  fresh_distinct seen [] = tt
  fresh_distinct seen (c ∷ cs) = go (keeps seen c) refl (fresh_distinct (c ∷ seen) cs) (fresh_distinct seen cs)
    where
      apart : In c.standing (standings S (fresh S (c ∷ seen) cs)) → ⊥
      apart i =
          let (e, j, q) = map_in (λ f. f.standing) (fresh S (c ∷ seen) cs) i in
          (fresh_in (c ∷ seen) cs e j).unseen (here (sym q))

      go : (b : Bool) → keeps seen c ≡ b → Distinct (standings S (fresh S (c ∷ seen) cs)) → Distinct (standings S (fresh S seen cs))
          → Distinct (standings S (fresh S seen (c ∷ cs)))
      go true h f g = subst (λ es. Distinct (standings S es)) (sym (kept seen c cs h)) (apart, f)
      go false h f g = subst (λ es. Distinct (standings S es)) (sym (dropped seen c cs h)) g
