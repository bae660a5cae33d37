-- The completed standing says whether the ring is covered: the closure of M over the pairs of N, the flag Z and the first atom say
-- exactly that some rotation of the ring word, repeated some number of times, is a right word, for every number of repetitions.
-- Assumes nothing.
use Prim.Native.Nat.{ℕ, suc, ◌≤◌}
use native.Mathlib.Omega.{arith}
use mathlib.Core.Path.{◌≡◌, sym, subst}
use mathlib.Core.Logic.{⊎_elim, ◌↔◌}
use mathlib.Core.Logic.◌⊎◌.{inl, inr}
use mathlib.Core.Bool.{Bool, true, ◌&&◌, ◌||◌}
use lib.Dec.{eqb}
use borrow.Author.Tests.{eqb-true, eq-eqb}
use Rattle.kat.specs.Lists.{In, some, member}
use Rattle.kat.specs.Graph.{Plus, once, more}
use Rattle.kat.specs.Closure.{Table, entry, closure}
use Rattle.kat.specs.Ring.{Prefix, Covered}
use Rattle.kat.specs.Tables.{occurrences, stop}
use Rattle.kat.proofs.Bools.{or_cases, or_left, or_right, and_left, and_right, and_both}
use Rattle.kat.proofs.Sets.{some_in, in_some, in_upto, upto_in, member_in, in_member}
use Rattle.kat.proofs.Closure.{Below, closure_is_plus}
use Rattle.kat.proofs.Runs.{way_range}
use Rattle.kat.proofs.Turns.{covered_by_turns}
use Rattle.kat.specs.Turns.{Turn, Round, Pair, FromStart, FromInside}
use Rattle.notation.specs.Sides.{Decision}
use Rattle.verdicts.specs.Standings.{Ring, row, states, covered}
use Rattle.verdicts.specs.JustRead.{RingReads}

module _ (D : Decision) (l : Prefix) (s : Ring) (k : RingReads D l s) where
  -- one turn as the table M has it
  abbrev turning : ℕ → ℕ → Bool
  turning p q = member q (row s.M p)

  turn_below : (p q : ℕ) → p ≤ occurrences D.right → Turn D.right l p q → Below (suc (occurrences D.right)) turning p q
  turn_below p q h t =
      let (lo, b) = way_range D.right p l q k.longer t in
      (omega arith, omega arith, in_member q ((k.table_m p q h).1 t))

  below_turn : (p q : ℕ) → Below (suc (occurrences D.right)) turning p q → Turn D.right l p q
  below_turn p q (h, j, e) = (k.table_m p q (omega arith)).0 (member_in q (row s.M p) e)

  turns_below : {p q : ℕ} → p ≤ occurrences D.right → Plus (Turn D.right l) p q → Plus (Below (suc (occurrences D.right)) turning) p q
  turns_below h (once {x = p} {y = q} t) = once (turn_below p q h t)
  turns_below h (more {x = p} {y = o} t u) = more (turn_below p o h t) (turns_below (way_range D.right p l o k.longer t).1 u)

  below_turns : {p q : ℕ} → Plus (Below (suc (occurrences D.right)) turning) p q → Plus (Turn D.right l) p q
  below_turns (once {x = p} {y = q} t) = once (below_turn p q t)
  below_turns (more {x = p} {y = o} t u) = more (below_turn p o t) (below_turns u)

  turns_range : {p q : ℕ} → Plus (Turn D.right l) p q → q ≤ occurrences D.right
  turns_range (once {x = p} {y = q} t) = (way_range D.right p l q k.longer t).1
  turns_range (more t u) = turns_range u

  abbrev turns : Table
  turns = closure (suc (occurrences D.right)) turning

  entry_is_turns : (p q : ℕ) → p ≤ occurrences D.right → (entry turns p q ≡ true) ↔ Plus (Turn D.right l) p q
  entry_is_turns p q h = (
    (λ e. below_turns ((closure_is_plus (suc (occurrences D.right)) turning p q).0 e)),
    (λ t. (closure_is_plus (suc (occurrences D.right)) turning p q).1 (turns_below h t)),
  )

  in_states : (q : ℕ) → q ≤ occurrences D.right → In q (states D)
  unfolding states
  in_states q h = in_upto q 0 (suc (occurrences D.right)) (omega arith) (omega arith)

  states_in : (q : ℕ) → In q (states D) → q ≤ occurrences D.right
  unfolding states
  states_in q i = let (a, b) = upto_in q 0 (suc (occurrences D.right)) i in omega arith

  -- from the first atom
  from_start : (some (λ q. entry turns 0 q && stop D.right q s.first) (states D) ≡ true) ↔ FromStart D.right 0 l
  from_start = (
    (λ e.
        let (q, i, h) = some_in (λ q. entry turns 0 q && stop D.right q s.first) (states D) e in (
          q,
          (entry_is_turns 0 q (omega arith)).0 (and_left (entry turns 0 q) (stop D.right q s.first) h),
          subst (λ a. stop D.right q a ≡ true) k.first_atom (and_right (entry turns 0 q) (stop D.right q s.first) h),
        )),
    (λ (q, t, h).
        in_some (λ q. entry turns 0 q && stop D.right q s.first) (in_states q (turns_range t))
        (and_both ((entry_is_turns 0 q (omega arith)).1 t) (subst (λ a. stop D.right q a ≡ true) (sym k.first_atom) h))),
  )

  pair_range : (q p : ℕ) → Pair D.right 0 l q p → q ≤ occurrences D.right
  pair_range q p (u, v, e, i, j, x, y) = (way_range D.right 0 v q j x).1

  -- none or more turns from q to p
  abbrev around : ℕ → ℕ → Bool
  around q p = eqb q p || entry turns q p

  around_is_round : (q p : ℕ) → q ≤ occurrences D.right → (around q p ≡ true) ↔ Round D.right l q p
  around_is_round q p h = (
    (λ e. ⊎_elim (λ x. inl (eqb-true q p x)) (λ x. inr ((entry_is_turns q p h).0 x)) (or_cases (eqb q p) (entry turns q p) e)),
    (λ t. ⊎_elim (λ x. or_left (entry turns q p) (eq-eqb q p x)) (λ x. or_right (eqb q p) ((entry_is_turns q p h).1 x)) t),
  )

  round_range : (q p : ℕ) → q ≤ occurrences D.right → Round D.right l q p → p ≤ occurrences D.right
  round_range q p h (inl e) = subst (λ x. x ≤ occurrences D.right) e h
  round_range q p h (inr t) = turns_range t

  -- from inside
  from_inside : (some (λ q. some (around q) (row s.N q)) (states D) ≡ true) ↔ FromInside D.right 0 l
  from_inside = (
    (λ e.
        let (q, i, h) = some_in (λ q. some (around q) (row s.N q)) (states D) e in
        let (p, j, t) = some_in (around q) (row s.N q) h in
        let b : q ≤ occurrences D.right = states_in q i in
        let r : Round D.right l q p = (around_is_round q p b).0 t in
        (q, p, (k.table_n q p (round_range q p b r)).0 j, r)),
    (λ (q, p, g, r).
        let b : q ≤ occurrences D.right = pair_range q p g in
        in_some (λ q. some (around q) (row s.N q)) (in_states q b)
        (in_some (around q) ((k.table_n q p (round_range q p b r)).1 g) ((around_is_round q p b).1 r))),
  )

  -- the standing's own test is the covering of its ring
  pub covered_is_said : (covered D s ≡ true) ↔ Covered D.right 0 l
  unfolding covered
  covered_is_said =
      let A : Bool = some (λ q. entry turns 0 q && stop D.right q s.first) (states D) in
      let B : Bool = some (λ q. some (around q) (row s.N q)) (states D) in (
        (λ e.
            (covered_by_turns D.right 0 l k.longer).1
            (⊎_elim
            (λ x. ⊎_elim (λ z. inl (k.zero_flag.0 z)) (λ y. inr (inl (from_start.0 y))) (or_cases s.Z A x))
            (λ x. inr (inr (from_inside.0 x)))
            (or_cases (s.Z || A) B e))),
        (λ c.
            ⊎_elim
            (λ z. or_left B (or_left A (k.zero_flag.1 z)))
            (λ g. ⊎_elim (λ y. or_left B (or_right s.Z (from_start.1 y))) (λ y. or_right (s.Z || A) (from_inside.1 y)) g)
            ((covered_by_turns D.right 0 l k.longer).0 c)),
      )
