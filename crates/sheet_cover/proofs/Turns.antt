-- The closed rows of M are the turns, so that what the cover test seeks in them is what the definition seeks.
-- Assumes nothing.
use Prim.Native.Nat.{ℕ, suc, ◌+◌, ◌-◌, ◌%◌, ◌≤◌, ◌<◌, min}
use native.Mathlib.Numerals.{add-one}
use native.Mathlib.Omega.{arith}
use mathlib.Core.Path.{◌≡◌, sym, ◌∙◌, ap, ap₂}
use mathlib.Core.Bool.{Bool, true, not, ◌&&◌, ◌||◌}
use mathlib.Core.List.{List, ◌++◌}
use lib.Dec.{eqb}
use lib.ListN.{length, get_or, take, drop, length-append, length-take, length-drop}
use lib.Seq.{take_at, drop_at, get_or-take, get_or-drop}
use borrow.Author.Tests.{eq-eqb, ne_eqb}
use Rattle.kat.specs.Lists.{upto, some}
use Rattle.kat.specs.Closure.{Table, entry, closure}
use Rattle.kat.proofs.Sets.{upto_in, some_same}
use Rattle.claims.specs.Query.{bit}
use Rattle.standings.specs.Steps.{enders}
use Rattle.sheet_standings.specs.RingCells.{first_in, flag_in, row_m, row_n, in_m, turn_ends, pair_turns, ring_covered}
use Rattle.sheet_cover.specs.inner.Rounds.{rounds, ends_by, pairs_of, pairs_by}
use Rattle.sheet_cover.proofs.Rounds.{rounds_length, rounds_closure}

module _ (right s : List ℕ) (full : length s ≡ 67) where
  pub covered_z : (n : ℕ) → (get_or s 0 0 % 256 ≡ 0 → ⊥) → true ≡ ring_covered right n s
  unfolding ring_covered flag_in
  covered_z n h =
      let turns : Table = closure (suc (min n 31)) (in_m s) in
      sym (ap (λ b. not b || turn_ends right (min n 31) s turns || pair_turns (min n 31) s turns) (ne_eqb (get_or s 0 0 % 256) 0 h))

  -- the rows of M
  abbrev rows : List ℕ
  rows = take 32 (drop 3 s)

  rows_length : length rows ≡ 32
  rows_length = length-take 32 (drop 3 s) ∙ omega (arith, length-drop 3 s)

  -- the copy of the standing is as long as before
  pub copy_long : (hi k : ℕ) {t : List ℕ} → t ≡ rounds rows hi k → 35 ≤ length (take 3 s ++ (t ++ drop 32 (drop 3 s)))
  copy_long hi k {t} e =
      let j : length t ≡ 32 = ap length e ∙ rounds_length rows hi k ∙ rows_length in
      omega (
        arith,
        length-append (take 3 s) (t ++ drop 32 (drop 3 s)),
        length-append t (drop 32 (drop 3 s)),
        length-take 3 s,
        length-drop 32 (drop 3 s),
        length-drop 3 s,
      )

  module _ (m : ℕ) (few : m ≤ 31) where
    abbrev closed : List ℕ
    closed = rounds rows (suc m) (suc m)

    abbrev turns : Table
    turns = closure (suc m) (in_m s)

    -- the closed rows as they lie in the copy of the standing
    closed_part : take 32 (drop 3 (take 3 s ++ (closed ++ drop 32 (drop 3 s)))) ≡ closed
    closed_part =
        ap (take 32) (drop_at (take 3 s) (closed ++ drop 32 (drop 3 s)) 3 (length-take 3 s ∙ omega arith))
        ∙ take_at closed (drop 32 (drop 3 s)) 32 (rounds_length rows (suc m) (suc m) ∙ rows_length)

    start_bit : (x y : ℕ) → x < suc m → y < suc m → bit y (get_or rows x 0) ≡ in_m s x y
    unfolding in_m row_m
    start_bit x y a b = ap (bit y) (get_or-take 32 (drop 3 s) x 0 (omega arith) ∙ get_or-drop 3 s x 0)

    turn_bit : (x y : ℕ) → x < suc m → y < suc m → bit y (get_or closed x 0) ≡ entry turns x y
    turn_bit x y a b = rounds_closure rows (suc m) (omega (arith, rows_length)) (in_m s) start_bit x y a b

    ends_same : ends_by (get_or closed 0 0) (enders right (first_in s)) m ≡ turn_ends right m s turns
    unfolding ends_by turn_ends
    ends_same =
        some_same (λ q. bit q (get_or closed 0 0) && bit (q - 1) (enders right (first_in s)))
        (λ q. entry turns 0 q && bit (q - 1) (enders right (first_in s))) (upto 1 (suc m))
        (λ q i. let (a, b) = upto_in q 1 (suc m) i in ap (λ x. x && bit (q - 1) (enders right (first_in s))) (turn_bit 0 q (omega arith) b))

    pairs_same : pairs_by closed s m ≡ pair_turns m s turns
    unfolding pairs_by pairs_of pair_turns
    pairs_same =
        some_same (λ q. some (λ p. bit p (row_n s q) && (eqb q p || bit p (get_or closed q 0))) (upto 0 (suc m)))
        (λ q. some (λ p. bit p (row_n s q) && (eqb q p || entry turns q p)) (upto 0 (suc m))) (upto 1 (suc m))
        (λ q i. let (a, b) = upto_in q 1 (suc m) i in
        some_same (λ p. bit p (row_n s q) && (eqb q p || bit p (get_or closed q 0)))
        (λ p. bit p (row_n s q) && (eqb q p || entry turns q p)) (upto 0 (suc m))
        (λ p j. let (c, d) = upto_in p 0 (suc m) j in ap (λ y. bit p (row_n s q) && (eqb q p || y)) (turn_bit q p b d)))

    pub covered_turns : (n : ℕ) (b : Bool) {t : List ℕ} → m ≡ min n 31 → get_or s 0 0 % 256 ≡ 0 → t ≡ rounds rows (m + 1) (m + 1)
        → b ≡ (ends_by (get_or (take 32 (drop 3 (take 3 s ++ (t ++ drop 32 (drop 3 s))))) 0 0) (enders right (first_in s)) m
        || pairs_by (take 32 (drop 3 (take 3 s ++ (t ++ drop 32 (drop 3 s))))) s m) → b ≡ ring_covered right n s
    unfolding ring_covered flag_in
    covered_turns n b em ez et eb =
        eb
        ∙ ap (λ c. ends_by (get_or c 0 0) (enders right (first_in s)) m || pairs_by c s m)
        (ap (λ u. take 32 (drop 3 (take 3 s ++ (u ++ drop 32 (drop 3 s))))) (et ∙ ap (λ h. rounds rows h h) (add-one m)) ∙ closed_part)
        ∙ ap₂ ◌||◌ ends_same pairs_same
        ∙ sym (ap (λ z. not z || turn_ends right m s turns || pair_turns m s turns) (eq-eqb (get_or s 0 0 % 256) 0 ez))
        ∙ ap (λ k. not (eqb (get_or s 0 0 % 256) 0) || turn_ends right k s (closure (suc k) (in_m s)) || pair_turns k s (closure (suc k) (in_m s))) em
