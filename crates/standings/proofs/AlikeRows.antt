-- The tests of alike atoms on words are those of `claims` on expressions: a row of the table is the set of occurrences one letter on, so two rows
-- are equal where the two sets are; and so for the words that end. (Document 01, "Standings".)
-- Assumes nothing.
use Prim.Native.Nat.{ℕ, suc, ◌-◌, ◌^◌, ◌≤◌, ◌<◌, min}
use native.Mathlib.Omega.{arith}
use mathlib.Core.Path.{◌≡◌, refl, ◌∙◌, ap, ap₂, subst}
use mathlib.Core.Bool.{Bool, true, false, ◌&&◌, beq}
use mathlib.Core.List.{List, [], ◌∷◌}
use lib.Dec.{eqb}
use borrow.Author.Tests.{eqb-true, eq-eqb}
use Rattle.kat.specs.Expr.{Expr}
use Rattle.kat.specs.Lists.{In, here, there, upto, every}
use Rattle.kat.specs.Tables.{occurrences, null, stop, after}
use Rattle.kat.proofs.Bools.{bool_ext}
use Rattle.kat.proofs.Sets.{upto_in}
use Rattle.claims.specs.Bytes.{same}
use Rattle.claims.specs.Fields.{number_set}
use Rattle.claims.specs.Sides.{Decision}
use Rattle.claims.specs.Alike.{occurrences_of, states_of, same_next, same_last, alike_path, alike_ring}
use Rattle.claims.proofs.Results.{same_is_equal, same_self}
use Rattle.bits.proofs.Members.{numbers_equal, number_filter}
use Rattle.side_tables.specs.SideTable.{side_table}
use Rattle.standings.specs.Steps.{step_from, enders}
use Rattle.standings.specs.Alike.{row_alike, rows_alike, ends_alike, alike_at}
use Rattle.side_tables.specs.Layout.{ROW}
use Rattle.standings.proofs.Tables.{null_shown, ends_bit, enders_small, from_small, from_shown}

-- tests that agree on the list
every_same : {A : Type 0} (p q : A → Bool) (l : List A) → ((x : A) → In x l → p x ≡ q x) → every p l ≡ every q l
every_same p q [] h = refl
every_same p q (x ∷ xs) h = ap₂ ◌&&◌ (h x (here refl)) (every_same p q xs (λ y i. h y (there i)))

-- words are equal where the sets of occurrences are
set_test : (n x y : ℕ) → x < 2 ^ n → y < 2 ^ n → eqb x y ≡ same (number_set 1 (suc n) x) (number_set 1 (suc n) y)
set_test n x y h k =
    let z : n ≡ suc n - 1 = omega arith in
    bool_ext (eqb x y) (same (number_set 1 (suc n) x) (number_set 1 (suc n) y))
    (λ e. subst (λ w. same (number_set 1 (suc n) x) (number_set 1 (suc n) w) ≡ true) (eqb-true x y e) (same_self (number_set 1 (suc n) x)))
    (λ e. eq-eqb x y
    (numbers_equal 1 (suc n) x y (subst (λ w. x < 2 ^ w) z h) (subst (λ w. y < 2 ^ w) z k)
    (same_is_equal (number_set 1 (suc n) x) (number_set 1 (suc n) y) e)))

module _ (E : Expr) (few : occurrences E ≤ 64) (a b : ℕ) (low : a < 64) (other : b < 64) where
  -- one row
  row_shown : (r p : ℕ) → r < 16 → p < ROW → row_alike (side_table E) r a b p ≡ same (after E (p ∷ []) a r) (after E (p ∷ []) b r)
  unfolding row_alike
  row_shown r p letter h =
      set_test (occurrences E) (step_from (side_table E) p a r) (step_from (side_table E) p b r) (from_small E a r low letter p)
      (from_small E b r other letter p)
      ∙ ap₂ same (from_shown E a r low letter p h) (from_shown E b r other letter p h)

  -- all rows
  pub rows_shown : (r : ℕ) → r < 16 → rows_alike (side_table E) (occurrences E) r a b ≡ same_next E (states_of E) r a b
  unfolding rows_alike same_next states_of
  rows_shown r letter =
      let z : min (occurrences E) 64 ≡ occurrences E = omega arith in
      ap (λ m. every (row_alike (side_table E) r a b) (upto 0 (suc m))) z
      ∙ every_same (row_alike (side_table E) r a b) (λ p. same (after E (p ∷ []) a r) (after E (p ∷ []) b r)) (upto 0 (suc (occurrences E)))
      (λ p i. let (u, v) = upto_in p 0 (suc (occurrences E)) i in row_shown r p letter (omega arith))

  -- the words that end
  last_shown : eqb (enders (side_table E) a) (enders (side_table E) b) ≡ same_last E (occurrences_of E) a b
  unfolding same_last occurrences_of
  last_shown =
      set_test (occurrences E) (enders (side_table E) a) (enders (side_table E) b) (enders_small E a low) (enders_small E b other)
      ∙ ap₂ same
      (number_filter 1 (suc (occurrences E)) (enders (side_table E) a) (λ p. stop E p a) (λ p i l. ends_bit E a p low i l))
      (number_filter 1 (suc (occurrences E)) (enders (side_table E) b) (λ p. stop E p b) (λ p i l. ends_bit E b p other i l))

  pub ends_alike_shown : ends_alike (side_table E) a b ≡ (beq (null E a) (null E b) && same_last E (occurrences_of E) a b)
  unfolding ends_alike
  ends_alike_shown = ap₂ ◌&&◌ (ap₂ beq (null_shown E a low) (null_shown E b other)) last_shown

module _ (D : Decision) (few_left : occurrences D.left ≤ 64) (few_right : occurrences D.right ≤ 64)
    (r a b : ℕ) (letter : r < 16) (low : a < 64) (other : b < 64) where
  -- what both kinds of claim ask of the two sides
  sides : (c : Bool)
      → (c && rows_alike (side_table D.left) (occurrences D.left) r a b && rows_alike (side_table D.right) (occurrences D.right) r a b)
      ≡ (c && same_next D.left (states_of D.left) r a b && same_next D.right (states_of D.right) r a b)
  sides c =
      ap₂ (λ x y. c && x && y) (rows_shown D.left few_left a b low other r letter) (rows_shown D.right few_right a b low other r letter)

  abbrev at : Bool → Bool
  at ring = alike_at ring (occurrences D.left) (occurrences D.right) (side_table D.left) (side_table D.right) r a b

  -- alike in a path claim
  pub alike_path_lem : at false ≡ alike_path D r a b
  unfolding alike_path
  alike_path_lem = sides true

  -- alike in a ring claim
  pub alike_ring_lem : at true ≡ alike_ring D r a b
  unfolding alike_ring
  alike_ring_lem =
      sides (ends_alike (side_table D.right) a b)
      ∙ ap (λ c. c && same_next D.left (states_of D.left) r a b && same_next D.right (states_of D.right) r a b)
      (ends_alike_shown D.right few_right a b low other)
