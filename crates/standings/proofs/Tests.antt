-- What the code's tests say of the definitions' tests, which stand in the same order: the first that fails decides.
-- Assumes nothing.
use Prim.Native.Nat.{ℕ}
use mathlib.Core.Path.{◌≡◌, refl, sym, ◌∙◌, ap, ap₂}
use mathlib.Core.Bool.{Bool, true, false, not, ◌&&◌, beq}
use mathlib.Core.List.{List}
use lib.Dec.{eqb}
use Rattle.kat.proofs.Bools.{not_true_false}
use Rattle.standings.specs.Steps.{enders, null_at}
use Rattle.standings.specs.Alike.{ends_alike}

pub not_false_true : (b : Bool) → not b ≡ false → b ≡ true
not_false_true true e = refl
not_false_true false e = sym e

-- three tests, one after the other
module _ (X Y Z : Bool) where
  pub first_fails : (x : Bool) → x ≡ X → not x ≡ true → false ≡ (X && Y && Z)
  first_fails x e h = sym (ap (λ c. c && Y && Z) (sym e ∙ not_true_false x h))

  pub second_fails : (x y : Bool) → x ≡ X → not x ≡ false → y ≡ Y → not y ≡ true → false ≡ (X && Y && Z)
  second_fails x y e h f k =
      sym (ap₂ (λ c d. c && d && Z) (sym e ∙ not_false_true x h) (sym f ∙ not_true_false y k))

  pub third_decides : (x y z : Bool) → x ≡ X → not x ≡ false → y ≡ Y → not y ≡ false → z ≡ Z → z ≡ (X && Y && Z)
  third_decides x y z e h f k g =
      g ∙ sym (ap₂ (λ c d. c && d && Z) (sym e ∙ not_false_true x h) (sym f ∙ not_false_true y k))

module _ (t : List ℕ) (a b : ℕ) (x y : Bool) (p : x ≡ null_at t a) (q : y ≡ null_at t b) where
  -- one of the single atoms is a word, and the other is none
  pub nulls_differ : not (beq x y) ≡ true → false ≡ ends_alike t a b
  unfolding ends_alike
  nulls_differ h =
      sym (ap (λ c. c && eqb (enders t a) (enders t b)) (ap₂ beq (sym p) (sym q) ∙ not_true_false (beq x y) h))

  -- both are words or neither is
  pub nulls_agree : not (beq x y) ≡ false → (u v : ℕ) → u ≡ enders t a → v ≡ enders t b → eqb u v ≡ ends_alike t a b
  unfolding ends_alike
  nulls_agree h u v e f =
      ap₂ eqb e f
      ∙ sym (ap (λ c. c && eqb (enders t a) (enders t b)) (ap₂ beq (sym p) (sym q) ∙ not_false_true (beq x y) h))
