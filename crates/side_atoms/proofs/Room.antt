-- A stack with room for all codes of a test: how much room there is besides does not matter.
-- Assumes nothing.
use Prim.Native.Nat.{ℕ, ◌+◌, ◌-◌, ◌≤◌, ◌<◌}
use native.Mathlib.Omega.{arith}
use mathlib.Core.Path.{◌≡◌, refl, sym, ◌∙◌, ap}
use mathlib.Core.Bool.{Bool, true, false, cond}
use mathlib.Core.List.{List, [], ◌∷◌}
use lib.Bits.{bit_and, bit_or}
use lib.Dec.{eqb, leb}
use lib.ListN.{length}
use borrow.Author.Tests.{lt-ltb}
use Rattle.side_atoms.specs.Atoms.{all_atoms}
use Rattle.side_atoms.specs.Tests.{top, under, push, holding, test_step, run_test}

under_short : (st : List ℕ) → length (under st) ≤ length st
unfolding under
under_short [] = omega arith
under_short (x ∷ st) = omega arith

-- a set put on a stack with room
push_in : (n v : ℕ) (st : List ℕ) → length st < n → push n v st ≡ v ∷ st
unfolding push
push_in n v st h = ap (λ b. cond b (v ∷ st) st) (lt-ltb (length st) n h)

either : (b : Bool) (x y z w : List ℕ) → x ≡ z → y ≡ w → cond b x y ≡ cond b z w
either true x y z w e f = e
either false x y z w e f = f

either_short : (b : Bool) (x y : List ℕ) (n : ℕ) → length x ≤ n → length y ≤ n → length (cond b x y) ≤ n
either_short true x y n h i = h
either_short false x y n h i = i

module _ (n c : ℕ) (st : List ℕ) (h : length st < n) where
  push_short : (v : ℕ) (s : List ℕ) → length s ≤ length st → length (push n v s) ≤ length st + 1
  push_short v s i = omega (arith, ap length (push_in n v s (omega arith)))

  step_short : length (test_step n c st) ≤ length st + 1
  unfolding test_step
  step_short =
      let u = under_short st in
      let w = under_short (under st) in
      either_short (eqb c 1) _ _ _ (push_short all_atoms st (omega arith))
      (either_short (eqb c 2) _ _ _ (push_short 0 st (omega arith))
      (either_short (eqb c 3) _ _ _ (push_short _ (under (under st)) (omega arith))
      (either_short (eqb c 4) _ _ _ (push_short _ (under (under st)) (omega arith))
      (either_short (eqb c 5) _ _ _ (push_short _ (under st) (omega arith))
      (either_short (leb 16 c) _ _ _ (either_short (leb c 21) _ _ _ (push_short (holding (c - 16)) st (omega arith)) (omega arith)) (omega arith))))))

module _ (n m : ℕ) where
  push_alike : (v : ℕ) (st : List ℕ) → length st < n → length st < m → push n v st ≡ push m v st
  push_alike v st h i = push_in n v st h ∙ sym (push_in m v st i)

  step_alike : (c : ℕ) (st : List ℕ) → length st < n → length st < m → test_step n c st ≡ test_step m c st
  unfolding test_step
  step_alike c st h i =
      let u = under_short st in
      let w = under_short (under st) in
      either (eqb c 1) _ _ _ _ (push_alike all_atoms st h i)
      (either (eqb c 2) _ _ _ _ (push_alike 0 st h i)
      (either (eqb c 3) _ _ _ _ (push_alike (bit_or (top (under st)) (top st)) (under (under st)) (omega arith) (omega arith))
      (either (eqb c 4) _ _ _ _ (push_alike (bit_and (top (under st)) (top st)) (under (under st)) (omega arith) (omega arith))
      (either (eqb c 5) _ _ _ _ (push_alike (all_atoms - top st) (under st) (omega arith) (omega arith))
      (either (leb 16 c) _ _ _ _ (either (leb c 21) _ _ _ _ (push_alike (holding (c - 16)) st h i) refl) refl)))))

  pub run_alike : (cs st : List ℕ) → length st + length cs ≤ n → length st + length cs ≤ m → run_test n cs st ≡ run_test m cs st
  unfolding run_test
  run_alike [] st h i = refl
  run_alike (c ∷ cs) st h i =
      ap (run_test n cs) (step_alike c st (omega arith) (omega arith))
      ∙ run_alike cs (test_step m c st) (omega (arith, step_short m c st (omega arith))) (omega (arith, step_short m c st (omega arith)))
