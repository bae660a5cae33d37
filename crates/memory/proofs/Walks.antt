-- A loop over a range of numbers that changes the memory for each of them: what is left to do, done on the memory as it is, is all of it done
-- on the memory at the start.
-- Assumes nothing.
use Prim.Native.Nat.{ℕ, suc, ◌+◌, ◌-◌, ◌≤◌, ◌<◌}
use native.Mathlib.Numerals.{add-one}
use native.Mathlib.Omega.{arith}
use mathlib.Core.Path.{◌≡◌, refl, sym, ◌∙◌, ap}
use mathlib.Core.List.{List, [], ◌∷◌}
use lib.ListN.{length}
use Rattle.kat.specs.Lists.{counted, upto}
use Rattle.memory.specs.Memory.{for_each}

-- a range by its lowest number, and one that has ended
pub upto_more : (i e : ℕ) → i < e → upto i e ≡ i ∷ upto (i + 1) e
upto_more i e h =
    let z : e - i ≡ suc (e - (i + 1)) = omega arith in
    ap (counted i) z ∙ ap (λ j. i ∷ counted j (e - (i + 1))) (sym (add-one i))

pub upto_none : (i e : ℕ) → e ≤ i → upto i e ≡ []
upto_none i e h = let z : e - i ≡ 0 = omega arith in ap (counted i) z

module _ (g : ℕ → List ℕ → List ℕ) where
  -- the lowest number's change is done
  pub each_more : (i e : ℕ) (ws : List ℕ) → i < e → for_each g (upto (i + 1) e) (g i ws) ≡ for_each g (upto i e) ws
  unfolding for_each
  each_more i e ws h = sym (ap (λ ns. for_each g ns ws) (upto_more i e h))

  -- nothing is left
  pub each_end : (i e : ℕ) (ws : List ℕ) → e ≤ i → for_each g (upto i e) ws ≡ ws
  unfolding for_each
  each_end i e ws h = ap (λ ns. for_each g ns ws) (upto_none i e h)

  -- where no change makes the memory longer or shorter
  pub each_length : ((n : ℕ) (ws : List ℕ) → length (g n ws) ≡ length ws) → (ns ws : List ℕ) → length (for_each g ns ws) ≡ length ws
  unfolding for_each
  each_length h [] ws = refl
  each_length h (n ∷ ns) ws = each_length h ns (g n ws) ∙ h n ws
