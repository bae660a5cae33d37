-- The first of a memory zero: none, one more, whatever stood there before, and through a function.
-- Assumes nothing.
use Prim.Native.Nat.{ℕ, zero, suc, ◌+◌, ◌≤◌, ◌<◌}
use native.Mathlib.Omega.{arith}
use native.Mathlib.Numerals.{add-one}
use mathlib.Core.Path.{◌≡◌, refl, sym, ◌∙◌, ap}
use mathlib.Core.List.{List, [], ◌∷◌, ◌++◌, map}
use lib.ListN.{length, drop, set, replicate}
use Rattle.claims.specs.Calls.{cleared}

module _ {A : Type 0} (z : A) where
  pub cleared_none : (d : List A) → d ≡ cleared z 0 d
  unfolding cleared
  cleared_none d = refl

  cleared_set : (i : ℕ) (d : List A) → i < length d → set (cleared z i d) i z ≡ cleared z (suc i) d
  unfolding cleared
  cleared_set i [] h = absurd (omega arith)
  cleared_set zero (x ∷ d) h = refl
  cleared_set (suc i) (x ∷ d) h = ap (λ t. z ∷ t) (cleared_set i d (omega arith))

  -- one more
  pub cleared_more : (i : ℕ) (d e : List A) → e ≡ cleared z i d → i < length d → set e i z ≡ cleared z (i + 1) d
  cleared_more i d e f h = ap (λ t. set t i z) f ∙ cleared_set i d h ∙ ap (λ n. cleared z n d) (sym (add-one i))

  pub cleared_length : (i : ℕ) (d : List A) → i ≤ length d → length (cleared z i d) ≡ length d
  unfolding cleared
  cleared_length zero d h = refl
  cleared_length (suc i) [] h = absurd (omega arith)
  cleared_length (suc i) (x ∷ d) h = ap suc (cleared_length i d (omega arith))

  -- what stood there before does not matter
  pub cleared_same : (n : ℕ) (d e : List A) → drop n d ≡ drop n e → cleared z n d ≡ cleared z n e
  unfolding cleared
  cleared_same n d e h = ap (λ t. replicate n z ++ t) h

-- through a function
pub map_cleared : {A B : Type 0} (f : A → B) (z : A) (n : ℕ) (d : List A) → n ≤ length d → map f (cleared z n d) ≡ cleared (f z) n (map f d)
unfolding cleared
map_cleared f z zero d h = refl
map_cleared f z (suc n) [] h = absurd (omega arith)
map_cleared f z (suc n) (x ∷ d) h = ap (λ t. f z ∷ t) (map_cleared f z n d (omega arith))
