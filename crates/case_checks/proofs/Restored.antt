-- Bytes one of which is changed and then put back are those of before.
-- Assumes nothing.
use Prim.Native.Nat.{ℕ, zero, suc}
use mathlib.Core.Path.{◌≡◌, refl, ap}
use mathlib.Core.List.{List, [], ◌∷◌}
use lib.ListN.{get_or, set}

pub put_back : (l : List ℕ) (i b : ℕ) → set (set l i b) i (get_or l i 0) ≡ l
put_back [] i b = refl
put_back (x ∷ xs) zero b = refl
put_back (x ∷ xs) (suc i) b = ap (λ r. x ∷ r) (put_back xs i b)
