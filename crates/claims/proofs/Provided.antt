-- A value that was provided.
-- Assumes nothing.
use Prim.Native.Nat.{ℕ}
use native.Mathlib.Omega.{arith}
use mathlib.Core.Path.{◌≡◌, refl}
use mathlib.Core.Bool.{Bool, true, false}
use mathlib.Core.Option.{some}
use Rattle.claims.specs.Fields.{provided}

-- the test passed, and it is the value
pub provided_some : {A : Type 0} (b : Bool) (a c : A) → provided b a ≡ some c → (b ≡ true) × (a ≡ c)
provided_some true a c e = (refl, cc)
provided_some false a c e = let z : ◌≡◌ {A = ℕ} 0 1 = cc in absurd (omega arith)
