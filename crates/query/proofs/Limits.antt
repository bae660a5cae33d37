-- The limits, as they are told from what was counted.
-- Assumes nothing.
use Prim.Native.Nat.{ℕ, min}
use mathlib.Core.Path.{◌≡◌, refl, sym, ◌∙◌, ap}
use mathlib.Core.Bool.{Bool, true, false, not}
use mathlib.Core.List.{List, []}
use lib.ListN.{length, take}
use Rattle.side_limits.specs.declared.Sizes.{Sizes}
use Rattle.side_limits.specs.Sizes.{sizes_of}
use Rattle.side_claim.specs.Sides.{claimed}
use Rattle.side_claim.specs.declared.Decision.{Decision}
use Rattle.side_build.proofs.Assembled.{first_codes}
use Rattle.query.specs.inner.Counted.{claim_sizes}

-- a test negated
pub is_false : (b : Bool) → not b ≡ true → b ≡ false
is_false true e = sym e
is_false false e = refl

pub is_true : (b : Bool) → not b ≡ false → b ≡ true
is_true true e = refl
is_true false e = sym e

-- the sizes of the claim of so many codes as there are
pub sizes_told : (n m : ℕ) (ks : List ℕ) (d : Decision) (s : Sizes) → m ≡ min n (length ks) → d ≡ claimed (take m ks) → s ≡ sizes_of [] d (take m ks)
    → s ≡ claim_sizes (take n ks)
sizes_told n m ks d s e f g = g ∙ ap (λ x. sizes_of [] x (take m ks)) f ∙ ap claim_sizes (first_codes n m ks e)
