-- The memory of the claim's kind zero, that of the other kind as before.
-- Assumes nothing.
use Prim.Native.Nat.{ℕ, ◌*◌}
use mathlib.Core.Path.{◌≡◌}
use mathlib.Core.Bool.{Bool, cond}
use mathlib.Core.List.{List, [], ◌∷◌}
use Rattle.claims.specs.Calls.{cleared}

abbrev pub ClearedBy : Bool → ℕ → List (List ℕ) → List (List ℕ) → List ℕ → List ℕ → Type 0
ClearedBy ring n r r' w w' = (r' ≡ cleared (0 ∷ 0 ∷ 0 ∷ 0 ∷ []) (cond ring 0 n) r) × (w' ≡ cleared 0 (cond ring (40 * n) 0) w)
