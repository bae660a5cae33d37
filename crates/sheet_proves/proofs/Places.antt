-- Where standing i of a part lies, and that the cells of a standing that is read have four bytes.
-- Assumes nothing.
use Prim.Native.Nat.{ℕ, zero, suc, ◌+◌, ◌*◌, ◌^◌, ◌≤◌, ◌<◌}
use native.Mathlib.Omega.{arith}
use mathlib.Core.Path.{◌≡◌, sym, ap, subst}
use mathlib.Core.Bool.{Bool, true, false}
use mathlib.Core.List.{List, ◌∷◌, []}
use lib.ListN.{get_or, take, replicate}
use Rattle.kat.specs.Lists.{here, there}
use Rattle.claims.specs.SheetWriting.{AllBytes}
use Rattle.fields.proofs.Cells.{cells_small}
use Rattle.sheet_standings.specs.Layout.{cell_count, cell_start, field_length, standing_cells}
use Rattle.sheet_listed.specs.Listed.{Small}

module _ (ring : Bool) (base i : ℕ) where
  pub ring_place : ring ≡ true → base + field_length ring * i ≡ base + 269 * i
  unfolding field_length
  ring_place e = ap (λ b. base + field_length b * i) e

  pub path_place : ring ≡ false → base + field_length ring * i ≡ base + 19 * i
  unfolding field_length
  path_place e = ap (λ b. base + field_length b * i) e

-- a standing before the end of the part
pub place_before : (ring : Bool) (base i n size : ℕ) → i < n → base + field_length ring * n ≤ size → base + field_length ring * i ≤ size
unfolding field_length
place_before true base i n size h e = omega arith
place_before false base i n size h e = omega arith

-- every element of a list of bytes is a byte
all_bytes : (bs : List ℕ) → ((i : ℕ) → get_or bs i 0 < 256) → AllBytes bs
all_bytes (x ∷ xs) h b (here e) = omega (arith, h 0)
all_bytes (x ∷ xs) h b (there i) = all_bytes xs (λ j. h (suc j)) b i
all_bytes [] h b x'' = elim x'' [ ]

-- cells that were read from a sheet
pub read_small : (ring : Bool) (bs : List ℕ) (at : ℕ) (s : List ℕ) → ((i : ℕ) → get_or bs i 0 < 256) → s ≡ standing_cells ring bs at → Small s
unfolding standing_cells
read_small ring bs at s h e i =
    subst (λ t. get_or t i 0 < 2 ^ 32) (sym e) (cells_small bs (all_bytes bs h) (at + cell_start ring) (cell_count ring) i)

-- a standing of zeros
pub zeros_small : (k m : ℕ) → Small (take k (replicate m 0))
zeros_small zero m i = omega arith
zeros_small (suc k) zero i = omega arith
zeros_small (suc k) (suc m) zero = omega arith
zeros_small (suc k) (suc m) (suc i) = zeros_small k m i
