-- Whether a standing may be listed next, test by test; and cells read from a sheet are small.
-- Assumes nothing.
use Prim.Native.Nat.{ℕ, suc, ◌+◌, ◌*◌, ◌^◌, ◌≤◌, ◌<◌}
use native.Mathlib.Nat.{mul-suc}
use native.Mathlib.Omega.{arith}
use mathlib.Core.Path.{◌≡◌, sym, ◌∙◌, ap, subst}
use mathlib.Core.Bool.{Bool, true, false, ◌&&◌}
use mathlib.Core.List.{List}
use lib.Dec.{eqb}
use lib.ListN.{length, get_or, take, drop}
use Rattle.claims.specs.Bytes.{same}
use Rattle.claims.specs.Fields.{next_field}
use Rattle.claims.specs.SheetWriting.{AllBytes}
use Rattle.fields.proofs.Cells.{cells_length, cells_small}
use Rattle.sheet_standings.specs.Layout.{cell_count, standing_cells, listed_cells}
use Rattle.sheet_standings.specs.CellSystem.{cells_fit}
use Rattle.sheet_index.specs.Index.{last_where}
use Rattle.sheet_fits.specs.Small.{SmallCells}
use Rattle.sheet_fits.specs.inner.Steps.{sized, may_list}

-- cells that were read are cells of four bytes
pub loaded_small : (ring : Bool) (bs : List ℕ) (at : ℕ) (s : List ℕ) → AllBytes bs → take (cell_count ring) s ≡ standing_cells ring bs at
    → SmallCells (cell_count ring) s
unfolding standing_cells
loaded_small ring bs at s all e =
    record {
      size = ap length e ∙ cells_length bs _ (cell_count ring);
      small = λ i. subst (λ c. get_or c i 0 < 2 ^ 32) (sym e) (cells_small bs all _ (cell_count ring) i);
    }

module _ (ring : Bool) (atoms l r : ℕ) (bs : List ℕ) (base n at : ℕ) where
  abbrev long : Bool
  long = sized ring (next_field (drop at bs))

  abbrev fitting : Bool
  fitting = cells_fit ring atoms l r (standing_cells ring bs at)

  abbrev found : ℕ
  found = last_where (λ i. same (listed_cells ring bs base i) (standing_cells ring bs at)) n

  pub not_fitting : long ≡ true → fitting ≡ false → may_list ring atoms l r bs base n at ≡ false
  unfolding may_list
  not_fitting e f = ap (λ b. b && fitting && eqb found 0) e ∙ ap (λ b. b && eqb found 0) f

  pub found_decides : long ≡ true → fitting ≡ true → may_list ring atoms l r bs base n at ≡ eqb found 0
  unfolding may_list
  found_decides e f = ap (λ b. b && fitting && eqb found 0) e ∙ ap (λ b. b && eqb found 0) f

-- one field on
pub next_place : (size base n at : ℕ) → at ≡ base + size * n → at + size ≡ base + size * suc n
next_place size base n at e = omega (arith, mul-suc size n)

pub next_inside : (size base n at end : ℕ) → at ≡ base + size * n → at + size ≤ end → base + size * suc n ≤ end
next_inside size base n at end e h = omega (arith, mul-suc size n)
