-- `fence::sheets::with_sheet` is safe and ends: each array that it lends has the length that its type says.
-- Assumes nothing.
use mathlib.Core.Path.{sym}
use Prim.Native.Nat.{ℕ}
use lib.ListN.{length-replicate}
use borrow.Author.Rules.{rules}
use Rattle.fence.proofs.sheets.with_sheet.Goals as goal

pub slice_bounds-sheet_into-end : goal.slice_bounds-sheet_into-end
slice_bounds-sheet_into-end c = sym (length-replicate {A = ℕ} 4097 0)

pub slice_bounds-sheet_into-end-2 : goal.slice_bounds-sheet_into-end-2
slice_bounds-sheet_into-end-2 c = sym (length-replicate {A = ℕ} 1102097 0)

pub slice_bounds-sheet_into-end-3 : goal.slice_bounds-sheet_into-end-3
slice_bounds-sheet_into-end-3 c = sym (length-replicate {A = ℕ} 24832 0)

pub slice_bounds-sheet_into-end-4 : goal.slice_bounds-sheet_into-end-4
slice_bounds-sheet_into-end-4 c = sym (length-replicate {A = ℕ} 262144 0)
