-- `circle_cases::main` is safe and ends: each array that it lends has the length that its type says.
-- Assumes nothing.
use mathlib.Core.Path.{sym}
use Prim.Native.Nat.{ℕ}
use lib.ListN.{length-replicate}
use borrow.Author.Rules.{rules}
use Rattle.circle_cases.proofs.main.Goals as goal

pub slice_bounds-whole-end : goal.slice_bounds-whole-end
slice_bounds-whole-end c = sym (length-replicate {A = ℕ} 65536 0)

pub slice_bounds-whole-end-2 : goal.slice_bounds-whole-end-2
slice_bounds-whole-end-2 c = sym (length-replicate {A = ℕ} 16384 0)

pub slice_bounds-whole-end-3 : goal.slice_bounds-whole-end-3
slice_bounds-whole-end-3 c = sym (length-replicate {A = ℕ} 163840 0)

pub slice_bounds-whole-end-4 : goal.slice_bounds-whole-end-4
slice_bounds-whole-end-4 c = sym (length-replicate {A = ℕ} 1101828 0)

pub slice_bounds-whole-end-5 : goal.slice_bounds-whole-end-5
slice_bounds-whole-end-5 c = sym (length-replicate {A = ℕ} 24832 0)

pub slice_bounds-whole-end-6 : goal.slice_bounds-whole-end-6
slice_bounds-whole-end-6 c = sym (length-replicate {A = ℕ} 10 0)
