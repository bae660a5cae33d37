-- `fence::verdict::queried` is safe and ends: each array that it lends has the length that its type says, and the last one holds the
-- longest line.
-- Assumes nothing.
use mathlib.Core.Path.{sym}
use Prim.Native.Nat.{ℕ}
use native.Mathlib.Omega.{arith}
use lib.ListN.{length-replicate}
use Rattle.outcome_lines.specs.Shown.{longest_line}
use borrow.Author.Rules.{rules}
use Rattle.fence.proofs.verdict.queried.Goals as goal

pub slice_bounds-search_into-end : goal.slice_bounds-search_into-end
slice_bounds-search_into-end c = sym (length-replicate {A = ℕ} 4097 0)

pub slice_bounds-search_into-end-2 : goal.slice_bounds-search_into-end-2
slice_bounds-search_into-end-2 c = sym (length-replicate {A = ℕ} 0 0)

pub slice_bounds-search_into-end-3 : goal.slice_bounds-search_into-end-3
slice_bounds-search_into-end-3 c = sym (length-replicate {A = ℕ} 0 0)

pub slice_bounds-search_into-end-4 : goal.slice_bounds-search_into-end-4
slice_bounds-search_into-end-4 c = sym (length-replicate {A = ℕ} _ 0)

pub search_into-requires : goal.search_into-requires
unfolding longest_line
search_into-requires c = simp length-replicate (omega arith)
