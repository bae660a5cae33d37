-- `search_cases::write_line` meets its contract. The line is within the memory that it stands in.
-- Assumes nothing.
use mathlib.Core.Path.{sym}
use lib.Seq.{length-take-le}
use borrow.Author.Rules.{rules}
use Rattle.search_cases.proofs.write_line.Goals as goal

pub slice_bounds-write_all-end-then-m-out : goal.slice_bounds-write_all-end-then-m-out
slice_bounds-write_all-end-then-m-out c = sym (length-take-le _ _ c.if-m-out.true)
