-- `case_checks::cuts` is safe and ends: it goes once over the places.
-- Assumes nothing.
use Prim.Native.Nat.{◌-◌, ◌≤◌}
use mathlib.Core.Path.{sym}
use native.Mathlib.Omega.{arith}
use lib.Seq.{length-take-le}
use lib.ListN.{length}
use borrow.Author.Rules.{rules}
use Rattle.case_checks.proofs.cuts.Goals as goal

pub slice_bounds-answer_of-end : goal.slice_bounds-answer_of-end
slice_bounds-answer_of-end c = sym (length-take-le _ _ (omega arith))
