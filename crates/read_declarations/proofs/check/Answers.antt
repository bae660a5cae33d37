-- `read_declarations::check` meets its contract: the end of the line is judged first, and then its names.
-- Assumes nothing.
use Rattle.read_declarations.proofs.LineEnds.{checked_unended, checked_whole}
use Rattle.read_declarations.specs.inner.Kinds.{checked}
use mathlib.Core.Path.{ap}
use mathlib.Core.Bool.{not}
use Rattle.read_declarations.proofs.check.Goals as goal

pub returns-then-not-ends : goal.returns-then-not-ends
returns-then-not-ends c = checked_unended _ _ _ _ c.in-Ok.is _ c.ends.ensures (ap not c.if-not-ends.true)

pub returns-else-not-ends : goal.returns-else-not-ends
returns-else-not-ends c = checked_whole _ _ _ _ c.in-Ok.is _ c.ends.ensures (ap not c.if-not-ends.false) _ c.by_slip.ensures

pub returns-in-Err-Wrong : goal.returns-in-Err-Wrong
unfolding checked
returns-in-Err-Wrong c =
    let h = rw c.in-Err-Wrong.is at c.in-Err-Wrong.field-0-is in
    rw (c.in-Err-Wrong.is, h)

pub returns-in-Err-Deep : goal.returns-in-Err-Deep
unfolding checked
returns-in-Err-Deep c =
    let h = rw c.in-Err-Deep.is at c.in-Err-Deep.field-0-is in
    rw (c.in-Err-Deep.is, h)
