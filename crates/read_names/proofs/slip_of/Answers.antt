-- `read_names::slip_of` meets its contract. One law for each way out.
-- Assumes nothing.
use Rattle.read_names.proofs.Slips.{code_none, code_below, code_inside, code_above}
use Rattle.read_names.proofs.slip_of.Goals as goal

pub returns-then-code-eq0 : goal.returns-then-code-eq0
returns-then-code-eq0 c = code_none _ _ _ c.if-code-eq0.true

pub returns-then-code-low : goal.returns-then-code-low
returns-then-code-low c = code_below _ _ _ c.if-code-eq0.false c.if-code-low.true

pub returns-then-code-high : goal.returns-then-code-high
returns-then-code-high c = code_inside _ _ _ c.if-code-eq0.false c.if-code-low.false c.if-code-high.true

pub returns : goal.returns
returns c = code_above _ _ _ c.if-code-eq0.false c.if-code-low.false c.if-code-high.false
