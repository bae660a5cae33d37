-- `sheet_cover::completes_with` meets its contract: another atom than the first completes nothing.
-- Assumes nothing.
use mathlib.Core.Path.{◌∙◌}
use Rattle.sheet_standings.specs.RingCells.{first_in}
use Rattle.sheet_cover.proofs.Finals.{with_first, with_other}
use Rattle.sheet_cover.proofs.completes_with.Goals as goal

pub returns-then-a-s : goal.returns-then-a-s
unfolding first_in
returns-then-a-s c =
    let a = c.args in
    c.completes.ensures ∙ with_first a.left.now a.right.now a.n a.live a.s.now a.a c.if-a-s.true

pub returns : goal.returns
unfolding first_in
returns c =
    let a = c.args in
    with_other a.left.now a.right.now a.n a.live a.s.now a.a c.if-a-s.false
