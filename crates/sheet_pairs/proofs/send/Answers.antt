-- `sheet_pairs::send` meets its contract: nothing joined into rows leaves the memory as it is.
-- Assumes nothing.
use native.Mathlib.Omega.{arith}
use mathlib.Core.Path.{◌∙◌, ap}
use Rattle.standings.specs.Steps.{step_from}
use Rattle.sheet_pairs.specs.inner.Rows.{pushed}
use Rattle.sheet_pairs.proofs.Rows.{pushed_none}
use Rattle.sheet_pairs.proofs.send.Goals as goal

pub returns-then-w-eq0 : goal.returns-then-w-eq0
returns-then-w-eq0 c =
    let a = c.args in
    pushed_none a.to.now a.w (step_from a.right.now a.o a.a a.r) (omega arith) c.if-w-eq0.true

pub returns : goal.returns
returns c =
    let a = c.args in
    c.push.ensures
    ∙ ap (λ s. pushed a.to.now s a.w) c.step_from-s.ensures
