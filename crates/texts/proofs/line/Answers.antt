-- `texts::line` meets its contract. As many lines are passed as are counted down.
-- Assumes nothing.
use Prim.Native.Nat.{◌+◌}
use native.Mathlib.Omega.{arith}
use mathlib.Core.Path.{◌≡◌, ◌∙◌, ap}
use Prim.Native.Nat.{◌-◌}
use Rattle.texts.specs.Lines.{in_line, line_at}
use Rattle.texts.proofs.LineLaws.{part_front, line_more, line_here, line_none}
use Rattle.texts.proofs.line.Goals as goal

pub returns-then-n-eq0 : goal.returns-then-n-eq0
returns-then-n-eq0 c = line_none _ c.args.text.now c.if-n-eq0.true

pub loop-line-init : goal.loop-line-init
loop-line-init c =
    let e : c.args.n + 1 - 1 ≡ c.args.n = omega arith in
    (omega arith, omega arith, omega arith, ap (λ k. line_at k c.args.text.now) e)

pub loop-line-preserved : goal.loop-line-preserved
loop-line-preserved c =
    let at = c.loop-line in
    let e : c.args.n + 1 - (at.line + 1) ≡ c.args.n + 1 - at.line - 1 = omega arith in (
      c.next_line-at.ensures.1,
      at.invariant.1,
      omega arith,
      rw e (ap (line_at (c.args.n + 1 - at.line - 1)) c.next_line-at.ensures.3
          ∙ line_more _ _ (omega arith) ∙ at.invariant.3),
    )

pub returns : goal.returns
returns c =
    let at = c.loop-line in
    part_front in_line _ _ _ c.part_end-end.ensures.2 ∙ line_here _ _ (omega arith) (omega arith) ∙ at.invariant.3
