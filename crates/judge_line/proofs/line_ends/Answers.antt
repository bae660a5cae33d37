-- `judge_line::line_ends` meets its contract. The ends so far and those behind are all.
-- Assumes nothing.
use native.Mathlib.Nat.{zero-add}
use Rattle.judge_line.proofs.JudgedLaws.{ends_here, ends_later, ends_no_more}
use Rattle.judge_line.specs.JudgedWords.{line_ends}
use native.Mathlib.Omega.{arith}
use Rattle.judge_line.proofs.line_ends.Goals as goal
use Rattle.judge_line.proofs.line_ends.Goals.{then-b-eq10, else-b-eq10}

pub loop-b-init : goal.loop-b-init
loop-b-init c = (omega arith, omega arith, zero-add (line_ends c.args.text.now))

pub loop-b-preserved : goal.loop-b-preserved
loop-b-preserved c =
    elim c.if-b-eq10.branch [
      | then-b-eq10 w ↦ (omega arith, omega arith, ends_here _ _ _ _ _ w.n-is c.loop-b-test.true w.if-b-eq10.true c.loop-b.invariant.2)
      | else-b-eq10 w ↦ (omega arith, omega arith, ends_later _ _ _ _ _ w.n-is c.loop-b-test.true w.if-b-eq10.false c.loop-b.invariant.2)
    ]

pub returns : goal.returns
returns c = ends_no_more _ _ _ _ c.loop-b-test.false c.loop-b.invariant.2
