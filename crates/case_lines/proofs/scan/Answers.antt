use Rattle.case_lines.proofs.LineLaws.{begun_start, scan_more, scan_end, scan_past, scan_over}
use borrow.Author.Rules.{rules}
use Rattle.case_lines.proofs.scan.Goals as goal

pub loop-at-init : goal.loop-at-init
loop-at-init c = (search rules, begun_start _ _ _)

pub returns-then-part-at : goal.returns-then-part-at
returns-then-part-at c =
    let a = c.args in
    let at = c.loop-at in
    scan_over a.part.now at.at a.filled c.if-part-at.true at.invariant.1

pub returns-then-b-eq10 : goal.returns-then-b-eq10
returns-then-b-eq10 c =
    let a = c.args in
    let at = c.loop-at in
    scan_end a.part.now at.at a.filled c.loop-at-test.true c.if-part-at.false c.if-b-eq10.true at.invariant.1

pub loop-at-preserved : goal.loop-at-preserved
loop-at-preserved c =
    let at = c.loop-at in
    (search rules, scan_more c.args.part.now at.at c.args.filled c.loop-at-test.true c.if-part-at.false c.if-b-eq10.false at.invariant.1 c.step-place.ensures)

pub returns : goal.returns
returns c =
    let a = c.args in
    let at = c.loop-at in
    scan_past a.part.now at.at a.filled c.loop-at-test.false at.invariant.1
