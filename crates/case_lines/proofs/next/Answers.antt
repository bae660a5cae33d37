use mathlib.Core.List.{List, [], ◌++◌}
use Prim.Native.Nat.{ℕ}
use Rattle.case_lines.specs.Lines.{left}
use Rattle.case_lines.proofs.LineLaws.{begun_first, begun_begun, begun_ended, begun_read, found_line, found_more}
use borrow.Author.Rules.{rules}
use Rattle.case_lines.proofs.next.Goals as goal

pub loop-init : goal.loop-init
loop-init c = (search rules, search rules, ([], begun_first _ _ _ c.start-place.ensures))

pub returns-in-Line : goal.returns-in-Line
returns-in-Line c =
    let at = c.loop in
    (at.invariant.2.0, begun_ended at.invariant.2.1 (found_line at.part at.at at.filled _ c.in-Line.is c.scan-s.ensures))

pub returns-then-filled-eq0 : goal.returns-then-filled-eq0
returns-then-filled-eq0 c =
    let at = c.loop in
    (at.invariant.2.0, [], _, begun_begun at.invariant.2.1 (found_more at.part at.at at.filled _ c.in-More.is c.scan-s.ensures))

pub loop-preserved : goal.loop-preserved
loop-preserved c =
    let at = c.loop in
    let a = c.args in
    let new : List ℕ = left c.read_full-filled.new.buf 0 c.read_full-filled.result in
    (search rules, search rules, (at.invariant.2.0 ++ new, begun_read (left a.part.now a.used.at a.used.filled) at.invariant.2.0 new (begun_begun at.invariant.2.1 (found_more at.part at.at at.filled _ c.in-More.is c.scan-s.ensures))))

pub returns : goal.returns
returns c =
    let at = c.loop in (at.invariant.2.0, left at.part at.at at.filled, at.place, at.invariant.2.1)
