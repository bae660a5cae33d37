-- `fence_line::line` meets its contract. The memory is zero and long enough for any answer, so that the line is the program's; and no line is longer
-- than the longest.
-- Assumes nothing.
use native.Mathlib.Omega.{arith}
use mathlib.Core.Path.{refl, ap}
use Rattle.claims.specs.Calls.{Lent}
use Rattle.claims.specs.Printed.{program_allowance}
use Rattle.search_outcomes.specs.Outcomes.{lent_of}
use Rattle.print_line.proofs.Putting.{puts_all}
use Rattle.outcome_lines.proofs.OutcomeLines.{puts_same, program_line, program_says}
use Rattle.outcome_lines.proofs.LineLength.{printed_within}
use borrow.Author.Rules.{rules}
use Rattle.fence_line.proofs.line.Goals as goal

pub returns : goal.returns
unfolding lent_of
returns c =
    let t = c in
    let o = c in
    let g = t.search_alone-r.ensures.1 in
    let text = c.args.text.now in
    let line =
    puts_same (program_line _ _ _ _ t.search_alone-r.result refl refl g.says (ap (λ (m : Lent). m.buffer) g.leaves))
    o.outcome_line-n.ensures in
    record { puts = (line, program_says _ _ _ _ refl refl g.says, g.sized); whole = λ h. puts_all _ _ _ _ line (omega (arith, printed_within program_allowance text)) }
