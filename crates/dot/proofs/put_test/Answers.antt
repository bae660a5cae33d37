-- `dot::put_test` meets its contract. A space and the name, or nothing.
-- Assumes nothing.
use mathlib.Core.Path.{sym, ◌∙◌}
use Rattle.print_line.proofs.Putting.{puts_bytes}
use Rattle.dot.proofs.Lines.{test_holds, test_fails}
use Rattle.dot.proofs.put_test.Goals as goal

pub returns-then-member : goal.returns-then-member
returns-then-member c =
    let a = c in
    test_holds _ _ _ (sym a.member.ensures ∙ a.if-member.true) c.put_byte-a.ensures (puts_bytes c.name.ensures c.put_text.ensures)

pub returns : goal.returns
returns c =
    let a = c.args in
    test_fails a.out.now a.at _ a.text.now a.atom a.i (sym c.member.ensures ∙ c.if-member.false) c.least.ensures
