-- `graph_judge::relation_line` meets its contract, by the kind of the line.
-- Assumes nothing.
use native.Mathlib.Omega.{arith}
use mathlib.Core.Path.{sym, ◌∙◌, ap}
use Rattle.graph_tables.specs.Machine.{judging}
use Rattle.graph_judge.specs.Machine.{broken_if}
use Rattle.graph_judge.proofs.Ends.{onward_state, ends_bare, ends_within, ends_closed, ends_past}
use Rattle.graph_judge.proofs.relation_line.Goals as goal

pub returns-then-k-lt-WITHIN_LINE : goal.returns-then-k-lt-WITHIN_LINE
returns-then-k-lt-WITHIN_LINE c =
    let a = c.args in
    let j = judging a.mem.now a.s in
    c.broken_if.ensures ∙ onward_state a.s ∙ sym (ends_bare a.listed.now j a.k (omega arith))

pub returns-then-k-lt-CLOSED_LINE : goal.returns-then-k-lt-CLOSED_LINE
returns-then-k-lt-CLOSED_LINE c =
    let a = c.args in
    let j = judging a.mem.now a.s in
    c.broken_if-then-k-lt-CLOSED_LINE.ensures ∙ ap (λ b. broken_if b a.s) c.leaves_limits.ensures
    ∙ sym (ends_within a.listed.now j a.k (omega arith) (omega arith))

pub returns-then-k-lt-CLOSED_END : goal.returns-then-k-lt-CLOSED_END
returns-then-k-lt-CLOSED_END c =
    let a = c.args in
    let j = judging a.mem.now a.s in
    c.broken_if-then-k-lt-CLOSED_END.ensures ∙ ap (λ b. broken_if b a.s) c.lacks_pair.ensures
    ∙ sym (ends_closed a.listed.now j a.k (omega arith) (omega arith))

pub returns : goal.returns
returns c =
    let a = c.args in
    let j = judging a.mem.now a.s in
    c.broken_if-2.ensures ∙ onward_state a.s ∙ sym (ends_past a.listed.now j a.k (omega arith))
