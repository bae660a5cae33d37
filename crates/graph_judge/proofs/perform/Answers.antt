-- `graph_judge::perform` meets its contract: a code of an expression, the end of a let, or another end.
-- Assumes nothing.
use native.Mathlib.Omega.{arith}
use mathlib.Core.Path.{◌∙◌}
use Rattle.graph_tables.specs.Machine.{judging}
use Rattle.graph_judge.proofs.Ends.{does_operate, does_keep, does_end}
use Rattle.graph_judge.proofs.perform.Goals as goal

pub returns-then-k-lt-LINE : goal.returns-then-k-lt-LINE
returns-then-k-lt-LINE c =
    let a = c.args in
    let j = judging a.mem.now a.s in
    c.operate.ensures ∙ does_operate a.listed.now j a.k a.x c.if-k-lt-LINE.true

pub returns-then-k-eq-LET_LINE : goal.returns-then-k-eq-LET_LINE
returns-then-k-eq-LET_LINE c =
    let a = c.args in
    let j = judging a.mem.now a.s in
    c.keep.ensures ∙ does_keep a.listed.now j a.k a.x (omega arith) c.if-k-eq-LET_LINE.true

pub returns : goal.returns
returns c =
    let a = c.args in
    let j = judging a.mem.now a.s in
    does_end a.listed.now j a.k a.x (omega arith) c.if-k-eq-LET_LINE.false _ c.judged_line.ensures
