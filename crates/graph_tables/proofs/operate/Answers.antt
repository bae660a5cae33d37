-- `graph_tables::operate` meets its contract: each way does what the definition says of its code.
-- Assumes nothing.
use native.Mathlib.Omega.{arith}
use mathlib.Core.Path.{sym, ◌∙◌, ap}
use Rattle.rows.specs.Rows.{diagonal}
use Rattle.graph_tables.specs.Machine.{judging, pushed}
use Rattle.graph_tables.proofs.Steps.{does_test, does_union, does_sequence, does_star, does_plus, does_optional, does_relation, does_let, does_nothing_low, does_nothing_between, does_nothing_high}
use Rattle.graph_tables.proofs.operate.Goals as goal

pub returns-in-6 : goal.returns-in-6
returns-in-6 c =
    let a = c.args in
    c.push.ensures
    ∙ ap (pushed (judging a.mem.now a.s)) (c.tested.ensures ∙ ap diagonal c.events_with.ensures)
    ∙ sym (does_test a.listed.now (judging a.mem.now a.s) a.k a.x c.in-6.is)

pub returns-in-7 : goal.returns-in-7
returns-in-7 c =
    let a = c.args in
    c.unite.ensures ∙ sym (does_union a.listed.now (judging a.mem.now a.s) a.k a.x c.in-7.is)

pub returns-in-8 : goal.returns-in-8
returns-in-8 c =
    let a = c.args in
    c.chain.ensures ∙ sym (does_sequence a.listed.now (judging a.mem.now a.s) a.k a.x c.in-8.is)

pub returns-in-9 : goal.returns-in-9
returns-in-9 c =
    let a = c.args in
    c.repeat_or_none.ensures ∙ sym (does_star a.listed.now (judging a.mem.now a.s) a.k a.x c.in-9.is)

pub returns-in-10 : goal.returns-in-10
returns-in-10 c =
    let a = c.args in
    c.repeat.ensures ∙ sym (does_plus a.listed.now (judging a.mem.now a.s) a.k a.x c.in-10.is)

pub returns-in-11 : goal.returns-in-11
returns-in-11 c =
    let a = c.args in
    c.allow_none.ensures ∙ sym (does_optional a.listed.now (judging a.mem.now a.s) a.k a.x c.in-11.is)

pub returns-in-32-to-47 : goal.returns-in-32-to-47
returns-in-32-to-47 c =
    let a = c.args in
    let ((((((u, e6), e7), e8), e9), e10), e11) = c.in-32-to-47.in_default-own.rest in
    c.push-in-32-to-47.ensures
    ∙ ap (pushed (judging a.mem.now a.s)) c.relation.ensures
    ∙ sym (does_relation a.listed.now (judging a.mem.now a.s) a.k a.x e6 e7 e8 e9 e10 e11 (omega arith) (omega arith))

pub returns-in-64-to-95 : goal.returns-in-64-to-95
returns-in-64-to-95 c =
    let a = c.args in
    let ((((((u, e6), e7), e8), e9), e10), e11) = c.in-64-to-95.in_default-own.rest in
    c.push-in-64-to-95.ensures
    ∙ ap (pushed (judging a.mem.now a.s)) c.load-t.ensures
    ∙ sym (does_let a.listed.now (judging a.mem.now a.s) a.k a.x e6 e7 e8 e9 e10 e11 (omega arith) (omega arith))

pub returns-in_default : goal.returns-in_default
returns-in_default c =
    let a = c.args in
    let ((((((u, e6), e7), e8), e9), e10), e11) = c.in_default.in_default-own.rest in
    sym (does_nothing_low a.listed.now (judging a.mem.now a.s) a.k a.x e6 e7 e8 e9 e10 e11 c.in_default.if-k-lt32-own.true)

pub returns-in_default-2 : goal.returns-in_default-2
returns-in_default-2 c =
    let a = c.args in
    let ((((((u, e6), e7), e8), e9), e10), e11) = c.in_default.in_default-own.rest in
    sym (does_nothing_between a.listed.now (judging a.mem.now a.s) a.k a.x e6 e7 e8 e9 e10 e11 (omega arith) (omega arith))

pub returns-in_default-3 : goal.returns-in_default-3
returns-in_default-3 c =
    let a = c.args in
    let ((((((u, e6), e7), e8), e9), e10), e11) = c.in_default.in_default-own.rest in
    sym (does_nothing_high a.listed.now (judging a.mem.now a.s) a.k a.x e6 e7 e8 e9 e10 e11 (omega arith))
