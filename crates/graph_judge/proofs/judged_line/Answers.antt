-- `graph_judge::judged_line` meets its contract, by the code that ends the line.
-- Assumes nothing.
use mathlib.Core.Path.{sym, ◌∙◌, ap}
use lib.Dec.{ltb}
use Rattle.graph_tables.specs.Machine.{judging}
use Rattle.graph_judge.specs.Machine.{broken_if, found_now}
use Rattle.graph_judge.proofs.Ends.{ends_never, ends_empty, ends_irreflexive, ends_left, ends_include, ends_claim_empty, ends_claim_irreflexive, ends_other}
use Rattle.graph_judge.proofs.judged_line.Goals as goal

pub returns-in-131 : goal.returns-in-131
returns-in-131 c =
    let a = c.args in
    let j = judging a.mem.now a.s in
    c.broken_if.ensures ∙ ap (λ b. broken_if b a.s) c.some_event.ensures ∙ sym (ends_never a.listed.now j a.k a.x c.in-131.is)

pub returns-in-133 : goal.returns-in-133
returns-in-133 c =
    let a = c.args in
    let j = judging a.mem.now a.s in
    c.broken_if-in-133.ensures ∙ ap (λ m. broken_if (ltb m 4096) a.s) c.any_pair.ensures ∙ sym (ends_empty a.listed.now j a.k a.x c.in-133.is)

pub returns-in-134 : goal.returns-in-134
returns-in-134 c =
    let a = c.args in
    let j = judging a.mem.now a.s in
    c.broken_if-in-134.ensures ∙ ap (λ m. broken_if (ltb m 4096) a.s) c.any_loop.ensures ∙ sym (ends_irreflexive a.listed.now j a.k a.x c.in-134.is)

pub returns-in-135 : goal.returns-in-135
returns-in-135 c =
    let a = c.args in
    let j = judging a.mem.now a.s in
    sym (ends_left a.listed.now j a.k a.x c.in-135.is)

pub returns-in-136 : goal.returns-in-136
returns-in-136 c =
    let a = c.args in
    let j = judging a.mem.now a.s in
    c.found_now.ensures ∙ ap (λ m. found_now m a.s) c.apart.ensures ∙ sym (ends_include a.listed.now j a.k a.x c.in-136.is)

pub returns-in-137 : goal.returns-in-137
returns-in-137 c =
    let a = c.args in
    let j = judging a.mem.now a.s in
    c.found_now-in-137.ensures ∙ ap (λ m. found_now m a.s) c.any_pair-in-137.ensures ∙ sym (ends_claim_empty a.listed.now j a.k a.x c.in-137.is)

pub returns-in-138 : goal.returns-in-138
returns-in-138 c =
    let a = c.args in
    let j = judging a.mem.now a.s in
    c.found_now-in-138.ensures ∙ ap (λ m. found_now m a.s) c.any_loop-in-138.ensures ∙ sym (ends_claim_irreflexive a.listed.now j a.k a.x c.in-138.is)

pub returns-in_default : goal.returns-in_default
returns-in_default c =
    let a = c.args in
    let j = judging a.mem.now a.s in
    let (((((((u, e1), e2), e3), e4), e5), e6), e7) = c.in_default.in_default-own.rest in
    c.relation_line.ensures ∙ sym (ends_other a.listed.now j a.k a.x e1 e2 e3 e4 e5 e6 e7)
