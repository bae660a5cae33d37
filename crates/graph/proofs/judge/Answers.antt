-- `graph::judge` meets its contract: a refusal of the reader is handed on; for an accepted query the first wrong field, or the judgement of the graph
-- that was read.
-- Assumes nothing.
use mathlib.Core.Path.{refl, ◌∙◌, subst}
use Rattle.std.proofs.lemmas.Result.{err_from_is_err_and}
use Rattle.claims.specs.Reading.{read}
use Rattle.query.specs.Answer.{Says}
use Rattle.graph.proofs.Answered.{query_refused, wrong_field, events_judged, answer_means}
use Rattle.graph.proofs.judge.Goals as goal

pub returns-in_err-f : goal.returns-in_err-f
returns-in_err-f c =
    let r = c.read_codes in
    let p = err_from_is_err_and c.from_residual.result c.from_residual.ensures.1 in
    rw (p.1, p.2) (
    let says = query_refused c.args.text.now c.args.graph.now r.result r.ensures.0 _ c.in_err-f.was in
    record { judges = says; means = answer_means _ _ _ says }
    )

pub returns-in-Err : goal.returns-in-Err
returns-in-Err c =
    let g = c.read-r in
    let r = c.read_codes in
    let said = subst (Says (read _)) c.in_ok-f.was r.ensures.0 in
    let says = wrong_field _ _ said _ r.ensures.1 _ _ refl g.result g.ensures.says _ c.in-Err.is in
    record { judges = says; means = answer_means _ _ _ says }

pub returns-in-Ok : goal.returns-in-Ok
returns-in-Ok c =
    let g = c.read-r in
    let r = c.read_codes in
    let said = subst (Says (read _)) c.in_ok-f.was r.ensures.0 in
    let says =
    events_judged _ _ said _ r.ensures.1 _ _ refl g.result g.ensures.says _ c.in-Ok.is _
    (c.close_relations.ensures ∙ g.ensures.leaves) c.judge_codes-s.ensures.sized _ c.judge_codes-s.ensures.judged _ c.answer.ensures
    in
    record { judges = says; means = answer_means _ _ _ says }
