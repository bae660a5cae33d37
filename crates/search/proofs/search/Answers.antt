-- `search::search` meets its contract: a refusal of the reader is handed on, and an accepted query is searched.
-- Assumes nothing.
use Rattle.search_outcomes.specs.Outcomes.{lent_of}
use Rattle.query.proofs.Asked.{few_relations_lem}
use Rattle.search.proofs.Asking.{refused_gives, accepted_gives, with_words}
use Rattle.search.proofs.search.Goals as goal

pub decide-requires : goal.decide-requires
decide-requires c =
    let a = c.args in
    let r = c.read in
    few_relations_lem a.text.now r.result r.ensures.0 c.in-Ok.f c.in-Ok.is r.new.left r.new.right r.ensures.2 r.ensures.3

pub returns-in-Ok : goal.returns-in-Ok
returns-in-Ok c =
    let a = c.args in
    let r = c.read in
    let d = c.decide in
    let m = lent_of a.records.now a.words.now a.buffer.now in
    let m' = lent_of d.new.records d.new.words d.new.buffer in
    let w = with_words a.text.now a.allowance m m' d.result
    (accepted_gives a.text.now r.result r.ensures.0 c.in-Ok.f c.in-Ok.is r.new.left r.new.right r.ensures.2 r.ensures.3 a.allowance m m' d.result d.ensures)
    in record { gives = w.0; by_words = w.1 }

pub returns-in-Err : goal.returns-in-Err
returns-in-Err c =
    let a = c.args in
    let r = c.read in
    let m = lent_of a.records.now a.words.now a.buffer.now in
    let w = with_words a.text.now a.allowance m m _ (refused_gives a.text.now r.result r.ensures.0 c.in-Err.e c.in-Err.is a.allowance m) in
    record { gives = w.0; by_words = w.1 }
