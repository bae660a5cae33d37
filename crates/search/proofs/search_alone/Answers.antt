-- `search::search_alone` meets its contract: a refusal of the reader is handed on, and an accepted query is searched.
-- Assumes nothing.
use Rattle.std.proofs.lemmas.Result.{err_from_is_err_and}
use lib.ListN.{replicate}
use Rattle.query.proofs.Asked.{few_relations_lem}
use Rattle.search_records.specs.Records.{blank}
use Rattle.search_outcomes.specs.Outcomes.{lent_of}
use Rattle.search.proofs.Asking.{refused_gives, accepted_gives}
use borrow.Author.Rules.{rules}
use Rattle.search.proofs.search_alone.Goals as goal

pub decide_alone-requires : goal.decide_alone-requires
decide_alone-requires c =
    let a = c in
    let r = a.read_sides in
    few_relations_lem _ r.result r.ensures.0 _ a.in_ok-f.was _ _ r.ensures.1 r.ensures.2

pub returns-in_err-f : goal.returns-in_err-f
returns-in_err-f c =
    let r = c.read_sides in
    let a = c.args in
    let none = replicate 4096 blank in
    let p = err_from_is_err_and c.from_residual.result c.from_residual.ensures.1 in
    rw (p.1, p.2) (none, refused_gives a.text.now r.result r.ensures.0 _ c.in_err-f.was a.allowance (lent_of none a.words.now a.buffer.now))

pub returns : goal.returns
returns c =
    let d = c in
    let a = c in
    let r = a.read_sides in
    let (after, gives) = d.decide_alone.ensures in
    (after, accepted_gives _ r.result r.ensures.0 _ a.in_ok-f.was _ _ r.ensures.1 r.ensures.2 _ _ _ d.decide_alone.result gives)
