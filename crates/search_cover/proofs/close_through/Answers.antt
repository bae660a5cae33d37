-- `search_cover::close_through` meets its contract: a round through a number whose column is empty changes nothing.
-- Assumes nothing.
use Rattle.search_cover.proofs.Rounds.{round_none, round_some}
use Rattle.search_cover.proofs.close_through.Goals as goal

pub returns-then-c-eq0 : goal.returns-then-c-eq0
returns-then-c-eq0 c =
    let a = c.args in
    round_none a.t.now c.word-c.result a.k a.hi c.word-c.ensures c.if-c-eq0.true

pub returns : goal.returns
returns c =
    let a = c.args in
    let w = c.word-c in
    round_some a.t.now _ w.result a.k a.hi w.ensures c.join_where.ensures
