-- `search_levels::levels` meets its contract.
-- Assumes nothing.
use Rattle.std.proofs.Common.{arith}
use Rattle.search_levels.proofs.OverRecords.{loop_starts, loop_goes, loop_records, loop_words, loop_ends}
use Rattle.search_levels.proofs.levels.Goals as goal

pub loop-t-init : goal.loop-t-init
loop-t-init c =
    let a = c.args in
    loop_starts a.k a.left.now a.right.now a.first.now a.later.now a.cap a.records.now a.words.now c.requires.0
    c.start-t.result c.start-t.ensures

pub turn-t-requires : goal.turn-t-requires
turn-t-requires c = (c.requires.1, c.loop-t-test.true, c.loop-t.invariant.1)

pub loop-t-smaller : goal.loop-t-smaller
loop-t-smaller c = c.turn-t.ensures.2

pub loop-t-preserved : goal.loop-t-preserved
loop-t-preserved c =
    let a = c.args in
    let l = c.loop-t in
    let u = c.turn-t in
    loop_goes a.k a.left.now a.right.now a.first.now a.later.now a.cap a.records.now a.words.now l.t l.records l.words l.invariant
    u.result u.new.records u.new.words u.ensures

pub returns : goal.returns
returns c =
    let a = c.args in
    let l = c.loop-t in
    loop_ends a.k a.left.now a.right.now a.first.now a.later.now a.cap a.records.now a.words.now l.t l.records l.words l.invariant
    c.loop-t-test.false c.finding_of.result c.finding_of.ensures
