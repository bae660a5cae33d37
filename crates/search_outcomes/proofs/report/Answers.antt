-- `search_outcomes::report` meets its contract.
-- Assumes nothing.
use Rattle.std.proofs.Common.{refl, ◌∙◌}
use Rattle.search_records.proofs.Rows.{rows_at}
use Rattle.search_records.specs.Rows.{rows}
use Rattle.search_outcomes.proofs.report.Goals as goal

pub begin-x-requires : goal.begin-x-requires
begin-x-requires c = (rows c.args.records.now, c.args.words.now, c.requires)

pub loop-x-init : goal.loop-x-init
loop-x-init c = (refl, c.begin-x.ensures (rows c.args.records.now) c.args.words.now c.requires)

pub put-x-requires : goal.put-x-requires
put-x-requires c = (rows c.args.records.now, c.args.buffer.now, c.loop-x-test.true, c.loop-x.invariant.1)

pub loop-x-smaller : goal.loop-x-smaller
loop-x-smaller c =
    let a = c.args in
    (c.put-x.ensures (rows a.records.now) a.buffer.now (c.load-from.ensures ∙ rows_at a.records.now c.loop-x.x.at) c.loop-x-test.true
    c.loop-x.invariant.1).1

pub loop-x-preserved : goal.loop-x-preserved
loop-x-preserved c =
    let a = c.args in (
      c.put-x.auto.buffer ∙ c.loop-x.invariant.0,
      (c.put-x.ensures (rows a.records.now) a.buffer.now (c.load-from.ensures ∙ rows_at a.records.now c.loop-x.x.at) c.loop-x-test.true
          c.loop-x.invariant.1).0,
    )

pub returns : goal.returns
returns c =
    let a = c.args in
    c.tell.ensures a.ring (rows a.records.now) a.words.now a.buffer.now c.loop-x.word c.loop-x.buffer c.loop-x-test.false c.loop-x.invariant.1
