-- `search_run::decide` meets its contract: 9 before anything is changed, and then the search.
-- Assumes nothing.
use Rattle.std.proofs.Common.{ap}
use mathlib.Core.Bool.{not}
use Rattle.search_outcomes.specs.Outcomes.{lent_of}
use Rattle.search_run.proofs.Ways.{none_gives, far_gives}
use Rattle.search_run.proofs.OverRecords.{short_way, run_asks, searched_way}
use Rattle.search_run.proofs.decide.Goals as goal

pub run-requires : goal.run-requires
run-requires c =
    let a = c.args in (
      run_asks a.f a.left.now a.right.now a.allowance a.records.now a.words.now a.buffer.now c.if-allowance-eq0.false
          c.if-allowance-gt-MOST_STANDINGS.false c.count-slots.result c.count-slots.ensures c.enough-room.result c.enough-room.ensures (ap not c.if-not-room.false),
      c.requires,
    )

pub returns-then-allowance-eq0 : goal.returns-then-allowance-eq0
returns-then-allowance-eq0 c =
    let a = c.args in
    λ q d. none_gives q a.allowance (lent_of a.records.now a.words.now a.buffer.now) c.if-allowance-eq0.true

pub returns-then-allowance-gt-MOST_STANDINGS : goal.returns-then-allowance-gt-MOST_STANDINGS
returns-then-allowance-gt-MOST_STANDINGS c =
    let a = c.args in
    λ q d. far_gives q a.allowance (lent_of a.records.now a.words.now a.buffer.now) c.if-allowance-eq0.false c.if-allowance-gt-MOST_STANDINGS.true

pub returns-then-not-room : goal.returns-then-not-room
returns-then-not-room c =
    let a = c.args in
    short_way a.f a.left.now a.right.now a.allowance a.records.now a.words.now a.buffer.now c.if-allowance-eq0.false
    c.if-allowance-gt-MOST_STANDINGS.false c.count-slots.result c.count-slots.ensures c.enough-room.result c.enough-room.ensures (ap not c.if-not-room.true)

pub returns : goal.returns
returns c =
    let a = c.args in
    let u = c.run in
    searched_way a.f a.left.now a.right.now a.allowance a.records.now a.words.now a.buffer.now c.if-allowance-eq0.false
    c.if-allowance-gt-MOST_STANDINGS.false c.count-slots.result c.count-slots.ensures c.enough-room.result c.enough-room.ensures (ap not c.if-not-room.false)
    u.result (lent_of u.new.records u.new.words u.new.buffer) u.ensures
