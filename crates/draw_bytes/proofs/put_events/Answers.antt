-- `draw_bytes::put_events` meets its contract. The invariant: the events that are left, put into the memory as it is, are all of them put into
-- the memory at the start.
-- Assumes nothing.
use native.Mathlib.Omega.{arith}
use mathlib.Core.Path.{ap}
use Rattle.claims.specs.GraphWriting.{event_field}
use Rattle.print_line.proofs.Pieces.{range_more, range_end}
use Rattle.draw_bytes.proofs.Pieces.{an_event, events_begin}
use Rattle.draw_bytes.proofs.put_events.Goals as goal

pub loop-i-init : goal.loop-i-init
loop-i-init c =
    let a = c.args in
    (omega arith, events_begin a.out.now a.at _ a.word.now a.n c.least-to.ensures)

pub loop-i-preserved : goal.loop-i-preserved
loop-i-preserved c =
    let l = c.loop-i in
    let a = c.args in (
      omega arith,
      range_more (an_event a.word.now) l.i a.n (omega arith) l.invariant.1 _ (ap event_field c.byte.ensures)
          c.put_event-to.ensures,
    )

pub shape_of-out : goal.shape_of-out
shape_of-out c = c.loop-i.invariant.1.same_length

pub returns : goal.returns
returns c =
    let l = c.loop-i in
    let a = c.args in
    range_end (an_event a.word.now) l.i a.n (omega arith) l.invariant.1
