-- `draw_bytes::put_events` meets its contract. The invariant: the events that are left, put into the memory as it is, are all of them put into
-- the memory at the start.
-- Assumes nothing.
use Prim.Native.Nat.{◌≤◌}
use Rattle.kat.specs.Lists.{upto}
use Rattle.claims.specs.GraphWriting.{joined}
use Rattle.draw_bytes.specs.Fields.{events_bytes}
use Rattle.print_line.proofs.Pieces.{Left}
use Rattle.draw_bytes.proofs.Pieces.{an_event}
use Rattle.draw_bytes.proofs.put_events.Given as goal

abbrev pub invariant-loop-i : goal.invariant-loop-i
invariant-loop-i l = (l.i ≤ l.n) × Left l.initial.out l.at (events_bytes l.word l.n) l.out l.to (joined (an_event l.word) (upto l.i l.n))
