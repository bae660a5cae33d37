-- `search_outcomes::report` meets its contract: the sheet is begun, goes on by one record a turn, and ends. The invariant: what is written so far
-- stands, and the buffer keeps its length. The measure is how many turns are left.
-- Assumes nothing.
use Rattle.std.proofs.Common.{◌≡◌, length}
use Rattle.search_records.specs.Rows.{rows}
use Rattle.search_outcomes.specs.inner.Stands.{Stands, turns}
use Rattle.search_outcomes.proofs.report.Given as goal

abbrev pub invariant-loop-x : goal.invariant-loop-x
invariant-loop-x l =
    (length l.buffer ≡ length l.initial.buffer) × Stands l.ring (rows l.records) l.words l.fn.buffer l.found l.x l.word l.buffer

abbrev pub decreases-loop-x : goal.decreases-loop-x
decreases-loop-x l = turns l.found l.x
