-- `search_levels::levels` meets its contract: turn by turn, by what holds between two turns (`OverRecords`). The measure is the weight of the turn.
-- Assumes nothing.
use Rattle.search_course.specs.Turns.{turn_weight}
use Rattle.search_levels.proofs.OverRecords.{Between}
use Rattle.search_levels.proofs.levels.Given as goal

abbrev pub invariant-loop-t : goal.invariant-loop-t
invariant-loop-t l = Between l.k l.left l.right l.first l.later l.cap l.initial.records l.initial.words l.t l.records l.words

abbrev pub decreases-loop-t : goal.decreases-loop-t
decreases-loop-t l = turn_weight l.t
