-- The definitions opened, so that they compute on given bytes: a declaration that says `unfolding everything` may evaluate any of them,
-- here and below. Each name here stands for the definitions of one file of `specs/`.
-- Assumes nothing.
use Rattle.kat.specs.Closure
use Rattle.verdicts.specs.Standings
use Rattle.verdicts.specs.Search
use Rattle.verdicts.specs.Passing
use Rattle.notation.proofs.Evaluate.{everything as below}

unfoldable pub open-Closure : Unit {0}
unfolding Closure.table Closure.entry Closure.through Closure.closure
open-Closure = tt

unfoldable pub open-Standings : Unit {0}
unfolding Standings.letters_at Standings.letters_of Standings.letters Standings.refuting_atoms Standings.path_step Standings.path_finals Standings.states Standings.moves Standings.ring_begin Standings.pairs Standings.ring_step Standings.covered Standings.ring_finals
open-Standings = tt

unfoldable pub open-Search : Unit {0}
unfolding Search.first_level Search.lengthened Search.next_level Search.seen_in Search.fresh Search.completed Search.levels Search.verdict_within Search.verdict
open-Search = tt

unfoldable pub open-Passing : Unit {0}
unfolding Passing.completes Passing.refuting Passing.listed Passing.proving Passing.passes
open-Passing = tt

unfoldable pub everything : Unit {0}
unfolding below open-Closure open-Standings open-Search open-Passing
everything = tt
