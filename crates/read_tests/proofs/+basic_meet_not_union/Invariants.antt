-- The proof of the readers of T, which call each other. The measure is how many brackets may still be opened and how many bytes of the line are
-- left, which both fall at a bracket, and then which reader it is. Laws are cited.
-- Assumes nothing.
use Prim.Native.Nat.{◌+◌, ◌-◌, ◌*◌}
use lib.ListN.{length}
use Rattle.read_tests.specs.Places.{opened}
use Rattle.read_tests.proofs.Chains.{Waiting}
use Rattle.read_tests.proofs.Tests.{union_chain, meet_chain}
use Rattle.read_tests.proofs.+basic_meet_not_union.Given as goal

abbrev pub decreases-union : goal.decreases-union
decreases-union l = (l.depth + (length l.s.now - l.p.at)) * 8 + 4

abbrev pub decreases-not : goal.decreases-not
decreases-not l = (l.depth + (length l.s.now - l.p.at)) * 8 + 2

abbrev pub decreases-meet : goal.decreases-meet
decreases-meet l = (l.depth + (length l.s.now - l.p.at)) * 8 + 3

abbrev pub decreases-basic : goal.decreases-basic
decreases-basic l = (l.depth + (length l.s.now - l.p.at)) * 8 + 1

abbrev pub invariant-meet-loop-got : goal.invariant-meet-loop-got
invariant-meet-loop-got l = Waiting meet_chain (opened l.depth) 2 l.s l.names l.n l.initial.place l.initial.out l.place l.more l.out

abbrev pub decreases-meet-loop-got : goal.decreases-meet-loop-got
decreases-meet-loop-got l = length l.s - l.place.at

abbrev pub invariant-union-loop-got : goal.invariant-union-loop-got
invariant-union-loop-got l = Waiting union_chain (opened l.depth) 3 l.s l.names l.n l.initial.place l.initial.out l.place l.more l.out

abbrev pub decreases-union-loop-got : goal.decreases-union-loop-got
decreases-union-loop-got l = length l.s - l.place.at
