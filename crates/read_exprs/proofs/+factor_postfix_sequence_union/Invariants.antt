-- The proof of the readers of E, which call each other for what stands in round brackets. The measure is how many
-- brackets may still be opened and how many bytes of the line are left, which both fall at a bracket, and then which reader it is. The laws are
-- those of chains, of postfixes and of brackets; here they are cited.
-- Assumes nothing.
use Prim.Native.Nat.{◌+◌, ◌-◌, ◌*◌}
use lib.ListN.{length}
use Rattle.read_tests.specs.Places.{opened}
use Rattle.read_tests.proofs.Chains.{Waiting}
use Rattle.read_exprs.proofs.Trees.{union_chain, sequence_chain}
use Rattle.read_exprs.proofs.+factor_postfix_sequence_union.Given as goal

abbrev pub decreases-union : goal.decreases-union
decreases-union l = (l.depth + (length l.s.now - l.p.at)) * 8 + 4

abbrev pub decreases-sequence : goal.decreases-sequence
decreases-sequence l = (l.depth + (length l.s.now - l.p.at)) * 8 + 3

abbrev pub decreases-postfix : goal.decreases-postfix
decreases-postfix l = (l.depth + (length l.s.now - l.p.at)) * 8 + 2

abbrev pub decreases-factor : goal.decreases-factor
decreases-factor l = (l.depth + (length l.s.now - l.p.at)) * 8 + 1

abbrev pub invariant-sequence-loop-got : goal.invariant-sequence-loop-got
invariant-sequence-loop-got l = Waiting sequence_chain (opened l.depth) 2 l.s l.names l.n l.initial.place l.initial.out l.place l.more l.out

abbrev pub decreases-sequence-loop-got : goal.decreases-sequence-loop-got
decreases-sequence-loop-got l = length l.s - l.place.at

abbrev pub invariant-union-loop-got : goal.invariant-union-loop-got
invariant-union-loop-got l = Waiting union_chain (opened l.depth) 3 l.s l.names l.n l.initial.place l.initial.out l.place l.more l.out

abbrev pub decreases-union-loop-got : goal.decreases-union-loop-got
decreases-union-loop-got l = length l.s - l.place.at
