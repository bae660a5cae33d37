-- `side_relations::relation_words` meets its contract. The invariant: with the rest filled, all of it is. The measure is what is left.
-- Assumes nothing.
use Prim.Native.Nat.{◌-◌}
use mathlib.Core.Path.{◌≡◌}
use lib.ListN.{length}
use Rattle.claims.specs.Query.{bit}
use Rattle.memory.specs.Memory.{words, changed}
use Rattle.side_relations.specs.Relations.{relation_at}
use Rattle.side_relations.proofs.relation_words.Given as goal

abbrev pub invariant-loop-i : goal.invariant-loop-i
invariant-loop-i l =
    (length l.rels ≡ length l.initial.rels)
    × (changed (λ j w. relation_at (λ k. bit k l.closed) l.limits j) l.rels l.i (length l.initial.rels)
    ≡ words (length l.initial.rels) (relation_at (λ k. bit k l.closed) l.limits))

abbrev pub decreases-loop-i : goal.decreases-loop-i
decreases-loop-i l = length l.initial.rels - l.i
