-- The graph drawn from a refuting word is a counterexample: it is an execution graph of the query, it meets all lines (`never`, `within`,
-- `closed` and both kinds of `assume`) and it breaks the claim. So a refutation by the languages is one by the relational meaning, for
-- every query and every word. By the kind of claim: a line of events for a path claim (`DrawnPath.antt`), a ring for a ring claim
-- (`DrawnRing.antt`).
-- Assumes nothing.
use Rattle.kat.specs.Graph.{graph}
use Rattle.kat.specs.Word.{Word}
use Rattle.notation.specs.Tree.{Claim, includes, empty, irreflexive}
use Rattle.notation.specs.Query.{Query}
use Rattle.notation.specs.Sides.{decision}
use Rattle.claims.specs.Meaning.{Execution, MeetsAll, ClaimHolds}
use Rattle.notation.specs.Words.{Refutes}
use Rattle.claims.specs.Drawn.{drawn}
use Rattle.claims.proofs.DrawnPath.{drawn_include, drawn_empty}
use Rattle.claims.proofs.DrawnRing.{drawn_irreflexive}

pub drawn_is_counterexample : (q : Query) (c : Claim) (w : Word) → Refutes (decision q c) w
    → Execution (graph (drawn q (decision q c).ring w)) q
    × MeetsAll (graph (drawn q (decision q c).ring w)) q
    × (ClaimHolds (graph (drawn q (decision q c).ring w)) q c → ⊥)
unfolding decision
drawn_is_counterexample q (includes e f) w r = drawn_include q e f w r
drawn_is_counterexample q (empty e) w r = drawn_empty q e w r
drawn_is_counterexample q (irreflexive e) w r = drawn_irreflexive q e w r
