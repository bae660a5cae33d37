-- What both kinds of drawn graph share: the drawn graph is the plain graph with its closed relations closed; an assumed expression is part
-- of the union of the assumed ones; and where the plain graph has no pair of an assumed-empty side and no loop of an assumed-irreflexive
-- one, the drawn graph meets all lines.
-- Assumes nothing.
use mathlib.Core.Path.{refl, subst}
use mathlib.Core.Logic.◌⊎◌.{inl, inr}
use mathlib.Core.Bool.{Bool}
use mathlib.Core.List.{List}
use Rattle.kat.specs.Lists.{In, here, there}
use Rattle.kat.specs.Graph.{Finite, Graph, Rel, graph}
use Rattle.kat.specs.Word.{Word}
use Rattle.notation.specs.Tree.{Tree, Claim, Line, test_line, rel_line, let_line, never_line, within_line, closed_line, assume_empty, assume_irreflexive, claim_line}
use Rattle.notation.specs.Query.{Query, assumed_empty, assumed_irreflexive}
use Rattle.notation.specs.Sides.{side, union_all, a0, a1}
use Rattle.claims.specs.Meaning.{Execution, Meets, MeetsAll, ClaimHolds}
use Rattle.claims.specs.GraphBytes.{finite}
use Rattle.claims.specs.Drawn.{steps_of, filled, drawn}
use Rattle.claims.proofs.Filled.{shut, in_each, Plain, shut_execution, shut_never, shut_within, shut_closed, related_in_plain}

-- an execution graph that meets all lines and breaks the claim
abbrev pub Counterexample : Graph → Query → Claim → Type 0
Counterexample G q c = Execution G q × MeetsAll G q × (ClaimHolds G q c → ⊥)

pub drawn_counterexample : (q : Query) (c : Claim) (ring : Bool) (w : Word) → Counterexample (shut q (finite (steps_of ring w))) q c
    → Counterexample (graph (drawn q ring w)) q c
unfolding drawn filled
drawn_counterexample q c ring w h = h

module _ (G : Graph) (q : Query) where
  in_union : (e : Tree) {es : List Tree} → In e es → (x y : G.Event) → Rel G (side q e) x y → Rel G (union_all q es) x y
  in_union e (here {y = f} p) x y h = inl (subst (λ t. Rel G (side q t) x y) p h)
  in_union e (there i) x y h = inr (in_union e i x y h)

  -- an assumed-empty expression, and an assumed-irreflexive one
  pub in_a0 : (e : Tree) → In (assume_empty e) q → (x y : G.Event) → Rel G (side q e) x y → Rel G (a0 q) x y
  unfolding a0 assumed_empty
  in_a0 e i x y h = in_union e (in_each assumed_empty i (here refl)) x y h

  pub in_a1 : (e : Tree) → In (assume_irreflexive e) q → (x y : G.Event) → Rel G (side q e) x y → Rel G (a1 q) x y
  unfolding a1 assumed_irreflexive
  in_a1 e i x y h = in_union e (in_each assumed_irreflexive i (here refl)) x y h

module _ (q : Query) (G : Finite) (p : Plain q G)
    (none : (x y : (graph G).Event) → Rel (graph G) (a0 q) x y → ⊥)
    (no_loop : (x : (graph G).Event) → Rel (graph G) (a1 q) x x → ⊥) where
  meets : (l : Line) → In l q → Meets (shut q G) q l
  meets (test_line n) i = tt
  meets (rel_line n) i = tt
  meets (let_line n e) i = tt
  meets (never_line t) i = shut_never q G p t i
  meets (within_line n t u) i = shut_within q G p n t u i
  meets (closed_line n) i = shut_closed q G p n i
  meets (assume_empty e) i = λ x y h. none x y (in_a0 (graph G) q e i x y ((related_in_plain q G p e x y).0 h))
  meets (assume_irreflexive e) i = λ x h. no_loop x (in_a1 (graph G) q e i x x ((related_in_plain q G p e x x).0 h))
  meets (claim_line c) i = tt

  -- the claim is all that is left to look at
  pub meets_lines : (c : Claim) → (ClaimHolds (shut q G) q c → ⊥) → Counterexample (shut q G) q c
  meets_lines c h = (shut_execution q G p, meets, h)
