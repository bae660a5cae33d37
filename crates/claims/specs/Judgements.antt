-- What a judgement means: the first line that the graph does not meet, whether the claim holds, and the lowest event or pair that breaks
-- it. (Document 01, "Sheet and graph bytes".) `judgement_is_meaning` of `proofs/` joins it to `Judgement.antt`.
-- Assumes nothing.
use Rattle.std.specs.Prelude.{ℕ, suc, ◌<◌, ◌≡◌, ◌⊎◌, ◌↔◌, List, ◌∷◌, ◌++◌, length}
use Rattle.kat.specs.Lists.{In}
use Rattle.kat.specs.Graph.{Finite, Graph, graph}
use Rattle.notation.specs.Tree.{Claim, includes, empty, irreflexive, Line}
use Rattle.notation.specs.Query.{Query, holds}
use Rattle.claims.specs.Judgement.{Outcome, holds_in, breaks_at, breaks_from, Judgement, breaks}
use Rattle.claims.specs.Meaning.{Related, MeetsAll, ClaimHolds, Meets}

module _ (G : Graph) (q : Query) where
  -- the event breaks the claim
  abbrev pub BrokenAt : Claim → G.Event → Type 0
  BrokenAt (includes e f) x = ⊥
  BrokenAt (empty e) x = ⊥
  BrokenAt (irreflexive e) x = Related G q e x x

  -- the pair breaks the claim
  abbrev pub BrokenFrom : Claim → G.Event → G.Event → Type 0
  BrokenFrom (includes e f) x y = Related G q e x y × (Related G q f x y → ⊥)
  BrokenFrom (empty e) x y = Related G q e x y
  BrokenFrom (irreflexive e) x y = ⊥

-- line number suc m of the lines is the first that the graph does not meet
pub record FirstUnmet (G : Graph) (q : Query) (ls : List Line) (m : ℕ) : Type 0 where
  pub before : List Line
  pub line : Line
  pub after : List Line
  pub split : ls ≡ before ++ (line ∷ after)
  pub place : length before ≡ m
  pub met : (l : Line) → In l before → Meets G q l
  pub unmet : Meets G q line → ⊥

-- lower by from, then to
abbrev pub Lower : ℕ → ℕ → ℕ → ℕ → Type 0
Lower w z x y = (w < x) ⊎ ((w ≡ x) × (z < y))

-- x is the number of the lowest event that breaks the claim
pub record LowestAt (G : Finite) (q : Query) (c : Claim) (x : ℕ) : Type 0 where
  pub event : (graph G).Event
  pub number : event.0 ≡ x
  pub breaks : BrokenAt (graph G) q c event
  pub none_lower : (w : (graph G).Event) → w.0 < x → BrokenAt (graph G) q c w → ⊥

-- x and y are the numbers of the lowest pair, by from, then to, that breaks the claim
pub record LowestFrom (G : Finite) (q : Query) (c : Claim) (x y : ℕ) : Type 0 where
  pub from : (graph G).Event
  pub to : (graph G).Event
  pub from_number : from.0 ≡ x
  pub to_number : to.0 ≡ y
  pub breaks : BrokenFrom (graph G) q c from to
  pub none_lower : (w z : (graph G).Event) → Lower w.0 z.0 x y → BrokenFrom (graph G) q c w z → ⊥

-- what an outcome says of the claim
pub record OutcomeIsMeaning (G : Finite) (q : Query) (c : Claim) (o : Outcome) : Type 0 where
  pub holds : (o ≡ holds_in) ↔ ClaimHolds (graph G) q c
  pub breaks_at_lem : (x : ℕ) → o ≡ breaks_at x → LowestAt G q c x
  pub breaks_from_lem : (x y : ℕ) → o ≡ breaks_from x y → LowestFrom G q c x y

pub record JudgementIsMeaning (G : Finite) (q : Query) (c : Claim) (j : Judgement) : Type 0 where
  pub meets_all : (j.line ≡ 0) ↔ MeetsAll (graph G) q
  pub first_unmet : (m : ℕ) → j.line ≡ suc m → FirstUnmet (graph G) q q m
  pub claim : OutcomeIsMeaning G q c j.outcome
