-- What a passing sheet is evidence of, in the words of document 01's third demand: of "proved" that the claim holds in every finite graph that
-- meets the query's assumptions, of whatever size; of "refuted" that the graph drawn from its word meets them and breaks the claim. A graph
-- meets the assumptions when its judgement's line is 0. (Document 01, "Sheet and graph bytes", last paragraph, and "Drawn graph".)
-- Assumes nothing.
use Rattle.std.specs.Prelude.{ℕ, ◌≡◌, List}
use Rattle.kat.specs.Graph.{Finite, graph}
use Rattle.kat.specs.Word.{Word}
use Rattle.claims.specs.Refusals.{ok}
use Rattle.claims.specs.Calls.{Asked, asked}
use Rattle.claims.specs.Judgement.{holds_in, Judgement, judgement}
use Rattle.claims.specs.Drawn.{drawn}
use Rattle.claims.specs.Meaning.{Execution}
use Rattle.claims.specs.Sheets.{SaysRefuted}

-- the judgement of a graph by what is asked ("Sheet and graph bytes")
abbrev pub judged : Asked → Finite → Judgement
judged a G = judgement G a.query a.claim

-- the text is a query, and its claim holds in every execution graph that meets its assumptions ("Sheet and graph bytes")
pub record HoldsInEveryGraph (text : List ℕ) : Type 0 where
  pub asks : Asked
  pub accepted : asked text ≡ ok asks
  pub holds : (G : Finite) → Execution (graph G) asks.query → (judged asks G).line ≡ 0 → (judged asks G).outcome ≡ holds_in

-- the graph drawn from a word by what is asked ("Words")
abbrev pub drawn_for : Asked → Word → Finite
drawn_for a w = drawn a.query a.decided.ring w

-- the text is a query, the sheet has a word, and the graph drawn from it is an execution graph that meets the assumptions and breaks the claim
-- ("Sheet and graph bytes")
pub record DrawnGraphBreaks (text sheet : List ℕ) : Type 0 where
  pub asks : Asked
  pub accepted : asked text ≡ ok asks
  pub word : Word
  pub says : SaysRefuted asks.decided sheet word
  pub execution : Execution (graph (drawn_for asks word)) asks.query
  pub meets : (judged asks (drawn_for asks word)).line ≡ 0
  pub breaks : (judged asks (drawn_for asks word)).outcome ≡ holds_in → ⊥
