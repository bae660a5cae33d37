-- The second demand, about the calls `search::search` and `graph::judge`, for every text, every allowance, every lent memory and every
-- graph: the outcome of a search is the one that the words of the claim fix, and a judgement is the relational meaning, each way round. It
-- speaks of an answer of a call as that call's contract has it: `SearchGives text allowance before r after` is what `search::search` ensures of its
-- outcome r and of what it leaves, and `result_of r ≡ judge_call text graph` is what `graph::judge` ensures of its answer r. (Document 01,
-- "Words", "Standings", "Sheet and graph bytes", last paragraph, and "Refusals with an example each".)
-- Assumes nothing.
use Rattle.std.specs.Prelude.{ℕ, ◌≡◌, ◌↔◌, List}
use Rattle.claims.specs.Refusals.{Refusal, ok, refused}
use Rattle.claims.specs.Reading.{read}
use Rattle.claims.specs.Judgement.{Judgement}
use Rattle.claims.specs.Calls.{Lent, judge_call}
use Rattle.search_outcomes.specs.Outcomes.{Outcome, Says, SearchGives}
use Rattle.search_outcomes.specs.ByWords.{SearchedByWords}
use Rattle.graph.specs.Answers.{result_of, Answer}
use Rattle.graph.specs.Meanings.{IsMeaning}

-- the second demand: the search of a query with a claim has the outcome that the words fix; what the reader refuses is refused so, and nothing
-- that was lent is changed; the judge answers a judgement exactly where it is the meaning of the graph
pub record SecondDemand : Type 0 where
  pub searched : (text : List ℕ) (allowance : ℕ) (before after : Lent) (r : Outcome) → SearchGives text allowance before r after
      → SearchedByWords text allowance before after r
  pub unread : (text : List ℕ) (allowance : ℕ) (before after : Lent) (r : Outcome) → SearchGives text allowance before r after
      → (why : Refusal) → read text ≡ refused why → Says (refused why) r × (after ≡ before)
  pub judged : (text graph : List ℕ) (r : Answer) → result_of r ≡ judge_call text graph
      → (j : Judgement) → (result_of r ≡ ok j) ↔ IsMeaning text graph j
