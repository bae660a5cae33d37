-- What an answer of the judge means: the text is a query with a claim, the bytes are an execution graph of it, and of that graph the answer says
-- what the relational meaning says: which line is the first that it does not meet, whether the claim holds, and the lowest event or pair that
-- breaks it. (Document 01, "Sheet and graph bytes", last paragraph.)
-- Assumes nothing.
use Rattle.std.specs.Prelude.{ℕ, ◌≡◌, List, length}
use Rattle.std.proofs.Math.Option.{some}
use Rattle.kat.specs.Graph.{graph}
use Rattle.claims.specs.Tree.{Claim}
use Rattle.claims.specs.Query.{Query, atoms, relations}
use Rattle.claims.specs.Refusals.{ok}
use Rattle.claims.specs.Reading.{read, claim_of}
use Rattle.claims.specs.GraphBytes.{Listed, graph_in, finite}
use Rattle.claims.specs.Judgement.{Judgement}
use Rattle.claims.specs.Judgements.{JudgementIsMeaning}
use Rattle.claims.specs.Meaning.{Execution}

-- the judgement is the meaning of the graph that the bytes are ("Sheet and graph bytes")
pub record IsMeaning (text bytes : List ℕ) (j : Judgement) : Type 0 where
  pub query : Query
  pub claim : Claim
  pub listed : Listed
  pub reads : read text ≡ ok query
  pub claims : claim_of query ≡ some claim
  pub lists : graph_in (record { atoms = atoms query; relations = length (relations query) }) bytes ≡ ok listed
  pub execution : Execution (graph (finite listed)) query
  pub meaning : JudgementIsMeaning (finite listed) query claim j
