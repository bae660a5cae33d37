-- What a drawn graph is evidence of: the judge, given its bytes, answers that it meets the query's assumptions and that the claim does not hold in
-- it. (Document 01, "Sheet and graph bytes", last paragraph.)
-- Assumes nothing.
use Rattle.std.specs.Prelude.{ℕ, ◌≡◌, List}
use Rattle.claims.specs.Refusals.{ok}
use Rattle.claims.specs.Calls.{judge_call}
use Rattle.claims.specs.Judgement.{holds_in, Judgement}

-- the bytes are judged for the query that the text is: line 0, and a broken claim ("Sheet and graph bytes")
pub record JudgedToBreak (text graph : List ℕ) : Type 0 where
  pub judged : Judgement
  pub answers : judge_call text graph ≡ ok judged
  pub meets : judged.line ≡ 0
  pub breaks : judged.outcome ≡ holds_in → ⊥
