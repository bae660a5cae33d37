-- What is found of a claim, as its outcome. (Document 01, "Sheet and graph bytes": an event for `irreflexive`, a pair for the others.)
-- Assumes nothing.
use Rattle.std.specs.Prelude.{ℕ, Bool, true, false}
use Rattle.claims.specs.Judgement.{Outcome}
use Rattle.rows.specs.Outcomes.{pair_outcome, event_outcome}

-- by whether the claim is one of rings
abbrev pub outcome_of : Bool → ℕ → Outcome
outcome_of true m = event_outcome m
outcome_of false m = pair_outcome m
