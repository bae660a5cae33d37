-- What a query gives to be decided, line by line, and the test of refusal 8. (Document 01, "Refusals with an example each" and "Standings",
-- Limits.) Each is a claim over a query, placed at a line; the only one is the query's own claim. 8 is at the first line whose claim is
-- over the limits.
-- Assumes nothing.
use Rattle.std.specs.Prelude.{ℕ, suc, true, false, List, [], ◌∷◌, ◌++◌, map}
use Rattle.std.proofs.Math.Option.{Option, some, none}
use Rattle.notation.specs.Tree.{Claim, Line}
use Rattle.notation.specs.Query.{Query, claims_of}
use Rattle.notation.specs.Counting.{within_limits}

-- a claim that is to be decided over a query, and the line where it stands ("Refusals with an example each")
pub record ToDecide : Type 0 where
  pub line : ℕ
  pub over : Query
  pub claim : Claim

-- a claim of the query, at line n ("Refusals with an example each")
abbrev pub claim_at : Query → ℕ → Claim → ToDecide
claim_at q n c = record { line = n; over = q; claim = c }

-- what the lines from line n on give to be decided over q, in their order ("Refusals with an example each")
unfoldable pub decisions_from : Query → ℕ → List Line → List ToDecide
decisions_from q n [] = []
decisions_from q n (l ∷ ls) = map (claim_at q n) (claims_of l) ++ decisions_from q (suc n) ls

-- all that a query gives to be decided, lowest line first ("Refusals with an example each")
unfoldable pub decisions : Query → List ToDecide
decisions q = decisions_from q 1 q

-- the line of the first that is over the limits ("Refusals with an example each")
unfoldable pub first_over : List ToDecide → Option ℕ
first_over [] = none
first_over (d ∷ ds) = elim (within_limits d.over d.claim) [ true ↦ first_over ds | false ↦ some d.line ]

-- the last of them: the claim, which is the last line ("The query")
unfoldable pub last_of : List ToDecide → Option ToDecide
last_of [] = none
last_of (d ∷ []) = some d
last_of (d ∷ e ∷ ds) = last_of (e ∷ ds)
