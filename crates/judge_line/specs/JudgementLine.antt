-- The line of a judgement. (Document 01, "Sheet and graph bytes", last paragraph, and "The desk's cases".)
-- Assumes nothing.
use Rattle.std.specs.Prelude.{ℕ, List, [], ◌∷◌, ◌++◌}
use Rattle.claims.specs.Bytes.{text}
use Rattle.claims.specs.Printed.{decimal, spaced}
use Rattle.claims.specs.Refusals.{number, Result, ok, refused}
use Rattle.claims.specs.Judgement.{Outcome, holds_in, breaks_at, breaks_from, Judgement}

-- `line`, the first broken line or 0, and whether the claim holds, with the event or pair that breaks it ("Sheet and graph bytes")
abbrev pub outcome_line : ℕ → Outcome → List ℕ
outcome_line l holds_in = (text "line " ++ decimal l) ++ (text " holds" ++ (10 ∷ []))
outcome_line l (breaks_at e) = (text "line " ++ decimal l) ++ (text " breaks " ++ (decimal e ++ (10 ∷ [])))
outcome_line l (breaks_from x y) =
    (text "line " ++ decimal l) ++ (text " breaks " ++ (decimal x ++ (32 ∷ (decimal y ++ (10 ∷ [])))))

-- the line of what the judge gives: of a judgement, or `refusal`, number, `line`, place ("The desk's cases")
abbrev pub judgement_line : Result Judgement → List ℕ
judgement_line (ok j) = outcome_line j.line j.outcome
judgement_line (refused r) =
    text "refusal" ++ (spaced (number r.cause ∷ []) ++ (text " line" ++ (spaced (r.place ∷ []) ++ (10 ∷ []))))
