-- The line of what the code answers to a query, which `proofs/Shown.antt` shows to be that of the reading.
-- Assumes nothing.
use Rattle.std.specs.Prelude.{ℕ, List, [], ◌∷◌, ◌++◌, Ok, Err}
use Rattle.claims.specs.Printed.{refusal_line}
use Rattle.refusals.specs.Causes.{cause_of}
use Rattle.query.specs.Answer.{Answer}
use Rattle.reading_line.specs.Shown.{accepted_line}

-- by the case of the answer
unfoldable pub answer_line : Answer → List ℕ
answer_line (Ok f) = accepted_line f.ring f.left f.right
answer_line (Err e) = refusal_line (record { cause = cause_of e.why; place = e.place }) ++ (10 ∷ [])
