-- The line that says what the reader made of a query: `refusal`, number, `line`, place; or `accepted`, the kind of the claim, and the numbers of
-- left and right occurrences. (Document 01, "The desk's cases", has the first; the second is ours.)
-- Assumes nothing.
use Rattle.std.specs.Prelude.{ℕ, Bool, cond, List, [], ◌∷◌, ◌++◌}
use Rattle.std.proofs.Math.Option.{some, none}
use Rattle.kat.specs.Tables.{occurrences}
use Rattle.claims.specs.Bytes.{text}
use Rattle.claims.specs.Query.{Query}
use Rattle.claims.specs.Sides.{Decision, decision}
use Rattle.claims.specs.Reading.{claim_of}
use Rattle.claims.specs.Refusals.{Result, ok, refused}
use Rattle.claims.specs.Printed.{spaced, refusal_line}

-- the kind of a claim
abbrev pub kind_text : Bool → List ℕ
kind_text ring = cond ring (text "ring") (text "path")

-- the line of an accepted query, ended by byte 10
unfoldable pub accepted_line : Bool → ℕ → ℕ → List ℕ
accepted_line ring left right = text "accepted " ++ (kind_text ring ++ (spaced (left ∷ right ∷ []) ++ (10 ∷ [])))

-- the line of what is to be decided
abbrev pub decision_line : Decision → List ℕ
decision_line d = accepted_line d.ring (occurrences d.left) (occurrences d.right)

-- the line of a reading; a query that was read has a claim
unfoldable pub read_line : Result Query → List ℕ
read_line (ok q) = elim (claim_of q) [ none ↦ [] | some c ↦ decision_line (decision q c) ]
read_line (refused r) = refusal_line r ++ (10 ∷ [])

-- the bytes of the longest line: two numbers of at most 20 digits, and 16 other bytes
abbrev pub LONGEST : ℕ
LONGEST = 56
