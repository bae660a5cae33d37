-- What holds while the sheet of what the search finds is written, from its beginning to its end. (Document 01, "Sheet and graph bytes".)
-- Assumes nothing.
use Rattle.std.specs.Prelude.{ℕ, ◌≡◌, Bool, false, List}
use Rattle.search_course.specs.declared.Finding.{Finding as Found}
use Rattle.search_course.specs.declared.Finding.TheVariants.{Proved, Refuted, Spent}
use Rattle.search_writing.specs.declared.Writing.{Writing}
use Rattle.search_writing.specs.Left.{at_end, ProofStands, WordStands, proof_turns, word_turns}

-- what was found, what is left, the array in which a word is gathered, and the buffer b, which was b₀; a spent allowance has no sheet
abbrev pub Stands : Bool → List (List ℕ) → List ℕ → List ℕ → Found → Writing → List ℕ → List ℕ → Type 0
Stands ring r w b₀ (Proved n) x word b = ProofStands ring r w b₀ n x b
Stands ring r w b₀ (Refuted place a) x word b = WordStands ring r w b₀ place a x word b
Stands ring r w b₀ Spent x word b = (x ≡ at_end false 0 0) × (b ≡ b₀)

-- a bound on the standings that are still to be looked at
abbrev pub turns : Found → Writing → ℕ
turns (Proved n) x = proof_turns n x
turns (Refuted place a) x = word_turns x
turns Spent x = 0
