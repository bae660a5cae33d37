-- The line that the query program prints. (Document 01, "The desk's cases".) It uses allowance 200 and memory and a sheet buffer that
-- suffice for any answer; the allowance is given by the kind of the claim.
-- Assumes nothing.
use Rattle.std.specs.Prelude.{ℕ, ◌*◌, Bool, true, false, cond, ◌&&◌, List, [], ◌∷◌, ◌++◌, leb, replicate}
use Rattle.kat.specs.Word.{numbers}
use Rattle.notation.specs.Bytes.{text}
use Rattle.notation.specs.Width.{ring_words}
use Rattle.claims.specs.Sheets.{sheet_length}
use Rattle.notation.specs.Refusals.{Result, ok, refused, refuse, afterwards, bad_allowance}
unfoldable pub use Rattle.notation.specs.RefusalLine.{digits_before, decimal, spaced, refusal_line}
use Rattle.claims.specs.Calls.{Answer, proved_with, refuted_by, Given, searched, asked, Lent, search_call}

-- `proved` and the count, or `refuted` and the word ("The desk's cases")
unfoldable pub answer_line : Answer → List ℕ
answer_line (proved_with c) = text "proved" ++ spaced (c ∷ [])
answer_line (refuted_by w) = text "refuted" ++ spaced (numbers w)

-- the line of a result, ended by byte 10 ("The desk's cases")
unfoldable pub line_of : Result Answer → List ℕ
line_of (ok x) = answer_line x ++ (10 ∷ [])
line_of (refused r) = refusal_line r ++ (10 ∷ [])

-- the answer of a query at an allowance with its sheet, where memory and buffer suffice ("The desk's cases")
unfoldable pub answered : ℕ → List ℕ → Result Given
answered allowance bs =
    afterwards (asked bs) (λ a.
    elim (leb 1 allowance && leb allowance 4096) [ true ↦ searched a.decided allowance | false ↦ refuse bad_allowance 0 ])

-- the allowance of the query program, for path claims (false) and for ring claims (true) ("The desk's cases")
unfoldable pub program_allowance : Bool → ℕ
program_allowance ring = cond ring 200 200

-- memory, and a sheet buffer for any answer, at an allowance: the longest sheet is a ring's with as many standings ("The desk's cases")
unfoldable pub memory_for : ℕ → Lent
memory_for n =
    record {
      records = replicate n (record { P = 0; S = 0; parent = 0; letter = 0 });
      words = replicate (ring_words * n) 0;
      buffer = replicate (sheet_length (proved_with n) true) 0;
    }

-- the claim is one of rings; a query that is refused has no claim ("The desk's cases")
unfoldable pub asks_ring : List ℕ → Bool
asks_ring bs = elim (asked bs) [ ok a ↦ a.decided.ring | refused r ↦ false ]

-- what the search call gives at an allowance by the kind of the claim ("The desk's cases")
unfoldable pub program_result : (Bool → ℕ) → List ℕ → Result Answer
program_result allowance bs =
    let n : ℕ = allowance (asks_ring bs) in
    (search_call bs n (memory_for n)).result

-- the one line that the query program prints ("The desk's cases")
unfoldable pub printed : (Bool → ℕ) → List ℕ → List ℕ
printed allowance bs = line_of (program_result allowance bs)
