-- The printed line of a refusal, without its end. (Document 01, "The desk's cases".)
-- Assumes nothing.
use Rattle.std.specs.Prelude.{ℕ, zero, suc, ◌+◌, ◌/◌, ◌%◌, true, false, List, [], ◌∷◌, ◌++◌, ltb}
use Rattle.notation.specs.Bytes.{text}
use Rattle.notation.specs.Refusals.{Refusal, number}

-- a number in decimal digits, before what stands behind it; f bounds the number of digits ("The desk's cases")
unfoldable pub digits_before : ℕ → ℕ → List ℕ → List ℕ
digits_before zero n ds = ds
digits_before (suc f) n ds =
    elim (ltb n 10) [ true ↦ (48 + n) ∷ ds | false ↦ digits_before f (n / 10) ((48 + n % 10) ∷ ds) ]

-- a number in decimal digits ("The desk's cases")
unfoldable pub decimal : ℕ → List ℕ
decimal n = digits_before (suc n) n []

-- each number after a space ("The desk's cases")
unfoldable pub spaced : List ℕ → List ℕ
spaced [] = []
spaced (n ∷ ns) = 32 ∷ (decimal n ++ spaced ns)

-- `refusal`, number, `line`, place ("The desk's cases")
unfoldable pub refusal_line : Refusal → List ℕ
refusal_line r = text "refusal" ++ (spaced (number r.cause ∷ []) ++ (text " line" ++ spaced (r.place ∷ [])))
