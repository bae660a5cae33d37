-- The fields of a case: a number in decimal digits, and bytes in hex; and bytes put into memory as far as there is room.
-- Assumes nothing.
use Rattle.std.specs.Prelude.{ℕ, ◌+◌, ◌-◌, ◌*◌, min, ◌≡◌, Bool, false, cond, List, [], ◌∷◌, eqb, ltb, length}
use Rattle.std.proofs.lemmas.List.Edits.{sets}
use Rattle.case_lines.specs.Escapes.{within, hex_byte}

-- the digits at the start of a text
unfoldable pub digits_in : List ℕ → List ℕ
digits_in [] = []
digits_in (b ∷ bs) = cond (within 48 57 b) ((b - 48) ∷ digits_in bs) []

-- a number with one more digit; one over 1,000,000,000 stays as it is
unfoldable pub with_digit : ℕ → ℕ → ℕ
with_digit v d = cond (ltb 1000000000 v) v (10 * v + d)

-- a number with more digits
unfoldable pub with_digits : ℕ → List ℕ → ℕ
with_digits v [] = v
with_digits v (d ∷ ds) = with_digits (with_digit v d) ds

-- a `-` stands for no bytes
unfoldable pub no_bytes : List ℕ → Bool
no_bytes [] = false
no_bytes (b ∷ bs) = eqb b 45

-- the bytes of two hex digits each, up to a space
unfoldable pub hex_pairs : List ℕ → List ℕ
hex_pairs [] = []
hex_pairs (a ∷ []) = []
hex_pairs (a ∷ b ∷ bs) = cond (eqb a 32) [] (hex_byte a b ∷ hex_pairs bs)

-- the bytes in hex at the start of a text
abbrev pub hex_bytes : List ℕ → List ℕ
hex_bytes bs = cond (no_bytes bs) [] (hex_pairs bs)

-- after the bytes bs were put into `before` from place `at` on, as many as there is room for, the memory is `after` and the next place `to`
pub record Puts (before : List ℕ) (at : ℕ) (bs : List ℕ) (to : ℕ) (after : List ℕ) : Type 0 where
  pub memory : after ≡ sets before at bs
  pub next : to ≡ at + min (length bs) (length before - at)
