-- The bytes that a line of stored cases stands for. (vectors/README.md) `\\` is a backslash, `\n` byte 10, `\xHH` the byte of two lowercase
-- hex digits, and any other byte itself. What no stored case has is taken as well: a backslash before another byte is passed over, and a
-- byte that is no digit counts as the digit 0.
-- Assumes nothing.
use Rattle.std.specs.Prelude.{ℕ, ◌+◌, ◌-◌, ◌*◌, Bool, cond, ◌&&◌, List, [], ◌∷◌, ◌++◌, eqb, leb}
use Rattle.std.specs.Int.Bits.{bit_or}
use Rattle.case_lines.specs.declared.escape.Next.{Next}
use Rattle.case_lines.specs.declared.escape.Next.TheVariants.{Plain, Escape, High, Low}

-- b is one of the bytes from lo to hi
abbrev pub within : ℕ → ℕ → ℕ → Bool
within lo hi b = leb lo b && leb b hi

-- the number of a lowercase hex digit
unfoldable pub hex_digit : ℕ → ℕ
hex_digit b = cond (within 48 57 b) (b - 48) (cond (within 97 102 b) (b - 97 + 10) 0)

-- the byte of two hex digits
abbrev pub hex_byte : ℕ → ℕ → ℕ
hex_byte a b = 16 * hex_digit a + hex_digit b

-- what comes behind a byte of the line
unfoldable pub after : Next → ℕ → Next
after Plain b = cond (eqb b 92) Escape Plain
after Escape b = cond (eqb b 120) High Plain
after High b = Low (16 * hex_digit b)
after (Low h) b = Plain

-- the bytes of the case that end with it
unfoldable pub ended : Next → ℕ → List ℕ
ended Plain b = cond (eqb b 92) [] (b ∷ [])
ended Escape b = cond (eqb b 120) [] (cond (eqb b 110) 10 b ∷ [])
ended High b = []
ended (Low h) b = bit_or h (hex_digit b) ∷ []

-- the same for several bytes of the line
unfoldable pub behind : Next → List ℕ → Next
behind n [] = n
behind n (b ∷ bs) = behind (after n b) bs

unfoldable pub meant : Next → List ℕ → List ℕ
meant n [] = []
meant n (b ∷ bs) = ended n b ++ meant (after n b) bs
