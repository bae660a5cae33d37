-- Each size by name is the number that the definitions of document 01 have: whoever changes one of the two has to change the other.
-- Assumes nothing.
use Prim.Native.Nat.{ℕ, suc, ◌+◌, ◌*◌}
use mathlib.Core.Path.{◌≡◌, refl}
use mathlib.Core.Bool.{Bool, true, false}
use mathlib.Core.List.{[], ◌∷◌}
use lib.ListN.{length}
use Rattle.claims.specs.Width.{width, row_length, beside_columns, ring_words}
use Rattle.claims.specs.Tree.{Tree, irreflexive}
use Rattle.claims.specs.Counting.{right_limit}
use Rattle.claims.specs.Fields.{field, big_endian}
use Rattle.claims.specs.SheetBytes.{contents_length}
use Rattle.claims.specs.Calls.{proved_with}
use Rattle.claims.specs.Sheets.{sheet_length}
use Rattle.claims.specs.Printed.{program_allowance}
use Rattle.layout.specs.Layout.{WIDTH, MOST-RIGHT, RING-WORDS, HEADER, VERDICT, WORD-AT, PATH-CONTENTS, RING-CONTENTS, PATH-FIELD, RING-FIELD, MOST-STANDINGS, MOST-WORDS, LONGEST-SHEET, PROGRAM-ALLOWANCE}

-- the width of a ring's tables, and the memory of a ring standing
pub width_named : (WIDTH ≡ width) × (WIDTH ≡ suc MOST-RIGHT) × (RING-WORDS ≡ ring_words)
unfolding width ring_words beside_columns
width_named = (refl, refl, refl)

-- the right occurrences that a ring claim may have
pub most_right_named : (e : Tree) → MOST-RIGHT ≡ right_limit (irreflexive e)
unfolding width right_limit
most_right_named e = refl

-- the contents of a standing's field
pub contents_named : (PATH-CONTENTS ≡ contents_length false) × (RING-CONTENTS ≡ contents_length true)
unfolding width row_length contents_length
contents_named = (refl, refl)

-- the bytes of fields: of any field before its contents, of the verdict's, up to the contents of the word's, and of a standing's
pub fields_named : (t v : ℕ) → (HEADER ≡ length (field t [])) × (VERDICT ≡ length (field t (v ∷ []))) × (WORD-AT ≡ VERDICT + HEADER)
    × (PATH-FIELD ≡ HEADER + PATH-CONTENTS) × (RING-FIELD ≡ HEADER + RING-CONTENTS)
unfolding field big_endian
fields_named t v = (refl, refl, refl, refl, refl)

-- the allowance of the query program
pub allowance_named : (ring : Bool) → PROGRAM-ALLOWANCE ≡ program_allowance ring
unfolding program_allowance
allowance_named true = refl
allowance_named false = refl

-- the memory of the largest allowance, and the longest sheet
pub largest_named : (MOST-WORDS ≡ ring_words * MOST-STANDINGS) × (LONGEST-SHEET ≡ sheet_length (proved_with MOST-STANDINGS) true)
unfolding width beside_columns ring_words row_length contents_length
largest_named = (refl, refl)
