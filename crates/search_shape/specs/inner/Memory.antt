-- The lent memory in rows of four numbers, and whether it is enough. (Document 01, "Standings", last paragraph, and "Refusals with an example each", 9.)
-- Assumes nothing.
use Rattle.std.specs.Prelude.{ℕ, ◌*◌, Bool, true, false, List, map, leb, length, get_or}
use Rattle.claims.specs.Calls.{Slot, Lent}
use Rattle.layout.specs.Layout.{RING-WORDS}

-- the memory of the claim's kind has room for the allowance: a record, or RING-WORDS words, for each standing ("Standings")
unfoldable pub room_for : Bool → ℕ → List (List ℕ) → List ℕ → Bool
room_for ring allowance r w = elim ring [ false ↦ leb allowance (length r) | true ↦ leb (RING-WORDS * allowance) (length w) ]

-- a row of four numbers, as a record of the working memory ("Standings")
unfoldable pub row_slot : List ℕ → Slot
row_slot r = record { P = get_or r 0 0; S = get_or r 1 0; parent = get_or r 2 0; letter = get_or r 3 0 }

-- what is lent, with the records as rows ("Refusals with an example each")
unfoldable pub lent_rows : List (List ℕ) → List ℕ → List ℕ → Lent
lent_rows r w b = record { records = map row_slot r; words = w; buffer = b }
