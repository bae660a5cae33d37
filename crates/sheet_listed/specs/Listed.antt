-- Whether the standings one letter on are listed, as the sheet check asks it: from a standing, or from nothing read, over the atoms of the
-- mask of each relation. (Document 01, "Sheet and graph bytes".) `sheet_proves` shows that these are the letters that have to be tried.
-- Assumes nothing.
use Rattle.std.specs.Prelude.{ℕ, ◌+◌, ◌*◌, ◌≤◌, ◌<◌, Bool, true, false, cond, not, ◌&&◌, ◌||◌, List, map, eqb, length, get_or}
use Rattle.kat.specs.Lists.{upto, some, every}
use Rattle.claims.specs.Bytes.{same}
use Rattle.claims.specs.Standings.{Letter}
use Rattle.bits.specs.Sets.{members}
use Rattle.query.specs.declared.Facts.{Facts}
use Rattle.sheet_standings.specs.Layout.{field_length, listed_cells, CELL}
use Rattle.sheet_standings.specs.CellSystem.{left_set, begin_cells, onward_cells}
use Rattle.sheet_index.specs.Index.{Indexed}
use Rattle.layout.specs.Layout.{MOST-STANDINGS}

-- n standings lie in the sheet from place base on, and the index is theirs ("Sheet and graph bytes")
abbrev pub Ready : Bool → List ℕ → ℕ → ℕ → List ℕ → List ℕ → Type 0
Ready ring bs base n heads chain =
    Indexed heads chain (listed_cells ring bs base) n × (n ≤ MOST-STANDINGS) × (base + field_length ring * n ≤ length bs)

-- the standings listed ("Sheet and graph bytes")
unfoldable pub part_cells : Bool → List ℕ → ℕ → ℕ → List (List ℕ)
part_cells ring bs base n = map (listed_cells ring bs base) (upto 0 n)

-- each cell has four bytes ("Sheet and graph bytes")
abbrev pub Small : List ℕ → Type 0
Small s = (i : ℕ) → get_or s i 0 < CELL

-- the standing is listed, or no left occurrence is possible ("Sheet and graph bytes")
unfoldable pub listed_among : Bool → List (List ℕ) → List ℕ → Bool
listed_among ring css s = not (not (eqb (left_set ring s) 0)) || some (same s) css

-- the atoms to try before relation r: in a ring claim all live ones at level 1 ("Standings")
unfoldable pub atoms_tried : Facts → Bool → List ℕ → ℕ → ℕ
atoms_tried f first masks r = cond (first && f.ring) f.live (get_or masks r 0)

-- the standing one letter on: of a prefix of one relation (true), or behind the standing s ("Standings")
unfoldable pub stepped : Bool → List ℕ → List ℕ → Bool → List ℕ → Letter → List ℕ
stepped ring left right first s l =
    elim first [ true ↦ begin_cells ring 0 0 0 left right l | false ↦ onward_cells ring 0 0 0 left right s l ]

module _ (ring : Bool) (left right : List ℕ) (css : List (List ℕ)) (first : Bool) (s : List ℕ) where
  -- it is listed ("Sheet and graph bytes")
  unfoldable pub letter_listed : ℕ → ℕ → Bool
  letter_listed r a = listed_among ring css (stepped ring left right first s (record { atom = a; relation = r }))

  -- so with each atom of a mask ("Sheet and graph bytes")
  unfoldable pub atoms_listed : ℕ → ℕ → Bool
  atoms_listed r mask = every (letter_listed r) (members mask)

module _ (f : Facts) (left right : List ℕ) (css : List (List ℕ)) (first : Bool) (s masks : List ℕ) where
  -- so with each atom that is tried before relation r ("Sheet and graph bytes")
  unfoldable pub relation_listed : ℕ → Bool
  relation_listed r = atoms_listed f.ring left right css first s r (atoms_tried f first masks r)

  -- so for each relation ("Sheet and graph bytes")
  unfoldable pub letters_listed : Bool
  letters_listed = every relation_listed (upto 0 f.relations)
