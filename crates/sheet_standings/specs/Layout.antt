-- Where the standings of a part lie in a sheet, and what their cells are. (Document 01, "Sheet and graph bytes".) A cell is a number of four
-- bytes. A path standing is PATH-CELLS of them: P in two, S in two. A ring standing is CELLS: the two bytes of its field's length with the
-- first atom and Z, then P in two, then the rows of M and the rows of N. So two standings are equal where their cells are. The same numbers have
-- the same names in the code.
-- Assumes nothing.
use Rattle.std.specs.Prelude.{ℕ, suc, ◌+◌, ◌*◌, ◌/◌, ◌%◌, ◌^◌, Bool, cond, List, [], ◌∷◌, get_or}
use Rattle.fields.specs.Places.{cells_at}
use Rattle.layout.specs.Layout.{HEADER, PATH-FIELD, RING-FIELD}

-- the numbers of a cell are below this
abbrev pub CELL : ℕ
CELL = 2 ^ 32

-- the cells of a path standing
abbrev pub PATH-CELLS : ℕ
PATH-CELLS = 4

-- where the rows of M begin in a ring standing, where the rows of N begin, and how many cells it is
abbrev pub M-AT : ℕ
M-AT = 3

abbrev pub N-AT : ℕ
N-AT = 35

abbrev pub CELLS : ℕ
CELLS = 67

-- how many cells a standing is ("Sheet and graph bytes")
unfoldable pub cell_count : Bool → ℕ
cell_count ring = cond ring CELLS PATH-CELLS

-- how many bytes its field is ("Sheet and graph bytes")
unfoldable pub field_length : Bool → ℕ
field_length ring = cond ring RING-FIELD PATH-FIELD

-- where in its field its cells begin ("Sheet and graph bytes")
unfoldable pub cell_start : Bool → ℕ
cell_start ring = cond ring 1 HEADER

-- the cells of the standing whose field begins at place at ("Sheet and graph bytes")
unfoldable pub standing_cells : Bool → List ℕ → ℕ → List ℕ
standing_cells ring bs at = cells_at bs (at + cell_start ring) (cell_count ring)

-- the cells of standing i of a part whose standings begin at place base ("Sheet and graph bytes")
unfoldable pub listed_cells : Bool → List ℕ → ℕ → ℕ → List ℕ
listed_cells ring bs base i = standing_cells ring bs (base + field_length ring * i)

-- a word of 64 bits as two cells, and the word that cells i and i + 1 are
unfoldable pub halves : ℕ → List ℕ
halves w = w / CELL ∷ w % CELL ∷ []

unfoldable pub wide : List ℕ → ℕ → ℕ
wide c i = get_or c i 0 * CELL + get_or c (suc i) 0
