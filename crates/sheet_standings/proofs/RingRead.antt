-- From the bytes of a ring standing's field to its cells: the contents are a standing exactly where the cells fit, namely the one that they
-- show; cells that fit are good. (Document 01, "Sheet and graph bytes".) The head takes in the two bytes of the field's length, which is 266;
-- row j of a table is the number of its four bytes, which is a cell.
-- Assumes nothing.
use Prim.Native.Nat.{ℕ, zero, suc, ◌+◌, ◌*◌, ◌^◌, ◌≤◌, ◌<◌}
use native.Mathlib.Nat.{zero-mul, suc-mul}
use native.Mathlib.Omega.{arith}
use mathlib.Core.Path.{◌≡◌, refl, sym, ◌∙◌, ap, ap₂}
use mathlib.Core.Bool.{true, ◌&&◌}
use mathlib.Core.List.{List, [], ◌∷◌}
use mathlib.Core.Option.{Option}
use lib.Dec.{eqb, ltb, leb}
use lib.ListN.{length, get_or, take, drop}
use lib.Seq.{take-take, drop-drop, get_or-take, get_or-drop}
use Rattle.kat.specs.Tables.{occurrences}
use Rattle.claims.specs.Fields.{provided, from_bytes, number_set}
use Rattle.claims.specs.SheetBytes.{contents_length}
use Rattle.claims.specs.SheetReading.{set_of, set_fits, row_numbers, rows_pass, row_of_m, row_of_n, table_of, ring_of}
use Rattle.claims.specs.SheetWriting.{AllBytes}
use Rattle.claims.specs.Sides.{Decision}
use Rattle.claims.specs.Standings.{Ring}
use Rattle.claims.specs.Width.{width, row_length}
use Rattle.memory.specs.Memory.{words}
use Rattle.memory.proofs.Words.{words_ext}
use Rattle.fields.specs.Places.{cell_at}
use Rattle.sheet_standings.specs.Layout.{cell_count, cell_start, standing_cells, wide}
use Rattle.sheet_standings.specs.RingCells.{head_cell, first_in, flag_in, row_m, row_n, ring_fits, ring_shown}
use Rattle.sheet_standings.specs.CellSystem.{cells_fit}
use Rattle.sheet_standings.specs.Good.{GoodCells}
use Rattle.sheet_standings.proofs.CellBytes.{byte_small, part_length, cell_fits, two_cells, cells_length, cells_at_lem, cells_small}
use Rattle.sheet_standings.proofs.RingRows.{rows_m_lem, rows_n_lem}

-- a part of a part
part_of_part : (k i m : ℕ) (xs : List ℕ) → i + k ≤ m → take k (drop i (take m xs)) ≡ take k (drop i xs)
part_of_part k zero m xs h = take-take k m xs (omega arith)
part_of_part k (suc i) zero xs h = absurd (omega arith)
part_of_part k (suc i) (suc m) [] h = refl
part_of_part k (suc i) (suc m) (x ∷ xs) h = part_of_part k i m xs (omega arith)

-- row j is the number of its bytes
rows_count : (b n : ℕ) (xs : List ℕ) → length (row_numbers b n xs) ≡ n
unfolding row_numbers
rows_count b zero xs = refl
rows_count b (suc n) xs = ap suc (rows_count b n (drop b xs))

row_number : (b n : ℕ) (xs : List ℕ) (j : ℕ) → j < n → get_or (row_numbers b n xs) j 0 ≡ from_bytes 0 (take b (drop (j * b) xs))
unfolding row_numbers
row_number b zero xs j h = absurd (omega arith)
row_number b (suc n) xs zero h = ap (λ i. from_bytes 0 (take b (drop i xs))) (sym (zero-mul b))
row_number b (suc n) xs (suc j) h =
    let z : b + j * b ≡ suc j * b = omega (arith, suc-mul j b) in
    row_number b n (drop b xs) j (omega arith)
    ∙ ap (λ ys. from_bytes 0 (take b ys)) (drop-drop (j * b) b xs ∙ ap (λ i. drop i xs) z)

-- four bytes by their weights
four : (xs : List ℕ) → length xs ≡ 4
    → from_bytes 0 xs ≡ get_or xs 0 0 * 16777216 + get_or xs 1 0 * 65536 + get_or xs 2 0 * 256 + get_or xs 3 0
unfolding from_bytes
four (a ∷ b ∷ c ∷ d ∷ []) h = omega arith
four [] h = absurd (omega arith)
four (a ∷ []) h = absurd (omega arith)
four (a ∷ b ∷ []) h = absurd (omega arith)
four (a ∷ b ∷ c ∷ []) h = absurd (omega arith)
four (a ∷ b ∷ c ∷ d ∷ e ∷ xs) h = absurd (omega arith)

module _ (bs : List ℕ) (at : ℕ) (all : AllBytes bs) (room : at + 269 ≤ length bs) (high : get_or bs (at + 1) 0 ≡ 1)
    (low : get_or bs (at + 2) 0 ≡ 10) where
  abbrev cells : List ℕ
  cells = standing_cells true bs at

  abbrev contents : List ℕ
  contents = take 266 (drop (at + 3) bs)

  count : length cells ≡ 67
  unfolding standing_cells cell_count cell_start
  count = cells_length bs (at + 1) 67

  cell : (j : ℕ) → j < 67 → get_or cells j 0 ≡ cell_at bs (at + 1 + 4 * j)
  unfolding standing_cells cell_count cell_start
  cell j h = cells_at_lem bs (at + 1) 67 j h

  -- a byte of the contents
  byte : (i j : ℕ) → i < 266 → at + 3 + i ≡ j → get_or contents i 0 ≡ get_or bs j 0
  byte i j h e = get_or-take 266 (drop (at + 3) bs) i 0 h ∙ get_or-drop (at + 3) bs i 0 ∙ ap (λ k. get_or bs k 0) e

  -- the head
  head_read : get_or cells 0 0 ≡ head_cell (get_or bs (at + 3) 0) (get_or bs (at + 4) 0)
  unfolding head_cell
  head_read =
      let z : at + 1 + 4 * 0 ≡ at + 1 = omega arith in
      let quad : List ℕ = take 4 (drop (at + 1) bs) in
      cell 0 (omega arith) ∙ ap (cell_at bs) z ∙ cell_fits bs (at + 1) (omega arith) ∙ four quad (part_length 4 (at + 1) bs (omega arith))
      ∙ omega (
        arith,
        at_byte 0 (at + 1) (omega arith) (omega arith) ∙ high,
        at_byte 1 (at + 2) (omega arith) (omega arith) ∙ low,
        at_byte 2 (at + 3) (omega arith) (omega arith),
        at_byte 3 (at + 4) (omega arith) (omega arith),
      )
    where
      at_byte : (i j : ℕ) → i < 4 → at + 1 + i ≡ j → get_or (take 4 (drop (at + 1) bs)) i 0 ≡ get_or bs j 0
      at_byte i j h e = get_or-take 4 (drop (at + 1) bs) i 0 h ∙ get_or-drop (at + 1) bs i 0 ∙ ap (λ k. get_or bs k 0) e

  first_read : first_in cells ≡ get_or bs (at + 3) 0
  unfolding first_in head_cell
  first_read =
      omega (arith, head_read, byte_small bs all (at + 3), byte_small bs all (at + 4))

  flag_read : flag_in cells ≡ get_or bs (at + 4) 0
  unfolding flag_in head_cell
  flag_read =
      omega (arith, head_read, byte_small bs all (at + 3), byte_small bs all (at + 4))

  -- P
  P-read : from_bytes 0 (take 8 (drop 2 contents)) ≡ wide cells 1
  unfolding wide
  P-read =
      let z : at + 3 + 2 ≡ at + 1 + 4 * 1 = omega arith in
      let y : at + 1 + 4 * 1 + 4 ≡ at + 1 + 4 * 2 = omega arith in
      ap (from_bytes 0) (part_of_part 8 2 266 (drop (at + 3) bs) (omega arith) ∙ ap (take 8) (drop-drop 2 (at + 3) bs))
      ∙ ap (λ i. from_bytes 0 (take 8 (drop i bs))) z ∙ two_cells bs (at + 1 + 4 * 1) (omega arith)
      ∙ ap₂ (λ c d. c * 2 ^ 32 + d) (sym (cell 1 (omega arith))) (ap (cell_at bs) y ∙ sym (cell 2 (omega arith)))

  -- a table of 32 rows from byte k of the contents on
  rows_read : (k : ℕ) (g : ℕ → ℕ) → k + 128 ≤ 266 → ((j : ℕ) → j < 32 → g j ≡ cell_at bs (at + 3 + k + j * 4))
      → row_numbers 4 32 (drop k contents) ≡ words 32 g
  rows_read k g h f =
      words_ext (row_numbers 4 32 (drop k contents)) 32 g (rows_count 4 32 (drop k contents))
      (λ j i. let z : at + 3 + (k + j * 4) ≡ at + 3 + k + j * 4 = omega arith in
      row_number 4 32 (drop k contents) j i
      ∙ ap (λ ys. from_bytes 0 (take 4 ys)) (drop-drop (j * 4) k contents)
      ∙ ap (from_bytes 0) (part_of_part 4 (k + j * 4) 266 (drop (at + 3) bs) (omega arith)
      ∙ ap (take 4) (drop-drop (k + j * 4) (at + 3) bs)) ∙ ap (λ i. from_bytes 0 (take 4 (drop i bs))) z
      ∙ sym (cell_fits bs (at + 3 + k + j * 4) (omega arith)) ∙ sym (f j i))

  M-read : row_numbers 4 32 (drop 10 contents) ≡ take 32 (drop 3 cells)
  unfolding row_m
  M-read =
      rows_read 10 (λ p. get_or cells (3 + p) 0) (omega arith) (λ j h. cell (3 + j) (omega arith) ∙ ap (cell_at bs) (omega arith))
      ∙ sym (rows_m_lem cells count)

  N-read : row_numbers 4 32 (drop 138 contents) ≡ take 32 (drop 35 cells)
  unfolding row_n
  N-read =
      rows_read 138 (λ q. get_or cells (35 + q) 0) (omega arith) (λ j h. cell (35 + j) (omega arith) ∙ ap (cell_at bs) (omega arith))
      ∙ sym (rows_n_lem cells count)

  -- the contents are a standing where the cells fit, the one that they show ("Sheet and graph bytes")
  pub ring_contents_read : (D : Decision)
      → ring_of D (take 266 (drop (at + 3) bs))
      ≡ provided (cells_fit true D.atoms (occurrences D.left) (occurrences D.right) (standing_cells true bs at))
      (ring_shown D (standing_cells true bs at))
  unfolding ring_of contents_length width row_length set_fits set_of cells_fit ring_fits
  ring_contents_read D =
      ap (λ k. by k (get_or contents 0 0) (get_or contents 1 0) (from_bytes 0 (take 8 (drop 2 contents))) (row_numbers 4 32 (drop 10 contents))
      (row_numbers 4 32 (drop 138 contents))) (part_length 266 (at + 3) bs (omega arith))
      ∙ ap₂ (λ x y. by 266 x y (from_bytes 0 (take 8 (drop 2 contents))) (row_numbers 4 32 (drop 10 contents))
      (row_numbers 4 32 (drop 138 contents)))
      (byte 0 (at + 3) (omega arith) (omega arith) ∙ sym first_read) (byte 1 (at + 4) (omega arith) (omega arith) ∙ sym flag_read)
      ∙ ap (λ p. by 266 (first_in cells) (flag_in cells) p (row_numbers 4 32 (drop 10 contents)) (row_numbers 4 32 (drop 138 contents))) P-read
      ∙ ap₂ (λ m n. by 266 (first_in cells) (flag_in cells) (wide cells 1) m n) M-read N-read
    where
      by : ℕ → ℕ → ℕ → ℕ → List ℕ → List ℕ → Option Ring
      by k first z p m n =
          provided
          (eqb k 266 && ltb first D.atoms && leb z 1 && ltb p (2 ^ occurrences D.left) && rows_pass (row_of_m (occurrences D.right)) 0 m
          && rows_pass (row_of_n (occurrences D.right)) 0 n)
          (record {
            first = first;
            Z = eqb z 1;
            P = number_set 1 (suc (occurrences D.left)) p;
            M = table_of (occurrences D.right) m;
            N = table_of (occurrences D.right) n;
          })

  -- the cells that fit are good ("Sheet and graph bytes")
  pub ring_cells_good : (D : Decision)
      → cells_fit true D.atoms (occurrences D.left) (occurrences D.right) (standing_cells true bs at) ≡ true
      → GoodCells true D (standing_cells true bs at)
  unfolding cell_count standing_cells
  ring_cells_good D e =
      record {
        size = count;
        small = cells_small bs (at + cell_start true) (cell_count true) all;
        head = λ r. head_read ∙ sym (ap₂ head_cell first_read flag_read);
        fits = e;
      }
