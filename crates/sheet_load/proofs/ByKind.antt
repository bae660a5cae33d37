-- A standing by the kind of the claim: what a path or a ring standing gives is what the kind gives. A standing has 4 cells, or 67. And the cells of a
-- place past the sheet's end are those of its end.
-- Assumes nothing.
use Prim.Native.Nat.{ℕ, ◌+◌, ◌*◌, ◌^◌, ◌≤◌, ◌<◌, min}
use native.Mathlib.Omega.{arith}
use mathlib.Core.Path.{◌≡◌, sym, ◌∙◌, ap, ap₂, subst}
use mathlib.Core.Logic.{⊎_elim}
use mathlib.Core.Bool.{Bool, true, false, not, cond}
use mathlib.Core.List.{List, ◌++◌}
use lib.Dec.{eqb}
use lib.ListN.{length, get_or, take}
use lib.Seq.{get_or-take, take_all, take-append_seam}
use borrow.Author.Tests.{ne_eqb}
use Rattle.kat.specs.Lists.{is_empty, member, upto}
use Rattle.kat.proofs.Bools.{le_or_lt}
use Rattle.kat.proofs.Sets.{map_same}
use Rattle.claims.specs.Standings.{Letter}
use Rattle.memory.specs.Memory.{words}
use Rattle.fields.specs.Places.{cell_at, cells_at}
use Rattle.fields.proofs.Cells.{cell_past, cells_length}
use Rattle.sheet_standings.specs.Layout.{cell_count, cell_start, standing_cells, wide}
use Rattle.sheet_standings.specs.PathCells.{path_begin, path_onward, path_finals}
use Rattle.sheet_standings.specs.RingCells.{ring_begin, ring_onward, ring_finals}
use Rattle.sheet_standings.proofs.RingRows.{ring_length}
use Rattle.sheet_standings.specs.CellSystem.{begin_cells, onward_cells, finals_cells, left_set}

-- all cells of a ring standing
all_cells : (to : List ℕ) → length to ≡ 67 → take 67 to ≡ to
all_cells to h = take_all 67 to (omega (arith, h))

pub ring_begun_length : (left right to : List ℕ) (l : Letter) → to ≡ ring_begin left right l → length to ≡ 67
unfolding ring_begin
ring_begun_length left right to l h = ap length h ∙ ring_length _ _ _ _

pub ring_grown_length : (left right to from : List ℕ) (l : Letter) → to ≡ ring_onward left right from l → length to ≡ 67
unfolding ring_onward
ring_grown_length left right to from l h = ap length h ∙ ring_length _ _ _ _

module _ (ring : Bool) (left right : List ℕ) where
  pub begin_path : ring ≡ false → (to : List ℕ) (l : Letter) → take 4 to ≡ path_begin left right l
      → (n live relations : ℕ) → take (cell_count ring) to ≡ begin_cells ring n live relations left right l
  unfolding cell_count begin_cells
  begin_path e to l h n live relations = rw e h

  pub begin_ring : ring ≡ true → (to : List ℕ) (l : Letter) → length to ≡ 67 → to ≡ ring_begin left right l
      → (n live relations : ℕ) → take (cell_count ring) to ≡ begin_cells ring n live relations left right l
  unfolding cell_count begin_cells
  begin_ring e to l k h n live relations = rw e (all_cells to k ∙ h)

  pub onward_path : ring ≡ false → (to from : List ℕ) (l : Letter) → take 4 to ≡ path_onward left right (take 4 from) l
      → (n live relations : ℕ) → take (cell_count ring) to ≡ onward_cells ring n live relations left right (take (cell_count ring) from) l
  unfolding cell_count onward_cells
  onward_path e to from l h n live relations = rw e h

  pub onward_ring : ring ≡ true → (to from : List ℕ) (l : Letter) → length to ≡ 67 → length from ≡ 67 → to ≡ ring_onward left right from l
      → (n live relations : ℕ) → take (cell_count ring) to ≡ onward_cells ring n live relations left right (take (cell_count ring) from) l
  unfolding cell_count onward_cells
  onward_ring e to from l k j h n live relations =
      rw e (all_cells to k ∙ h ∙ ap (λ s. ring_onward left right s l) (sym (all_cells from j)))

-- cells of four bytes, by the kind
pub small_path : (ring : Bool) → ring ≡ false → (s : List ℕ) → ((i : ℕ) → get_or (take (cell_count ring) s) i 0 < 2 ^ 32)
    → (i : ℕ) → get_or (take 4 s) i 0 < 2 ^ 32
unfolding cell_count
small_path ring e s h i = subst (λ k. get_or (take (cond k 67 4) s) i 0 < 2 ^ 32) e (h i)

pub path_small : (ring : Bool) → ring ≡ false → (s : List ℕ) → ((i : ℕ) → get_or (take 4 s) i 0 < 2 ^ 32)
    → (i : ℕ) → get_or (take (cell_count ring) s) i 0 < 2 ^ 32
unfolding cell_count
path_small ring e s h i = subst (λ k. get_or (take (cond k 67 4) s) i 0 < 2 ^ 32) (sym e) (h i)

pub small_ring : (ring : Bool) → ring ≡ true → (s : List ℕ) → length s ≡ 67 → ((i : ℕ) → get_or (take (cell_count ring) s) i 0 < 2 ^ 32)
    → (i : ℕ) → get_or s i 0 < 2 ^ 32
unfolding cell_count
small_ring ring e s l h i =
    subst (λ t. get_or t i 0 < 2 ^ 32) (all_cells s l) (subst (λ k. get_or (take (cond k 67 4) s) i 0 < 2 ^ 32) e (h i))

pub ring_small : (ring : Bool) → ring ≡ true → (s : List ℕ) → length s ≡ 67 → ((i : ℕ) → get_or s i 0 < 2 ^ 32)
    → (i : ℕ) → get_or (take (cell_count ring) s) i 0 < 2 ^ 32
unfolding cell_count
ring_small ring e s l h i =
    subst (λ k. get_or (take (cond k 67 4) s) i 0 < 2 ^ 32) (sym e) (subst (λ t. get_or t i 0 < 2 ^ 32) (sym (all_cells s l)) (h i))

-- P is not empty
pub either_high : (high low : ℕ) → (high ≡ 0 → ⊥) → true ≡ not (eqb (high * 2 ^ 32 + low) 0)
either_high high low h = ap not (sym (ne_eqb (high * 2 ^ 32 + low) 0 (λ e. h (omega (arith, e)))))

pub either_low : (high low : ℕ) → high ≡ 0 → not (eqb low 0) ≡ not (eqb (high * 2 ^ 32 + low) 0)
either_low high low h = let z : low ≡ high * 2 ^ 32 + low = omega (arith, h) in ap (λ k. not (eqb k 0)) z

pub possible_path : (ring : Bool) → ring ≡ false → (s : List ℕ) (b : Bool) → b ≡ not (eqb (get_or s 0 0 * 2 ^ 32 + get_or s 1 0) 0)
    → b ≡ not (eqb (left_set ring (take (cell_count ring) s)) 0)
unfolding left_set cell_count wide
possible_path ring e s b h = rw e (h ∙ ap₂ (λ x y. not (eqb (x * 2 ^ 32 + y) 0)) (sym (get_or-take 4 s 0 0 (omega arith))) (sym (get_or-take 4 s 1 0 (omega arith))))

pub possible_ring : (ring : Bool) → ring ≡ true → (s : List ℕ) (b : Bool) → b ≡ not (eqb (get_or s 1 0 * 2 ^ 32 + get_or s 2 0) 0)
    → b ≡ not (eqb (left_set ring (take (cell_count ring) s)) 0)
unfolding left_set cell_count wide
possible_ring ring e s b h = rw e (h ∙ ap₂ (λ x y. not (eqb (x * 2 ^ 32 + y) 0)) (sym (get_or-take 67 s 1 0 (omega arith))) (sym (get_or-take 67 s 2 0 (omega arith))))

-- what completes
module _ (ring : Bool) (n live : ℕ) (left right : List ℕ) where
  pub completes_path : ring ≡ false → (s : List ℕ) (b : Bool) → b ≡ not (is_empty (path_finals left right live (take 4 s)))
      → (relations : ℕ) → b ≡ not (is_empty (finals_cells ring n live relations left right (take (cell_count ring) s)))
  unfolding cell_count finals_cells
  completes_path e s b h relations = rw e h

  pub completes_ring : ring ≡ true → (s : List ℕ) (b : Bool) → length s ≡ 67 → b ≡ not (is_empty (ring_finals left right n live s))
      → (relations : ℕ) → b ≡ not (is_empty (finals_cells ring n live relations left right (take (cell_count ring) s)))
  unfolding cell_count finals_cells
  completes_ring e s b k h relations = rw e (h ∙ ap (λ t. not (is_empty (ring_finals left right n live t))) (sym (all_cells s k)))

  pub with_path : ring ≡ false → (s : List ℕ) (a : ℕ) (b : Bool) → b ≡ member a (path_finals left right live (take 4 s))
      → (relations : ℕ) → b ≡ member a (finals_cells ring n live relations left right (take (cell_count ring) s))
  unfolding cell_count finals_cells
  with_path e s a b h relations = rw e h

  pub with_ring : ring ≡ true → (s : List ℕ) (a : ℕ) (b : Bool) → length s ≡ 67 → b ≡ member a (ring_finals left right n live s)
      → (relations : ℕ) → b ≡ member a (finals_cells ring n live relations left right (take (cell_count ring) s))
  unfolding cell_count finals_cells
  with_ring e s a b k h relations = rw e (h ∙ ap (λ t. member a (ring_finals left right n live t)) (sym (all_cells s k)))

four_front : (xs ys : List ℕ) → length xs ≡ 4 → take 4 (xs ++ ys) ≡ xs
four_front xs ys h = ap (λ n. take n (xs ++ ys)) (sym h) ∙ take-append_seam xs ys

-- the cells of a standing's field are those of a place in the sheet, or little behind
cells_past : (bs : List ℕ) (i j n : ℕ) → length bs ≤ i → length bs ≤ j → cells_at bs i n ≡ cells_at bs j n
unfolding cells_at words
cells_past bs i j n h k =
    map_same (λ m. cell_at bs (i + 4 * m)) (λ m. cell_at bs (j + 4 * m)) (upto 0 n)
    (λ m p. cell_past bs (i + 4 * m) (omega arith) ∙ sym (cell_past bs (j + 4 * m) (omega arith)))

module _ (bs : List ℕ) (at from : ℕ) (is : from ≡ min at (length bs)) where
  from_start : (k n : ℕ) → cells_at bs (from + k) n ≡ cells_at bs (at + k) n
  from_start k n =
      ⊎_elim (λ h. let e : from ≡ at = omega (arith, is) in ap (λ i. cells_at bs (i + k) n) e)
      (λ h. cells_past bs (from + k) (at + k) n (omega (arith, is)) (omega arith)) (le_or_lt at (length bs))

  pub loads_ring : (ring : Bool) → ring ≡ true → (to : List ℕ) → to ≡ cells_at bs (from + 1) 67 → take (cell_count ring) to ≡ standing_cells ring bs at
  unfolding cell_count standing_cells cell_start
  loads_ring ring e to h =
      rw e (ap (take 67) (h ∙ from_start 1 67) ∙ all_cells (cells_at bs (at + 1) 67) (cells_length bs (at + 1) 67))

  pub loads_path : (ring : Bool) → ring ≡ false → (to rest : List ℕ) → to ≡ cells_at bs (from + 3) 4 ++ rest
      → take (cell_count ring) to ≡ standing_cells ring bs at
  unfolding cell_count standing_cells cell_start
  loads_path ring e to rest h =
      rw e (ap (take 4) (h ∙ ap (λ c. c ++ rest) (from_start 3 4)) ∙ four_front (cells_at bs (at + 3) 4) rest (cells_length bs (at + 3) 4))
