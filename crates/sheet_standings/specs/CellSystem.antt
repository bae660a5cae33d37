-- The kind of standing that the sheet check runs on: lists of cells, by the kind of the claim, the number of right occurrences, the live
-- atoms, the number of relations, and the tables of the two sides. (Document 01, "Standings".) `proofs/` shows that it is the kind of standing of
-- the decision, so that the same sheets pass.
-- Assumes nothing.
use Rattle.std.specs.Prelude.{ℕ, Bool, true, false, not, cond, List, eqb}
use Rattle.claims.specs.Bytes.{same}
use Rattle.claims.specs.Sides.{Decision}
use Rattle.claims.specs.Standings.{System, Letter, system_of}
use Rattle.bits.specs.Sets.{members}
use Rattle.standings.specs.Steps.{alone_words}
use Rattle.sheet_standings.specs.Layout.{wide}
use Rattle.sheet_standings.specs.PathCells.{path_begin, path_onward, path_finals, path_fits, path_shown}
use Rattle.sheet_standings.specs.RingCells.{ring_begin, ring_onward, ring_finals, ring_fits, ring_shown}

-- P of a standing ("Standings")
unfoldable pub left_set : Bool → List ℕ → ℕ
left_set ring s = wide s (cond ring 1 0)

-- the cells are a standing that a sheet may list: nothing in them is too large ("Sheet and graph bytes")
unfoldable pub cells_fit : Bool → ℕ → ℕ → ℕ → List ℕ → Bool
cells_fit ring atoms l r s = elim ring [ false ↦ path_fits l r s | true ↦ ring_fits atoms l r s ]

-- the standing that the cells show, of a path claim (false) or of a ring claim (true) ("Standings")
abbrev pub cells_show : (ring : Bool) (D : Decision) → List ℕ → (system_of ring D).Standing
cells_show false D = path_shown D
cells_show true D = ring_shown D

module _ (ring : Bool) (n live relations : ℕ) (left right : List ℕ) where
  -- the standing of a prefix of one relation ("Standings")
  unfoldable pub begin_cells : Letter → List ℕ
  begin_cells l = elim ring [ false ↦ path_begin left right l | true ↦ ring_begin left right l ]

  -- one letter on ("Standings")
  unfoldable pub onward_cells : List ℕ → Letter → List ℕ
  onward_cells s l = elim ring [ false ↦ path_onward left right s l | true ↦ ring_onward left right s l ]

  -- the atoms with which it completes a refuting word, rising ("Standings")
  unfoldable pub finals_cells : List ℕ → List ℕ
  finals_cells s = elim ring [ false ↦ path_finals left right live s | true ↦ ring_finals left right n live s ]

  -- the kind of standing; a left occurrence is possible where P is not empty ("Standings")
  abbrev pub cell_system : System
  cell_system =
      record {
        Standing = List ℕ;
        equal = same;
        begin = begin_cells;
        onward = onward_cells;
        possible = λ s. not (eqb (left_set ring s) 0);
        finals = finals_cells;
        alone = alone_words left right live;
        live = members live;
        relations = relations;
      }
