-- A path standing as 4 cells, one letter on, and what completes. (Document 01, "Standings".) P is cells 0 and 1, S cells 2 and 3; bit p - 1
-- for occurrence p.
-- Assumes nothing.
use Rattle.std.specs.Prelude.{ℕ, suc, ◌^◌, Bool, not, ◌&&◌, List, ◌++◌, ltb}
use Rattle.kat.specs.Lists.{filter}
use Rattle.kat.specs.Tables.{occurrences}
use Rattle.claims.specs.Sides.{Decision}
use Rattle.claims.specs.Standings.{Letter, Path}
use Rattle.claims.specs.Fields.{number_set}
use Rattle.bits.specs.Sets.{members}
use Rattle.standings.specs.Steps.{step_from, step_set, ends_set}
use Rattle.sheet_standings.specs.Layout.{halves, wide}

-- P and S as cells ("Standings")
unfoldable pub path_cells : ℕ → ℕ → List ℕ
path_cells P S = halves P ++ halves S

-- of a prefix of one relation ("Standings")
unfoldable pub path_begin : List ℕ → List ℕ → Letter → List ℕ
path_begin left right l = path_cells (step_from left 0 l.atom l.relation) (step_from right 0 l.atom l.relation)

-- one letter on ("Standings")
unfoldable pub path_onward : List ℕ → List ℕ → List ℕ → Letter → List ℕ
path_onward left right s l =
    path_cells (step_set left (wide s 0) l.atom l.relation) (step_set right (wide s 2) l.atom l.relation)

-- at atom a a left word may end and no right word ("Standings")
unfoldable pub path_ends : List ℕ → List ℕ → List ℕ → ℕ → Bool
path_ends left right s a = ends_set left (wide s 0) a && not (ends_set right (wide s 2) a)

-- the atoms with which it completes a refuting word, rising ("Standings")
unfoldable pub path_finals : List ℕ → List ℕ → ℕ → List ℕ → List ℕ
path_finals left right live s = filter (path_ends left right s) (members live)

-- no bit for an occurrence that its side of l or r occurrences lacks ("Sheet and graph bytes")
unfoldable pub path_fits : ℕ → ℕ → List ℕ → Bool
path_fits l r s = ltb (wide s 0) (2 ^ l) && ltb (wide s 2) (2 ^ r)

-- the standing that the cells show ("Standings")
abbrev pub path_shown : Decision → List ℕ → Path
path_shown D s =
    record {
      P = number_set 1 (suc (occurrences D.left)) (wide s 0);
      S = number_set 1 (suc (occurrences D.right)) (wide s 2);
    }
