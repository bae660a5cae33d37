-- A path standing as two words: P, then S; bit p - 1 for occurrence p. (Document 01, "Standings".)
-- Assumes nothing.
use Rattle.std.specs.Prelude.{ℕ, Bool, not, ◌&&◌, List, [], ◌∷◌, get_or}
use Rattle.kat.specs.Lists.{filter}
use Rattle.claims.specs.Standings.{Letter}
use Rattle.bits.specs.Sets.{members}
use Rattle.standings.specs.Steps.{step_from, step_set, ends_set}

-- of a prefix of one relation
unfoldable pub path_begin : List ℕ → List ℕ → Letter → List ℕ
path_begin left right l =
    step_from left 0 l.atom l.relation ∷ step_from right 0 l.atom l.relation ∷ []

-- of a prefix one relation longer
unfoldable pub path_onward : List ℕ → List ℕ → List ℕ → Letter → List ℕ
path_onward left right s l =
    step_set left (get_or s 0 0) l.atom l.relation ∷ step_set right (get_or s 1 0) l.atom l.relation ∷ []

-- at atom a a left word may end and no right word
unfoldable pub path_ends : List ℕ → List ℕ → List ℕ → ℕ → Bool
path_ends left right s a = ends_set left (get_or s 0 0) a && not (ends_set right (get_or s 1 0) a)

-- the atoms with which it completes a refuting word, rising
unfoldable pub path_finals : List ℕ → List ℕ → ℕ → List ℕ → List ℕ
path_finals left right live s = filter (path_ends left right s) (members live)
