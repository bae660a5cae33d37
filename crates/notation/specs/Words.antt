-- Refuting words, straight from the languages. (Document 01, "Words".) This is what a verdict is about; the standings and levels
-- that find it stand in the files below, and the theorems that join them in `proofs/`.
-- Assumes nothing.
use Rattle.std.specs.Prelude.{ℕ, ◌<◌, ◌≡◌, Bool, true, false, List}
use Rattle.kat.specs.Expr.{Expr}
use Rattle.kat.specs.Lists.{member}
use Rattle.kat.specs.Word.{Word, end, at, first, last}
use Rattle.kat.specs.Language.{Lang}
use Rattle.kat.specs.Ring.{Covered, body, nothing}
use Rattle.notation.specs.Sides.{Decision}

-- a guarded word of the query, by its atoms that are not removed and the number of its relations: each atom is one of these and each
-- relation is declared ("Words")
abbrev pub Guarded : List ℕ → ℕ → Word → Type 0
Guarded live relations (end a) = member a live ≡ true
Guarded live relations (at a r w) = (member a live ≡ true) × (r < relations) × Guarded live relations w

-- path claims: the word isn't a right word. Ring claims: its first and last atoms are equal and no rotation of it, repeated n
-- times, n at least 0, is a right word. ("Words")
abbrev pub Uncovered : Bool → Expr → Word → Type 0
Uncovered false R w = Lang R w → ⊥
Uncovered true R w = (first w ≡ last w) × (Covered R (first w) (body nothing w) → ⊥)

-- a left word that is not covered ("Words")
abbrev pub Refutes : Decision → Word → Type 0
Refutes D w = Guarded D.live D.relations w × Lang D.left w × Uncovered D.ring D.right w
