-- What an expression can still read after one of its relation occurrences, up to its end. (Document 01, "Standings".) It is told by the
-- expression and the meaning of its parts alone, on the places of a word as the language is: no table of what may come first, last or
-- next is looked at.
-- Assumes nothing.
use Rattle.std.specs.Prelude.{ℕ, suc, ◌+◌, ◌≡◌, ◌⊎◌}
use Rattle.kat.specs.Expr.{Expr, step, test, alt, seq, plus}
use Rattle.kat.specs.Graph.{Rel, Plus}
use Rattle.kat.specs.Word.{Word}
use Rattle.kat.specs.Language.{places}
use Rattle.kat.specs.Tables.{occurrences}

-- E, whose occurrences are numbered from k + 1 on in written order, can still read what lies between the places u and v and then end, where
-- its occurrence p was read last: a step that was read is at its end; a sequence still reads the rest of its left part and then its right
-- part, or the rest of its right part; `+` still reads the rest of a round, and no more rounds or whole ones ("Standings")
abbrev pub Rest : Expr → ℕ → ℕ → Word → Word → Type 0
Rest (step s) k p u v = (p ≡ suc k) × (u ≡ v)
Rest (test s) k p u v = ⊥
Rest (alt e f) k p u v = Rest e k p u v ⊎ Rest f (k + occurrences e) p u v
Rest (seq e f) k p u v = ((z : Word) × Rest e k p u z × Rel places f z v) ⊎ Rest f (k + occurrences e) p u v
Rest (plus e) k p u v = (z : Word) × Rest e k p u z × ((z ≡ v) ⊎ Plus (Rel places e) z v)
