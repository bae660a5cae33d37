-- What a walk over the codes of a query keeps of its lets: how many there were, and a number for each.
-- Assumes nothing.
use Rattle.std.specs.Prelude.{ℕ, cond, List, eqb, ltb, set}
use Rattle.codes.specs.Codes.{LET-LINE, MOST-LETS}

-- a number for each let, let n being the next: a let line puts x there
unfoldable pub kept : List ℕ → ℕ → ℕ → ℕ → List ℕ
kept ls k n x = cond (eqb k LET-LINE) (cond (ltb n MOST-LETS) (set ls n x) ls) ls
