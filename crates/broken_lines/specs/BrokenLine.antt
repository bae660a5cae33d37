-- The first line that a graph breaks, by its judgement. (Document 01, "Sheet and graph bytes", last paragraph.)
-- Assumes nothing.
use Rattle.std.specs.Prelude.{ℕ, Ok, Err}
use Rattle.graph.specs.declared.Judged.TheVariants.{Holds, BreaksAt, BreaksFrom}
use Rattle.graph.specs.Answers.{Answer}

-- the line that the judgement names; a graph that is refused counts as breaking line 4,097, which no query has
unfoldable pub broken_line : Answer → ℕ
broken_line (Ok (Holds l)) = l
broken_line (Ok (BreaksAt l e)) = l
broken_line (Ok (BreaksFrom l x y)) = l
broken_line (Err e) = 4097
