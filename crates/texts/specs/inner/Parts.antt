-- What each kind of part of a text consists of. (Document 01, "The query".)
-- Assumes nothing.
use Rattle.std.specs.Prelude.{ℕ, Bool}
use Rattle.texts.specs.declared.PartKind.{PartKind}
use Rattle.texts.specs.declared.PartKind.TheVariants.{Line, Spaces, Word}
use Rattle.texts.specs.Lines.{in_line, is_space, in_word}

-- a byte belongs to such a part ("The query")
abbrev pub of_part : PartKind → ℕ → Bool
of_part Line = in_line
of_part Spaces = is_space
of_part Word = in_word
