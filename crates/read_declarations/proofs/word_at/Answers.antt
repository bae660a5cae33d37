-- `read_declarations::word_at` meets its contract, by the token that is found.
-- Assumes nothing.
use Rattle.read_bodies.specs.Bodies.{word_of}
use Rattle.read_bodies.proofs.NextWords.{no_word}
use Rattle.read_declarations.proofs.LineEnds.{no_key}
use mathlib.Core.Path.{sym, ap, ◌∙◌}
use borrow.Enum.Refused.{opened as unsealed}
use Rattle.read_declarations.proofs.word_at.Goals as goal

pub returns-in_default : goal.returns-in_default
returns-in_default c =
    let t = c.token_at-t in
    no_key _ _ t.result t.ensures (no_word t.result (unsealed c.in_default.in_default-own.keys2))

pub returns : goal.returns
unfolding word_of
returns c = ap word_of (sym c.in-Word.is ∙ c.token_at-t.ensures)
