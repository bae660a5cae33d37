-- `read_tokens::word_byte` meets its contract. A letter by `letter`, or a digit.
-- Assumes nothing.
use Rattle.std.proofs.Common.{rules, ap₂, ◌||◌}
use Rattle.read_tokens.specs.Scan.{word_byte}
use Rattle.read_tokens.proofs.word_byte.Goals as goal

pub returns : goal.returns
unfolding word_byte
returns c = ap₂ ◌||◌ c.letter.ensures (search rules)
