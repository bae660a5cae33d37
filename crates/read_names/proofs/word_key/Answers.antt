-- `read_names::word_key` meets its contract. Behind the last word stands the key of no bytes.
-- Assumes nothing.
use Rattle.std.proofs.Common.{rules}
use Rattle.read_names.proofs.Keys.{word_key_behind}
use Rattle.read_names.proofs.word_key.Goals as goal

pub returns-in-None : goal.returns-in-None
returns-in-None c = word_key_behind c.args.n (search rules)
