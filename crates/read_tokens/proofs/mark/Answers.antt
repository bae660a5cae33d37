-- `read_tokens::mark` meets its contract. A byte is looked for among the marks.
-- Assumes nothing.
use Rattle.std.proofs.Common.{◌∙◌}
use Rattle.kat.proofs.Chains.{some_contains}
use Rattle.claims.specs.Tokens.{marks}
use Rattle.read_tokens.specs.Scan.{is_mark}
use Rattle.read_tokens.proofs.mark.Goals as goal

pub returns : goal.returns
unfolding is_mark marks
returns c = c.contains.ensures.value ∙ some_contains c.args.b marks
