-- `codes::claim_kind` meets its contract: of no codes at all the last one counts as 0.
-- Assumes nothing.
use Rattle.std.proofs.Common.{arith}
use Rattle.std.proofs.lemmas.Grind.{common_steps}
use Rattle.codes.specs.Codes.{claim_kind}
use Rattle.codes.proofs.claim_kind.Goals as goal

pub returns : goal.returns
unfolding claim_kind
returns c = grind (arith, common_steps)
