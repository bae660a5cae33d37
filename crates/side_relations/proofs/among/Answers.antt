-- `side_relations::among` meets its contract: the method of slices says that some code is equal to k.
-- Assumes nothing.
use Rattle.std.proofs.Common.{◌∙◌}
use lib.Dec.{eqb}
use Rattle.kat.proofs.Chains.{some_any}
use Rattle.side_relations.proofs.among.Goals as goal

pub returns : goal.returns
returns c = c.contains.ensures.value ∙ some_any (λ x. eqb x c.args.k) c.args.codes.now
