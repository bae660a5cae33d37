-- `side_atoms::holding_atoms` meets its contract: the set of each of the 6 tests is computed, and no atom below 64 has a higher bit.
-- Assumes nothing.
use mathlib.Core.Path.{sym, ◌∙◌, ap}
use Rattle.side_atoms.specs.Tests.{holding}
use Rattle.side_atoms.proofs.TestCodes.{holding_0, holding_1, holding_2, holding_3, holding_4, holding_5, holding_above}
use Rattle.side_atoms.proofs.holding_atoms.Goals as goal

pub returns-in-0 : goal.returns-in-0
returns-in-0 c = sym (ap holding c.in-0.is ∙ holding_0)

pub returns-in-1 : goal.returns-in-1
returns-in-1 c = sym (ap holding c.in-1.is ∙ holding_1)

pub returns-in-2 : goal.returns-in-2
returns-in-2 c = sym (ap holding c.in-2.is ∙ holding_2)

pub returns-in-3 : goal.returns-in-3
returns-in-3 c = sym (ap holding c.in-3.is ∙ holding_3)

pub returns-in-4 : goal.returns-in-4
returns-in-4 c = sym (ap holding c.in-4.is ∙ holding_4)

pub returns-in-5 : goal.returns-in-5
returns-in-5 c = sym (ap holding c.in-5.is ∙ holding_5)

pub returns-in_default : goal.returns-in_default
returns-in_default c = let ((((((u, a), b), d), e), f), g) = c.in_default.in_default-own.rest in sym (holding_above _ a b d e f g)
