-- `sheet_steps::ends_set` meets its contract: the test is whether the set meets those that may be last at the atom.
-- Assumes nothing.
use mathlib.Core.Path.{ap}
use mathlib.Core.Bool.{not}
use lib.Bits.{bit_and}
use lib.Dec.{eqb}
use Rattle.bits.specs.Sets.{meets}
use Rattle.standings.specs.Steps.{ends_set}
use borrow.Author.Rules.{rules}
use Rattle.sheet_steps.proofs.ends_set.Goals as goal

pub returns : goal.returns
unfolding ends_set meets
returns c = ap (λ w. not (eqb (bit_and c.args.s w) 0)) c.enders_at-enders.ensures
