-- `sheet_cover::turn_ends` meets its contract.
-- Assumes nothing.
use native.Mathlib.Omega.{arith}
use Rattle.bits.specs.Sets.{meets}
use Rattle.sheet_cover.proofs.Sought.{turn_sought}
use Rattle.sheet_cover.proofs.turn_ends.Goals as goal

pub returns : goal.returns
unfolding meets
returns c =
    let a = c.args in
    turn_sought a.w a.e c.below.result a.m (omega arith) (omega arith) c.below.ensures
