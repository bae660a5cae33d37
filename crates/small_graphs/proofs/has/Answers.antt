use Rattle.small_graphs.proofs.Bits.{bit_rest}
use native.Mathlib.Omega.{arith}
use mathlib.Core.Path.{sym}
use Rattle.small_graphs.proofs.Bits.{bit_above}
use Rattle.small_graphs.proofs.has.Goals as goal

pub returns-then-place-ge64 : goal.returns-then-place-ge64
returns-then-place-ge64 c = sym (bit_above 64 _ _ (omega arith) (omega arith))

pub returns : goal.returns
returns c = bit_rest c.args.r c.args.place
