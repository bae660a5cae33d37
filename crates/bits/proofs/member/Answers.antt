-- `bits::member` meets its contract: below 64 the code tests the very digit that the bit is, and from 64 on a word has no bit.
-- Assumes nothing.
use mathlib.Core.Path.{refl, sym}
use borrow.Author.Rules.{rules}
use Rattle.claims.specs.Query.{bit}
use Rattle.bits.proofs.Bit.{bit_above}
use Rattle.bits.proofs.member.Goals as goal

pub returns-then-k-lt64 : goal.returns-then-k-lt64
unfolding bit
returns-then-k-lt64 c = refl

pub returns-else-k-lt64 : goal.returns-else-k-lt64
returns-else-k-lt64 c = sym (bit_above 64 c.args.k c.args.s (search rules) (search rules))
