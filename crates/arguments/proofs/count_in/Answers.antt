-- `arguments::count_in` meets its contract. What is left of the digits, behind the number so far, gives the allowance.
-- Assumes nothing.
use native.Mathlib.Omega.{arith}
use mathlib.Core.Path.{◌∙◌}
use Rattle.arguments.proofs.Tested.{no_digits, some_digits, below_digits, above_digits, digit_more, digits_end}
use Rattle.arguments.proofs.count_in.Goals as goal

pub returns-then-word-eq0 : goal.returns-then-word-eq0
returns-then-word-eq0 c = no_digits _ c.if-word-eq0.true

pub loop-b-init : goal.loop-b-init
loop-b-init c = (omega arith, some_digits c.args.word.now c.if-word-eq0.false)

pub returns-then-b-lt48 : goal.returns-then-b-lt48
returns-then-b-lt48 c = below_digits c.args.word.now _ _ c.loop-b-test.true c.if-b-lt48.true ∙ c.loop-b.invariant.1

pub returns-then-b-gt57 : goal.returns-then-b-gt57
returns-then-b-gt57 c = above_digits c.args.word.now _ _ c.loop-b-test.true c.if-b-lt48.false c.if-b-gt57.true ∙ c.loop-b.invariant.1

pub loop-b-preserved : goal.loop-b-preserved
loop-b-preserved c = (omega arith, digit_more c.args.word.now _ _ _ c.loop-b-test.true c.if-b-lt48.false c.if-b-gt57.false c.one_more-value.ensures ∙ c.loop-b.invariant.1)

pub returns : goal.returns
returns c = digits_end c.args.word.now _ _ c.loop-b-test.false ∙ c.loop-b.invariant.1
