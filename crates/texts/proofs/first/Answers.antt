-- `texts::first` meets its contract. A part, or the whole text where it is short.
-- Assumes nothing.
use mathlib.Core.Path.{refl, sym}
use native.Mathlib.Omega.{arith}
use lib.Seq.{length-take-le, take_all}
use Rattle.texts.proofs.first.Goals as goal

pub slice_bounds-result-end : goal.slice_bounds-result-end
slice_bounds-result-end c = sym (length-take-le _ _ (omega arith))

pub returns-then-n-text : goal.returns-then-n-text
returns-then-n-text c = refl

pub returns : goal.returns
returns c = sym (take_all c.args.n c.args.text.now (omega arith))
