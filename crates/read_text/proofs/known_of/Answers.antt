-- `read_text::known_of` meets its contract: the part of the array that holds the codes is there.
-- Assumes nothing.
use mathlib.Core.Path.{sym}
use lib.Seq.{length-take-le}
use Rattle.read_text.specs.inner.Steps.{known}
use Rattle.read_text.proofs.known_of.Goals as goal

pub slice_bounds-part-end : goal.slice_bounds-part-end
slice_bounds-part-end c =
    sym (length-take-le c.args.st.used c.args.out.now c.requires)

pub returns : goal.returns
unfolding known
returns c = rw c.claim_kind.ensures
