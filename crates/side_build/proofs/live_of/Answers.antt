-- `side_build::live_of` meets its contract.
-- Assumes nothing.
use Rattle.side_build.proofs.Assembled.{needs_length, needs_args, live_found}
use lib.Seq.{length-take-le}
use lib.ListN.{length, take}
use mathlib.Core.Path.{sym, ◌∙◌, ap}
use native.Mathlib.Omega.{arith}
use Rattle.side_build.proofs.live_of.Goals as goal

pub slice_bounds-removed_set-end : goal.slice_bounds-removed_set-end
slice_bounds-removed_set-end c = sym (length-take-le _ _ (omega (arith, ap length c.requires, needs_length c.args.codes.now)))

pub returns : goal.returns
returns c = live_found c.args.codes.now _ c.args.tests _ _ (ap (take (length c.args.codes.now)) c.requires ∙ needs_args c.args.codes.now) c.removed_set-removed.ensures c.live_set.ensures
