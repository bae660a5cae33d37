-- `side_items::find_args` meets its contract. The invariant: the memory follows the walk over the codes passed. The measure is what
-- is left of the codes.
-- Assumes nothing.
use Prim.Native.Nat.{◌≤◌}
use mathlib.Core.Path.{◌≡◌}
use lib.ListN.{length}
use Rattle.side_items.proofs.Needed.{Follows}
use Rattle.side_items.proofs.find_args.Given as goal

abbrev pub invariant-loop-i : goal.invariant-loop-i
invariant-loop-i l =
    (length l.args ≡ length l.codes) × (l.i ≤ length l.codes) × Follows l.codes l.args l.starts l.i l.line l.from l.lets
