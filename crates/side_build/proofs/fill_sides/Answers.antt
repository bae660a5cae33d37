-- `side_build::fill_sides` meets its contract.
-- Assumes nothing.
use Rattle.side_build.proofs.Assembled.{sides_made}
use Rattle.side_parts.specs.Machine.{machine_in}
use Rattle.side_build.proofs.fill_sides.Goals as goal

pub left_side-requires : goal.left_side-requires
left_side-requires c = c.requires.0

pub right_side-requires : goal.right_side-requires
right_side-requires c = c.requires.1

pub returns : goal.returns
unfolding machine_in
returns c =
    sides_made c.args.codes.now c.args.needs.now c.args.d _ _ _ _ _ _ c.left_side.ensures c.tell.ensures c.used-m.ensures c.right_side.ensures
    c.tell-2.ensures c.used.ensures
