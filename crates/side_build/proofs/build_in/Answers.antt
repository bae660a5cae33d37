-- `side_build::build_in` meets its contract.
-- Assumes nothing.
use Rattle.side_build.proofs.Assembled.{all_built}
use Rattle.side_build.proofs.build_in.Goals as goal

pub prepare-requires : goal.prepare-requires
prepare-requires c = (c.requires.0, c.requires.1)

pub fill_sides-c-requires : goal.fill_sides-c-requires
fill_sides-c-requires c = (c.requires.2, c.requires.3)

pub returns : goal.returns
returns c = all_built c.args.codes.now _ _ _ c.args.tests _ _ _ c.prepare.ensures c.claimed_in-d.ensures c.fill_sides-c.ensures c.live_of.ensures
