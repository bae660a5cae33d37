-- `side_build::build_at` meets its contract.
-- Assumes nothing.
use Rattle.side_build.proofs.Assembled.{placed_made}
use Rattle.side_build.proofs.build_at.Goals as goal

pub returns : goal.returns
returns c = placed_made c.args.codes.now c.args.needs.now _ c.args.from _ _ c.nothing.ensures c.run_from.ensures c.tell.ensures
