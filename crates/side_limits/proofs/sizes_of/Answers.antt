-- `side_limits::sizes_of` meets its contract: occurrences and leaves together.
-- Assumes nothing.
use Rattle.side_limits.proofs.PlaceSums.{sizes_made}
use Rattle.side_limits.proofs.sizes_of.Goals as goal

pub returns : goal.returns
returns c =
    let a = c.args in
    sizes_made a.codes.now a.out.now a.d c.count-o.result c.count-l.result c.count-o.ensures c.count-l.ensures
