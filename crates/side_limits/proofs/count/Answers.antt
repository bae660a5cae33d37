-- `side_limits::count` meets its contract: the table has what each code counts, and the sums are put together.
-- Assumes nothing.
use Rattle.side_limits.specs.Tally.{relation_count}
use Rattle.side_limits.proofs.PlaceSums.{sums_made}
use Rattle.side_limits.proofs.count.Goals as goal

pub returns : goal.returns
returns c =
    let a = c.args in
    sums_made a.test a.codes.now a.out.now a.d _ _ _ _ _ _
    (c.count_lets.ensures a.test (relation_count a.test a.codes.now) c.add_limits.ensures) c.count_kind-own.ensures
    c.count_kind-empty.ensures c.count_at-y.ensures c.count_at.ensures c.right_side.ensures
