-- `sheet_alike::ends_alike` meets its contract: the tests stand in the definition's order.
-- Assumes nothing.
use Rattle.standings.proofs.Tests.{nulls_differ, nulls_agree}
use Rattle.sheet_alike.proofs.ends_alike.Goals as goal

pub returns-then-null_at : goal.returns-then-null_at
returns-then-null_at c =
    let at = c in
    nulls_differ _ _ _ _ _ at.null_at.ensures c.null_at-2.ensures c.if-null_at.true

pub returns : goal.returns
returns c =
    let at = c in
    nulls_agree _ _ _ _ _ at.null_at.ensures at.null_at-2.ensures c.if-null_at.false _ _
    c.enders_at.ensures c.enders_at-2.ensures
