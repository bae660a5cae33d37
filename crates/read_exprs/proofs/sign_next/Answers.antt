-- `read_exprs::sign_next` meets its contract. One law for each way out.
-- Assumes nothing.
use Rattle.read_exprs.proofs.PostfixRuns.{sign_star, sign_plus, sign_opt, sign_none}
use Rattle.read_exprs.proofs.sign_next.Goals as goal

pub returns-in-Some : goal.returns-in-Some
returns-in-Some c = sign_star _ _ _ c.in-Some.ensures

pub returns-in-Some-mark_next : goal.returns-in-Some-mark_next
returns-in-Some-mark_next c = sign_plus _ _ c.in_default.ensures _ c.in-Some-mark_next.ensures

pub returns-in-Some-mark_next-2 : goal.returns-in-Some-mark_next-2
returns-in-Some-mark_next-2 c = sign_opt _ _ c.in_default.ensures c.in_default-mark_next.ensures _ c.in-Some-mark_next-2.ensures

pub returns : goal.returns
returns c = sign_none _ _ c.in_default.ensures c.in_default-mark_next.ensures c.in_default-mark_next-2.ensures
