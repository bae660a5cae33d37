-- `side_relations::relation_at` meets its contract: each way is one of the definition's.
-- Assumes nothing.
use native.Mathlib.Omega.{arith}
use mathlib.Core.Path.{sym, ◌∙◌}
use Rattle.claims.specs.Query.{bit}
use Rattle.side_relations.proofs.Narrowed.{relation_limit, relation_closed, relation_open}
use Rattle.side_relations.proofs.relation_at.Goals as goal

pub returns-then-i-lt32 : goal.returns-then-i-lt32
returns-then-i-lt32 c =
    let a = c.args in
    relation_limit (λ k. bit k a.closed) a.limits.now a.i c.if-i-lt32.true

pub returns-then-member : goal.returns-then-member
returns-then-member c =
    let a = c.args in
    relation_closed (λ k. bit k a.closed) a.limits.now a.i (omega arith)
    (sym c.member.ensures ∙ c.if-member.true)

pub returns : goal.returns
returns c =
    let a = c.args in
    relation_open (λ k. bit k a.closed) a.limits.now a.i (omega arith) (sym c.member.ensures ∙ c.if-member.false)
