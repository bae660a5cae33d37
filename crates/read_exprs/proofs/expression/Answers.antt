-- `read_exprs::expression` meets its contract: no bracket is open, and the depth of calls that the line gives is enough.
-- Assumes nothing.
use native.Mathlib.Omega.{arith}
use Rattle.read_exprs.proofs.Trees.{expression_read}
use Rattle.read_exprs.proofs.expression.Goals as goal

pub union-requires : goal.union-requires
union-requires c = (omega arith, c.requires)

pub returns : goal.returns
returns c =
    let a = c.args in
    expression_read a.s.now a.names.now a.n a.p a.out.now c.union.new.out c.union.result
    c.union.ensures
