use Rattle.small_graphs.proofs.Bits.{edge_more, edge_from, edge_to}
use native.Mathlib.Omega.{arith}
use Rattle.small_graphs.proofs.with_edge.Goals as goal

pub returns-then-from-ge8 : goal.returns-then-from-ge8
returns-then-from-ge8 c = edge_from _ c.args.from c.args.to c.if-from-ge8.true

pub returns-then-to-ge8 : goal.returns-then-to-ge8
returns-then-to-ge8 c = edge_to _ c.args.from c.args.to (omega arith) c.if-to-ge8.true

pub returns : goal.returns
returns c = edge_more c.args.r c.args.from c.args.to (omega arith) (omega arith)
