-- `draw_bytes::row_length` meets its contract: six bytes an edge.
-- Assumes nothing.
use native.Mathlib.Omega.{arith}
use lib.Count.{ones-le}
use Rattle.draw_bytes.proofs.Pieces.{row_length_lem}
use borrow.Author.Rules.{rules}
use Rattle.draw_bytes.proofs.row_length.Goals as goal

pub overflow_cast-result : goal.overflow_cast-result
overflow_cast-result c = omega (arith, ones-le 64 c.args.s (search rules))

pub overflow_mul-result : goal.overflow_mul-result
overflow_mul-result c = omega (arith, ones-le 64 c.args.s (search rules))

pub returns : goal.returns
returns c = (omega (arith, ones-le 64 c.args.s (search rules)), λ r x. row_length_lem r x c.args.s (search rules))
