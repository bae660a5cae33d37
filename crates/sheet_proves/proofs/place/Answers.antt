-- `sheet_proves::place` meets its contract: by the kind of the claim.
-- Assumes nothing.
use native.Mathlib.Omega.{arith}
use mathlib.Core.Path.{sym}
use Rattle.sheet_proves.proofs.Places.{ring_place, path_place}
use Rattle.sheet_proves.proofs.place.Goals as goal

pub overflow_mul-result : goal.overflow_mul-result
overflow_mul-result c = omega (arith, c.requires, ring_place c.args.ring c.args.base c.args.i c.if-ring.true)

pub overflow_add-result : goal.overflow_add-result
overflow_add-result c = omega (arith, c.requires, ring_place c.args.ring c.args.base c.args.i c.if-ring.true)

pub overflow_mul-result-else-ring : goal.overflow_mul-result-else-ring
overflow_mul-result-else-ring c = omega (arith, c.requires, path_place c.args.ring c.args.base c.args.i c.if-ring.false)

pub overflow_add-result-else-ring : goal.overflow_add-result-else-ring
overflow_add-result-else-ring c = omega (arith, c.requires, path_place c.args.ring c.args.base c.args.i c.if-ring.false)

pub returns-then-ring : goal.returns-then-ring
returns-then-ring c = sym (ring_place c.args.ring c.args.base c.args.i c.if-ring.true)

pub returns-else-ring : goal.returns-else-ring
returns-else-ring c = sym (path_place c.args.ring c.args.base c.args.i c.if-ring.false)
