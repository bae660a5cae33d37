-- `sheet_index::begin` meets its contract, by the kind of the claim.
-- Assumes nothing.
use Rattle.sheet_index.proofs.Listed.{ring_fits_lem, path_fits_lem, ring_begin_lem, path_begin_lem}
use native.Mathlib.Omega.{arith}
use Rattle.sheet_index.proofs.begin.Goals as goal

pub overflow_mul-result : goal.overflow_mul-result
overflow_mul-result c = omega (arith, ring_fits_lem _ c.if-ring.true _ _ _ c.requires)

pub overflow_add-result : goal.overflow_add-result
overflow_add-result c = omega (arith, ring_fits_lem _ c.if-ring.true _ _ _ c.requires)

pub overflow_add-result-then-ring : goal.overflow_add-result-then-ring
overflow_add-result-then-ring c = omega (arith, ring_fits_lem _ c.if-ring.true _ _ _ c.requires)

pub returns-then-ring : goal.returns-then-ring
returns-then-ring c = ring_begin_lem _ c.if-ring.true _ _ _ c.requires

pub overflow_mul-result-2 : goal.overflow_mul-result-2
overflow_mul-result-2 c = omega (arith, path_fits_lem _ c.if-ring.false _ _ _ c.requires)

pub overflow_add-result-2 : goal.overflow_add-result-2
overflow_add-result-2 c = omega (arith, path_fits_lem _ c.if-ring.false _ _ _ c.requires)

pub overflow_add-result-3 : goal.overflow_add-result-3
overflow_add-result-3 c = omega (arith, path_fits_lem _ c.if-ring.false _ _ _ c.requires)

pub returns : goal.returns
returns c = path_begin_lem _ c.if-ring.false _ _ _ c.requires
