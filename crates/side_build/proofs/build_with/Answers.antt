-- `side_build::build_with` meets its contract: of the local array as many places are lent as the program has.
-- Assumes nothing.
use Prim.Native.Nat.{ℕ}
use lib.Seq.{length-take-le}
use lib.ListN.{length-replicate}
use mathlib.Core.Path.{sym}
use native.Mathlib.Omega.{arith}
use Rattle.side_build.proofs.build_with.Goals as goal

pub slice_bounds-build_in-end : goal.slice_bounds-build_in-end
slice_bounds-build_in-end g c = sym (length-take-le _ _ (omega (arith, c.requires.0, length-replicate {A = ℕ} g.row.N 0)))

pub build_in-requires : goal.build_in-requires
build_in-requires g c = (length-take-le _ _ (omega (arith, c.requires.0, length-replicate {A = ℕ} g.row.N 0)), omega (arith, c.requires.0, c.requires.1), c.requires.2, c.requires.3)

pub whole_as_front-build_in : goal.whole_as_front-build_in
whole_as_front-build_in g c = (c.requires.0, omega (arith, c.requires.1))
