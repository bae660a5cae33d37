-- `sheet_cover::covered` meets its contract: the rows of M are closed once, in a copy.
-- Assumes nothing.
use Prim.Native.Nat.{◌+◌}
use native.Mathlib.Omega.{arith}
use mathlib.Core.Path.{◌≡◌}
use lib.ListN.{length}
use Rattle.sheet_cover.proofs.Turns.{covered_z, copy_long, covered_turns}
use Rattle.sheet_cover.proofs.covered.Goals as goal

pub returns-then-all-ne0 : goal.returns-then-all-ne0
returns-then-all-ne0 c =
    let a = c.args in
    let full : length a.s.now ≡ 67 = omega arith in
    covered_z a.right.now a.s.now full a.n c.if-all-ne0.true

pub slice_bounds-turns_cover-end : goal.slice_bounds-turns_cover-end
slice_bounds-turns_cover-end c =
    let k = c in
    let m = c in
    let a = m.args in
    let full : length a.s.now ≡ 67 = omega arith in
    copy_long a.right.now a.s.now full (m.least-m.result + 1) (m.least-m.result + 1) k.close.ensures

pub returns : goal.returns
returns c =
    let k = c in
    let m = c in
    let a = m.args in
    let full : length a.s.now ≡ 67 = omega arith in
    covered_turns a.right.now a.s.now full m.least-m.result (omega arith) a.n _ m.least-m.ensures m.if-all-ne0.false
    k.close.ensures c.turns_cover.ensures
