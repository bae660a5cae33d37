-- `search_cover::covered` meets its contract: the columns are closed once, in a copy.
-- Assumes nothing.
use native.Mathlib.Omega.{arith}
use mathlib.Core.Path.{◌≡◌}
use lib.ListN.{length}
use Rattle.search_cover.proofs.Sought.{covered_z, covered_turns}
use Rattle.search_cover.proofs.covered.Goals as goal

pub returns-then-all-ne0 : goal.returns-then-all-ne0
returns-then-all-ne0 c =
    let a = c.args in
    let full : length a.s.now ≡ 40 = omega arith in
    covered_z a.right.now a.s.now full a.n c.if-all-ne0.true

pub returns : goal.returns
returns c =
    let k = c in
    let m = k.least-m in
    let a = k.args in
    let full : length a.s.now ≡ 40 = omega arith in
    covered_turns a.right.now a.s.now full m.result (omega arith) a.n _ _ m.ensures k.if-all-ne0.false
    k.close_columns.ensures c.turns_cover.ensures
