-- `search_cover::turn_ends` meets its contract.
-- Assumes nothing.
use native.Mathlib.Omega.{arith}
use mathlib.Core.Path.{◌∙◌}
use Rattle.search_cover.proofs.Sought.{turn_sought}
use Rattle.search_cover.proofs.turn_ends.Goals as goal

pub returns : goal.returns
returns c =
    let a = c.args in
    c.any_member.ensures ∙ turn_sought a.t.now a.e c.below.result a.m (omega arith) c.below.ensures
