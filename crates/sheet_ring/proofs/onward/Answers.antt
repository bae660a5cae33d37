-- `sheet_ring::onward` meets its contract.
-- Assumes nothing.
use native.Mathlib.Omega.{arith}
use mathlib.Core.Path.{◌≡◌, ◌∙◌, ap}
use mathlib.Core.Bool.{not, ◌||◌}
use lib.Dec.{eqb}
use lib.ListN.{length}
use Rattle.claims.specs.Standings.{Letter}
use Rattle.standings.specs.Steps.{step_set}
use Rattle.sheet_standings.specs.RingCells.{first_in, flag_in, flag}
use Rattle.sheet_ring.proofs.Standing.{gone_on}
use Rattle.sheet_ring.proofs.onward.Goals as goal

pub put_head-requires : goal.put_head-requires
put_head-requires c =
    (omega arith, omega arith, c.flagged-z.ensures.1)

pub returns : goal.returns
unfolding first_in flag_in
returns c =
    let f = c in
    let s = c in
    let a = s.args in
    let l : Letter = record { atom = a.a; relation = a.r } in
    let full : length a.to.now ≡ 67 = omega arith in
    gone_on a.left.now a.right.now l a.to.now _ _ full a.from.now s.requires s.step_set-p.result f.flagged-z.result
    (omega arith) c.put_head.ensures c.lay_on.ensures
    (s.step_set-p.ensures ∙ ap (λ w. step_set a.left.now w a.a a.r) s.left_of.ensures)
    (f.flagged-z.ensures.0 ∙ ap (λ n. flag (not (eqb (flag_in a.from.now) 0) || n)) f.null_at.ensures)
