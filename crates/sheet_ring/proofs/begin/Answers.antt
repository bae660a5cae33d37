-- `sheet_ring::begin` meets its contract.
-- Assumes nothing.
use native.Mathlib.Omega.{arith}
use mathlib.Core.Path.{◌≡◌, ◌∙◌, ap}
use lib.ListN.{length}
use Rattle.claims.specs.Standings.{Letter}
use Rattle.sheet_standings.specs.RingCells.{flag}
use Rattle.sheet_ring.proofs.Standing.{begun}
use Rattle.sheet_ring.proofs.begin.Goals as goal

pub put_head-requires : goal.put_head-requires
put_head-requires c =
    (omega arith, omega arith, c.flagged-z.ensures.1)

pub returns : goal.returns
returns c =
    let f = c in
    let s = c in
    let a = s.args in
    let l : Letter = record { atom = a.a; relation = a.r } in
    let full : length a.to.now ≡ 67 = omega arith in
    begun a.left.now a.right.now l a.to.now _ _ full s.step_from-p.result f.flagged-z.result (omega arith) (omega arith)
    c.put_head.ensures c.lay_first.ensures s.step_from-p.ensures (f.flagged-z.ensures.0 ∙ ap flag f.null_at.ensures)
