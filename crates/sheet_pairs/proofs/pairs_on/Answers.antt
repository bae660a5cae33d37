-- `sheet_pairs::pairs_on` meets its contract: the pairs that open are what 0 sends on.
-- Assumes nothing.
use native.Mathlib.Omega.{arith}
use mathlib.Core.Path.{◌≡◌, sym, ◌∙◌, ap}
use lib.ListN.{length}
use mathlib.Core.Bool.{cond}
use borrow.Author.Tests.{ne_eqb}
use Rattle.kat.specs.Lists.{upto}
use Rattle.claims.specs.Standings.{Letter}
use Rattle.memory.specs.Memory.{zeros}
use Rattle.standings.specs.Steps.{step_from}
use Rattle.sheet_standings.specs.RingCells.{row_n, opened, sent}
use Rattle.sheet_pairs.specs.inner.Rows.{pushed, spread_over}
use Rattle.sheet_pairs.proofs.Rows.{spread_all, spread_clear}
use Rattle.sheet_pairs.proofs.pairs_on.Goals as goal

pub returns : goal.returns
unfolding sent
returns c =
    let k = c in
    let a = k.args in
    let o = k.opened_at-fresh in
    let l : Letter = record { atom = a.a; relation = a.r } in
    let full : length a.to.now ≡ 32 = omega arith in
    c.spread.ensures
    ∙ ap (spread_over a.right.now l (row_n a.from.now) (upto 1 32))
    (c.send.ensures
    ∙ ap (λ t. pushed t (step_from a.right.now 0 a.a a.r) o.result) (k.clear.ensures ∙ ap zeros full))
    ∙ spread_all a.right.now l (row_n a.from.now) (sent a.right.now a.from.now a.a) o.result (zeros 32) o.ensures
    (λ p h. sym (ap (λ b. cond b (opened a.right.now a.from.now a.a) (row_n a.from.now p)) (ne_eqb p 0 (λ e. omega arith))))
    ∙ spread_clear a.right.now l (sent a.right.now a.from.now a.a) (upto 0 32)
