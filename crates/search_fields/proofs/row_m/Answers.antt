-- `search_fields::row_m` meets its contract. The invariant: the row has the bits of the columns passed.
-- Assumes nothing.
use Prim.Native.Nat.{◌+◌, ◌-◌, ◌≤◌}
use native.Mathlib.Omega.{arith}
use mathlib.Core.Path.{◌≡◌, sym, ◌∙◌, subst}
use Rattle.search_contents.proofs.Rows.{RowBelow, row_none, row_more, row_all}
use Rattle.search_standings.proofs.RingRows.{in_m_some}
use borrow.Author.Rules.{rules}
use Rattle.search_fields.proofs.row_m.Goals as goal

pub loop-q-init : goal.loop-q-init
loop-q-init c = (omega arith, omega arith, row_none c.args.s.now c.args.p)

pub loop-q-preserved : goal.loop-q-preserved
loop-q-preserved c =
    let a = c.args in
    let l = c.loop-q in (
      omega arith,
      omega arith,
      subst (RowBelow a.s.now a.p (l.q + 1)) (sym c.marked-row.ensures)
          (row_more a.s.now a.p l.q l.row c.member-on.result l.invariant.2 (omega arith)
          (c.member-on.ensures ∙ sym (in_m_some a.s.now a.p l.q l.invariant.0))),
    )

pub returns : goal.returns
returns c =
    let a = c.args in
    let l = c.loop-q in
    let e : l.q ≡ 32 = omega arith in
    row_all a.s.now a.p l.row (subst (λ q. RowBelow a.s.now a.p q l.row) e l.invariant.2)
