-- `search_fields::put_rows` meets its contract. The invariant: the rows that are left, put over the slice as it is, are all rows put over the
-- slice as it was.
-- Assumes nothing.
use Prim.Native.Nat.{◌+◌, ◌-◌, ◌*◌, ◌≤◌}
use native.Mathlib.Omega.{arith}
use mathlib.Core.Path.{◌≡◌, refl, ◌∙◌, ap, ap₂}
use lib.ListN.{length}
use Rattle.kat.specs.Lists.{upto}
use Rattle.claims.specs.Fields.{big_endian}
use Rattle.search_contents.specs.Written.{over}
use Rattle.search_contents.specs.FieldWords.{rows_from, rows_bytes}
use Rattle.search_contents.proofs.Fields.{rows_more, rows_end}
use Rattle.search_fields.proofs.put_rows.Goals as goal

pub loop-p-init : goal.loop-p-init
unfolding rows_bytes
loop-p-init c = (refl, omega arith, omega arith, refl)

pub loop-p-preserved : goal.loop-p-preserved
loop-p-preserved c =
    let a = c.args in
    let l = c.loop-p in
    let p = c.put_big_endian-next in
    let row = c.row_of-row in (
      p.auto.out ∙ l.invariant.0,
      omega arith,
      omega arith,
      ap₂ (λ k xs. over k (rows_from a.upper a.s.now (upto (l.p + 1) 32)) xs) p.ensures.0
          (p.ensures.1 ∙ ap (λ w. over l.next (big_endian 4 w) l.out) row.ensures)
          ∙ rows_more a.upper a.s.now l.next l.p l.out (omega arith) (omega arith) ∙ l.invariant.3,
    )

pub shape_of-out : goal.shape_of-out
shape_of-out c = c.loop-p.invariant.0

pub returns : goal.returns
returns c =
    let a = c.args in
    let l = c.loop-p in
    (omega arith, rows_end a.upper a.s.now l.next l.p l.out (omega arith) ∙ l.invariant.3)
