-- `search_fields::row_m` meets its contract. The invariant: the row has the bits of the columns passed.
-- Assumes nothing.
use Prim.Native.Nat.{◌+◌, ◌-◌, ◌≤◌}
use native.Mathlib.Omega.{arith}
use mathlib.Core.Path.{◌≡◌, sym, ◌∙◌, subst}
use Rattle.search_contents.proofs.Rows.{RowBelow, row_none, row_more, row_all}
use Rattle.search_standings.proofs.RingRows.{in_m_some}
use borrow.Author.Rules.{rules}
use Rattle.search_fields.proofs.row_m.Given as goal

abbrev pub invariant-loop-q : goal.invariant-loop-q
invariant-loop-q l = (1 ≤ l.q) × (l.q ≤ 32) × RowBelow l.s l.p l.q l.row
