-- `search_fields::put_rows` meets its contract. The invariant: the rows that are left, put over the slice as it is, are all rows put over the
-- slice as it was.
-- Assumes nothing.
use Prim.Native.Nat.{◌+◌, ◌-◌, ◌*◌, ◌≤◌}
use native.Mathlib.Omega.{arith}
use mathlib.Core.Path.{◌≡◌, refl, ◌∙◌, ap, ap₂}
use lib.ListN.{length}
use Rattle.kat.specs.Lists.{upto}
use Rattle.claims.specs.Fields.{big_endian}
use Rattle.search_contents.specs.Written.{over}
use Rattle.search_contents.specs.FieldWords.{rows_from, rows_bytes}
use Rattle.search_contents.proofs.Fields.{rows_more, rows_end}
use Rattle.search_fields.proofs.put_rows.Given as goal

abbrev pub invariant-loop-p : goal.invariant-loop-p
invariant-loop-p l =
    (length l.out ≡ length l.initial.out) × (l.p ≤ 32) × (l.next ≡ l.at + 4 * l.p)
    × (over l.next (rows_from l.upper l.s (upto l.p 32)) l.out ≡ over l.at (rows_bytes l.upper l.s) l.initial.out)
