-- `search_fields::put_big_endian` meets its contract: the bytes are put from the last one to the first. The invariant: the bytes that are left,
-- put over the slice as it is, are all bytes put over the slice as it was. The measure is how many are left.
-- Assumes nothing.
use Prim.Native.Nat.{◌≤◌}
use native.Mathlib.Omega.{arith}
use mathlib.Core.Path.{◌≡◌, refl, ◌∙◌}
use lib.ListN.{length, length-set}
use Rattle.claims.specs.Fields.{big_endian}
use Rattle.search_contents.specs.Written.{over}
use Rattle.search_contents.proofs.Written.{number_more, number_end}
use borrow.Author.Rules.{rules}
use Rattle.search_fields.proofs.put_big_endian.Given as goal

abbrev pub invariant-loop-k : goal.invariant-loop-k
invariant-loop-k l = (length l.out ≡ length l.initial.out) × (l.k ≤ l.n) × (over l.at (big_endian l.k l.left) l.out ≡ over l.at (big_endian l.n l.w) l.initial.out)

abbrev pub decreases-loop-k : goal.decreases-loop-k
decreases-loop-k l = l.k
