-- `search_sheet::proved_length` meets its contract: the verdict has 4 bytes, and each standing's field 269 or 19.
-- Assumes nothing.
use Prim.Native.Nat.{◌+◌, ◌*◌}
use mathlib.Core.Path.{sym, ap}
use Rattle.search_contents.proofs.Fields.{length_ring, length_path}
use borrow.Author.Rules.{rules}
use Rattle.search_sheet.proofs.proved_length.Goals as goal

pub returns-then-ring : goal.returns-then-ring
returns-then-ring c = ap (λ f. 4 + f * c.args.n) (sym (length_ring c.args.ring c.if-ring.true))

pub returns : goal.returns
returns c = ap (λ f. 4 + f * c.args.n) (sym (length_path c.args.ring c.if-ring.false))
