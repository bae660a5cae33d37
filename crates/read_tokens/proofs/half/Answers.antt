-- `read_tokens::half` meets its contract. Eight bytes, four and four.
-- Assumes nothing.
use Prim.Native.Nat.{◌+◌, ◌*◌}
use mathlib.Core.Path.{ap₂, ◌∙◌}
use lib.ListN.{take, drop}
use borrow.Author.Rules.{rules}
use Rattle.read_tokens.proofs.Halves.{half_made}
use Rattle.read_tokens.proofs.half.Goals as goal

pub returns : goal.returns
returns c =
    let b = c in
    let a = b.args in
    let w = take a.n (drop a.i a.s.now) in
    ap₂ (λ x y. x * 4294967296 + y) c.four.ensures c.four-2.ensures
    ∙ half_made w a.p _ _ _ _ _ _ _ _
    b.byte_of-a.ensures b.byte_of-b.ensures
    b.byte_of-c.ensures b.byte_of-d.ensures
    b.byte_of-e.ensures b.byte_of-f.ensures
    b.byte_of-g.ensures b.byte_of-h.ensures
