-- `fields::next` meets its contract: cut short of a header, or of the length that it says; else whole.
-- Assumes nothing.
use Prim.Native.Nat.{◌+◌, ◌*◌}
use Rattle.fields.proofs.Fields.{header_cut, contents_cut, field_whole}
use native.Mathlib.Omega.{arith}
use borrow.Author.Rules.{rules}
use Rattle.fields.proofs.next.Goals as goal

pub returns-then-bytes-lt3 : goal.returns-then-bytes-lt3
returns-then-bytes-lt3 c = let a = c.args in header_cut a.bytes.now a.at (omega arith)

pub returns-then-bytes-at : goal.returns-then-bytes-at
returns-then-bytes-at c = let a = c.args in header_cut a.bytes.now a.at (omega arith)

pub returns-then-bytes-from : goal.returns-then-bytes-from
returns-then-bytes-from c =
    let a = c.args in
    contents_cut a.bytes.now a.at _ (c.wide-high.result * 256 + c.wide-low.result) (omega arith)
    c.wide-tag.ensures.0 (omega arith) (omega arith)

pub returns : goal.returns
returns c =
    let a = c.args in
    field_whole a.bytes.now a.at _ _ (omega arith) c.wide-tag.ensures.0 (omega arith)
    (omega arith)
