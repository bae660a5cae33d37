-- `fields::tagged` meets its contract: past the end there is no tag.
-- Assumes nothing.
use Rattle.fields.proofs.Fields.{tag_at, tag_past}
use mathlib.Core.Path.{sym}
use native.Mathlib.Omega.{arith}
use borrow.Author.Rules.{rules}
use Rattle.fields.proofs.tagged.Goals as goal

pub returns-then-bytes-at : goal.returns-then-bytes-at
returns-then-bytes-at c = let a = c.args in sym (tag_past a.bytes.now a.at a.t (omega arith))

pub returns : goal.returns
returns c =
    let a = c.args in
    sym (tag_at a.bytes.now a.at a.t c.wide-tag.result (omega arith) c.wide-tag.ensures.0)
