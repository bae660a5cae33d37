-- `search_fields::put_header` meets its contract: the tag is put, and the length behind it.
-- Assumes nothing.
use native.Mathlib.Omega.{arith}
use mathlib.Core.Path.{◌∙◌}
use lib.ListN.{length-set}
use Rattle.search_contents.proofs.Fields.{header_put}
use borrow.Author.Rules.{rules}
use Rattle.search_fields.proofs.put_header.Goals as goal

pub shape_of-out : goal.shape_of-out
shape_of-out c = c.put_big_endian.auto.out ∙ simp length-set

pub returns : goal.returns
returns c =
    let a = c.args in
    let p = c.put_big_endian in
    (p.ensures.0, p.ensures.1 ∙ header_put a.tag a.len a.out.now (omega arith))
