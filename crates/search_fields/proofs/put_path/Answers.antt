-- `search_fields::put_path` meets its contract: header, P and S one behind the other are the field.
-- Assumes nothing.
use native.Mathlib.Omega.{arith}
use mathlib.Core.Path.{◌∙◌, ap}
use lib.ListN.{get_or}
use Rattle.claims.specs.Fields.{big_endian}
use Rattle.claims.proofs.Bytes.{big_endian_length}
use Rattle.search_contents.specs.Written.{written}
use Rattle.search_contents.proofs.Fields.{laid_header, laid_next, path_put}
use borrow.Author.Rules.{rules}
use Rattle.search_fields.proofs.put_path.Goals as goal

pub returns : goal.returns
returns c =
    let a = c.args in
    let header = c.put_header-contents in
    let first = c.put_big_endian-second in
    let second = c.put_big_endian in
    let w = get_or a.s.now 0 0 in
    let v = get_or a.s.now 1 0 in
    let h = laid_header 3 16 header.result a.out.now header.new.out header.ensures in
    let m = laid_next (big_endian 8 w) first.new.out 8 first.result h first.ensures.1 (big_endian_length 8 w) first.ensures.0 in
    let n = laid_next (big_endian 8 v) second.new.out 8 second.result m second.ensures.1 (big_endian_length 8 v) second.ensures.0 in
    (omega arith, n.put ∙ ap (λ bs. written bs a.out.now) (path_put a.s.now))
