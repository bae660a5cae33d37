-- `search_sheet::put_verdict` meets its contract: header and contents one behind the other are the field.
-- Assumes nothing.
use native.Mathlib.Omega.{arith}
use mathlib.Core.Path.{◌∙◌, ap}
use Rattle.claims.specs.Fields.{big_endian}
use Rattle.claims.proofs.Bytes.{big_endian_length}
use Rattle.search_contents.specs.Written.{written}
use Rattle.search_contents.proofs.Fields.{laid_header, laid_next, field_of}
use borrow.Author.Rules.{rules}
use Rattle.search_sheet.proofs.put_verdict.Goals as goal

pub returns : goal.returns
returns c =
    let a = c.args in
    let header = c.put_header-contents in
    let number = c.put_big_endian in
    let h = laid_header 1 1 header.result a.out.now header.new.out header.ensures in
    let m = laid_next (big_endian 1 a.v) number.new.out 1 number.result h number.ensures.1 (big_endian_length 1 a.v) number.ensures.0 in
    (omega arith, m.put ∙ ap (λ bs. written bs a.out.now) (field_of 1 1 (big_endian 1 a.v) (big_endian_length 1 a.v)))
