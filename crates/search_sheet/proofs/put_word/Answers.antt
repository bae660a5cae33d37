-- `search_sheet::put_word` meets its contract: header and contents one behind the other are the field.
-- Assumes nothing.
use native.Mathlib.Omega.{arith}
use mathlib.Core.Path.{refl, ◌∙◌, ap}
use lib.ListN.{length}
use Rattle.search_contents.specs.Written.{written}
use Rattle.search_contents.proofs.Fields.{laid_header, laid_next, field_of}
use borrow.Author.Rules.{rules}
use Rattle.search_sheet.proofs.put_word.Goals as goal

pub returns : goal.returns
returns c =
    let a = c.args in
    let size = length a.contents.now in
    let header = c.put_header-at in
    let bytes = c.put_bytes in
    let h = laid_header 2 size header.result a.out.now header.new.out header.ensures in
    let m = laid_next a.contents.now bytes.new.out size bytes.result h bytes.ensures.1 refl bytes.ensures.0 in
    (omega arith, m.put ∙ ap (λ bs. written bs a.out.now) (field_of 2 size a.contents.now refl))
