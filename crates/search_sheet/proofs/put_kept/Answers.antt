-- `search_sheet::put_kept` meets its contract: the field looks at the words of the standing only.
-- Assumes nothing.
use native.Mathlib.Omega.{arith}
use mathlib.Core.Path.{sym, ◌∙◌, ap}
use Rattle.search_contents.specs.Written.{written}
use Rattle.search_contents.specs.FieldWords.{field_words}
use Rattle.search_contents.proofs.FirstWords.{field_first}
use borrow.Author.Rules.{rules}
use Rattle.search_sheet.proofs.put_kept.Goals as goal

pub stand-requires : goal.stand-requires
stand-requires c = λ e. omega (arith, c.requires.i_in_bounds e)

pub returns : goal.returns
returns c =
    let a = c.args in
    let p = c.put_standing in
    let l = c.stand in (
      p.ensures.0,
      λ r e.
          p.ensures.1
          ∙ ap (λ bs. written bs a.out.now) (sym (field_first l.new.to a.ring) ∙ ap (field_words a.ring) (l.ensures r e)),
    )
