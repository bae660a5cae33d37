-- `sheet_fields::word_read` meets its contract: a field that is cut, of another tag, or whose bytes are no word is wrong.
-- Assumes nothing.
use native.Mathlib.Omega.{arith}
use mathlib.Core.Path.{sym, ◌∙◌}
use Rattle.sheet_fields.proofs.Whole.{whole_here, cut_here}
use Rattle.sheet_fields.proofs.Going.{word_cut_goes, word_tag_goes, word_wrong_goes, word_right_goes}
use Rattle.sheet_fields.proofs.word_read.Goals as goal

pub returns-in_default : goal.returns-in_default
returns-in_default c =
    let bs = c.args.sheet.now in
    λ first at heads chain s A.
    word_cut_goes c.args.f bs first heads chain at A (cut_here bs at c.in_default.is s)

pub returns-then-whole-ne2 : goal.returns-then-whole-ne2
returns-then-whole-ne2 c =
    let bs = c.args.sheet.now in
    λ first at heads chain s A.
    word_tag_goes c.args.f bs first heads chain at A (whole_here bs at c.in-Some.is s) (omega arith)

pub returns-then-not-fits : goal.returns-then-not-fits
returns-then-not-fits c =
    let bs = c.args.sheet.now in
    λ first at heads chain s A.
    word_wrong_goes c.args.f bs first heads chain at A (whole_here bs at c.in-Some.is s) (omega arith) (sym c.fits.ensures ∙ c.if-not-fits.true)

pub returns : goal.returns
returns c =
    let bs = c.args.sheet.now in
    λ first at heads chain s A.
    word_right_goes c.args.f bs first heads chain at A (whole_here bs at c.in-Some.is s) (omega arith) (sym c.fits.ensures ∙ c.if-not-fits.false)
