-- `sheet_fits::may_list` meets its contract: the cells decide, then the index.
-- Assumes nothing.
use mathlib.Core.Path.{sym, ◌∙◌, ap}
use lib.Dec.{eqb}
use Rattle.sheet_index.proofs.Kept.{none_numbered}
use Rattle.claims.specs.Bytes.{same}
use Rattle.sheet_standings.specs.Layout.{listed_cells}
use Rattle.sheet_standings.specs.CellSystem.{cells_fit}
use Rattle.sheet_index.specs.Index.{last_where}
use Rattle.sheet_fits.proofs.Verdicts.{all_bytes}
use Rattle.sheet_fits.proofs.Listable.{loaded_small, not_fitting, found_decides}
use Rattle.sheet_fits.proofs.may_list.Goals as goal

pub fits-requires : goal.fits-requires
fits-requires c =
    let load' = c.load in
    let a = c.args in
    loaded_small a.f.ring a.sheet.now a.at load'.new.to (all_bytes a.sheet.now c.type_inv.sheet) load'.ensures

pub returns-then-not-fits : goal.returns-then-not-fits
returns-then-not-fits c =
    let fits2' = c.fits in
    let load' = c.load in
    let a = c.args in
    sym (not_fitting a.f.ring a.f.atoms a.f.left a.f.right a.sheet.now a.base a.n a.at
    c.requires.3
    (ap (cells_fit a.f.ring a.f.atoms a.f.left a.f.right) (sym load'.ensures) ∙ sym fits2'.ensures ∙ c.if-not-fits.true))

pub find-requires : goal.find-requires
find-requires c =
    let p = c.requires in
    (p.0, p.1, p.2)

pub returns : goal.returns
returns c =
    let if1' = c.if-not-fits in
    let fits2' = c.fits in
    let load' = c.load in
    let a = c.args in
    none_numbered _ _ _ (sym c.is_none.ensures) c.find.ensures
    ∙ ap (λ s. eqb (last_where (λ i. same (listed_cells a.f.ring a.sheet.now a.base i) s) a.n) 0) load'.ensures
    ∙ sym (found_decides a.f.ring a.f.atoms a.f.left a.f.right a.sheet.now a.base a.n a.at
    c.requires.3
    (ap (cells_fit a.f.ring a.f.atoms a.f.left a.f.right) (sym load'.ensures) ∙ sym fits2'.ensures ∙ if1'.false))
