-- `sheet_listed::letters_of` meets its contract: the atoms of the relation are those to try.
-- Assumes nothing.
use mathlib.Core.Path.{ap}
use Rattle.sheet_listed.proofs.letters_of.Goals as goal

pub returns : goal.returns
returns c =
    let a = c.args in
    ap (λ m. record { of = a.t.of; first = a.t.first; relation = a.r; atoms = m }) c.atoms_tried.ensures
