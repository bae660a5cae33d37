-- `sheet_word::fits` meets its contract. The invariant: the bytes that are left fit exactly where all do. The measure is how many are left.
-- Assumes nothing.
use Prim.Native.Nat.{◌-◌, ◌≤◌}
use native.Mathlib.Omega.{arith}
use mathlib.Core.Path.{◌≡◌, refl, sym, ◌∙◌, ap}
use lib.Dec.{ltb}
use lib.ListN.{length, drop}
use Rattle.sheet_word.specs.ByteWords.{word_fits}
use Rattle.sheet_word.proofs.WordsRead.{fits_more, wrong_atom, wrong_relation, last_atom, no_atom}
use Rattle.sheet_word.proofs.fits.Goals as goal

pub loop-i-init : goal.loop-i-init
loop-i-init c = (omega arith, refl)

pub returns-then-atoms-wide : goal.returns-then-atoms-wide
returns-then-atoms-wide c =
    let l = c.loop-i in
    let a = c.args in
    sym (sym l.invariant.1 ∙ wrong_atom a.atoms a.relations a.word.now l.i (omega arith) (omega arith))

pub returns-then-relations-wide : goal.returns-then-relations-wide
returns-then-relations-wide c =
    let a = c.args in
    let l = c.loop-i in
    sym (sym l.invariant.1 ∙ wrong_relation a.atoms a.relations a.word.now l.i (omega arith) (omega arith) (omega arith))

pub loop-i-preserved : goal.loop-i-preserved
loop-i-preserved c =
    let a = c.args in
    let l = c.loop-i in
    (omega arith, fits_more a.atoms a.relations a.word.now l.i (omega arith) (omega arith) (omega arith) ∙ l.invariant.1)

pub returns-then-i-word : goal.returns-then-i-word
returns-then-i-word c =
    let a = c.args in
    let l = c.loop-i in
    ap (λ n. ltb n a.atoms) c.wide-then-i-word.ensures.0
    ∙ sym (last_atom a.atoms a.relations a.word.now l.i (omega arith) (omega arith)) ∙ l.invariant.1

pub returns : goal.returns
returns c =
    let a = c.args in
    let l = c.loop-i in
    sym (sym l.invariant.1 ∙ no_atom a.atoms a.relations a.word.now l.i (omega arith))
