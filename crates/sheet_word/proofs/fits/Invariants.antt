-- `sheet_word::fits` meets its contract. The invariant: the bytes that are left fit exactly where all do. The measure is how many are left.
-- Assumes nothing.
use Prim.Native.Nat.{◌-◌, ◌≤◌}
use native.Mathlib.Omega.{arith}
use mathlib.Core.Path.{◌≡◌, refl, sym, ◌∙◌, ap}
use lib.Dec.{ltb}
use lib.ListN.{length, drop}
use Rattle.sheet_word.specs.ByteWords.{word_fits}
use Rattle.sheet_word.proofs.WordsRead.{fits_more, wrong_atom, wrong_relation, last_atom, no_atom}
use Rattle.sheet_word.proofs.fits.Given as goal

abbrev pub invariant-loop-i : goal.invariant-loop-i
invariant-loop-i l = (l.i ≤ length l.word) × (word_fits l.atoms l.relations (drop l.i l.word) ≡ word_fits l.atoms l.relations l.word)

abbrev pub decreases-loop-i : goal.decreases-loop-i
decreases-loop-i l = length l.word - l.i
