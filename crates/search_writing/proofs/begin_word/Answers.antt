-- `search_writing::begin_word` meets its contract: behind the empty prefix the last atom is the word.
-- Assumes nothing.
use native.Mathlib.Omega.{arith}
use mathlib.Core.Path.{refl}
use Rattle.search_writing.proofs.Turns.{atom_alone, letters_begun}
use borrow.Author.Rules.{rules}
use Rattle.search_writing.proofs.begin_word.Goals as goal

pub returns-then-place-eq0 : goal.returns-then-place-eq0
returns-then-place-eq0 c =
    let put = c.put_big_endian.ensures.1 in
    let alone = c.if-place-eq0.true in
    λ ring r w room falls. atom_alone ring r w _ _ _ _ _ _ _ (omega arith) put _ _ refl alone c.end_word.ensures

pub returns : goal.returns
returns c =
    let put = c.put_big_endian.ensures.1 in
    λ ring r w room falls.
    letters_begun ring r w _ _ _ _ _ _ _ (omega arith) put room falls (omega arith) (omega arith) c.looking.ensures
