-- `search_store::append` meets its contract.
-- Assumes nothing.
use native.Mathlib.Omega.{arith}
use mathlib.Core.Path.{refl}
use mathlib.Core.Bool.{true}
use lib.ListN.{length-set}
use Rattle.search_store.proofs.Standing.{words_ring}
use borrow.Author.Rules.{rules}
use Rattle.search_store.proofs.append.Goals as goal

pub copy-requires : goal.copy-requires
copy-requires c = (omega arith, search rules)

pub bounds-words-base : goal.bounds-words-base
bounds-words-base c = omega (arith, c.copy.auto.to)

pub bounds-words-base-2 : goal.bounds-words-base-2
bounds-words-base-2 c = simp length-set (omega (arith, c.copy.auto.to))

pub returns : goal.returns
returns c = words_ring true _ _ _ _ _ refl _ c.copy.ensures
