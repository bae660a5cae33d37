-- `search_grow::seek` meets its contract: the letters that are passed over are not tried.
-- Assumes nothing.
use Rattle.search_grow.proofs.Letters.{letters_none, letters_same, letters_next, weight_more, weight_next}
use Rattle.search_grow.specs.Masks.{letters_left, letter_weight}
use Rattle.bits.proofs.Lowest.{lowest}
use borrow.Author.Rules.{rules}
use lib.Count.{ones, trailing_le}
use mathlib.Core.Path.{◌≡◌, refl, ◌∙◌}
use native.Mathlib.Omega.{arith}
use Prim.Native.Nat.{◌≤◌, ◌<◌, ◌^◌}
use Rattle.search_grow.proofs.seek.Goals as goal

pub loop-atoms-init : goal.loop-atoms-init
loop-atoms-init c = (search rules, c.requires.0, refl, omega arith)

pub overflow_cast-a : goal.overflow_cast-a
overflow_cast-a c = omega (arith, trailing_le 64 c.loop-atoms.atoms)

pub next_relation-requires : goal.next_relation-requires
next_relation-requires c = (
  c.loop-atoms.invariant.1,
  c.requires.1,
  (lowest 64 c.loop-atoms.atoms c.loop-atoms.invariant.0 c.loop-atoms-test.true).inside,
)

pub returns-in-Some : goal.returns-in-Some
returns-in-Some c =
    let l = c.loop-atoms in
    let n = c.in-Some.ensures in record {
      some = c.loop-atoms-test.true;
      same = l.invariant.2 ∙ letters_same _ _ _ _ _ c.loop-atoms-test.true n.2;
      within = n.1;
      tried = n.3;
      falls = omega (arith, l.invariant.3, weight_more l.atoms l.r c.in-Some.tried n.0);
    }

pub loop-atoms-smaller : goal.loop-atoms-smaller
loop-atoms-smaller c = omega (arith, (lowest 64 c.loop-atoms.atoms c.loop-atoms.invariant.0 c.loop-atoms-test.true).count)

pub loop-atoms-preserved : goal.loop-atoms-preserved
loop-atoms-preserved c =
    let l = c.loop-atoms in
    let z = c.loop-atoms-test.true in (
      omega (arith, (lowest 64 l.atoms l.invariant.0 z).less),
      omega arith,
      l.invariant.2 ∙ letters_next _ _ l.atoms l.r l.invariant.0 z c.in_default.ensures,
      omega (arith, l.invariant.3, weight_next l.atoms l.r l.r l.invariant.0 z (omega arith)),
    )

pub returns : goal.returns
returns c = let l = c.loop-atoms in l.invariant.2 ∙ letters_none _ _ l.atoms l.r c.loop-atoms-test.false
