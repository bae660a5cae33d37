-- `search_course::next_place` meets its contract: the level is over, or its next standing follows.
-- Assumes nothing.
use Rattle.search_course.proofs.Phases.{level_over, standing_on}
use mathlib.Core.Path.{refl}
use borrow.Author.Rules.{rules}
use Rattle.search_course.proofs.next_place.Goals as goal

pub returns-then-t : goal.returns-then-t
returns-then-t c = let a = c.args in
    let n = c.next_level in record {
      quiet = n.ensures.quiet;
      on = λ k left right first later r w same tries none at.
          level_over k left right first later a.cap a.t r w at none tries c.if-t.true c.requires.0 n.result n.ensures.falls
          (n.ensures.on k left right first later r w);
    }

pub returns : goal.returns
returns c = let a = c.args in record {
  quiet = refl;
  on = λ k left right first later r w same tries none at.
      standing_on k left right first later a.cap a.t r w at none tries c.if-t.false c.requires.1 a.live same (search rules);
}
