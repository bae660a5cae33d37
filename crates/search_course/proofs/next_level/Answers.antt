-- `search_course::next_level` meets its contract: the allowance is spent, nothing is left, or the level begins.
-- Assumes nothing.
use Rattle.search_course.proofs.Phases.{ends_level, completes_level, level_spent, level_proved, level_completes}
use mathlib.Core.Path.{refl}
use native.Mathlib.Omega.{arith}
use borrow.Author.Rules.{rules}
use Rattle.search_course.proofs.next_level.Goals as goal

pub returns-then-t-cap : goal.returns-then-t-cap
returns-then-t-cap c = let a = c.args in record { quiet = refl; falls = ends_level _ _ (omega arith); on = λ k left right first later r w ready low on. level_spent k left right first later a.cap a.t r w ready low on c.if-t-cap.true }

pub returns-then-t : goal.returns-then-t
returns-then-t c = let a = c.args in record {
  quiet = refl;
  falls = ends_level _ _ (omega arith);
  on = λ k left right first later r w ready low on.
      level_proved k left right first later a.cap a.t r w ready low on c.if-t-cap.false c.if-t.true;
}

pub returns : goal.returns
returns c = let a = c.args in record {
  quiet = refl;
  falls = completes_level _ refl;
  on = λ k left right first later r w ready low on.
      level_completes k left right first later a.cap a.t r w ready low on c.if-t-cap.false c.if-t.false;
}
