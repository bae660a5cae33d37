-- `search_candidates::complete` meets its contract, by whether the standing completes a word and whether it is the last of its level.
-- Assumes nothing.
use Rattle.search_candidates.proofs.OneStanding.{completes_word, level_grows, next_standing}
use Rattle.search_standings.specs.First.{first_or}
use Rattle.search_standings.specs.Systems.{finals_words}
use native.Mathlib.Omega.{arith}
use mathlib.Core.Path.{refl, ◌∙◌, ap}
use borrow.Author.Rules.{rules}
use Rattle.search_candidates.proofs.complete.Goals as goal

pub returns-then-a-lt64 : goal.returns-then-a-lt64
returns-then-a-lt64 c = let a = c.args in record {
  quiet = refl;
  on = λ first later cap r e z at.
      completes_word a.k a.left.now a.right.now first later cap a.t r a.words.now at z c.first_final-a.result
      (c.first_final-a.ensures
      ∙ ap (λ x. first_or 64 (finals_words a.k a.left.now a.right.now x))
      (c.stand.ensures r e)) c.if-a-lt64.true;
}

pub returns-then-t : goal.returns-then-t
returns-then-t c = let b = c in
    let a = b.args in record {
      quiet = refl;
      on = λ first later cap r e z at.
          level_grows a.k a.left.now a.right.now first later cap a.t r a.words.now at z b.first_final-a.result
          (b.first_final-a.ensures
          ∙ ap (λ x. first_or 64 (finals_words a.k a.left.now a.right.now x))
          (b.stand.ensures r e)) (omega (arith, b.before.before.before.before.before.well_formed.0)) c.if-a-lt64.false (omega arith) (omega arith) c.if-t.true;
    }

pub returns : goal.returns
returns c = let b = c in
    let a = b.args in record {
      quiet = refl;
      on = λ first later cap r e z at.
          next_standing a.k a.left.now a.right.now first later cap a.t r a.words.now at z b.first_final-a.result
          (b.first_final-a.ensures
          ∙ ap (λ x. first_or 64 (finals_words a.k a.left.now a.right.now x))
          (b.stand.ensures r e)) (omega (arith, b.before.before.before.before.before.well_formed.0)) c.if-a-lt64.false (omega arith) c.if-t.false;
    }
