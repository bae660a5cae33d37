-- `side_relations::relation_words` meets its contract. The invariant: with the rest filled, all of it is. The measure is what is left.
-- Assumes nothing.
use native.Mathlib.Omega.{arith}
use mathlib.Core.Path.{refl, sym, ◌∙◌}
use lib.ListN.{length, length-set}
use Rattle.claims.specs.Query.{bit}
use Rattle.memory.proofs.Words.{fill_begin, fill_more, fill_end}
use Rattle.side_relations.specs.Relations.{relation_at}
use Rattle.side_relations.proofs.relation_words.Goals as goal

pub loop-i-init : goal.loop-i-init
loop-i-init c =
    let a = c.args in
    (refl, fill_begin (relation_at (λ k. bit k a.closed) a.limits.now) a.rels.now)

pub loop-i-preserved : goal.loop-i-preserved
loop-i-preserved c =
    let l = c.loop-i in
    let a = c.args in (
      simp length-set l.invariant.0,
      fill_more (relation_at (λ k. bit k a.closed) a.limits.now) l.rels (length a.rels.now) l.i _
          (omega arith) (omega arith) c.relation_at.ensures
          ∙ l.invariant.1,
    )

pub shape_of-rels : goal.shape_of-rels
shape_of-rels c = c.loop-i.invariant.0

pub returns : goal.returns
returns c =
    let l = c.loop-i in
    let a = c.args in
    sym (fill_end (relation_at (λ k. bit k a.closed) a.limits.now) l.rels (length a.rels.now) l.i (omega arith))
    ∙ l.invariant.1
