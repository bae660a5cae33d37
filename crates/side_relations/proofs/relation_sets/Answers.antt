-- `side_relations::relation_sets` meets its contract: all relations start unlimited, and the memory is as long as its type says.
-- Assumes nothing.
use native.Mathlib.Omega.{arith}
use mathlib.Core.Path.{sym, ◌∙◌, ap}
use lib.ListN.{length, take}
use lib.Seq.{length-take-le}
use Rattle.side_relations.proofs.Narrowed.{relation_words}
use Rattle.side_relations.proofs.relation_sets.Goals as goal

pub slice_bounds-closed_set-end : goal.slice_bounds-closed_set-end
slice_bounds-closed_set-end c = sym (length-take-le _ _ (omega (arith, c.min-n.ensures)))

pub returns : goal.returns
returns c =
    let t = c.narrow_all in
    let a = c.args in
    c.relation_words.ensures
    ∙ relation_words a.codes.now a.args.now _ _ _ (length a.rels.now)
    (ap (λ n. take n a.codes.now) c.min-n.ensures) c.closed_set-closed.ensures (omega arith)
    t.ensures
