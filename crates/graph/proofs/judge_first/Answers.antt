-- `graph::judge_first` meets its contract: the first codes with what they need are the items.
-- Assumes nothing.
use native.Mathlib.Omega.{arith}
use mathlib.Core.Path.{◌∙◌, ap}
use Rattle.side_items.specs.Items.{items_of}
use Rattle.graph_judge.specs.Machine.{performed_all, beginning}
use lib.ListN.{take, length-take, length-drop, length-append}
use Rattle.graph.proofs.Answered.{items_read}
use Rattle.graph.proofs.judge_first.Goals as goal

pub slice_bounds-find_args-end : goal.slice_bounds-find_args-end
slice_bounds-find_args-end c = simp length-take (omega arith)

pub slice_bounds-find_args-end-2 : goal.slice_bounds-find_args-end-2
slice_bounds-find_args-end-2 c = simp length-take (omega arith)

pub find_args-requires : goal.find_args-requires
find_args-requires c = (simp length-take (omega arith), simp length-take (omega arith))

pub slice_bounds-judge-end : goal.slice_bounds-judge-end
slice_bounds-judge-end c = simp length-take (omega arith)

pub slice_bounds-args-end-2 : goal.slice_bounds-args-end-2
slice_bounds-args-end-2 c =
    let k = simp length-take at c.find_args.auto.args in
    simp (length-append, length-drop) (omega arith)

pub slice_bounds-judge-end-2 : goal.slice_bounds-judge-end-2
slice_bounds-judge-end-2 c =
    let k = simp length-take at c.find_args.auto.args in
    simp (length-take, length-append, length-drop) (omega arith)

pub returns : goal.returns
returns c =
    let t = c in
    let k = simp length-take at t.find_args.auto.args in
    let s = c in
    let a = s.args in
    items_read a.listed.now a.codes.now _ _ a.n _ _ _ t.find_args.ensures (omega arith) s.least-m.ensures c.judge.ensures
    ∙ ap (λ i. (performed_all a.listed.now (beginning a.n) (items_of (take i a.codes.now))).state) s.least.ensures
