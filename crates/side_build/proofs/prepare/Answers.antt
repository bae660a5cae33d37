-- `side_build::prepare` meets its contract.
-- Assumes nothing.
use Rattle.side_build.proofs.Assembled.{half_length, half_args, args_length, sets_length, prepared, prepared_length}
use lib.ListN.{length}
use lib.Seq.{length-take-le}
use mathlib.Core.Path.{sym, ap, ◌∙◌}
use native.Mathlib.Omega.{arith}
use Rattle.side_build.proofs.prepare.Goals as goal

pub slice_bounds-find_args-end-2 : goal.slice_bounds-find_args-end-2
slice_bounds-find_args-end-2 c = sym (length-take-le _ _ (omega (arith, c.requires.0)))

pub find_args-requires : goal.find_args-requires
find_args-requires c =
    let s = c in
    (length-take-le _ _ (omega (arith, s.requires.0)), s.requires.1)

pub slice_bounds-relation_sets-end-2 : goal.slice_bounds-relation_sets-end-2
slice_bounds-relation_sets-end-2 c =
    let s = c in
    sym (ap length (half_args s.args.codes.now _ s.args.needs.now c.find_args.ensures s.requires.0) ∙ args_length s.args.codes.now)

pub slice_bounds-copy-end : goal.slice_bounds-copy-end
slice_bounds-copy-end c = sym (ap length c.relation_sets.ensures ∙ sets_length _)

pub offset_bounds-needs-n : goal.offset_bounds-needs-n
offset_bounds-needs-n c =
    let s = c in
    omega (arith, half_length s.args.codes.now _ s.args.needs.now c.find_args.ensures s.requires.0)

pub slice_bounds-copy-count : goal.slice_bounds-copy-count
slice_bounds-copy-count c =
    let s = c in
    omega (arith, half_length s.args.codes.now _ s.args.needs.now c.find_args.ensures s.requires.0)

pub slice_bounds-copy-start : goal.slice_bounds-copy-start
slice_bounds-copy-start c =
    let s = c in
    omega (arith, half_length s.args.codes.now _ s.args.needs.now c.find_args.ensures s.requires.0)

pub slice_bounds-copy-end-2 : goal.slice_bounds-copy-end-2
slice_bounds-copy-end-2 c =
    let s = c in
    omega (arith, half_length s.args.codes.now _ s.args.needs.now c.find_args.ensures s.requires.0)

pub shape_of-needs : goal.shape_of-needs
shape_of-needs c =
    let s = c in
    prepared_length s.args.codes.now _ s.args.needs.now c.find_args.ensures s.requires.0 _ _ c.relation_sets.ensures c.copy.ensures

pub returns : goal.returns
returns c =
    let s = c in
    prepared s.args.codes.now _ s.args.needs.now c.find_args.ensures s.requires.0 _ _ c.relation_sets.ensures c.copy.ensures
