-- `read_exprs::leaf` meets its contract: the laws of square brackets and of names.
-- Assumes nothing.
use native.Mathlib.Omega.{arith}
use Rattle.read_tests.specs.Places.{opened}
use Rattle.read_next.proofs.Next.{mark_stands}
use Rattle.read_next.proofs.Stores.{written_room}
use Rattle.read_tests.proofs.Bracketed.{inner_fault, inner_open, inner_closed, inner_room}
use Rattle.read_exprs.proofs.Trees.{square_bracket, factor_named}
use Rattle.std.proofs.lemmas.Result.{err_from_is_err_and}
use Rattle.read_exprs.proofs.leaf.Goals as goal

pub named-requires : goal.named-requires
named-requires c =
    c.requires.depth_bound.1

pub returns-in_default : goal.returns-in_default
returns-in_default c =
    let a = c.args in
    factor_named (opened a.depth) a.s.now a.names.now a.n a.p a.out.now c.named.new.out
    c.requires.at_value c.in_default.ensures c.named.result
    c.named.ensures

pub union-requires : goal.union-requires
union-requires c =
    let m = mark_stands _ _ _ _ c.in-Some.ensures in
    (c.requires.depth_bound.0, omega (arith, c.requires.depth_bound.1, m.after, m.within))

pub returns-in_err-got : goal.returns-in_err-got
returns-in_err-got c =
    let a = c.args in
    let p = err_from_is_err_and c.from_residual.result c.from_residual.ensures.1 in
    rw (p.1, p.2) (inner_fault (square_bracket (opened a.depth)) a.s.now a.names.now a.n a.p a.out.now _ c.in-Some.ensures _ c.in_err-got.field-0.0 c.in_err-got.ensures)

pub returns-in_default-mark_next : goal.returns-in_default-mark_next
returns-in_default-mark_next c =
    let w = c.fail.ensures in
    let a = c.args in
    rw w.0 (
      inner_open (square_bracket (opened a.depth)) a.s.now a.names.now a.n a.p a.out.now _ c.in-Some.ensures _ _ c.in_ok-got.ensures c.in_default-mark_next.ensures,
      w.1,
    )

pub returns : goal.returns
returns c =
    let a = c.args in
    let (u, o) = written_room _ _ _ _ _ _ c.write-used.ensures
    (inner_room (square_bracket (opened a.depth)) a.s.now a.names.now a.n a.p a.out.now _
    c.in-Some.ensures _ _ c.in_ok-got.ensures _ c.in-Some-mark_next.ensures c.requires.depth_bound.1) in
    inner_closed (square_bracket (opened a.depth)) a.s.now a.names.now a.n a.p a.out.now _
    c.in-Some.ensures _ _ c.in_ok-got.ensures _ c.in-Some-mark_next.ensures _ _
    o u (omega arith)
