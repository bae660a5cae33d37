-- The proof of the readers of E, which call each other for what stands in round brackets. The measure is how many
-- brackets may still be opened and how many bytes of the line are left, which both fall at a bracket, and then which reader it is. The laws are
-- those of chains, of postfixes and of brackets; here they are cited.
-- Assumes nothing.
use mathlib.Core.Path.{refl, sym}
use native.Mathlib.Omega.{arith}
use Rattle.read_tests.specs.Places.{opened}
use Rattle.read_next.proofs.Next.{mark_stands}
use Rattle.read_tests.proofs.Loops.{loop_fault, loop_onward, loop_got, loop_turn}
use Rattle.read_tests.proofs.Chains.{chain_start}
use Rattle.read_tests.proofs.Bracketed.{inner_fault, inner_open, inner_closed}
use Rattle.read_tests.proofs.Rounds.{round_bracket, round_deep}
use Rattle.read_exprs.proofs.PostfixRuns.{postfix_fault, postfix_room, postfix_got}
use Rattle.read_exprs.proofs.Trees.{unions, sequences, factors}
use Rattle.std.proofs.lemmas.Result.{err_from_is_err_and}
use Rattle.read_exprs.proofs.+factor_postfix_sequence_union.Goals as goal

pub factor-leaf-requires : goal.factor-leaf-requires
factor-leaf-requires t c =
    record { depth_bound = c.requires; at_value = sym c.in_default.ensures }

pub factor-returns-in_default : goal.factor-returns-in_default
factor-returns-in_default t c = c.leaf.ensures

pub factor-returns-then-depth-eq0 : goal.factor-returns-then-depth-eq0
factor-returns-then-depth-eq0 t c =
    let w = c.fail.ensures in
    let a = c.args in
    rw w.0 (round_deep factors a.depth a.s.now a.p _ c.in-Some.ensures c.if-depth-eq0.true, w.1)

pub factor-overflow_sub-depth : goal.factor-overflow_sub-depth
factor-overflow_sub-depth t c =
    omega (arith, c.requires.0)

pub factor-union-requires : goal.factor-union-requires
factor-union-requires t c =
    let m = mark_stands _ _ _ _ c.in-Some.ensures in (
      omega (arith, m.after, m.within),
      (
        omega (arith, c.requires.0, c.if-depth-eq0.false),
        omega (arith, c.requires.1, m.after, m.within),
      ),
    )

pub factor-returns-in_err-got : goal.factor-returns-in_err-got
factor-returns-in_err-got t c =
    let a = c.args in
    let h = c.requires in
    let p = err_from_is_err_and c.from_residual.result c.from_residual.ensures.1 in
    rw (p.1, p.2) (inner_fault (round_bracket factors a.depth h.0 c.if-depth-eq0.false) a.s.now a.names.now a.n a.p a.out.now _
    c.in-Some.ensures _ c.in_err-got.field-0.0 c.in_err-got.ensures)

pub factor-returns-in_default-mark_next : goal.factor-returns-in_default-mark_next
factor-returns-in_default-mark_next t c =
    let w = c.fail-in_default-mark_next.ensures in
    let a = c.args in
    let h = c.requires in
    rw w.0 (
      inner_open (round_bracket factors a.depth h.0 c.if-depth-eq0.false) a.s.now a.names.now a.n a.p a.out.now _
          c.in-Some.ensures _ _ c.in_ok-got.ensures c.in_default-mark_next.ensures,
      w.1,
    )

pub factor-returns : goal.factor-returns
factor-returns t c =
    let a = c.args in
    let h = c.requires in
    inner_closed (round_bracket factors a.depth h.0 c.if-depth-eq0.false) a.s.now a.names.now a.n a.p a.out.now _
    c.in-Some.ensures _ _ c.in_ok-got.ensures _ c.in-Some-mark_next.ensures _ _ refl (omega arith) (omega arith)

pub postfix-factor-requires : goal.postfix-factor-requires
postfix-factor-requires t c = (omega (arith), c.requires)

pub postfix-returns-in_err-got : goal.postfix-returns-in_err-got
postfix-returns-in_err-got t c =
    let a = c.args in
    let p = err_from_is_err_and c.from_residual.result c.from_residual.ensures.1 in
    rw (p.1, p.2) (postfix_fault (opened a.depth) a.s.now a.names.now a.n a.p a.out.now _ c.in_err-got.field-0.0 c.in_err-got.ensures)

pub postfix-postfixes-requires : goal.postfix-postfixes-requires
postfix-postfixes-requires t c =
    let a = c.args in
    postfix_room (opened a.depth) a.s.now a.names.now a.n a.p a.out.now _ _ c.in_ok-got.ensures c.requires.1

pub postfix-returns : goal.postfix-returns
postfix-returns t c =
    let a = c.args in
    postfix_got (opened a.depth) a.s.now a.names.now a.n a.p a.out.now _ _ c.in_ok-got.ensures _ _ c.postfixes.ensures

pub sequence-loop-got-init : goal.sequence-loop-got-init
sequence-loop-got-init t c = chain_start _ _ _ _ _ _ _ _ sequences

pub sequence-postfix-requires : goal.sequence-postfix-requires
sequence-postfix-requires t c =
    let w = c.loop-got.invariant in
    let h = c.requires in
    (omega (arith, w.onward), (h.0, omega (arith, h.1, w.room)))

pub sequence-returns-in_err-got : goal.sequence-returns-in_err-got
sequence-returns-in_err-got t c =
    let p = err_from_is_err_and c.from_residual.result c.from_residual.ensures.1 in
    rw (p.1, p.2) (loop_fault c.loop-got.invariant _ c.in_err-got.field-0.0 c.in_err-got.ensures)

pub sequence-returns-in_default : goal.sequence-returns-in_default
sequence-returns-in_default t c =
    loop_got c.loop-got.invariant _ _ c.in_ok-got.ensures _ _
    c.requires.1 c.write-used.ensures c.in_default.ensures

pub sequence-loop-got-smaller : goal.sequence-loop-got-smaller
sequence-loop-got-smaller t c =
    loop_onward c.loop-got.invariant _ _ c.in_ok-got.ensures _ _
    c.in-Some.ensures

pub sequence-loop-got-preserved : goal.sequence-loop-got-preserved
sequence-loop-got-preserved t c =
    loop_turn c.loop-got.invariant _ _ c.in_ok-got.ensures _ _
    c.requires.1 c.write-used.ensures _ c.in-Some.ensures

pub union-loop-got-init : goal.union-loop-got-init
union-loop-got-init t c = chain_start _ _ _ _ _ _ _ _ unions

pub union-sequence-requires : goal.union-sequence-requires
union-sequence-requires t c =
    let w = c.loop-got.invariant in
    let h = c.requires in
    (omega (arith, w.onward), (h.0, omega (arith, h.1, w.room)))

pub union-returns-in_err-got : goal.union-returns-in_err-got
union-returns-in_err-got t c =
    let p = err_from_is_err_and c.from_residual.result c.from_residual.ensures.1 in
    rw (p.1, p.2) (loop_fault c.loop-got.invariant _ c.in_err-got.field-0.0 c.in_err-got.ensures)

pub union-returns-in_default : goal.union-returns-in_default
union-returns-in_default t c =
    loop_got c.loop-got.invariant _ _ c.in_ok-got.ensures _ _
    c.requires.1 c.write-used.ensures c.in_default.ensures

pub union-loop-got-smaller : goal.union-loop-got-smaller
union-loop-got-smaller t c =
    loop_onward c.loop-got.invariant _ _ c.in_ok-got.ensures _ _
    c.in-Some.ensures

pub union-loop-got-preserved : goal.union-loop-got-preserved
union-loop-got-preserved t c =
    loop_turn c.loop-got.invariant _ _ c.in_ok-got.ensures _ _
    c.requires.1 c.write-used.ensures _ c.in-Some.ensures
