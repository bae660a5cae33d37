-- The proof of the readers of T, which call each other. The measure is how many brackets may still be opened and how many bytes of the line are
-- left, which both fall at a bracket, and then which reader it is. Laws are cited.
-- Assumes nothing.
use mathlib.Core.Path.{refl}
use native.Mathlib.Omega.{arith}
use Rattle.claims.specs.Grammar.{test_word}
use Rattle.read_tests.specs.Places.{Is, opened}
use Rattle.read_next.proofs.Next.{mark_stands}
use Rattle.read_tests.proofs.Loops.{loop_fault, loop_onward, loop_got, loop_turn}
use Rattle.read_tests.proofs.Chains.{chain_start}
use Rattle.read_tests.proofs.Bracketed.{inner_fault, inner_open, inner_closed}
use Rattle.read_tests.proofs.Rounds.{round_bracket, round_deep, round_none}
use Rattle.read_tests.proofs.Tests.{unions, meets, basics, nots_fault, nots_got}
use Rattle.std.proofs.lemmas.Result.{err_from_is_err_and}
use Rattle.read_tests.proofs.+basic_meet_not_union.Goals as goal

pub basic-word-requires : goal.basic-word-requires
basic-word-requires t c =
    c.requires.1

pub basic-returns-in_default : goal.basic-returns-in_default
basic-returns-in_default t c =
    let a = c.args in
    round_none basics (opened a.depth) a.s.now a.p c.in_default.ensures (Is test_word) (λ y h f. h)
    a.names.now a.n a.out.now c.word.new.out c.word.result c.word.ensures

pub basic-returns-then-depth-eq0 : goal.basic-returns-then-depth-eq0
basic-returns-then-depth-eq0 t c =
    let w = c.fail.ensures in
    let a = c.args in
    rw w.0 (round_deep basics a.depth a.s.now a.p _ c.in-Some.ensures c.if-depth-eq0.true, w.1)

pub basic-overflow_sub-depth : goal.basic-overflow_sub-depth
basic-overflow_sub-depth t c =
    omega (arith, c.requires.0)

pub basic-union-requires : goal.basic-union-requires
basic-union-requires t c =
    let m = mark_stands _ _ _ _ c.in-Some.ensures in (
      omega (arith, m.after, m.within),
      (
        omega (arith, c.requires.0, c.if-depth-eq0.false),
        omega (arith, c.requires.1, m.after, m.within),
      ),
    )

pub basic-returns-in_err-got : goal.basic-returns-in_err-got
basic-returns-in_err-got t c =
    let a = c.args in
    let h = c.requires in
    let p = err_from_is_err_and c.from_residual.result c.from_residual.ensures.1 in
    rw (p.1, p.2) (inner_fault (round_bracket basics a.depth h.0 c.if-depth-eq0.false) a.s.now a.names.now a.n a.p a.out.now _
    c.in-Some.ensures _ c.in_err-got.field-0.0 c.in_err-got.ensures)

pub basic-returns-in_default-mark_next : goal.basic-returns-in_default-mark_next
basic-returns-in_default-mark_next t c =
    let w = c.fail-in_default-mark_next.ensures in
    let a = c.args in
    let h = c.requires in
    rw w.0 (
      inner_open (round_bracket basics a.depth h.0 c.if-depth-eq0.false) a.s.now a.names.now a.n a.p a.out.now _
          c.in-Some.ensures _ _ c.in_ok-got.ensures c.in_default-mark_next.ensures,
      w.1,
    )

pub basic-returns : goal.basic-returns
basic-returns t c =
    let a = c.args in
    let h = c.requires in
    inner_closed (round_bracket basics a.depth h.0 c.if-depth-eq0.false) a.s.now a.names.now a.n a.p a.out.now _
    c.in-Some.ensures _ _ c.in_ok-got.ensures _ c.in-Some-mark_next.ensures _ _ refl (omega arith) (omega arith)

pub meet-loop-got-init : goal.meet-loop-got-init
meet-loop-got-init t c = chain_start _ _ _ _ _ _ _ _ meets

pub meet-not-requires : goal.meet-not-requires
meet-not-requires t c =
    let w = c.loop-got.invariant in
    let h = c.requires in
    (omega (arith, w.onward), (h.0, omega (arith, h.1, w.room)))

pub meet-returns-in_err-got : goal.meet-returns-in_err-got
meet-returns-in_err-got t c =
    let p = err_from_is_err_and c.from_residual.result c.from_residual.ensures.1 in
    rw (p.1, p.2) (loop_fault c.loop-got.invariant _ c.in_err-got.field-0.0 c.in_err-got.ensures)

pub meet-returns-in_default : goal.meet-returns-in_default
meet-returns-in_default t c =
    loop_got c.loop-got.invariant _ _ c.in_ok-got.ensures _ _
    c.requires.1 c.write-used.ensures c.in_default.ensures

pub meet-loop-got-smaller : goal.meet-loop-got-smaller
meet-loop-got-smaller t c =
    loop_onward c.loop-got.invariant _ _ c.in_ok-got.ensures _ _
    c.in-Some.ensures

pub meet-loop-got-preserved : goal.meet-loop-got-preserved
meet-loop-got-preserved t c =
    loop_turn c.loop-got.invariant _ _ c.in_ok-got.ensures _ _
    c.requires.1 c.write-used.ensures _ c.in-Some.ensures

pub not-basic-requires : goal.not-basic-requires
not-basic-requires t c =
    let m = c.marks_next-run.ensures in
    let h = c.requires in
    (omega (arith, m.onward), (h.0, omega (arith, h.1, m.room)))

pub not-returns-in_err-got : goal.not-returns-in_err-got
not-returns-in_err-got t c =
    let a = c.args in
    let p = err_from_is_err_and c.from_residual.result c.from_residual.ensures.1 in
    rw (p.1, p.2) (nots_fault (opened a.depth) a.s.now a.names.now a.n a.p a.out.now _ c.marks_next-run.ensures
    _ c.in_err-got.field-0.0 c.in_err-got.ensures)

pub not-returns : goal.not-returns
not-returns t c =
    let a = c.args in
    nots_got (opened a.depth) a.s.now a.names.now a.n a.p a.out.now _ c.marks_next-run.ensures _ _
    c.in_ok-got.ensures _ _ c.requires.1
    c.write-used.ensures

pub union-loop-got-init : goal.union-loop-got-init
union-loop-got-init t c = chain_start _ _ _ _ _ _ _ _ unions

pub union-meet-requires : goal.union-meet-requires
union-meet-requires t c =
    let w = c.loop-got.invariant in
    let h = c.requires in
    (omega (arith, w.onward), (h.0, omega (arith, h.1, w.room)))

pub union-returns-in_err-got : goal.union-returns-in_err-got
union-returns-in_err-got t c =
    let p = err_from_is_err_and c.from_residual.result c.from_residual.ensures.1 in
    rw (p.1, p.2) (loop_fault c.loop-got.invariant _ c.in_err-got.field-0.0 c.in_err-got.ensures)

pub union-returns-in_default : goal.union-returns-in_default
union-returns-in_default t c =
    loop_got c.loop-got.invariant _ _ c.in_ok-got.ensures _ _
    c.requires.1 c.write-used.ensures c.in_default.ensures

pub union-loop-got-smaller : goal.union-loop-got-smaller
union-loop-got-smaller t c =
    loop_onward c.loop-got.invariant _ _ c.in_ok-got.ensures _ _
    c.in-Some.ensures

pub union-loop-got-preserved : goal.union-loop-got-preserved
union-loop-got-preserved t c =
    loop_turn c.loop-got.invariant _ _ c.in_ok-got.ensures _ _
    c.requires.1 c.write-used.ensures _ c.in-Some.ensures
