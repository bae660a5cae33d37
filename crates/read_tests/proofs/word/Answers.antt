-- `read_tests::word` meets its contract. One law for each way out, by the token that is found and its key.
-- Assumes nothing.
use native.Mathlib.Omega.{arith}
use Rattle.read_names.specs.Keys.{same_key}
use Rattle.read_tests.proofs.Words.{scanned, word_true, word_false, word_reserved, word_named, test_no_word}
use borrow.Enum.Refused.{opened as unsealed}
use Rattle.read_tests.proofs.word.Goals as goal

pub returns-in_default : goal.returns-in_default
returns-in_default c =
    let w = c.fail.ensures in
    rw w.0 (test_no_word _ _ c.token_at-t.ensures (unsealed c.in_default.in_default-own.keys2), w.1)

pub bounds-out-used : goal.bounds-out-used
bounds-out-used c =
    let w = scanned _ _ c.token_at-t.ensures c.in-Word.is in
    omega (arith, w.after, w.within, c.requires)

pub returns-then-eq : goal.returns-then-eq
unfolding same_key
returns-then-eq c =
    let a = c.args in
    word_true a.s.now a.names.now a.n a.p a.out.now _ _
    (scanned _ _ c.token_at-t.ensures c.in-Word.is) _ _ c.key.ensures
    c.eq.ensures c.if-eq.true

pub bounds-out-used-then-eq-2 : goal.bounds-out-used-then-eq-2
bounds-out-used-then-eq-2 c =
    let w = scanned _ _ c.token_at-t.ensures c.in-Word.is in
    omega (arith, w.after, w.within, c.requires)

pub returns-then-eq-2 : goal.returns-then-eq-2
unfolding same_key
returns-then-eq-2 c =
    let a = c.args in
    word_false a.s.now a.names.now a.n a.p a.out.now _ _
    (scanned _ _ c.token_at-t.ensures c.in-Word.is) _ _ c.key.ensures
    c.eq.ensures _ _ c.if-eq.false c.key-2.ensures
    c.eq-2.ensures c.if-eq-2.true

pub returns-then-reserved : goal.returns-then-reserved
unfolding same_key
returns-then-reserved c =
    let w = c.fail-then-reserved.ensures in
    let a = c.args in
    rw w.0 (
      word_reserved a.s.now a.names.now a.n a.p a.out.now _ _
          (scanned _ _ c.token_at-t.ensures c.in-Word.is) _ _ c.key.ensures
          c.eq.ensures _ _ c.if-eq.false c.key-2.ensures
          c.eq-2.ensures _ c.if-eq-2.false c.reserved.ensures c.if-reserved.true,
      w.1,
    )

pub bounds-out-used-2 : goal.bounds-out-used-2
bounds-out-used-2 c =
    let w = scanned _ _ c.token_at-t.ensures c.in-Word.is in
    omega (arith, w.after, w.within, c.requires)

pub returns : goal.returns
unfolding same_key
returns c =
    let a = c.args in
    word_named a.s.now a.names.now a.n a.p a.out.now _ _
    (scanned _ _ c.token_at-t.ensures c.in-Word.is) _ _ c.key.ensures
    c.eq.ensures _ _ c.if-eq.false c.key-2.ensures
    c.eq-2.ensures _ c.if-eq-2.false c.reserved.ensures _ _ _ c.if-reserved.false
    c.find-code.ensures c.slip_of.ensures c.first_slip.ensures
