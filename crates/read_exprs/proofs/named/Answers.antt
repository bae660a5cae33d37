-- `read_exprs::named` meets its contract. One law for each way out, by the token that is found and its key.
-- Assumes nothing.
use native.Mathlib.Omega.{arith}
use Rattle.read_tests.proofs.Words.{scanned, named_reserved, named_taken, name_no_word}
use borrow.Enum.Refused.{opened as unsealed}
use Rattle.read_exprs.proofs.named.Goals as goal

pub returns-in_default : goal.returns-in_default
returns-in_default c =
    let w = c.fail.ensures in
    rw w.0 (name_no_word _ _ c.token_at-t.ensures (unsealed c.in_default.in_default-own.keys2), w.1)

pub returns-then-reserved : goal.returns-then-reserved
returns-then-reserved c =
    let w = c.fail-then-reserved.ensures in
    let a = c.args in
    rw w.0 (
      named_reserved a.s.now a.names.now a.n a.p a.out.now _ _
          (scanned _ _ c.token_at-t.ensures c.in-Word.is) _ c.reserved.ensures c.if-reserved.true,
      w.1,
    )

pub bounds-out-used : goal.bounds-out-used
bounds-out-used c =
    let w = scanned _ _ c.token_at-t.ensures c.in-Word.is in
    omega (arith, w.after, w.within, c.requires)

pub returns : goal.returns
returns c =
    let a = c.args in
    named_taken a.s.now a.names.now a.n a.p a.out.now _ _
    (scanned _ _ c.token_at-t.ensures c.in-Word.is) _ c.reserved.ensures _ _ _
    c.if-reserved.false c.find-code.ensures c.slip_of.ensures c.first_slip.ensures
