-- `sheet_fits::ring_fits` meets its contract: the first atom, Z, P, the rows of M and the rows of N, the first that is wrong decides.
-- Assumes nothing.
use Prim.Native.Nat.{◌^◌}
use native.Mathlib.Omega.{arith}
use mathlib.Core.Path.{sym, ◌∙◌, ap}
use lib.Dec.{ltb}
use Rattle.sheet_fits.proofs.Tests.{small_cell, first_wrong, flag_wrong, set_wrong, rows_m_wrong, rows_n_left}
use Rattle.sheet_fits.proofs.ring_fits.Goals as goal

pub returns-then-atoms-head : goal.returns-then-atoms-head
returns-then-atoms-head c =
    let a = c.args in
    sym (first_wrong a.atoms a.l a.r a.s.now (omega arith))

pub returns-then-head-gt1 : goal.returns-then-head-gt1
returns-then-head-gt1 c =
    let a = c.args in
    sym (flag_wrong a.atoms a.l a.r a.s.now (omega arith) (omega arith))

pub word_at-p-requires : goal.word_at-p-requires
word_at-p-requires c =
    let pre' = c.requires in
    let args' = c.args in
    let s = args'.s.now in
    (omega arith, small_cell 67 s (pre') 1 (omega arith), small_cell 67 s (pre') 2 (omega arith))

pub returns-then-not-below : goal.returns-then-not-below
returns-then-not-below c =
    let below' = c.below in
    let word-at' = c.word_at-p in
    let a = c.args in
    sym (set_wrong a.atoms a.l a.r a.s.now (omega arith) (omega arith)
    (ap (λ w. ltb w (2 ^ a.l)) (sym word-at'.ensures) ∙ sym below'.ensures ∙ c.if-not-below.true))

pub returns-then-not-rows_fit : goal.returns-then-not-rows_fit
returns-then-not-rows_fit c =
    let rows-fit' = c.rows_fit in
    let if3' = c.if-not-below in
    let below' = c.below in
    let word-at' = c.word_at-p in
    let a = c.args in
    sym (rows_m_wrong a.atoms a.l a.r a.s.now (omega arith) (omega arith)
    (ap (λ w. ltb w (2 ^ a.l)) (sym word-at'.ensures) ∙ sym below'.ensures ∙ if3'.false)
    (sym rows-fit'.ensures ∙ c.if-not-rows_fit.true))

pub returns : goal.returns
returns c =
    let if4' = c.if-not-rows_fit in
    let rows-fit' = c.rows_fit in
    let if3' = c.if-not-below in
    let below' = c.below in
    let word-at' = c.word_at-p in
    let a = c.args in
    c.rows_fit-2.ensures
    ∙ sym (rows_n_left a.atoms a.l a.r a.s.now (omega arith) (omega arith)
    (ap (λ w. ltb w (2 ^ a.l)) (sym word-at'.ensures) ∙ sym below'.ensures ∙ if3'.false)
    (sym rows-fit'.ensures ∙ if4'.false))
