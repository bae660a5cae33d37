-- `sheet_fits::path_fits` meets its contract: P decides, then S.
-- Assumes nothing.
use Prim.Native.Nat.{◌^◌}
use native.Mathlib.Omega.{arith}
use mathlib.Core.Path.{sym, ◌∙◌, ap}
use lib.Dec.{ltb}
use Rattle.sheet_fits.proofs.Tests.{small_cell, left_wrong, left_right}
use Rattle.sheet_fits.proofs.path_fits.Goals as goal

pub word_at-p-requires : goal.word_at-p-requires
word_at-p-requires c =
    let s = c.args.s.now in
    (omega arith, small_cell 4 s c.requires 0 (omega arith), small_cell 4 s c.requires 1 (omega arith))

pub returns-then-not-below : goal.returns-then-not-below
returns-then-not-below c =
    let below' = c.below in
    let word-at' = c.word_at-p in
    let a = c.args in
    sym (left_wrong a.l a.r a.s.now
    (ap (λ w. ltb w (2 ^ a.l)) (sym word-at'.ensures) ∙ sym below'.ensures ∙ c.if-not-below.true))

pub word_at-q-requires : goal.word_at-q-requires
word_at-q-requires c =
    let pre' = c.requires in
    let args' = c.args in
    let s = args'.s.now in
    (omega arith, small_cell 4 s (pre') 2 (omega arith), small_cell 4 s (pre') 3 (omega arith))

pub returns : goal.returns
returns c =
    let word-at2' = c.word_at-q in
    let if1' = c.if-not-below in
    let below' = c.below in
    let word-at' = c.word_at-p in
    let a = c.args in
    c.below-2.ensures ∙ ap (λ w. ltb w (2 ^ a.r)) word-at2'.ensures
    ∙ sym (left_right a.l a.r a.s.now
    (ap (λ w. ltb w (2 ^ a.l)) (sym word-at'.ensures) ∙ sym below'.ensures ∙ if1'.false))
