-- `sheet_word::is_alone` meets its contract, test by test.
-- Assumes nothing.
use native.Mathlib.Omega.{arith}
use mathlib.Core.Path.{sym, ◌∙◌, ap}
use mathlib.Core.Bool.{false, not}
use borrow.Author.Tests.{not-true, not-false}
use borrow.Author.Rules.{rules}
use Rattle.kat.specs.Lists.{member}
use Rattle.sheet_word.proofs.Steps.{dead_alone, no_left_alone, left_alone}
use Rattle.sheet_word.proofs.is_alone.Goals as goal

pub returns-then-not-member : goal.returns-then-not-member
returns-then-not-member c =
    let member' = c.member in
    let v = c.args in
    sym (dead_alone false 0 v.live 0 v.left.now v.right.now (omega arith) v.a
    (sym member'.ensures ∙ c.if-not-member.true))

pub returns-then-not-null_at : goal.returns-then-not-null_at
returns-then-not-null_at c =
    let null-at' = c.null_at in
    let if1' = c.if-not-member in
    let member' = c.member in
    let v = c.args in
    sym (no_left_alone false 0 v.live 0 v.left.now v.right.now (omega arith) v.a
    (sym member'.ensures ∙ if1'.false)
    (sym null-at'.ensures ∙ c.if-not-null_at.true))

pub returns : goal.returns
returns c =
    let if2' = c.if-not-null_at in
    let null-at' = c.null_at in
    let if1' = c.if-not-member in
    let member' = c.member in
    let v = c.args in
    ap not c.null_at-2.ensures
    ∙ sym (left_alone false 0 v.live 0 v.left.now v.right.now (omega arith) v.a
    (sym member'.ensures ∙ if1'.false)
    (sym null-at'.ensures ∙ if2'.false))
