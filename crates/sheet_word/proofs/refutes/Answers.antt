-- `sheet_word::refutes` meets its contract: a single atom, an atom that is not live, or the rest of the word after the first letter.
-- Assumes nothing.
use Prim.Native.Nat.{◌^◌, ◌<◌}
use native.Mathlib.Omega.{arith}
use mathlib.Core.Path.{sym, ◌∙◌, ap, ap₂}
use lib.ListN.{take}
use borrow.Author.Tests.{not-true, not-false}
use borrow.Author.Rules.{rules}
use Rattle.kat.specs.Lists.{member}
use Rattle.claims.specs.Query.{bit}
use Rattle.standings.specs.Steps.{alone_words}
use Rattle.sheet_standings.specs.Layout.{cell_count}
use Rattle.sheet_standings.specs.CellSystem.{begin_cells}
use Rattle.sheet_word.proofs.Steps.{atom_refutes, dead_refutes, live_refutes}
use Rattle.sheet_word.proofs.refutes.Goals as goal

pub returns-then-word-lt2 : goal.returns-then-word-lt2
returns-then-word-lt2 c =
    let number-at' = c.number_at-a in
    let v = c.args in
    c.is_alone.ensures ∙ ap (λ k. member k (alone_words v.left.now v.right.now v.f.live)) number-at'.ensures.0
    ∙ sym (atom_refutes v.f.ring v.f.right v.f.live v.f.relations v.left.now v.right.now (omega arith)
    v.word.now (omega arith))

pub returns-then-not-member : goal.returns-then-not-member
returns-then-not-member c =
    let member' = c.member in
    let number-at' = c.number_at-a in
    let v = c.args in
    sym (dead_refutes v.f.ring v.f.right v.f.live v.f.relations v.left.now v.right.now (omega arith) v.word.now
    (omega arith)
    (ap (λ k. bit k v.f.live) (sym number-at'.ensures.0) ∙ sym member'.ensures ∙ c.if-not-member.true))

pub returns : goal.returns
returns c =
    let v = c.args in
    let small : v.f.live < 2 ^ 64 = omega arith in
    let begun' = c.begun-s in
    let number-at2' = c.number_at-r in
    let if2' = c.if-not-member in
    let member' = c.member in
    let number-at' = c.number_at-a in
    c.completing.ensures
    ∙ live_refutes v.f.ring v.f.right v.f.live v.f.relations v.left.now v.right.now small v.word.now
    (take (cell_count v.f.ring) begun'.result) (omega arith)
    (ap (λ k. bit k v.f.live) (sym number-at'.ensures.0) ∙ sym member'.ensures ∙ if2'.false)
    (begun'.ensures.0 v.f.right v.f.live v.f.relations
    ∙ ap₂ (λ x y. begin_cells v.f.ring v.f.right v.f.live v.f.relations v.left.now v.right.now
    (record { atom = x; relation = y }))
    number-at'.ensures.0 number-at2'.ensures.0)
