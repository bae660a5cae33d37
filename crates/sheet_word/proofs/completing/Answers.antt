-- `sheet_word::completing` meets its contract. The invariant: the word that is left completes a refuting word, after the standing as it
-- is, where the whole does. The
-- measure is how many bytes are left.
-- Assumes nothing.
use Prim.Native.Nat.{ℕ, ◌^◌, ◌-◌, ◌≤◌, ◌<◌}
use native.Mathlib.Omega.{arith}
use mathlib.Core.Path.{◌≡◌, refl, sym, ◌∙◌, ap, ap₂}
use lib.ListN.{length, get_or, take, drop}
use borrow.Author.Tests.{not-true, not-false}
use Rattle.kat.specs.Lists.{member}
use Rattle.claims.specs.Query.{bit}
use Rattle.claims.specs.Passing.{completes}
use Rattle.sheet_standings.specs.Layout.{cell_count}
use Rattle.sheet_standings.specs.CellSystem.{onward_cells, finals_cells, cell_system}
use Rattle.sheet_word.specs.ByteWords.{word_read}
use Rattle.sheet_word.proofs.Steps.{dead_stops, live_goes_on, last_decides}
use Rattle.sheet_word.proofs.completing.Goals as goal

pub loop-i-init : goal.loop-i-init
loop-i-init c = (c.requires.1, c.requires.0, refl)

pub returns-then-not-member : goal.returns-then-not-member
returns-then-not-member c =
    let member' = c.member in
    let number-at' = c.number_at-a in
    let v = c.args in
    let l = c.loop-i in
    sym (sym l.invariant.2
    ∙ dead_stops v.f.ring v.f.right v.f.live v.f.relations v.left.now v.right.now (omega arith) v.word.now l.i
    (take (cell_count v.f.ring) l.t) (omega arith)
    (ap (λ k. bit k v.f.live) (sym number-at'.ensures.0) ∙ sym member'.ensures ∙ c.if-not-member.true))

pub stepped-t-requires : goal.stepped-t-requires
stepped-t-requires c = c.loop-i.invariant.1

pub loop-i-preserved : goal.loop-i-preserved
loop-i-preserved c =
    let number-at2' = c.number_at-r in
    let if1' = c.if-not-member in
    let member' = c.member in
    let number-at' = c.number_at-a in
    let v = c.args in
    let l = c.loop-i in (
      omega arith,
      c.stepped-t.ensures.1,
      live_goes_on v.f.ring v.f.right v.f.live v.f.relations v.left.now v.right.now (omega arith) v.word.now l.i
          (take (cell_count v.f.ring) l.t) (take (cell_count v.f.ring) c.stepped-t.result) (omega arith)
          (ap (λ k. bit k v.f.live) (sym number-at'.ensures.0) ∙ sym member'.ensures ∙ if1'.false)
          (c.stepped-t.ensures.0 v.f.right v.f.live v.f.relations
          ∙ ap₂ (λ x y. onward_cells v.f.ring v.f.right v.f.live v.f.relations v.left.now v.right.now
          (take (cell_count v.f.ring) l.t) (record { atom = x; relation = y })) number-at'.ensures.0 number-at2'.ensures.0)
          ∙ l.invariant.2,
    )

pub completes_with-requires : goal.completes_with-requires
completes_with-requires c = c.loop-i.invariant.1

pub returns : goal.returns
returns c =
    let number-at3' = c.number_at-last in
    let v = c.args in
    let l = c.loop-i in
    c.completes_with.ensures v.f.relations
    ∙ ap (λ k. member k (finals_cells v.f.ring v.f.right v.f.live v.f.relations v.left.now v.right.now
    (take (cell_count v.f.ring) l.t))) number-at3'.ensures.0
    ∙ sym (last_decides v.f.ring v.f.right v.f.live v.f.relations v.left.now v.right.now (omega arith)
    v.word.now l.i
    (take (cell_count v.f.ring) l.t) (omega arith)) ∙ l.invariant.2
