-- `sheet_path::completes_with` meets its contract: a live atom is asked.
-- Assumes nothing.
use native.Mathlib.Omega.{arith}
use mathlib.Core.Path.{refl, sym, ◌∙◌, ap}
use mathlib.Core.Bool.{◌&&◌}
use Rattle.sheet_standings.specs.Layout.{wide}
use lib.ListN.{take}
use Rattle.sheet_path.proofs.Finals.{refuting, finals_member}
use borrow.Author.Rules.{rules}
use Rattle.sheet_path.proofs.completes_with.Goals as goal

pub returns-then-member : goal.returns-then-member
returns-then-member c =
    let r = c in
    let p = c in
    let m = c in
    let a = m.args in
    c.refutes.ensures
    ∙ ap (λ b. b && refuting a.left.now a.right.now p.left_of.result r.right_of.result a.a)
    (sym p.if-member.true ∙ m.member.ensures)
    ∙ finals_member a.left.now a.right.now a.live _ _ _ p.left_of.ensures r.right_of.ensures a.a (omega arith)

pub returns : goal.returns
returns c =
    let a = c.args in
    let s = take 4 a.at.now in
    ap (λ b. b && refuting a.left.now a.right.now (wide s 0) (wide s 2) a.a) (sym c.if-member.false ∙ c.member.ensures)
    ∙ finals_member a.left.now a.right.now a.live s (wide s 0) (wide s 2) refl refl a.a (omega arith)
