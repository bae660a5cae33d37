-- `search_levels::step` meets its contract, by the phase.
-- Assumes nothing.
use Prim.Native.Nat.{◌-◌}
use native.Mathlib.Omega.{arith}
use mathlib.Core.Path.{◌≡◌, sym, ◌∙◌, ap}
use mathlib.Core.Logic.◌⊎◌.{inl, inr}
use Rattle.search_records.specs.Rows.{record_at}
use Rattle.search_course.proofs.Phases.{masks_begin, masks_grow}
use Rattle.search_candidates.proofs.OneCandidate.{quiet_steps}
use Rattle.search_levels.proofs.OneTurn.{small_tryable, at_before}
use borrow.Author.Rules.{rules}
use Rattle.search_levels.proofs.step.Goals as goal

pub complete-requires : goal.complete-requires
complete-requires c = let p = c.requires.0 in
    let b = p.completes c.if-t-eq-COMPLETES.true in (
      λ e. omega (arith, p.room e, b.1, b.2),
      omega (arith, p.allowance, b.1, b.2),
      omega (arith, p.allowance, b.0, b.1, b.2),
      omega (arith, p.allowance, b.1, b.2, b.3),
    )

pub returns-then-t-eq-COMPLETES : goal.returns-then-t-eq-COMPLETES
returns-then-t-eq-COMPLETES c =
    let d = c in
    let a = d.args in
    λ r e at.
    quiet_steps a.k a.left.now a.right.now a.first.now a.later.now a.cap a.t r a.words.now at d.complete.result d.complete.ensures.quiet
    (d.complete.ensures.on a.first.now a.later.now a.cap r e d.if-t-eq-COMPLETES.true at) c.quiet.result c.quiet.ensures

pub try_letter-requires : goal.try_letter-requires
try_letter-requires c = small_tryable _ _ _ _ _ c.requires.0 (inl c.if-t-eq-BEGINS.true)

pub returns-then-t-eq-BEGINS : goal.returns-then-t-eq-BEGINS
returns-then-t-eq-BEGINS c =
    let b = c in
    let a = b.args in
    let z = c.if-t-eq-BEGINS.true in
    λ r e at.
    c.try_letter.ensures a.first.now a.later.now r (sym (masks_begin a.first.now a.later.now _ z))
    (e ∙ ap (record_at r) (at_before _ _ _ _ a.t b.requires.0 (inl z))) (inl z) at

pub try_letter-requires-2 : goal.try_letter-requires-2
try_letter-requires-2 c = small_tryable _ _ _ _ _ c.requires.0 (inr (omega (arith, c.requires.1)))

pub returns : goal.returns
returns c =
    let b = c in
    let a = b.args in
    let z : a.t.phase ≡ 2 = omega (arith, b.requires.1) in
    λ r e at.
    c.try_letter-2.ensures a.first.now a.later.now r (sym (masks_grow a.first.now a.later.now _ z))
    (e ∙ ap (record_at r) (at_before _ _ _ _ a.t b.requires.0 (inr z))) (inr z) at
