-- `read_text::every_line` meets its contract. The invariant, `Going`: what is left to read, from the state now, is the whole reading from the start.
-- Assumes nothing.
use native.Mathlib.Omega.{arith}
use borrow.Author.Tests.{not-true, not-false}
use Rattle.std.specs.Prelude.{Result, Ok, Err, ◌≡◌, false}
use Rattle.std.specs.Result.{MatchResult, is_ok}
use Rattle.std.proofs.Common.{refl, rules}
use Rattle.read_declarations.specs.declared.LineState.{LineState}
use Rattle.refusals.specs.declared.Refusal.{Refusal}
use Rattle.read_text.proofs.Answers.{refusal}
use Rattle.std.proofs.lemmas.Result.{err_from_is_err_and, MatchResult-weaker}
use Rattle.read_text.proofs.Lines.{going_start, going_on, line_fits, refused_here, over_unclaimed, over_claimed}
use Rattle.read_text.proofs.every_line.Goals as goal

pub loop-at-init : goal.loop-at-init
loop-at-init c = going_start _ _ _ c.requires.1

pub read_line-requires : goal.read_line-requires
read_line-requires c =
    let l = c.loop-at in
    (l.invariant.small, line_fits _ _ _ _ _ _ _ _ l.invariant (omega arith) c.line_end-e.ensures.0 c.line_end-e.ensures.1 c.requires.0)

-- an error that `map_err` made comes of one before it
mapped_err : {X Y Z : Type 0} (r : Result X Y) (P : X → Type 0) (f : Y → Z) (z : Z) → MatchResult r P (λ c. z ≡ f c) → false ≡ is_ok r
    → (c : Y) × (r ≡ Err c) × (z ≡ f c)
mapped_err (Ok y) P f z m e = cc
mapped_err (Err c) P f z m e = (c, refl, m)

pub returns-in_err-st : goal.returns-in_err-st
returns-in_err-st c =
    let l = c.loop-at in
    let e = c.line_end-e in
    let t = c.read_line in
    let p = err_from_is_err_and c.from_residual.result c.from_residual.ensures.1 in
    let m : MatchResult t.result (λ x. ◌≡◌ {A = Result LineState Refusal} (Err c.in_err-st.field-0.0) (Ok x)) (λ w. c.in_err-st.field-0.0 ≡ refusal w l.number) =
    MatchResult-weaker t.result c.in_err-st.ensures.cases (λ x q. q) (λ w q. search rules) in
    let (why, same, place) = mapped_err t.result _ (λ w. refusal w l.number) c.in_err-st.field-0.0 m c.in_err-st.ensures.variant in
    rw (p.1, p.2, place) (refused_here _ _ _ _ _ _ _ _ l.invariant (omega arith) e.ensures.0 e.ensures.1 _ _ t.result _ t.ensures same)

pub loop-at-preserved : goal.loop-at-preserved
loop-at-preserved c =
    let l = c.loop-at in
    let e = c.line_end-e in
    let t = c.read_line in
    let same : t.result ≡ Ok c.in_ok-st.st = grind (arith, c.in_ok-st.ensures.cases, c.in_ok-st.ensures.variant) in
    going_on _ _ _ _ _ _ _ _ l.invariant (omega arith) e.ensures.0 e.ensures.1 _ _ t.result _ t.ensures same

pub returns-then-not-st : goal.returns-then-not-st
returns-then-not-st c =
    let l = c.loop-at in
    over_unclaimed _ _ _ _ _ _ _ l.invariant c.loop-at-test.false (not-true _ c.if-not-st.true) _ _ c.clear-arg-1.given.0.1
    c.clear.ensures

pub overflow_sub-number : goal.overflow_sub-number
overflow_sub-number c = omega (arith, c.loop-at.invariant.numbered)

pub known_of-requires : goal.known_of-requires
known_of-requires c =
    let l = c.loop-at in
    omega (arith, l.invariant.short, c.requires.0, c.known_of-arg-2-1.given)

pub returns : goal.returns
returns c =
    let l = c.loop-at in
    over_claimed _ _ _ _ _ _ _ l.invariant c.loop-at-test.false (omega arith)
    (not-false _ c.if-not-st.false) c.known_of.result c.known_of.ensures
