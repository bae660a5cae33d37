-- Sheets against the judge: the third demand in the paper's own words. For every query text, sheet and execution graph: where the sheet passes
-- as proved and the graph is judged to meet all lines, its claim is judged to hold; where the sheet passes as refuted, the graph drawn
-- from its word is judged to meet all lines, and its claim is judged not to hold. For graphs of whatever size, and for those that the
-- judge's call reads. The idea: `Sheets` says the same of the relational meaning, and a judgement is that meaning.
-- Assumes nothing.
use Prim.Native.Nat.{ℕ}
use mathlib.Core.Path.{◌≡◌}
use mathlib.Core.List.{List}
use Rattle.kat.specs.Graph.{Finite, graph}
use Rattle.kat.specs.Word.{Word}
use Rattle.notation.specs.Refusals.{ok}
use Rattle.claims.specs.Calls.{Asked, asked, passed_proved, passed_refuted, check_call, judge_call}
use Rattle.claims.specs.Judgement.{holds_in, Judgement, judgement}
use Rattle.claims.specs.Judgements.{JudgementIsMeaning}
use Rattle.claims.specs.Drawn.{drawn}
use Rattle.claims.specs.GraphBytes.{finite}
use Rattle.claims.specs.Meaning.{Execution}
use Rattle.claims.specs.Sheets.{SaysRefuted}
use Rattle.claims.proofs.Judging.{judgement_is_meaning}
use Rattle.claims.proofs.JudgeCall.{Judged, judge_call_is_meaning}
use Rattle.claims.proofs.Sheets.{passing_proved_holds, passing_refuted_breaks}

module _ (bs : List ℕ) (a : Asked) (accepted : asked bs ≡ ok a) (sheet : List ℕ) where
  -- the judgement of a graph by the query and its claim
  abbrev judged : Finite → Judgement
  judged G = judgement G a.query a.claim

  -- a sheet that passes as proved: in every execution graph that is judged to meet the lines, the claim is judged to hold
  pub passing_proved_judged_to_hold : check_call bs sheet ≡ ok passed_proved
      → (G : Finite) → Execution (graph G) a.query → (judgement G a.query a.claim).line ≡ 0
      → (judgement G a.query a.claim).outcome ≡ holds_in
  passing_proved_judged_to_hold e G x h =
      let m : JudgementIsMeaning G a.query a.claim (judged G) = judgement_is_meaning G a.query x.1 a.claim in
      m.claim.holds.1 (passing_proved_holds bs a accepted sheet e (graph G) x (m.meets_all.0 h))

  -- a sheet that passes as refuted: the graph drawn from its word is judged to meet the lines, and the claim is judged not to hold
  pub passing_refuted_judged_to_break : check_call bs sheet ≡ ok passed_refuted
      → (w : Word) × SaysRefuted a.decided sheet w
      × Execution (graph (drawn a.query a.decided.ring w)) a.query
      × ((judgement (drawn a.query a.decided.ring w) a.query a.claim).line ≡ 0)
      × ((judgement (drawn a.query a.decided.ring w) a.query a.claim).outcome ≡ holds_in → ⊥)
  passing_refuted_judged_to_break e =
      let (w, s, x, all, breaks) = passing_refuted_breaks bs a accepted sheet e in
      let G : Finite = drawn a.query a.decided.ring w in
      let m : JudgementIsMeaning G a.query a.claim (judged G) = judgement_is_meaning G a.query x.1 a.claim in
      (w, s, x, m.meets_all.1 all, λ h. breaks (m.claim.holds.0 h))

-- all three as bytes: where the sheet check passes the sheet as proved and the judge answers with line 0, it answers that the claim holds
pub passing_proved_called_to_hold : (bs sheet gs : List ℕ) (j : Judgement) → check_call bs sheet ≡ ok passed_proved → judge_call bs gs ≡ ok j
    → j.line ≡ 0 → j.outcome ≡ holds_in
passing_proved_called_to_hold bs sheet gs j e k h =
    let J : Judged bs gs j = judge_call_is_meaning bs gs j k in
    J.meaning.claim.holds.1 (
    passing_proved_holds bs _ J.asks sheet e (graph (finite J.listed)) J.execution (J.meaning.meets_all.0 h)
    )
