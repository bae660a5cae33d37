-- Sheets mean what they say: the third demand, whole. For every query that the reader accepts and every list of bytes that passes for it:
-- if it says proved, the claim holds in every graph, of whatever size, that meets the query's lines; if it says refuted, the graph drawn
-- from its word meets all the query's lines and breaks the claim. And for every query and allowance the sheet that the search writes
-- passes, and stands at the start of the sheet buffer after the call.
-- Assumes nothing.
use Prim.Native.Nat.{ℕ, ◌≤◌}
use mathlib.Core.Path.{◌≡◌, refl, sym, ◌∙◌, ap, subst}
use mathlib.Core.Bool.{Bool}
use mathlib.Core.List.{List, ◌++◌}
use lib.ListN.{length, drop}
use Rattle.kat.specs.Graph.{Graph, graph}
use Rattle.kat.specs.Word.{Word}
use Rattle.notation.specs.Sides.{Decision, decision}
use Rattle.notation.specs.Refusals.{Refusal, Result, ok, refused, afterwards}
use Rattle.claims.specs.Calls.{Answer, Given, searched, Asked, asked, Lent, Done, left_behind, search_call, passed_proved, passed_refuted, checked, check_call}
use Rattle.notation.specs.Words.{Refutes}
use Rattle.claims.specs.Drawn.{drawn}
use Rattle.claims.specs.Meaning.{Execution, MeetsAll, ClaimHolds}
use Rattle.notation.proofs.Results.{refused_not_ok}
use Rattle.claims.proofs.SearchOrder.{asked_accepted, search_reads_first, allowance_next, memory_next, spent_next, buffer_last, else_answered}
use Rattle.claims.specs.CallOrder.{asked_as, sought, WayOut, unread, out, short, exhausted, unwritten, written}
use Rattle.claims.proofs.SearchMemory.{search_outcomes}
use Rattle.verdicts.specs.Orders.{Rising}
use Rattle.verdicts.proofs.Lawful.{decision_rising}
use Rattle.claims.proofs.Limits.{asked_within_limits, asked_read}
use Rattle.claims.proofs.Soundness.{holds_in_every_graph}
use Rattle.claims.proofs.Drawn.{drawn_is_counterexample}
use Rattle.claims.proofs.Checked.{passing_proved, passing_refuted}
use Rattle.claims.specs.Sheets.{SaysRefuted, passed_as}
use Rattle.claims.proofs.Written.{searched_passes}

module _ (bs : List ℕ) (a : Asked) (accepted : asked bs ≡ ok a) where
  is_decision : a.decided ≡ decision a.query a.claim
  is_decision = (asked_read bs accepted).2

  pub live_rises : Rising a.decided.live
  live_rises = subst (λ (D : Decision). Rising D.live) (sym is_decision) (decision_rising a.query a.claim)

  pub check_is : (sheet : List ℕ) → check_call bs sheet ≡ checked a.decided sheet
  unfolding check_call
  check_is sheet = ap (λ r. afterwards r (λ b. checked b.decided sheet)) accepted

  -- a passing sheet that says proved: the claim holds in every graph that meets the query's lines
  pub passing_proved_holds : (sheet : List ℕ) → check_call bs sheet ≡ ok passed_proved
      → (G : Graph) → Execution G a.query → MeetsAll G a.query → ClaimHolds G a.query a.claim
  passing_proved_holds sheet e =
      holds_in_every_graph a.query a.claim
      (λ w h. passing_proved a.decided live_rises sheet (sym (check_is sheet) ∙ e) w (subst (λ (D : Decision). Refutes D w) (sym is_decision) h))

  -- a passing sheet that says refuted holds a word that refutes
  pub passing_refuted_refutes : (sheet : List ℕ) → check_call bs sheet ≡ ok passed_refuted
      → (w : Word) × SaysRefuted a.decided sheet w × Refutes (decision a.query a.claim) w
  passing_refuted_refutes sheet e =
      let (w, h, r) = passing_refuted a.decided live_rises sheet (sym (check_is sheet) ∙ e) in
      (w, h, subst (λ (D : Decision). Refutes D w) is_decision r)

  -- a passing sheet that says refuted: the graph drawn from its word meets the query's lines and breaks the claim
  pub passing_refuted_breaks : (sheet : List ℕ) → check_call bs sheet ≡ ok passed_refuted
      → (w : Word) × SaysRefuted a.decided sheet w
      × Execution (graph (drawn a.query a.decided.ring w)) a.query
      × MeetsAll (graph (drawn a.query a.decided.ring w)) a.query
      × (ClaimHolds (graph (drawn a.query a.decided.ring w)) a.query a.claim → ⊥)
  passing_refuted_breaks sheet e =
      let (w, h, r) = passing_refuted_refutes sheet e in
      let G : Bool → Graph = λ k. graph (drawn a.query k w) in
      let k : (decision a.query a.claim).ring ≡ a.decided.ring = ap (λ (D : Decision). D.ring) (sym is_decision) in
      let (x, m, b) = drawn_is_counterexample a.query a.claim w r in (
        w,
        h,
        subst (λ k. Execution (G k) a.query) k x,
        subst (λ k. MeetsAll (G k) a.query) k m,
        subst (λ k. ClaimHolds (G k) a.query a.claim → ⊥) k b,
      )

  -- every sheet that the search writes passes, as what it says
  pub written_sheet_passes : (allowance : ℕ) → allowance ≤ 4096 → (g : Given) → searched a.decided allowance ≡ ok g
      → check_call bs g.sheet ≡ ok (passed_as g.answer)
  written_sheet_passes allowance few g h =
      check_is g.sheet ∙ searched_passes a.decided live_rises (asked_within_limits bs accepted) allowance few g h

-- a sheet at the start of the buffer, that passes as the answer says
abbrev Stands : List ℕ → Answer → List ℕ → Type 0
Stands bs ans buffer = (sheet : List ℕ) × (rest : List ℕ) × (buffer ≡ sheet ++ rest) × (check_call bs sheet ≡ ok (passed_as ans))

-- a call that ended in a refusal gave no answer
pub no_answer : {B : Type 0} (d : Done) {r : Refusal} {m : Lent} {ans : Answer} → d ≡ record { result = refused r; lent = m } → d.result ≡ ok ans → B
no_answer d e h = refused_not_ok (sym (ap (λ (x : Done). x.result) e) ∙ h)

pub left_buffer : (D : Decision) (allowance : ℕ) (sheet : List ℕ) (m : Lent)
    → (left_behind D allowance sheet m).buffer ≡ sheet ++ drop (length sheet) m.buffer
unfolding left_behind
left_buffer D allowance sheet m = refl

-- after an answer the sheet stands at the start of the sheet buffer, and passes as what it says
pub answered_sheet_passes : (bs : List ℕ) (allowance : ℕ) (m : Lent) (ans : Answer) → (search_call bs allowance m).result ≡ ok ans
    → (sheet : List ℕ) × (rest : List ℕ) × ((search_call bs allowance m).lent.buffer ≡ sheet ++ rest)
    × (check_call bs sheet ≡ ok (passed_as ans))
answered_sheet_passes bs allowance m ans e = go (search_outcomes bs allowance m)
  where
    go : WayOut bs allowance m → Stands bs ans (search_call bs allowance m).lent.buffer
    go (unread r h) = no_answer (search_call bs allowance m) (search_reads_first bs allowance m r h) e
    go (out q a h) = no_answer (search_call bs allowance m) (allowance_next bs allowance m q a h) e
    go (short q a h k s) = no_answer (search_call bs allowance m) (memory_next bs allowance m q a h k s) e
    go (exhausted q a r h) = no_answer (search_call bs allowance m) (spent_next bs allowance m q a r h) e
    go (unwritten q a r g h k) = no_answer (search_call bs allowance m) (buffer_last bs allowance m q a r g h k) e
    go (written q a r g h k) =
        let d : search_call bs allowance m ≡ record { result = ok g.answer; lent = left_behind (sought a) allowance g.sheet m } =
        else_answered bs allowance m q a r g h k
        in
        let same : g.answer ≡ ans =
        let f : ◌≡◌ {A = Result Answer} (ok g.answer) (ok ans) = sym (ap (λ (x : Done). x.result) d) ∙ e in cc
        in (
          g.sheet,
          drop (length g.sheet) m.buffer,
          ap (λ (x : Done). x.lent.buffer) d ∙ left_buffer (sought a) allowance g.sheet m,
          subst (λ z. check_call bs g.sheet ≡ ok (passed_as z)) same
              (written_sheet_passes bs (asked_as q a.claim) (asked_accepted bs q a) allowance r.small_allowance g h),
        )
