-- A drawn graph breaks the claim: where the call answers with a graph, the judge, given its bytes, answers line 0 and a broken claim. The sheet passes as
-- refuted and its graph has at most 64 events, so that claims' `passing_refuted_called_to_break` says so.
-- Assumes nothing.
use Prim.Native.Nat.{ℕ, ◌≤◌}
use native.Mathlib.Omega.{arith}
use mathlib.Core.Path.{◌≡◌, refl, sym, ◌∙◌, ap, subst, subst⁻¹}
use mathlib.Core.Bool.{Bool, true, false}
use mathlib.Core.List.{List, ◌++◌}
use lib.Dec.{leb}
use lib.ListN.{length, take, drop}
use lib.Seq.{take-append_seam}
use borrow.Author.Tests.{leb-true}
use Rattle.kat.specs.Word.{Word}
use Rattle.claims.specs.Refusals.{Result, ok}
use Rattle.claims.specs.Calls.{Asked, asked, Passed, passed_refuted, check_call}
use Rattle.claims.specs.SheetReading.{Said, says_refuted, sheet_in}
use Rattle.claims.specs.Judgement.{judgement}
use Rattle.claims.proofs.Results.{refused_not_ok}
use Rattle.claims.proofs.DrawnBytes.{passing_refuted_called_to_break}
use Rattle.draw.specs.declared.Drawing.{Drawing}
use Rattle.draw.specs.declared.Drawing.TheVariants.{Graph}
use Rattle.draw.specs.DrawCall.{Picture, graph_of, too_large, said_proved, too_short, Drew, drew, drawn_for, drawn_bytes, draw_call}
use Rattle.draw.specs.Drawings.{result_of, Draws}
use Rattle.draw.specs.Breaking.{JudgedToBreak}
use Rattle.draw.proofs.Calls.{Seen, refuses, proves, refutes, seen}

-- a graph is drawn where it has at most 64 events and fits
drawn_fits : (k : ℕ) (gs out : List ℕ) (n : ℕ) → (drew k gs out).result ≡ ok (graph_of n) → (k ≤ 64) × (take n (drew k gs out).out ≡ gs)
unfolding drew
drawn_fits k gs out n e = go (leb k 64) refl (leb (length gs) (length out)) e
  where
    shown : Bool → Bool → Drew
    shown b c = elim b [
      | false ↦ record { result = ok (too_large k); out = out }
      | true ↦ elim c [
        | false ↦ record { result = ok too_short; out = out }
        | true ↦ record { result = ok (graph_of (length gs)); out = gs ++ drop (length gs) out }
      ]
    ]

    go : (b : Bool) → leb k 64 ≡ b → (c : Bool) → (shown b c).result ≡ ok (graph_of n) → (k ≤ 64) × (take n (shown b c).out ≡ gs)
    go false h c e = absurd (let z : ◌≡◌ {A = ℕ} 0 1 = cc in omega arith)
    go true h false e = absurd (let z : ◌≡◌ {A = ℕ} 0 1 = cc in omega arith)
    go true h true e =
        let z : length gs ≡ n = cc in
        (leb-true k 64 h, ap (λ i. take i (gs ++ drop (length gs) out)) (sym z) ∙ take-append_seam gs (drop (length gs) out))

same_word : (a : Asked) (v w : Word) → ◌≡◌ {A = Result (Said a.decided)} (ok (says_refuted v)) (ok (says_refuted w)) → v ≡ w
same_word a v w e = cc

-- the bytes of the graph of a sheet that passes as refuted
bytes_break : (text sheet : List ℕ) (a : Asked) (w : Word) → asked text ≡ ok a → sheet_in a.decided sheet ≡ ok (says_refuted w)
    → check_call text sheet ≡ ok passed_refuted → length (drawn_for a w).atoms ≤ 64 → JudgedToBreak text (drawn_bytes a w)
unfolding drawn_bytes
bytes_break text sheet a w i s e few =
    let (v, t, rest) = passing_refuted_called_to_break text a i sheet e in
    let z : v ≡ w = same_word a v w (sym t ∙ s) in
    let (bytes, answers, line, breaks) = rest (subst (λ u. length (drawn_for a u).atoms ≤ 64) (sym z) few) in
    subst (λ u. JudgedToBreak text (drawn_bytes a u)) z (record {
      judged = judgement (drawn_for a v) a.query a.claim;
      answers = answers;
      meets = line;
      breaks = breaks;
    })

pub graph_breaks : (text sheet out : List ℕ) (r : Drawing) (after : List ℕ) → Draws (draw_call text sheet out) r after
    → (n : ℕ) → r ≡ Graph n → JudgedToBreak text (take n after)
unfolding result_of
graph_breaks text sheet out r after d n e =
    subst⁻¹ (λ (m : List ℕ). JudgedToBreak text (take n m)) d.leaves
    (go (check_call text sheet) refl (draw_call text sheet out) (sym (sym (ap result_of e) ∙ d.says)) (seen text sheet out))
  where
    go : (x : Result Passed) → check_call text sheet ≡ x → (d : Drew) → d.result ≡ ok (graph_of n)
        → Seen text sheet out x d → JudgedToBreak text (take n d.out)
    go x h d f (refuses s p q) = refused_not_ok (sym (ap (λ (z : Drew). z.result) q) ∙ f)
    go x h d f (proves p q) =
        let z : ◌≡◌ {A = Result Picture} (ok said_proved) (ok (graph_of n)) = sym (ap (λ (z : Drew). z.result) q) ∙ f in
        absurd (let y : ◌≡◌ {A = ℕ} 0 1 = cc in omega arith)
    go x h d f (refutes a w i j p q) =
        let (few, bytes) = drawn_fits (length (drawn_for a w).atoms) (drawn_bytes a w) out n (sym (ap (λ (z : Drew). z.result) q) ∙ f) in
        subst (JudgedToBreak text) (sym (ap (λ (z : Drew). take n z.out) q ∙ bytes)) (bytes_break text sheet a w i j (h ∙ p) few)
