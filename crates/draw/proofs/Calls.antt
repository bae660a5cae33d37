-- The draw call by the answer of the sheet check: a refusal is handed on, a sheet that says proved is not drawn, and the word of one that says refuted
-- is drawn from its numbers.
-- Assumes nothing.
use Prim.Native.Nat.{ℕ, ◌≤◌, ◌<◌}
use native.Mathlib.Omega.{arith}
use mathlib.Core.Path.{◌≡◌, refl, sym, ◌∙◌, ap, ap₂, subst, subst⁻¹}
use mathlib.Core.Bool.{Bool, true, false}
use mathlib.Core.List.{List, ◌++◌}
use lib.Dec.{leb}
use lib.ListN.{length, drop}
use borrow.Author.Tests.{le-leb, lt-leb, leb-true}
use Rattle.kat.specs.Word.{Word}
use Rattle.claims.specs.Refusals.{does_not_pass, Refusal, Result, ok, refused, refuse, afterwards}
use Rattle.claims.specs.Calls.{Asked, asked, Passed, passed_proved, passed_refuted, passed_of, checked, check_call}
use Rattle.claims.specs.SheetReading.{Said, says_proved, says_refuted, sheet_in}
use Rattle.claims.specs.Passing.{passes}
use Rattle.claims.proofs.Results.{refused_not_ok}
use Rattle.refusals.specs.declared.Reason.{Reason}
use Rattle.print_line.specs.Puts.{Puts}
use Rattle.print_line.proofs.Putting.{puts_all}
use Rattle.sheet_checked.specs.declared.Checked.{Checked}
use Rattle.sheet_checked.specs.declared.Checked.TheVariants.{Proved as ProvedSheet, Refuted as RefutedSheet, Refused as RefusedSheet}
use Rattle.sheet_checked.specs.Checks.{Says}
use Rattle.draw.specs.declared.Drawing.TheVariants.{Graph, TooLarge, Proved, Short, Refused}
use Rattle.draw.specs.DrawCall.{graph_of, too_large, said_proved, too_short, Drew, drew, drawn_for, drawn_bytes, draw_said, draw_sheet, draw_call}
use Rattle.draw.specs.Drawings.{result_of, Draws}

-- a graph that is too large, one that does not fit, and one that is written
module _ (gs : ℕ → List ℕ) (out : List ℕ) (n m : ℕ) (e : n ≡ m) where
  fitting : Bool → Drew
  fitting b = elim b [
    | false ↦ record { result = ok too_short; out = out }
    | true ↦ record { result = ok (graph_of (length (gs n))); out = gs n ++ drop (length (gs n)) out }
  ]

  sized : Bool → Drew
  sized b = elim b [ false ↦ record { result = ok (too_large n); out = out } | true ↦ fitting (leb (length (gs n)) (length out)) ]

  drew_sized : drew m (gs m) out ≡ sized (leb n 64)
  unfolding drew sized fitting
  drew_sized = ap (λ k. drew k (gs k) out) (sym e)

  pub draws_large : 64 < n → Draws (drew m (gs m) out) (TooLarge n) out
  unfolding result_of sized
  draws_large h = subst⁻¹ (λ d. Draws d (TooLarge n) out) (drew_sized ∙ ap sized (lt-leb n 64 h)) (record { says = refl; leaves = refl })

  module _ (small : n ≤ 64) (size : ℕ) (s : size ≡ length (gs n)) where
    pub draws_short : length out < size → Draws (drew m (gs m) out) Short out
    unfolding result_of sized fitting
    draws_short h =
        subst⁻¹ (λ d. Draws d Short out)
        (drew_sized ∙ ap sized (le-leb n 64 small) ∙ ap fitting (lt-leb (length (gs n)) (length out) (omega arith)))
        (record { says = refl; leaves = refl })

    pub draws_graph : size ≤ length out → {to : ℕ} {after : List ℕ} → Puts out 0 (gs n) to after → Draws (drew m (gs m) out) (Graph size) after
    unfolding result_of sized fitting
    draws_graph h {to} {after} p =
        subst⁻¹ (λ d. Draws d (Graph size) after)
        (drew_sized ∙ ap sized (le-leb n 64 small) ∙ ap fitting (le-leb (length (gs n)) (length out) (omega arith)))
        (record { says = ap (λ k. ok (graph_of k)) s; leaves = (puts_all out after (gs n) to p (omega arith)).0 })

-- two graphs of n events that are the same where n is at most 64
pub drew_same : (n : ℕ) (gs hs out : List ℕ) → (n ≤ 64 → gs ≡ hs) → drew n gs out ≡ drew n hs out
unfolding drew
drew_same n gs hs out e = go (leb n 64) (λ h. e (leb-true n 64 h))
  where
    go : (b : Bool) → (b ≡ true → gs ≡ hs)
        → ◌≡◌ {A = Drew} (elim b [
          | false ↦ record { result = ok (too_large n); out = out }
          | true ↦ elim (leb (length gs) (length out)) [
            | false ↦ record { result = ok too_short; out = out }
            | true ↦ record { result = ok (graph_of (length gs)); out = gs ++ drop (length gs) out }
          ]
        ]) (elim b [
          | false ↦ record { result = ok (too_large n); out = out }
          | true ↦ elim (leb (length hs) (length out)) [
            | false ↦ record { result = ok too_short; out = out }
            | true ↦ record { result = ok (graph_of (length hs)); out = hs ++ drop (length hs) out }
          ]
        ])
    go false h = refl
    go true h =
        ap (λ (k : List ℕ). let d : Drew = elim (leb (length k) (length out)) [
          | false ↦ record { result = ok too_short; out = out }
          | true ↦ record { result = ok (graph_of (length k)); out = k ++ drop (length k) out }
        ] in d) (h refl)

-- the call by what the check says
pub data Seen (text sheet out : List ℕ) (x : Result Passed) (d : Drew) : Type 0 where
  refuses : (r : Refusal) → x ≡ refused r → d ≡ record { result = refused r; out = out } → Seen text sheet out x d
  proves : x ≡ ok passed_proved → d ≡ record { result = ok said_proved; out = out } → Seen text sheet out x d
  refutes : (a : Asked) (w : Word) → asked text ≡ ok a → sheet_in a.decided sheet ≡ ok (says_refuted w) → x ≡ ok passed_refuted
      → d ≡ drew (length (drawn_for a w).atoms) (drawn_bytes a w) out → Seen text sheet out x d

module _ (text sheet out : List ℕ) where
  seen_said : (a : Asked) → asked text ≡ ok a → (s : Said a.decided) → sheet_in a.decided sheet ≡ ok s
      → Seen text sheet out (passed_of a.decided s) (elim (passes a.decided s) [
        | false ↦ record { result = refuse does_not_pass 0; out = out }
        | true ↦ draw_said a s out
      ])
  unfolding passed_of draw_said
  seen_said a e (says_proved ss) f = go (passes a.decided (says_proved ss))
    where
      go : (b : Bool) → Seen text sheet out (elim b [ true ↦ ok passed_proved | false ↦ refuse does_not_pass 0 ])
          (elim b [ false ↦ record { result = refuse does_not_pass 0; out = out } | true ↦ record { result = ok said_proved; out = out } ])
      go true = proves refl refl
      go false = refuses (record { cause = does_not_pass; place = 0 }) refl refl
  seen_said a e (says_refuted w) f = go (passes a.decided (says_refuted w))
    where
      go : (b : Bool) → Seen text sheet out (elim b [ true ↦ ok passed_refuted | false ↦ refuse does_not_pass 0 ])
          (elim b [
            | false ↦ record { result = refuse does_not_pass 0; out = out }
            | true ↦ drew (length (drawn_for a w).atoms) (drawn_bytes a w) out
          ])
      go true = refutes a w e f refl refl
      go false = refuses (record { cause = does_not_pass; place = 0 }) refl refl

  seen_sheet : (a : Asked) → asked text ≡ ok a → Seen text sheet out (checked a.decided sheet) (draw_sheet a sheet out)
  unfolding checked draw_sheet
  seen_sheet a e = go (sheet_in a.decided sheet) refl
    where
      go : (r : Result (Said a.decided)) → sheet_in a.decided sheet ≡ r
          → Seen text sheet out (afterwards r (passed_of a.decided)) (elim r [
            | refused r ↦ record { result = refused r; out = out }
            | ok s ↦ elim (passes a.decided s) [
              | false ↦ record { result = refuse does_not_pass 0; out = out }
              | true ↦ draw_said a s out
            ]
          ])
      go (refused r) f = refuses r refl refl
      go (ok s) f = seen_said a e s f

  pub seen : Seen text sheet out (check_call text sheet) (draw_call text sheet out)
  unfolding check_call draw_call
  seen = go (asked text) refl
    where
      go : (r : Result Asked) → asked text ≡ r
          → Seen text sheet out (afterwards r (λ a. checked a.decided sheet)) (elim r [
            | refused r ↦ record { result = refused r; out = out }
            | ok a ↦ draw_sheet a sheet out
          ])
      go (refused r) f = refuses r refl refl
      go (ok a) f = seen_sheet a f

-- a refusal, and a sheet that says proved
module _ (text sheet : List ℕ) (c : Checked) (says : Says (check_call text sheet) c) where
  pub refusal_drawn : (out : List ℕ) (why : Reason) (p : ℕ) → c ≡ RefusedSheet why p → Draws (draw_call text sheet out) (Refused why p) out
  unfolding result_of
  refusal_drawn out why p e = go (check_call text sheet) (draw_call text sheet out) (seen text sheet out) (subst (Says (check_call text sheet)) e says)
    where
      go : (x : Result Passed) (d : Drew) → Seen text sheet out x d → Says x (RefusedSheet why p) → Draws d (Refused why p) out
      go x d (refuses r f g) s =
          let (a, b) = subst (λ y. Says y (RefusedSheet why p)) f s in
          subst⁻¹ (λ d. Draws d (Refused why p) out) g (record { says = ap₂ (λ k l. refuse k l) a b; leaves = refl })
      go x d (proves f g) s = absurd (subst (λ y. Says y (RefusedSheet why p)) f s)
      go x d (refutes a w i j f g) s = absurd (subst (λ y. Says y (RefusedSheet why p)) f s)

  pub proved_drawn : (out : List ℕ) → c ≡ ProvedSheet → Draws (draw_call text sheet out) Proved out
  unfolding result_of
  proved_drawn out e = go (check_call text sheet) (draw_call text sheet out) (seen text sheet out) (subst (Says (check_call text sheet)) e says)
    where
      go : (x : Result Passed) (d : Drew) → Seen text sheet out x d → Says x ProvedSheet → Draws d Proved out
      go x d (refuses r f g) s = absurd (subst (λ y. Says y ProvedSheet) f s)
      go x d (proves f g) s = subst⁻¹ (λ d. Draws d Proved out) g (record { says = refl; leaves = refl })
      go x d (refutes a w i j f g) s = absurd (subst (λ y. Says y ProvedSheet) f s)

  pub refuted_passes : c ≡ RefutedSheet → check_call text sheet ≡ ok passed_refuted
  refuted_passes e = go (check_call text sheet) (subst (Says (check_call text sheet)) e says)
    where
      go : (x : Result Passed) → Says x RefutedSheet → x ≡ ok passed_refuted
      go (ok passed_refuted) s = refl
      go (refused _) s = elim s [ ]
      go (ok passed_proved) s = elim s [ ]

-- what a sheet that passes as refuted is
pub record Refutes (text sheet out : List ℕ) : Type 0 where
  pub asks : Asked
  pub word : Word
  pub accepted : asked text ≡ ok asks
  pub reads : sheet_in asks.decided sheet ≡ ok (says_refuted word)
  pub drawing : draw_call text sheet out ≡ drew (length (drawn_for asks word).atoms) (drawn_bytes asks word) out

pub refuted_is : (text sheet out : List ℕ) → check_call text sheet ≡ ok passed_refuted → Refutes text sheet out
refuted_is text sheet out e = go (check_call text sheet) e (seen text sheet out)
  where
    go : (x : Result Passed) → x ≡ ok passed_refuted → Seen text sheet out x (draw_call text sheet out) → Refutes text sheet out
    go x h (refuses r f g) = let z : ◌≡◌ {A = Result Passed} (refused r) (ok passed_refuted) = sym f ∙ h in refused_not_ok z
    go x h (proves f g) =
        let z : ◌≡◌ {A = Result Passed} (ok passed_proved) (ok passed_refuted) = sym f ∙ h in
        absurd (let y : ◌≡◌ {A = ℕ} 0 1 = cc in omega arith)
    go x h (refutes a w i j f g) = record { asks = a; word = w; accepted = i; reads = j; drawing = g }
