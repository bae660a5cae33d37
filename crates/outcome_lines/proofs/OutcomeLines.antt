-- The line of an outcome is the line of what it says, and the program's line is that of its call.
-- Assumes nothing.
use Rattle.std.specs.Prelude.{Ok, Err}
use Prim.Native.Nat.{ℕ, zero, suc, ◌+◌, ◌*◌, ◌≤◌}
use native.Mathlib.Omega.{arith}
use mathlib.Core.Path.{◌≡◌, refl, sym, ◌∙◌, ap, ap₂, subst, subst⁻¹}
use mathlib.Core.Bool.{Bool, true, false}
use mathlib.Core.List.{List, [], ◌∷◌, ◌++◌, map, append_assoc}
use lib.ListN.{length, take, drop, replicate, length-replicate}
use Rattle.kat.specs.Word.{Word, size, numbers}
use Rattle.claims.specs.Bytes.{text}
use Rattle.claims.specs.Width.{width, row_length, beside_columns, ring_words}
use Rattle.claims.specs.SheetBytes.{contents_length}
use Rattle.claims.specs.Refusals.{Cause, number, Result, ok, refused}
use Rattle.claims.specs.Calls.{Answer, proved_with, refuted_by, Slot, Lent, search_call}
use Rattle.claims.specs.Printed.{spaced, answer_line, refusal_line, line_of, program_allowance, memory_for, asks_ring, program_result, printed}
use Rattle.print_line.specs.Puts.{Puts}
use Rattle.search_records.specs.Records.{blank}
use Rattle.search_outcomes.specs.declared.Verdict.{Verdict}
use Rattle.search_outcomes.specs.declared.Verdict.TheVariants.{Proved, Refuted}
use Rattle.search_outcomes.specs.Outcomes.{Outcome, Says, slot_of, lent_of}
use Rattle.outcome_lines.specs.Shown.{outcome_line}
use Rattle.outcome_lines.proofs.WordInSheet.{word_stands}
use Rattle.outcome_lines.proofs.MoreRecords.{lend, same_result}

-- an answer, by its verdict
pub by_verdict : {r : Outcome} {v x : Verdict} → r ≡ Ok v → v ≡ x → r ≡ Ok x
by_verdict {r} {v} {x} e f = subst (λ (y : Verdict). r ≡ Ok y) f e

-- the line of what an outcome is
pub as_outcome : {l m : List ℕ} {r x : Outcome} {to : ℕ} (sheet : List ℕ) → r ≡ x → Puts l 0 (outcome_line x sheet) to m → Puts l 0 (outcome_line r sheet) to m
as_outcome {l} {m} {r} {x} {to} sheet e p = subst (λ (y : Outcome). Puts l 0 (outcome_line y sheet) to m) (sym e) p

pub as_refuted : {l m : List ℕ} {r : Outcome} {n bytes to : ℕ} (sheet word : List ℕ) → r ≡ Ok (Refuted n bytes) → word ≡ take (2 * n + 1) (drop 7 sheet)
    → Puts l 0 (text "refuted" ++ (spaced word ++ (10 ∷ []))) to m → Puts l 0 (outcome_line r sheet) to m
as_refuted {l} {m} {r} {n} {bytes} {to} sheet word e w p =
    as_outcome sheet e (subst (λ (x : List ℕ). Puts l 0 (text "refuted" ++ (spaced x ++ (10 ∷ []))) to m) w p)

pub puts_same : {l m bs cs : List ℕ} {to : ℕ} → bs ≡ cs → Puts l 0 bs to m → Puts l 0 cs to m
puts_same {l} {m} {bs} {cs} {to} e p = subst (λ (ds : List ℕ). Puts l 0 ds to m) e p

-- the line of an outcome that says the result
pub says_line : (x : Result Answer) (r : Outcome) (sheet : List ℕ) → Says x r
    → ((w : Word) → x ≡ ok (refuted_by w) → take (2 * size w + 1) (drop 7 sheet) ≡ numbers w) → outcome_line r sheet ≡ line_of x
unfolding line_of answer_line refusal_line
says_line (ok (proved_with c)) (Ok (Proved n bytes)) sheet e word = ap (λ (k : ℕ). text "proved" ++ (spaced (k ∷ []) ++ (10 ∷ []))) e
says_line (ok (refuted_by w)) (Ok (Refuted n bytes)) sheet e word =
    ap (λ (ns : List ℕ). text "refuted" ++ (spaced ns ++ (10 ∷ [])))
    (ap (λ (k : ℕ). take (2 * k + 1) (drop 7 sheet)) e ∙ word w refl)
says_line (refused q) (Err x) sheet (e, f) word =
    ap₂ (λ (c : Cause) (k : ℕ). text "refusal" ++ (spaced (number c ∷ []) ++ (text " line" ++ (spaced (k ∷ []) ++ (10 ∷ []))))) e f
    ∙ ap (λ (l : List ℕ). text "refusal" ++ l)
    (sym (append_assoc (spaced (number q.cause ∷ [])) (text " line" ++ spaced (q.place ∷ [])) (10 ∷ [])))
says_line (refused q) (Ok _) sheet e word = elim e [ ]
says_line (ok (refuted_by w)) (Err x) sheet e word = elim e [ ]
says_line (ok (refuted_by w)) (Ok (Proved n bytes)) sheet e word = elim e [ ]
says_line (ok (proved_with c)) (Ok (Refuted n bytes)) sheet e word = elim e [ ]
says_line (ok (proved_with c)) (Err x) sheet e word = elim e [ ]

-- two hundred standings, whatever the kind of the claim
allowance_200 : (k : Bool) → program_allowance k ≡ 200
unfolding program_allowance
allowance_200 false = refl
allowance_200 true = refl

-- a record of zeros as the document has it
abbrev zero_slot : Slot
zero_slot = record { P = 0; S = 0; parent = 0; letter = 0 }

zero_slots : (n : ℕ) → map slot_of (replicate n blank) ≡ replicate n zero_slot
unfolding slot_of
zero_slots zero = refl
zero_slots (suc n) = ap (λ (l : List Slot). zero_slot ∷ l) (zero_slots n)

enough_slots : (n : ℕ) → 200 ≤ n → 200 ≤ length (replicate n zero_slot)
enough_slots n h = subst⁻¹ (λ (k : ℕ). 200 ≤ k) (length-replicate n zero_slot) h

-- the call with 4,096 records has the result of that with two hundred
result_200 : (bs words buffer : List ℕ) → words ≡ replicate 8000 0 → buffer ≡ replicate 53804 0
    → (search_call bs 200 (lent_of (replicate 4096 blank) words buffer)).result ≡ (search_call bs 200 (memory_for 200)).result
unfolding lent_of memory_for ring_words width beside_columns contents_length row_length
result_200 bs words buffer f g =
    ap (λ (x : List ℕ). (search_call bs 200 (lent_of (replicate 4096 blank) x buffer)).result) f
    ∙ ap (λ (x : List ℕ). (search_call bs 200 (lent_of (replicate 4096 blank) (replicate 8000 0) x)).result) g
    ∙ ap (λ (x : List Slot). (search_call bs 200 (lend (replicate 8000 0) (replicate 53804 0) x)).result) (zero_slots 4096)
    ∙ same_result (replicate 8000 0) (replicate 53804 0) 200 (replicate 4096 zero_slot) (replicate 200 zero_slot)
    (enough_slots 4096 (omega arith)) (enough_slots 200 (omega arith)) bs

printed_200 : (bs : List ℕ) → printed program_allowance bs ≡ line_of (search_call bs 200 (memory_for 200)).result
unfolding printed program_result
printed_200 bs = ap (λ (n : ℕ). line_of (search_call bs n (memory_for n)).result) (allowance_200 (asks_ring bs))

-- the program's line is that of the outcome of its call
pub program_line : (bs words buffer after : List ℕ) (r : Outcome) → words ≡ replicate 8000 0 → buffer ≡ replicate 53804 0
    → Says (search_call bs 200 (lent_of (replicate 4096 blank) words buffer)).result r
    → after ≡ (search_call bs 200 (lent_of (replicate 4096 blank) words buffer)).lent.buffer
    → outcome_line r after ≡ printed program_allowance bs
program_line bs words buffer after r f g s a =
    let m : Lent = lent_of (replicate 4096 blank) words buffer in
    says_line (search_call bs 200 m).result r after s
    (λ w h. ap (λ (b : List ℕ). take (2 * size w + 1) (drop 7 b)) a ∙ word_stands bs 200 m w h)
    ∙ ap line_of (result_200 bs words buffer f g) ∙ sym (printed_200 bs)

-- and the outcome of its call says the program's result
pub program_says : (bs words buffer : List ℕ) (r : Outcome) → words ≡ replicate 8000 0 → buffer ≡ replicate 53804 0
    → Says (search_call bs 200 (lent_of (replicate 4096 blank) words buffer)).result r → Says (program_result program_allowance bs) r
unfolding program_result
program_says bs words buffer r f g s =
    subst (λ (x : Result Answer). Says x r)
    (result_200 bs words buffer f g ∙ sym (ap (λ (n : ℕ). (search_call bs n (memory_for n)).result) (allowance_200 (asks_ring bs)))) s
