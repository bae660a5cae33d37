-- The line and the words of what a judgement is; the ends of lines, counted one after the other.
-- Assumes nothing.
use Prim.Native.Nat.{ℕ, suc, ◌+◌, ◌≤◌, ◌<◌}
use native.Mathlib.Omega.{arith}
use native.Mathlib.Numerals.{add-one}
use mathlib.Core.Path.{◌≡◌, refl, sym, ap, subst}
use mathlib.Core.Bool.{Bool, true, false, cond}
use mathlib.Core.List.{List}
use lib.Dec.{eqb}
use lib.ListN.{length, get_or, drop, drop_of_length-le}
use lib.Seq.{drop-cons}
use borrow.Author.Tests.{lt-ltb, le-ltb, eq-eqb, ne_eqb}
use Rattle.print_line.specs.Puts.{Puts}
use Rattle.print_line.proofs.Putting.{puts_nothing}
use Rattle.claims.specs.Refusals.{Result}
use Rattle.claims.specs.Judgement.{Judgement}
use Rattle.graph.specs.Answers.{result_of, Answer}
use Rattle.judge_line.specs.JudgementLine.{judgement_line}
use Rattle.judge_line.specs.JudgedWords.{line_ends, line_words, broken_words, judged_words}

-- the line and the words of what a judgement is
pub as_judged : {l m : List ℕ} {j x : Answer} {to : ℕ} → j ≡ x → Puts l 0 (judgement_line (result_of x)) to m
    → Puts l 0 (judgement_line (result_of j)) to m
as_judged {l} {m} {j} {x} {to} e p = subst (λ (y : Answer). Puts l 0 (judgement_line (result_of y)) to m) (sym e) p

-- the line of what a judgement says
pub as_said : {l m : List ℕ} {to : ℕ} (x y : Result Judgement) → x ≡ y → Puts l 0 (judgement_line x) to m → Puts l 0 (judgement_line y) to m
as_said {l} {m} {to} x y e p = subst (λ (z : Result Judgement). Puts l 0 (judgement_line z) to m) e p

pub as_worded : {l m : List ℕ} {j x : Answer} {to : ℕ} (query : List ℕ) → j ≡ x → Puts l 0 (judged_words x query) to m
    → Puts l 0 (judged_words j query) to m
as_worded {l} {m} {j} {x} {to} query e p = subst (λ (y : Answer). Puts l 0 (judged_words y query) to m) (sym e) p

-- one more byte: the end of a line, or none; and the end of the text
module _ (w : List ℕ) (n i t : ℕ) where
  at_place : i < length w → line_ends (drop i w) ≡ cond (eqb (get_or w i 0) 10) (suc (line_ends (drop (suc i) w))) (line_ends (drop (suc i) w))
  unfolding line_ends
  at_place h = ap line_ends (drop-cons w i 0 h)

  pub ends_here : (m : ℕ) → m ≡ n + 1 → i < length w → get_or w i 0 ≡ 10 → n + line_ends (drop i w) ≡ t → m + line_ends (drop (i + 1) w) ≡ t
  ends_here m f h e s =
      let p : line_ends (drop i w) ≡ suc (line_ends (drop (suc i) w)) = rw (at_place h, eq-eqb (get_or w i 0) 10 e) refl in
      let q : line_ends (drop (i + 1) w) ≡ line_ends (drop (suc i) w) = ap (λ (k : ℕ). line_ends (drop k w)) (add-one i) in
      omega arith

  pub ends_later : (m : ℕ) → m ≡ n → i < length w → (get_or w i 0 ≡ 10 → ⊥) → n + line_ends (drop i w) ≡ t → m + line_ends (drop (i + 1) w) ≡ t
  ends_later m f h e s =
      let p : line_ends (drop i w) ≡ line_ends (drop (suc i) w) = rw (at_place h, ne_eqb (get_or w i 0) 10 e) refl in
      let q : line_ends (drop (i + 1) w) ≡ line_ends (drop (suc i) w) = ap (λ (k : ℕ). line_ends (drop k w)) (add-one i) in
      omega arith

  pub ends_no_more : length w ≤ i → n + line_ends (drop i w) ≡ t → n ≡ t
  unfolding line_ends
  ends_no_more h s =
      let p : line_ends (drop i w) ≡ 0 = ap line_ends (drop_of_length-le w {i = i} h) in omega arith

-- which line is put into words
module _ {m o : List ℕ} {to : ℕ} (line : ℕ) (holds : Bool) (query : List ℕ) where
  pub words_line : 0 < line → Puts m 0 (line_words line query) to o → Puts m 0 (broken_words line holds query) to o
  unfolding broken_words
  words_line h p = rw (lt-ltb 0 line h) p

  pub words_claim : (n : ℕ) → line ≤ 0 → holds ≡ false → n ≡ line_ends query → Puts m 0 (line_words n query) to o
      → Puts m 0 (broken_words line holds query) to o
  unfolding broken_words
  words_claim n h e f p =
      rw (le-ltb 0 line h, e) (subst (λ (k : ℕ). Puts m 0 (line_words k query) to o) f p)

pub words_none : (m : List ℕ) (line : ℕ) (holds : Bool) (query : List ℕ) → line ≤ 0 → holds ≡ true
    → Puts m 0 (broken_words line holds query) 0 m
unfolding broken_words
words_none m line holds query h e = rw (le-ltb 0 line h, e) (puts_nothing m 0 (omega arith))
