-- The words of a refusal, piece by piece: the place by its tests, a line byte by byte.
-- Assumes nothing.
use Prim.Native.Nat.{ℕ, ◌+◌, ◌≤◌, ◌<◌}
use native.Mathlib.Numerals.{add-one}
use mathlib.Core.Path.{◌≡◌, refl, sym, ◌∙◌, ap}
use mathlib.Core.Bool.{Bool, true, false}
use mathlib.Core.List.{List, [], ◌∷◌, ◌++◌, map, append-nil}
use lib.ListN.{length, get_or, take}
use lib.Seq.{take-suc, take_all}
use borrow.Author.Tests.{lt-ltb, le-ltb, eq-eqb, ne_eqb}
use Rattle.claims.specs.Bytes.{text}
use Rattle.claims.specs.Printed.{decimal}
use Rattle.refusals.specs.declared.Reason.{Reason}
use Rattle.print_line.specs.Puts.{Puts}
use Rattle.print_line.proofs.Putting.{puts_nothing, puts_append, puts_bytes}
use Rattle.texts.specs.Lines.{line_at}
use Rattle.refusal_texts.specs.CauseText.{of_query}
use Rattle.refusal_texts.specs.Sentences.{place_text, sentence_of, visible, shown_line, line_for, words_of}

-- the place: none, a line, a field
pub place_none : {l : List ℕ} {at : ℕ} (n : Bool) (p : ℕ) → p ≡ 0 → at ≤ length l → Puts l at (place_text n p) at l
unfolding place_text
place_none {l} {at} n p e h = rw (eq-eqb p 0 e) (puts_nothing l at h)

module _ {l m : List ℕ} {at to : ℕ} (n : Bool) (p : ℕ) where
  pub place_line : (p ≡ 0 → ⊥) → n ≡ true → Puts l at (text "line " ++ (decimal p ++ text ": ")) to m → Puts l at (place_text n p) to m
  unfolding place_text
  place_line e h q = rw (ne_eqb p 0 e, h) q

  pub place_field : (p ≡ 0 → ⊥) → n ≡ false → Puts l at (text "field " ++ (decimal p ++ text ": ")) to m → Puts l at (place_text n p) to m
  unfolding place_text
  place_field e h q = rw (ne_eqb p 0 e, h) q

-- a line, byte by byte
map_last : (f : ℕ → ℕ) (bs : List ℕ) (b : ℕ) → map f (bs ++ (b ∷ [])) ≡ map f bs ++ (f b ∷ [])
map_last f [] b = refl
map_last f (x ∷ bs) b = ap (λ (cs : List ℕ). f x ∷ cs) (map_last f bs b)

pub shown_more : {l m o : List ℕ} {at to next b : ℕ} (bs : List ℕ) (i : ℕ) → i < length bs → Puts l at (map visible (take i bs)) to m
    → b ≡ visible (get_or bs i 0) → Puts m to (b ∷ []) next o → Puts l at (map visible (take (i + 1) bs)) next o
shown_more {l} {m} {o} {at} {to} {next} {b} bs i h p e q =
    puts_bytes
    (ap (λ (x : ℕ). map visible (take i bs) ++ (x ∷ [])) e ∙ sym (map_last visible (take i bs) (get_or bs i 0))
    ∙ ap (map visible) (sym (take-suc bs i 0 h) ∙ ap (λ (k : ℕ). take k bs) (sym (add-one i)))) (puts_append p q)

pub shown_whole : {l m : List ℕ} {at to : ℕ} (bs : List ℕ) (i : ℕ) → length bs ≤ i → Puts l at (map visible (take i bs)) to m
    → Puts l at (map visible bs) to m
shown_whole {l} {m} {at} {to} bs i k p = puts_bytes (ap (map visible) (take_all i bs k)) p

pub shown_none : (l : List ℕ) (at : ℕ) → at ≤ length l → Puts l at (map visible []) at l
shown_none l at h = puts_nothing l at h

-- a byte as it is shown
pub visible_low : (b : ℕ) → b < 32 → 63 ≡ visible b
unfolding visible
visible_low b h = rw (lt-ltb b 32 h)

pub visible_high : (b : ℕ) → 32 ≤ b → 126 < b → 63 ≡ visible b
unfolding visible
visible_high b h k = rw (le-ltb b 32 h, lt-ltb 126 b k)

pub visible_same : (b : ℕ) → 32 ≤ b → b ≤ 126 → b ≡ visible b
unfolding visible
visible_same b h k = rw (le-ltb b 32 h, le-ltb 126 b k)

-- the place of a cause that is known
pub place_of : {l m : List ℕ} {at to : ℕ} {n k : Bool} (p : ℕ) → n ≡ k → Puts l at (place_text n p) to m → Puts l at (place_text k p) to m
place_of {l} {m} {at} {to} {n} {k} p e q = puts_bytes (ap (λ (x : Bool). place_text x p) e) q

-- the sentence alone, and with its line
module _ {l m : List ℕ} {to : ℕ} (why : Reason) (p : ℕ) (query : List ℕ) where
  pub words_alone : p ≡ 0 → Puts l 0 (sentence_of why p) to m → Puts l 0 (words_of why p query) to m
  unfolding words_of line_for
  words_alone e q = rw (eq-eqb p 0 e, append-nil (sentence_of why p)) q

  pub words_field : (k : Bool) → k ≡ of_query why → (p ≡ 0 → ⊥) → k ≡ false → Puts l 0 (sentence_of why p) to m → Puts l 0 (words_of why p query) to m
  unfolding words_of line_for
  words_field k e n h q =
      rw (ne_eqb p 0 n, sym e ∙ h, append-nil (sentence_of why p)) q

pub words_line : {l m o : List ℕ} {at to : ℕ} (why : Reason) (p : ℕ) (query : List ℕ) (k : Bool) → k ≡ of_query why → (p ≡ 0 → ⊥) → k ≡ true
    → Puts l 0 (sentence_of why p) at m → Puts m at (shown_line (line_at p query)) to o → Puts l 0 (words_of why p query) to o
unfolding words_of line_for
words_line why p query k e n h q r =
    rw (ne_eqb p 0 n, sym e ∙ h) (puts_append q r)

-- the line as it is shown, piece by piece
pub line_shown : {l m o q : List ℕ} {at a b to : ℕ} (line meant : List ℕ) → line ≡ meant → Puts l at (text "    ") a m → Puts m a (map visible line) b o
    → Puts o b (10 ∷ []) to q → Puts l at (shown_line meant) to q
unfolding shown_line
line_shown line meant e p q r = puts_bytes (ap (λ (x : List ℕ). text "    " ++ (map visible x ++ (10 ∷ []))) e) (puts_append p (puts_append q r))
