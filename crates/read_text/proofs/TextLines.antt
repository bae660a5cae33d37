-- The lines of a text as a loop meets them: the bytes that are allowed, one after another, and the first line of what is left.
-- Assumes nothing.
use Prim.Native.Nat.{ℕ, suc, ◌+◌, ◌-◌, ◌≤◌, ◌<◌}
use native.Mathlib.Omega.{arith}
use native.Mathlib.Numerals.{add-one}
use mathlib.Core.Path.{◌≡◌, refl, sym, ◌∙◌, ap}
use mathlib.Core.Logic.{⊎_elim}
use mathlib.Core.Bool.{Bool, true, false, not}
use mathlib.Core.List.{List, [], ◌∷◌}
use mathlib.Core.Option.{some, none}
use lib.Dec.{eqb, ltb, leb-suc-suc}
use lib.ListN.{length, take, drop, get_or, length-drop, drop_of_length-le}
use lib.Seq.{drop-cons, drop-drop}
use borrow.Author.Tests.{eq-eqb, ne_eqb, le-leb, lt-leb, lt-ltb, le-ltb}
use Rattle.kat.proofs.Bools.{le_or_lt}
use Rattle.claims.specs.Bytes.{RawLine, in_front, raw_lines}
use Rattle.claims.specs.Reading.{bad_line}
use Rattle.read_tokens.specs.Scan.{front}
use Rattle.read_tokens.proofs.Fronts.{front_none, front_one}
use Rattle.read_text.specs.inner.Steps.{in_line}

-- the byte at i of s, in line n: it ends the line, may stand in it, or may not
module _ (n : ℕ) (s : List ℕ) (i : ℕ) (h : i < length s) where
  pub byte_ends : get_or s i 0 ≡ 10 → bad_line (n + 1) (drop (i + 1) s) ≡ bad_line n (drop i s)
  unfolding bad_line
  byte_ends e = rw (add-one n, add-one i, drop-cons s i 0 h, bad_line, eq-eqb _ _ e)

  pub byte_allowed : (get_or s i 0 ≡ 10 → ⊥) → 32 ≤ get_or s i 0 → get_or s i 0 ≤ 126 → bad_line n (drop (i + 1) s) ≡ bad_line n (drop i s)
  unfolding bad_line
  byte_allowed e a b =
      rw (add-one i, drop-cons s i 0 h, bad_line, ne_eqb _ _ e, le-leb 32 (get_or s i 0) a, le-leb (get_or s i 0) 126 b)

  pub byte_low : (get_or s i 0 ≡ 10 → ⊥) → get_or s i 0 < 32 → bad_line n (drop i s) ≡ some n
  unfolding bad_line
  byte_low e a = rw (drop-cons s i 0 h, bad_line, ne_eqb _ _ e, lt-leb 32 (get_or s i 0) a)

  pub byte_high : (get_or s i 0 ≡ 10 → ⊥) → 126 < get_or s i 0 → bad_line n (drop i s) ≡ some n
  unfolding bad_line
  byte_high e a =
      rw (drop-cons s i 0 h, bad_line, ne_eqb _ _ e, le-leb 32 (get_or s i 0) (omega arith), lt-leb (get_or s i 0) 126 a)

pub bytes_over : (n : ℕ) (s : List ℕ) (i : ℕ) → length s ≤ i → bad_line n (drop i s) ≡ none
unfolding bad_line
bytes_over n s i h = rw (drop_of_length-le s h)

-- the first line is what stands in front of the first byte 10, and the others stand behind it
abbrev first_of : List ℕ → RawLine
first_of s = record { bytes = take (front in_line s) s; ended = ltb (front in_line s) (length s) }

line_ended_lem : (b : ℕ) (bs : List ℕ) → eqb b 10 ≡ true → raw_lines (b ∷ bs) ≡ record { bytes = []; ended = true } ∷ raw_lines bs
unfolding raw_lines
line_ended_lem b bs e = rw e

line_longer : (b : ℕ) (bs : List ℕ) → eqb b 10 ≡ false → raw_lines (b ∷ bs) ≡ in_front b (raw_lines bs)
unfolding raw_lines
line_longer b bs e = rw e

-- a byte in front of a line that it does not end
abbrev longer_of : ℕ → List ℕ → List RawLine
longer_of b bs = record { bytes = b ∷ take (front in_line bs) bs; ended = ltb (front in_line bs) (length bs) } ∷ raw_lines (drop (suc (front in_line bs)) bs)

abbrev FirstLine : List ℕ → Type 0
FirstLine s = raw_lines s ≡ first_of s ∷ raw_lines (drop (suc (front in_line s)) s)

longer_alone : (b : ℕ) → in_front b (raw_lines []) ≡ longer_of b []
unfolding in_front raw_lines front
longer_alone b = refl

longer_more : (b : ℕ) (bs : List ℕ) → FirstLine bs → in_front b (raw_lines bs) ≡ longer_of b bs
unfolding in_front
longer_more b bs e = rw e

first_step : (b : ℕ) (bs : List ℕ) → in_front b (raw_lines bs) ≡ longer_of b bs → FirstLine (b ∷ bs)
unfolding in_line
first_step b bs h = go (eqb b 10) refl
  where
    go : (t : Bool) → eqb b 10 ≡ t → FirstLine (b ∷ bs)
    go true e = rw (front_none in_line b bs (ap not e), line_ended_lem b bs e, lt-ltb 0 (suc (length bs)) (omega arith))
    go false e = rw (front_one in_line b bs (ap not e), line_longer b bs e, h, leb-suc-suc (suc (front in_line bs)) (length bs))

first_line : (b : ℕ) (bs : List ℕ) → FirstLine (b ∷ bs)
first_line b [] = first_step b [] (longer_alone b)
first_line b (c ∷ cs) = first_step b (c ∷ cs) (longer_more b (c ∷ cs) (first_line c cs))

first_of_lem : (s : List ℕ) → 0 < length s → FirstLine s
first_of_lem [] h = absurd (omega arith)
first_of_lem (b ∷ bs) h = first_line b bs

-- the same of what is left of a text from `at` on, where its first line ends at e
pub line_split : (s : List ℕ) (at e : ℕ) → at < length s → e ≡ at + front in_line (drop at s)
    → raw_lines (drop at s) ≡ record { bytes = take (e - at) (drop at s); ended = ltb e (length s) } ∷ raw_lines (drop (e + 1) s)
line_split s at e h f =
    let n : e - at ≡ front in_line (drop at s) = omega arith in
    let m : e + 1 ≡ at + suc (front in_line (drop at s)) = omega arith in
    let t : ltb e (length s) ≡ ltb (front in_line (drop at s)) (length (drop at s)) =
    ⊎_elim
    (λ g. le-ltb e (length s) g ∙ sym (le-ltb (front in_line (drop at s)) (length (drop at s)) (omega (arith, length-drop at s))))
    (λ g. lt-ltb e (length s) g ∙ sym (lt-ltb (front in_line (drop at s)) (length (drop at s)) (omega (arith, length-drop at s))))
    (le_or_lt (length s) e)
    in
    rw (n, m, ← drop-drop (suc (front in_line (drop at s))) at s, t) (first_of_lem (drop at s) (omega (arith, length-drop at s)))
