-- The names that a text declares under a word, line by line: the first line and those behind it are the text's lines, and what the first one
-- declares is the first name, where it declares one.
-- Assumes nothing.
use Prim.Native.Nat.{ℕ, zero, suc, ◌-◌, ◌≤◌, ◌<◌}
use native.Mathlib.Omega.{arith}
use mathlib.Core.Path.{◌≡◌, refl, sym, ◌∙◌, ap}
use mathlib.Core.Bool.{Bool, true, false, not, cond}
use mathlib.Core.List.{List, [], ◌∷◌, map}
use lib.Dec.{eqb}
use lib.ListN.{length, get_or}
use Rattle.kat.specs.Lists.{is_empty, filter}
use Rattle.claims.specs.Bytes.{in_front, raw_lines}
use Rattle.texts.specs.Lines.{front, back, in_line, behind, declared_by, names_under, name_at}

-- the bytes behind the first line
abbrev further : List ℕ → List ℕ
further bs = behind (back in_line bs)

-- the first line and those behind it, where the first byte ends a line and where it does not
split : (b : ℕ) (bs : List ℕ) (e : Bool)
    → in_front b (raw_lines bs) ≡ record { bytes = b ∷ front in_line bs; ended = not (is_empty (back in_line bs)) } ∷ raw_lines (further bs)
    → cond e (record { bytes = []; ended = true } ∷ raw_lines bs) (in_front b (raw_lines bs))
    ≡ record { bytes = cond (not e) (b ∷ front in_line bs) []; ended = not (is_empty (cond (not e) (back in_line bs) (b ∷ bs))) }
    ∷ raw_lines (behind (cond (not e) (back in_line bs) (b ∷ bs)))
unfolding behind
split b bs true h = refl
split b bs false h = h

lines_more : (b : ℕ) (bs : List ℕ)
    → raw_lines (b ∷ bs) ≡ record { bytes = front in_line (b ∷ bs); ended = not (is_empty (back in_line (b ∷ bs))) } ∷ raw_lines (further (b ∷ bs))
unfolding raw_lines in_front front back behind
lines_more b [] = split b [] (eqb b 10) refl
lines_more b (c ∷ cs) = split b (c ∷ cs) (eqb b 10) (ap (in_front b) (lines_more c cs))

module _ (w : List ℕ) where
  names_more : (b : ℕ) (bs : List ℕ) → (let d = declared_by w (front in_line (b ∷ bs)) in
      names_under w (b ∷ bs) ≡ cond (not (is_empty d)) (d ∷ names_under w (further (b ∷ bs))) (names_under w (further (b ∷ bs))))
  unfolding names_under
  names_more b bs = ap (λ ls. filter (λ n. not (is_empty n)) (map (λ l. declared_by w l.bytes) ls)) (lines_more b bs)

  -- a line that declares nothing
  pub name_less : (k : ℕ) (bs f : List ℕ) → 0 < length bs → f ≡ declared_by w (front in_line bs) → length f ≤ 0 → name_at w k (further bs) ≡ name_at w k bs
  unfolding name_at
  name_less k [] f h e n = absurd (omega arith)
  name_less k (b ∷ bs) (x ∷ f) h e n = absurd (omega arith)
  name_less k (b ∷ bs) [] h e n =
      let R : List (List ℕ) = names_under w (further (b ∷ bs)) in
      ap (λ (d : List ℕ). get_or (cond (not (is_empty d)) (d ∷ R) R) k []) e ∙ sym (ap (λ (ns : List (List ℕ)). get_or ns k []) (names_more b bs))

  -- a line that declares the name, and one that declares an earlier one
  pub name_here : (k : ℕ) (bs f : List ℕ) → 0 < length bs → f ≡ declared_by w (front in_line bs) → 0 < length f → k ≡ 0 → f ≡ name_at w k bs
  unfolding name_at
  name_here k [] f h e n z = absurd (omega arith)
  name_here k (b ∷ bs) [] h e n z = absurd (omega arith)
  name_here k (b ∷ bs) (x ∷ f) h e n z =
      let R : List (List ℕ) = names_under w (further (b ∷ bs)) in
      ap (λ (j : ℕ). get_or ((x ∷ f) ∷ R) j []) (sym z)
      ∙ ap (λ (d : List ℕ). get_or (cond (not (is_empty d)) (d ∷ R) R) k []) e ∙ sym (ap (λ (ns : List (List ℕ)). get_or ns k []) (names_more b bs))

  pub name_later : (k : ℕ) (bs f : List ℕ) → 0 < length bs → f ≡ declared_by w (front in_line bs) → 0 < length f → (k ≡ 0 → ⊥)
      → name_at w (k - 1) (further bs) ≡ name_at w k bs
  unfolding name_at
  name_later k [] f h e n z = absurd (omega arith)
  name_later k (b ∷ bs) [] h e n z = absurd (omega arith)
  name_later zero (b ∷ bs) (x ∷ f) h e n z = absurd (z refl)
  name_later (suc k) (b ∷ bs) (x ∷ f) h e n z =
      let R : List (List ℕ) = names_under w (further (b ∷ bs)) in
      let s : suc k - 1 ≡ k = omega arith in
      ap (λ (j : ℕ). get_or R j []) s
      ∙ ap (λ (d : List ℕ). get_or (cond (not (is_empty d)) (d ∷ R) R) (suc k) []) e
      ∙ sym (ap (λ (ns : List (List ℕ)). get_or ns (suc k) []) (names_more b bs))

  -- nothing is left
  pub name_none : (k : ℕ) (bs : List ℕ) → length bs ≤ 0 → [] ≡ name_at w k bs
  unfolding name_at names_under raw_lines
  name_none k [] h = go k
    where
      go : (j : ℕ) → [] ≡ get_or {A = List ℕ} [] j []
      go zero = refl
      go (suc j) = refl
  name_none k (b ∷ bs) h = absurd (omega arith)
