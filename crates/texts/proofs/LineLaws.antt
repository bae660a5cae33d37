-- The lines of a text, one after the other, by places in it.
-- Assumes nothing.
use Prim.Native.Nat.{ℕ, zero, suc, ◌+◌, ◌-◌, ◌≤◌, ◌<◌}
use native.Mathlib.Omega.{arith}
use native.Mathlib.Numerals.{add-one}
use mathlib.Core.Path.{◌≡◌, sym, ◌∙◌, ap}
use mathlib.Core.Bool.{Bool, true, false, cond}
use mathlib.Core.List.{List, []}
use lib.ListN.{length, take, drop, drop_of_length-le}
use lib.Seq.{drop-cons, drop-drop}
use Rattle.claims.specs.Bytes.{same}
use Rattle.texts.specs.Lines.{front, back, in_line, is_space, in_word, behind, line_at, declared_by}
use Rattle.texts.proofs.Fronts.{take_front, drop_front}

-- the part from a place to its end, and what stands behind it
pub part_front : (p : ℕ → Bool) (t : List ℕ) (at e : ℕ) → e ≡ at + length (front p (drop at t)) → take (e - at) (drop at t) ≡ front p (drop at t)
part_front p t at e h =
    let s : e - at ≡ length (front p (drop at t)) = omega arith in
    ap (λ (n : ℕ). take n (drop at t)) s ∙ take_front p (drop at t)

pub part_back : (p : ℕ → Bool) (t : List ℕ) (at e : ℕ) → e ≡ at + length (front p (drop at t)) → drop e t ≡ back p (drop at t)
part_back p t at e h =
    ap (λ (n : ℕ). drop n t) h ∙ sym (drop-drop (length (front p (drop at t))) at t) ∙ drop_front p (drop at t)

-- the next line begins behind the byte that ends this one, or nothing is left
pub after_byte : (t : List ℕ) (e : ℕ) → e < length t → drop (e + 1) t ≡ behind (drop e t)
unfolding behind
after_byte t e k = ap (λ (n : ℕ). drop n t) (add-one e) ∙ ap behind (sym (drop-cons t e 0 k))

pub after_end : (t : List ℕ) (e : ℕ) → length t ≤ e → drop e t ≡ behind (drop e t)
unfolding behind
after_end t e k = let z : drop e t ≡ [] = drop_of_length-le t {i = e} k in z ∙ ap behind (sym z)

-- a line further on, and the line here
pub line_more : (n : ℕ) (bs : List ℕ) → 1 < n → line_at (n - 1) (behind (back in_line bs)) ≡ line_at n bs
unfolding line_at
line_more zero bs h = absurd (omega arith)
line_more (suc zero) bs h = absurd (omega arith)
line_more (suc (suc n)) bs h =
    let s : suc (suc n) - 1 ≡ suc n = omega arith in ap (λ (k : ℕ). line_at k (behind (back in_line bs))) s

pub line_here : (n : ℕ) (bs : List ℕ) → 1 ≤ n → n ≤ 1 → front in_line bs ≡ line_at n bs
unfolding line_at
line_here n bs h k = let s : n ≡ 1 = omega arith in sym (ap (λ (m : ℕ). line_at m bs) s)

pub line_none : (n : ℕ) (bs : List ℕ) → n ≡ 0 → [] ≡ line_at n bs
unfolding line_at
line_none n bs h = sym (ap (λ (m : ℕ). line_at m bs) h)

-- the name that a line declares, by the places where its spaces and words end
module _ (w t : List ℕ) (a b : ℕ) (ea : a ≡ 0 + length (front is_space (drop 0 t))) (eb : b ≡ a + length (front in_word (drop a t))) where
  second : drop a t ≡ back is_space t
  second = part_back is_space t 0 a ea

  first_word : take (b - a) (drop a t) ≡ front in_word (back is_space t)
  first_word = part_front in_word t a b eb ∙ ap (front in_word) second

  pub declared_hit : (c d : ℕ) → c ≡ b + length (front is_space (drop b t)) → d ≡ c + length (front in_word (drop c t))
      → same (take (b - a) (drop a t)) w ≡ true → take (d - c) (drop c t) ≡ declared_by w t
  unfolding declared_by
  declared_hit c d ec ed e =
      let third : drop c t ≡ back is_space (back in_word (back is_space t)) =
      part_back is_space t b c ec ∙ ap (back is_space) (part_back in_word t a b eb ∙ ap (back in_word) second) in
      let yes : same (front in_word (back is_space t)) w ≡ true = sym (ap (λ (x : List ℕ). same x w) first_word) ∙ e in
      part_front in_word t c d ed ∙ ap (front in_word) third
      ∙ sym (ap (λ (x : Bool). cond x (front in_word (back is_space (back in_word (back is_space t)))) []) yes)

  pub declared_miss : same (take (b - a) (drop a t)) w ≡ false → [] ≡ declared_by w t
  unfolding declared_by
  declared_miss e =
      let no : same (front in_word (back is_space t)) w ≡ false = sym (ap (λ (x : List ℕ). same x w) first_word) ∙ e in
      sym (ap (λ (x : Bool). cond x (front in_word (back is_space (back in_word (back is_space t)))) []) no)
