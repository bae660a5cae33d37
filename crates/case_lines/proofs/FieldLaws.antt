-- Laws of the fields of a case: a number, one digit after the other, and bytes in hex, one pair of digits after the other.
-- Assumes nothing.
use Prim.Native.Nat.{ℕ, suc, ◌+◌, ◌-◌, ◌*◌, ◌≤◌, ◌<◌}
use native.Mathlib.Numerals.{add-one}
use native.Mathlib.Omega.{arith}
use mathlib.Core.Path.{◌≡◌, refl, sym, ◌∙◌, ap}
use mathlib.Core.Bool.{Bool, true, false, cond, ◌&&◌}
use mathlib.Core.List.{List, [], ◌∷◌, ◌++◌}
use lib.Dec.{eqb, leb}
use lib.ListN.{length, get_or, take, drop, drop_of_length-le, length-take, length-drop}
use lib.Seq.{drop-cons, get_or-take}
use borrow.Author.Tests.{eq-eqb, ne_eqb, le-leb, lt-leb}
use Rattle.case_lines.specs.Escapes.{within, hex_byte}
use Rattle.case_lines.specs.Fields.{digits_in, with_digit, with_digits, no_bytes, hex_pairs, hex_bytes, Puts}
use Rattle.case_lines.proofs.Putting.{puts_nothing, puts_bytes}

-- the first bytes of a text: 20 of the first n
abbrev pub front : ℕ → List ℕ → List ℕ
front n t = take 20 (take n t)

-- the number so far, and what is left of its digits, are the whole
pub record Left (n : ℕ) (t : List ℕ) (i v : ℕ) : Type 0 where
  pub count : i + length (digits_in (drop i (front n t))) ≡ length (digits_in (front n t))
  pub value : with_digits v (digits_in (drop i (front n t))) ≡ with_digits 0 (digits_in (front n t))

pub number_start : (n : ℕ) (t : List ℕ) → Left n t 0 0
number_start n t = record { count = omega arith; value = refl }

module _ (n : ℕ) (t : List ℕ) (i : ℕ) where
  number_at : i < 20 → i < n → i < length t
      → digits_in (drop i (front n t)) ≡ cond (within 48 57 (get_or t i 0)) ((get_or t i 0 - 48) ∷ digits_in (drop (i + 1) (front n t))) []
  unfolding digits_in
  number_at a b c =
      ap digits_in (drop-cons (front n t) i 0 (omega (arith, length-take 20 (take n t), length-take n t)))
      ∙ ap (λ (x : ℕ). cond (within 48 57 x) ((x - 48) ∷ digits_in (drop (suc i) (front n t))) [])
      (get_or-take 20 (take n t) i 0 a ∙ get_or-take n t i 0 b)
      ∙ ap (λ (j : ℕ). cond (within 48 57 (get_or t i 0)) ((get_or t i 0 - 48) ∷ digits_in (drop j (front n t))) []) (sym (add-one i))

  -- one digit more
  pub number_more : (v w d : ℕ) → i < 20 → i < n → i < length t → 48 ≤ get_or t i 0 → get_or t i 0 ≤ 57 → d ≡ get_or t i 0 - 48
      → w ≡ with_digit v d → Left n t i v → Left n t (i + 1) w
  unfolding with_digits
  number_more v w d a b c low high e f l =
      let rest : List ℕ = digits_in (drop (i + 1) (front n t)) in
      let s : digits_in (drop i (front n t)) ≡ (get_or t i 0 - 48) ∷ rest =
      number_at a b c
      ∙ ap (λ (x : Bool). cond x ((get_or t i 0 - 48) ∷ rest) [])
      (ap (λ (x : Bool). x && leb (get_or t i 0) 57) (le-leb 48 (get_or t i 0) low) ∙ le-leb (get_or t i 0) 57 high) in
      record {
        count = omega (arith, ap length s, l.count);
        value =
            ap (λ (x : ℕ). with_digits x rest) (f ∙ ap (with_digit v) e) ∙ sym (ap (with_digits v) s) ∙ l.value;
      }

  -- no digit more
  stops : (v : ℕ) → digits_in (drop i (front n t)) ≡ [] → Left n t i v
      → (i ≡ length (digits_in (front n t))) × (v ≡ with_digits 0 (digits_in (front n t)))
  unfolding with_digits
  stops v s l = (omega (arith, ap length s, l.count), sym (ap (with_digits v) s) ∙ l.value)

  pub number_under : (v : ℕ) → i < 20 → i < n → i < length t → get_or t i 0 < 48 → Left n t i v
      → (i ≡ length (digits_in (front n t))) × (v ≡ with_digits 0 (digits_in (front n t)))
  number_under v a b c h =
      stops v
      (number_at a b c
      ∙ ap (λ (x : Bool). cond (x && leb (get_or t i 0) 57) ((get_or t i 0 - 48) ∷ digits_in (drop (i + 1) (front n t))) []) (lt-leb 48 (get_or t i 0) h))

  pub number_over : (v : ℕ) → i < 20 → i < n → i < length t → 57 < get_or t i 0 → Left n t i v
      → (i ≡ length (digits_in (front n t))) × (v ≡ with_digits 0 (digits_in (front n t)))
  number_over v a b c h =
      stops v
      (number_at a b c
      ∙ ap (λ (x : Bool). cond x ((get_or t i 0 - 48) ∷ digits_in (drop (i + 1) (front n t))) [])
      (ap (λ (x : Bool). x && leb (get_or t i 0) 57) (le-leb 48 (get_or t i 0) (omega arith)) ∙ lt-leb (get_or t i 0) 57 h))

  pub number_end : (v : ℕ) → length (front n t) ≤ i → Left n t i v
      → (i ≡ length (digits_in (front n t))) × (v ≡ with_digits 0 (digits_in (front n t)))
  unfolding digits_in
  number_end v h = stops v (ap digits_in (drop_of_length-le (front n t) {i = i} h))

-- how long the front is
pub front_length : (n : ℕ) (t : List ℕ) → (length (front n t) ≤ 20) × (length (front n t) ≤ n) × (length (front n t) ≤ length t)
front_length n t =
    (omega (arith, length-take 20 (take n t)), omega (arith, length-take 20 (take n t), length-take n t), omega (arith, length-take 20 (take n t), length-take n t))

-- one pair of hex digits more, a space, and less than a pair
pairs_at : (t : List ℕ) (i : ℕ) → i + 1 < length t
    → hex_pairs (drop i t) ≡ cond (eqb (get_or t i 0) 32) [] (hex_byte (get_or t i 0) (get_or t (i + 1) 0) ∷ hex_pairs (drop (i + 2) t))
unfolding hex_pairs
pairs_at t i h =
    let j : suc i ≡ i + 1 = omega arith in
    let k : suc (i + 1) ≡ i + 2 = omega arith in
    ap hex_pairs
    (drop-cons t i 0 (omega arith)
    ∙ ap (λ (x : ℕ). get_or t i 0 ∷ drop x t) j
    ∙ ap (λ (ds : List ℕ). get_or t i 0 ∷ ds) (drop-cons t (i + 1) 0 h ∙ ap (λ (x : ℕ). get_or t (i + 1) 0 ∷ drop x t) k))

pub pairs_more : (t : List ℕ) (u b : ℕ) → 2 * u + 1 < length t → (get_or t (2 * u) 0 ≡ 32 → ⊥) → b ≡ hex_byte (get_or t (2 * u) 0) (get_or t (2 * u + 1) 0)
    → hex_pairs (drop (2 * u) t) ≡ (b ∷ []) ++ hex_pairs (drop (2 * (u + 1)) t)
pairs_more t u b h s e =
    let j : 2 * u + 2 ≡ 2 * (u + 1) = omega arith in
    pairs_at t (2 * u) h
    ∙ ap (λ (x : Bool). cond x [] (hex_byte (get_or t (2 * u) 0) (get_or t (2 * u + 1) 0) ∷ hex_pairs (drop (2 * u + 2) t)))
    (ne_eqb (get_or t (2 * u) 0) 32 s)
    ∙ ap (λ (x : ℕ). x ∷ hex_pairs (drop (2 * u + 2) t)) (sym e) ∙ ap (λ (x : ℕ). b ∷ hex_pairs (drop x t)) j

pub pairs_space : (t : List ℕ) (i : ℕ) → i + 1 < length t → get_or t i 0 ≡ 32 → hex_pairs (drop i t) ≡ []
pairs_space t i h s =
    pairs_at t i h
    ∙ ap (λ (x : Bool). cond x [] (hex_byte (get_or t i 0) (get_or t (i + 1) 0) ∷ hex_pairs (drop (i + 2) t))) (eq-eqb (get_or t i 0) 32 s)

short_pairs : (bs : List ℕ) → length bs < 2 → hex_pairs bs ≡ []
unfolding hex_pairs
short_pairs [] h = refl
short_pairs (a ∷ []) h = refl
short_pairs (a ∷ b ∷ bs) h = absurd (omega arith)

pub pairs_end : (t : List ℕ) (i : ℕ) → length t - i < 2 → hex_pairs (drop i t) ≡ []
pairs_end t i h = short_pairs (drop i t) (omega (arith, length-drop i t))

-- a `-` at the start, and no byte at all
pub dash_first : (t : List ℕ) → 0 < length t → eqb (get_or t 0 0) 45 ≡ no_bytes t
unfolding no_bytes
dash_first [] h = absurd (omega arith)
dash_first (b ∷ bs) h = refl

pub dash_empty : (t : List ℕ) → length t ≡ 0 → false ≡ no_bytes t
unfolding no_bytes
dash_empty [] h = refl
dash_empty (b ∷ bs) h = absurd (omega arith)

pub hex_none : (t to : List ℕ) → true ≡ no_bytes t → Puts to 0 (hex_bytes t) 0 to × (◌≡◌ {A = ℕ} 1 (cond (no_bytes t) 1 0))
hex_none t to e = (puts_bytes (ap (λ (b : Bool). cond b [] (hex_pairs t)) e) (puts_nothing to 0), ap (λ (b : Bool). cond {A = ℕ} b 1 0) e)

pub hex_some : {to to₁ : List ℕ} {n : ℕ} (t : List ℕ) → false ≡ no_bytes t → Puts to 0 (hex_pairs t) n to₁
    → Puts to 0 (hex_bytes t) n to₁ × (2 * n ≡ cond (no_bytes t) 1 (2 * n))
hex_some {to} {to₁} {n} t e p =
    (puts_bytes (ap (λ (b : Bool). cond b [] (hex_pairs t)) e) p, ap (λ (b : Bool). cond b 1 (2 * n)) e)
