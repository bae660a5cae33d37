-- Laws of the escapes: what each byte of a line does, by what it is, and what several of them do.
-- Assumes nothing.
use Prim.Native.Nat.{ℕ, ◌+◌, ◌-◌, ◌*◌, ◌%◌, ◌^◌, ◌≤◌, ◌<◌}
use native.Mathlib.Omega.{arith}
use mathlib.Core.Path.{◌≡◌, refl, sym, ◌∙◌, ap, subst}
use mathlib.Core.List.{List, [], ◌∷◌, ◌++◌, append_assoc}
use lib.Bits.{bit_or, or_shifted}
use borrow.Author.Tests.{eq-eqb, ne_eqb, le-leb, lt-leb}
use Rattle.case_lines.specs.declared.escape.Next.{Next}
use Rattle.case_lines.specs.declared.escape.Next.TheVariants.{Plain, Escape, High, Low}
use Rattle.case_lines.specs.Escapes.{hex_digit, hex_byte, after, ended, behind, meant}
use Rattle.case_lines.specs.Fields.{Puts}
use Rattle.case_lines.proofs.Putting.{puts_nothing, puts_bytes}

-- the digits 0 to 9, a to f, and the bytes between and around them
pub digit_ten : (b : ℕ) → 48 ≤ b → b ≤ 57 → b - 48 ≡ hex_digit b
unfolding hex_digit
digit_ten b h k = rw (le-leb 48 b h, le-leb b 57 k)

pub digit_six : (b : ℕ) → 97 ≤ b → b ≤ 102 → b - 97 + 10 ≡ hex_digit b
unfolding hex_digit
digit_six b h k = rw (le-leb 48 b (omega arith), lt-leb b 57 (omega arith), le-leb 97 b h, le-leb b 102 k)

pub digit_under : (b : ℕ) → b < 48 → 0 ≡ hex_digit b
unfolding hex_digit
digit_under b h = rw (lt-leb 48 b h, lt-leb 97 b (omega arith))

pub digit_between : (b : ℕ) → 57 < b → b < 97 → 0 ≡ hex_digit b
unfolding hex_digit
digit_between b h k = rw (le-leb 48 b (omega arith), lt-leb b 57 h, lt-leb 97 b k)

pub digit_over : (b : ℕ) → 102 < b → 0 ≡ hex_digit b
unfolding hex_digit
digit_over b h = rw (le-leb 48 b (omega arith), lt-leb b 57 (omega arith), le-leb 97 b (omega arith), lt-leb b 102 h)

-- what a byte does, from memory l and place u to m and `to`
abbrev pub Steps : List ℕ → ℕ → Next → ℕ → ℕ → Next → List ℕ → Type 0
Steps l u n b to next m = Puts l u (ended n b) to m × (next ≡ after n b)

pub known : {l m : List ℕ} {u to : ℕ} {next : Next} (b : ℕ) (n k : Next) → n ≡ k → Steps l u k b to next m → Steps l u n b to next m
known {l} {m} {u} {to} {next} b n k e s = subst (λ (x : Next). Steps l u x b to next m) (sym e) s

pub plain_escape : (l : List ℕ) (u b : ℕ) → b ≡ 92 → Steps l u Plain b u Escape l
unfolding ended after
plain_escape l u b e = rw (eq-eqb b 92 e) (puts_nothing l u, refl)

pub plain_byte : {l m : List ℕ} {u to : ℕ} {next : Next} (b : ℕ) → (b ≡ 92 → ⊥) → Puts l u (b ∷ []) to m × (next ≡ Plain) → Steps l u Plain b to next m
unfolding ended after
plain_byte b e p = rw (ne_eqb b 92 e) p

pub escape_x : (l : List ℕ) (u b : ℕ) → b ≡ 120 → Steps l u Escape b u High l
unfolding ended after
escape_x l u b e = rw (eq-eqb b 120 e) (puts_nothing l u, refl)

pub escape_n : {l m : List ℕ} {u to : ℕ} {next : Next} (b : ℕ) → (b ≡ 120 → ⊥) → b ≡ 110 → Puts l u (10 ∷ []) to m × (next ≡ Plain)
    → Steps l u Escape b to next m
unfolding ended after
escape_n b e f p = rw (ne_eqb b 120 e, eq-eqb b 110 f) p

pub escape_byte : {l m : List ℕ} {u to : ℕ} {next : Next} (b : ℕ) → (b ≡ 120 → ⊥) → (b ≡ 110 → ⊥) → Puts l u (b ∷ []) to m × (next ≡ Plain)
    → Steps l u Escape b to next m
unfolding ended after
escape_byte b e f p = rw (ne_eqb b 120 e, ne_eqb b 110 f) p

pub high_digit : (l : List ℕ) (u b d : ℕ) → d ≡ hex_digit b → d ≤ 15 → Steps l u High b u (Low (d * 16 % 256)) l
unfolding ended after
high_digit l u b d e h =
    let s : d * 16 % 256 ≡ 16 * d = omega arith in (puts_nothing l u, ap Low (s ∙ ap (λ (k : ℕ). 16 * k) e))

pub low_digit : {l m : List ℕ} {u to : ℕ} {next : Next} (b h d : ℕ) → d ≡ hex_digit b → Puts l u (bit_or h d ∷ []) to m × (next ≡ Plain)
    → Steps l u (Low h) b to next m
unfolding ended after
low_digit b h d e p = (puts_bytes (ap (λ (k : ℕ). bit_or h k ∷ []) e) p.0, p.1)

-- two digits behind `\x` are their byte
pub digits_byte : (a b : ℕ) → hex_digit b ≤ 15 → meant Escape (120 ∷ a ∷ b ∷ []) ≡ hex_byte a b ∷ []
unfolding meant ended after
digits_byte a b h =
    let e : 16 * hex_digit a ≡ hex_digit a * 2 ^ 4 = omega arith in
    ap (λ (k : ℕ). bit_or k (hex_digit b) ∷ []) e ∙ ap (λ (k : ℕ). k ∷ []) (or_shifted (hex_digit a) 4 (hex_digit b) (omega arith) ∙ omega arith)

-- one line after the other
pub behind_append : (n : Next) (bs cs : List ℕ) → behind n (bs ++ cs) ≡ behind (behind n bs) cs
unfolding behind
behind_append n [] cs = refl
behind_append n (b ∷ bs) cs = behind_append (after n b) bs cs

pub meant_append : (n : Next) (bs cs : List ℕ) → meant n (bs ++ cs) ≡ meant n bs ++ meant (behind n bs) cs
unfolding behind meant
meant_append n [] cs = refl
meant_append n (b ∷ bs) cs =
    ap (λ (ds : List ℕ). ended n b ++ ds) (meant_append (after n b) bs cs)
    ∙ sym (append_assoc (ended n b) (meant (after n b) bs) (meant (behind (after n b) bs) cs))
