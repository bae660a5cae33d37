-- Laws of bytes put into memory as far as there is room: one byte, one piece after the other, none. A place past the end changes nothing.
-- Assumes nothing.
use Prim.Native.Nat.{ℕ, zero, suc, ◌+◌, ◌-◌, ◌≤◌, ◌<◌, min}
use native.Mathlib.Omega.{arith}
use mathlib.Core.Path.{◌≡◌, refl, sym, ◌∙◌, ap, subst}
use mathlib.Core.Logic.{◌⊎◌, ⊎_elim}
use mathlib.Core.Logic.◌⊎◌.{inl, inr}
use mathlib.Core.List.{List, [], ◌∷◌, ◌++◌}
use lib.ListN.{length, set, length-append}
use lib.Seq.{sets, length-sets, set_out}
use Rattle.case_lines.specs.Fields.{Puts}

le_or_lt : (a b : ℕ) → (a ≤ b) ⊎ (b < a)
le_or_lt zero b = inl (omega arith)
le_or_lt (suc a) zero = inr (omega arith)
le_or_lt (suc a) (suc b) = ⊎_elim (λ p. inl (omega arith)) (λ q. inr (omega arith)) (le_or_lt a b)

-- past the end nothing is put
sets_out : (bs l : List ℕ) (i : ℕ) → length l ≤ i → sets l i bs ≡ l
sets_out [] l i h = refl
sets_out (b ∷ bs) l i h =
    ap (λ (m : List ℕ). sets m (suc i) bs) (set_out l i b h) ∙ sets_out bs l (suc i) (omega arith)

sets_append : (bs cs l : List ℕ) (i : ℕ) → sets l i (bs ++ cs) ≡ sets (sets l i bs) (i + length bs) cs
sets_append [] cs l i = ap (λ (k : ℕ). sets l k cs) (omega arith)
sets_append (b ∷ bs) cs l i =
    sets_append bs cs (set l i b) (suc i) ∙ ap (λ (k : ℕ). sets (sets (set l i b) (suc i) bs) k cs) (omega arith)

-- a place that stops at the end is as good as the place itself
sets_cut : (cs l : List ℕ) (i k : ℕ) → sets l (i + min k (length l - i)) cs ≡ sets l (i + k) cs
sets_cut cs l i k =
    ⊎_elim (λ h. ap (λ (j : ℕ). sets l j cs) (omega arith))
    (λ h. sets_out cs l (i + min k (length l - i)) (omega arith) ∙ sym (sets_out cs l (i + k) (omega arith))) (le_or_lt k (length l - i))

pub puts_nothing : (l : List ℕ) (at : ℕ) → Puts l at [] at l
puts_nothing l at = record { memory = refl; next = omega arith }

-- one byte, where there is room and where there is none
pub puts_one : (l : List ℕ) (at b : ℕ) → at < length l → Puts l at (b ∷ []) (at + 1) (set l at b)
puts_one l at b h = record { memory = refl; next = omega arith }

pub puts_none : (l : List ℕ) (at b : ℕ) → length l ≤ at → Puts l at (b ∷ []) at l
puts_none l at b h = record { memory = sym (set_out l at b h); next = omega arith }

-- one piece, and then another
pub puts_append : {l m n : List ℕ} {at to next : ℕ} {bs cs : List ℕ} → Puts l at bs to m → Puts m to cs next n → Puts l at (bs ++ cs) next n
puts_append {l} {m} {n} {at} {to} {next} {bs} {cs} p q =
    let e : length m ≡ length l = ap length p.memory ∙ length-sets l at bs in
    record {
      memory =
          q.memory ∙ ap (λ (k : ℕ). sets m k cs) (p.next ∙ ap (λ (s : ℕ). at + min (length bs) (s - at)) (sym e)) ∙ sets_cut cs m at (length bs)
          ∙ ap (λ (x : List ℕ). sets x (at + length bs) cs) p.memory ∙ sym (sets_append bs cs l at);
      next = let f = q.next in let g = p.next in omega (arith, length-append bs cs);
    }

pub puts_length : {l m : List ℕ} {at to : ℕ} {bs : List ℕ} → Puts l at bs to m → length m ≡ length l
puts_length {l} {m} {at} {to} {bs} p = ap length p.memory ∙ length-sets l at bs

-- equal bytes
pub puts_bytes : {l m bs cs : List ℕ} {at to : ℕ} → bs ≡ cs → Puts l at bs to m → Puts l at cs to m
puts_bytes {l} {m} {bs} {cs} {at} {to} e p = subst (λ (ds : List ℕ). Puts l at ds to m) e p

-- what is left to put from one place is the whole from another: so any piece of what is left may come first
abbrev pub Left : List ℕ → ℕ → List ℕ → List ℕ → ℕ → List ℕ → Type 0
Left l at bs m to cs = (r : ℕ) (n : List ℕ) → Puts m to cs r n → Puts l at bs r n

pub left_more : {l m n : List ℕ} {at to next : ℕ} {bs ds : List ℕ} (cs es : List ℕ) → ds ≡ cs ++ es
    → Left l at bs m to ds → Puts m to cs next n → Left l at bs n next es
left_more cs es e f p r n q = f r n (puts_bytes (sym e) (puts_append p q))

pub left_none : {l m : List ℕ} {at to : ℕ} {bs cs : List ℕ} → cs ≡ [] → Left l at bs m to cs → Puts l at bs to m
left_none {l} {m} {at} {to} {bs} {cs} e f = f to m (puts_bytes (sym e) (puts_nothing m to))

-- no room
pub left_full : {l m : List ℕ} {at to : ℕ} {bs : List ℕ} (cs : List ℕ) → length m ≤ to → Left l at bs m to cs → Puts l at bs to m
left_full {l} {m} {at} {to} {bs} cs h f = f to m (record { memory = sym (sets_out cs m to h); next = omega arith })
