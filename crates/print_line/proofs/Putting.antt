-- Laws of bytes put into memory: one byte, one piece after the other, and memory that is long enough. A place past the end changes nothing.
-- Assumes nothing.
use Prim.Native.Nat.{ℕ, suc, ◌+◌, ◌≤◌, ◌<◌, min}
use native.Mathlib.Omega.{arith}
use native.Mathlib.Nat.{min-eq_left}
use native.Mathlib.Numerals.{add-one}
use mathlib.Core.Path.{◌≡◌, refl, sym, ◌∙◌, ap, subst}
use mathlib.Core.Logic.{⊎_elim}
use mathlib.Core.List.{List, [], ◌∷◌, ◌++◌}
use lib.ListN.{length, get_or, set, take, drop, length-append}
use lib.Seq.{sets, length-sets, sets-eq, set_out, take-suc, take_all}
use Rattle.kat.proofs.Bools.{le_or_lt}
use Rattle.print_line.specs.Puts.{Puts}

-- past the end nothing is put
pub sets_out : (bs l : List ℕ) (i : ℕ) → length l ≤ i → sets l i bs ≡ l
sets_out [] l i h = refl
sets_out (b ∷ bs) l i h =
    ap (λ (m : List ℕ). sets m (suc i) bs) (set_out l i b h) ∙ sets_out bs l (suc i) (omega arith)

pub sets_append : (bs cs l : List ℕ) (i : ℕ) → sets l i (bs ++ cs) ≡ sets (sets l i bs) (i + length bs) cs
sets_append [] cs l i = ap (λ (k : ℕ). sets l k cs) (omega arith)
sets_append (b ∷ bs) cs l i =
    sets_append bs cs (set l i b) (suc i) ∙ ap (λ (k : ℕ). sets (sets (set l i b) (suc i) bs) k cs) (omega arith)

-- a place that was cut to the length is as good as the place itself
sets_cut : (cs l : List ℕ) (i : ℕ) → sets l (min i (length l)) cs ≡ sets l i cs
sets_cut cs l i =
    ⊎_elim (λ h. ap (λ (k : ℕ). sets l k cs) (min-eq_left h))
    (λ h. sets_out cs l (min i (length l)) (omega arith) ∙ sym (sets_out cs l i (omega arith))) (le_or_lt i (length l))

-- nothing, from a place that is cut to the length
pub puts_start : (l : List ℕ) (at to : ℕ) → to ≡ min at (length l) → Puts l at [] to l
puts_start l at to e = record { memory = refl; next = omega arith }

pub puts_nothing : (l : List ℕ) (at : ℕ) → at ≤ length l → Puts l at [] at l
puts_nothing l at h = puts_start l at at (omega arith)

-- one byte, where there is room and where there is none
pub puts_one : (l : List ℕ) (at b : ℕ) → at < length l → Puts l at (b ∷ []) (at + 1) (set l at b)
puts_one l at b h = record { memory = refl; next = omega arith }

pub puts_none : (l : List ℕ) (at b : ℕ) → length l ≤ at → Puts l at (b ∷ []) (length l) l
puts_none l at b h = record { memory = sym (set_out l at b h); next = omega arith }

-- one piece, and then another
pub puts_append : {l m n : List ℕ} {at to next : ℕ} {bs cs : List ℕ} → Puts l at bs to m → Puts m to cs next n → Puts l at (bs ++ cs) next n
puts_append {l} {m} {n} {at} {to} {next} {bs} {cs} p q =
    let e : length m ≡ length l = ap length p.memory ∙ length-sets l at bs in
    record {
      memory =
          q.memory ∙ ap (λ (k : ℕ). sets m k cs) (p.next ∙ ap (min (at + length bs)) (sym e)) ∙ sets_cut cs m (at + length bs)
          ∙ ap (λ (x : List ℕ). sets x (at + length bs) cs) p.memory ∙ sym (sets_append bs cs l at);
      next = let f = q.next in let g = p.next in omega (arith, length-append bs cs);
    }

-- the place after a piece is at most the length, which stays
pub puts_within : {l m : List ℕ} {at to : ℕ} {bs : List ℕ} → Puts l at bs to m → to ≤ length m
puts_within {l} {m} {at} {to} {bs} p =
    let e : length m ≡ length l = ap length p.memory ∙ length-sets l at bs in let g = p.next in omega arith

pub puts_length : {l m : List ℕ} {at to : ℕ} {bs : List ℕ} → Puts l at bs to m → length m ≡ length l
puts_length {l} {m} {at} {to} {bs} p = ap length p.memory ∙ length-sets l at bs

-- in memory that is long enough the bytes stand from the first place on, and the rest is as before
pub puts_all : (l m bs : List ℕ) (to : ℕ) → Puts l 0 bs to m → length bs ≤ length l
    → (m ≡ bs ++ drop (length bs) l) × (to ≡ length bs)
puts_all l m bs to p h =
    let z : 0 + length bs ≡ length bs = omega arith in
    (p.memory ∙ sets-eq bs l 0 (omega arith) ∙ ap (λ (k : ℕ). bs ++ drop k l) z, let g = p.next in omega arith)

-- one more byte of a text
pub puts_more : {l m n : List ℕ} {at to next b : ℕ} (bs : List ℕ) (i : ℕ) → i < length bs → Puts l at (take i bs) to m → b ≡ get_or bs i 0
    → Puts m to (b ∷ []) next n → Puts l at (take (i + 1) bs) next n
puts_more {l} {m} {n} {at} {to} {next} {b} bs i h p e q =
    subst (λ (cs : List ℕ). Puts l at cs next n)
    (ap (λ (x : ℕ). take i bs ++ (x ∷ [])) e ∙ sym (take-suc bs i 0 h) ∙ ap (λ (k : ℕ). take k bs) (sym (add-one i))) (puts_append p q)

-- and all of it
pub puts_whole : {l m : List ℕ} {at to : ℕ} (bs : List ℕ) (i : ℕ) → length bs ≤ i → Puts l at (take i bs) to m → Puts l at bs to m
puts_whole {l} {m} {at} {to} bs i k p = subst (λ (cs : List ℕ). Puts l at cs to m) (take_all i bs k) p

-- equal bytes
pub puts_bytes : {l m bs cs : List ℕ} {at to : ℕ} → bs ≡ cs → Puts l at bs to m → Puts l at cs to m
puts_bytes {l} {m} {bs} {cs} {at} {to} e p = subst (λ (ds : List ℕ). Puts l at ds to m) e p
