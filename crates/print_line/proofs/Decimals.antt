-- Decimal digits, least first, put in front of those that stand already at the end of an array: what is left to do is what `decimal` does.
-- Numbers one after the other, each behind a space.
-- Assumes nothing.
use Prim.Native.Nat.{ℕ, zero, suc, ◌+◌, ◌-◌, ◌*◌, ◌/◌, ◌%◌, ◌^◌, ◌≤◌, ◌<◌, min}
use native.Mathlib.Omega.{arith}
use native.Mathlib.Numerals.{add-one}
use native.Mathlib.Nat.{pow-suc}
use mathlib.Core.Path.{◌≡◌, refl, sym, ◌∙◌, ap, subst}
use mathlib.Core.List.{List, [], ◌∷◌, ◌++◌, append-nil, append_assoc}
use lib.ListN.{length, get_or, set, take, drop}
use lib.Seq.{take-suc, take_all}
use borrow.Author.Tests.{lt-ltb, le-ltb}
use Rattle.claims.specs.Printed.{digits_before, decimal, spaced}
use Rattle.print_line.specs.Puts.{Puts}
use Rattle.print_line.proofs.Putting.{puts_start, puts_append}

drop_here : (l : List ℕ) (i v : ℕ) → i < length l → drop i (set l i v) ≡ v ∷ drop (suc i) l
drop_here [] i v h = absurd (omega arith)
drop_here (x ∷ xs) zero v h = refl
drop_here (x ∷ xs) (suc i) v h = drop_here xs i v (omega arith)

-- one digit in front, and the number without it
pub digit_more : (f n i j : ℕ) (l : List ℕ) → n < f → 10 ≤ n → j ≡ i + 1 → i < length l
    → digits_before f n (drop j l) ≡ digits_before (f - 1) (n / 10) (drop i (set l i (48 + n % 10)))
unfolding digits_before
digit_more zero n i j l g h e k = absurd (omega arith)
digit_more (suc f) n i j l g h e k =
    let p : suc f - 1 ≡ f = omega arith in
    rw (le-ltb n 10 h, drop_here l i (48 + n % 10) k, e, add-one i, p, digits_before) refl

-- the last digit
pub digit_last : (f n i j : ℕ) (l : List ℕ) → n < f → n < 10 → j ≡ i + 1 → i < length l
    → digits_before f n (drop j l) ≡ drop i (set l i (48 + n))
unfolding digits_before
digit_last zero n i j l g h e k = absurd (omega arith)
digit_last (suc f) n i j l g h e k = rw (lt-ltb n 10 h, drop_here l i (48 + n) k, e, add-one i, digits_before) refl

-- a number of i digits: more than one where it is 10 or more, and one less without its last
pub two_digits : (n i : ℕ) → 10 ≤ n → n < 10 ^ i → 2 ≤ i
two_digits n zero h k = absurd (omega arith)
two_digits n (suc zero) h k = absurd (omega arith)
two_digits n (suc (suc i)) h k = omega arith

pub fewer_digits : (n i j : ℕ) → j ≡ i + 1 → n < 10 ^ j → n / 10 < 10 ^ i
fewer_digits n i j e k =
    let s : 10 ^ suc i ≡ 10 ^ i * 10 = pow-suc 10 i in
    let h : n < 10 ^ suc i = subst (λ (m : ℕ). n < 10 ^ m) (e ∙ add-one i) k in
    omega arith

-- a space, and then the digits
pub puts_number : {l m o : List ℕ} {at a to : ℕ} {ds : List ℕ} (n : ℕ) → Puts l at (32 ∷ []) a m → Puts m a ds to o → ds ≡ decimal n
    → Puts l at (spaced (n ∷ [])) to o
unfolding spaced
puts_number {l} {m} {o} {at} {a} {to} {ds} n p q e =
    subst (λ (cs : List ℕ). Puts l at (32 ∷ cs) to o) (e ∙ sym (append-nil (decimal n))) (puts_append p q)

-- numbers one after the other
pub spaced_append : (ms ns : List ℕ) → spaced (ms ++ ns) ≡ spaced ms ++ spaced ns
unfolding spaced
spaced_append [] ns = refl
spaced_append (m ∷ ms) ns =
    ap (λ (cs : List ℕ). 32 ∷ (decimal m ++ cs)) (spaced_append ms ns) ∙ ap (λ (cs : List ℕ). 32 ∷ cs) (sym (append_assoc (decimal m) (spaced ms) (spaced ns)))

pub puts_numbers_more : {l m o : List ℕ} {at to next b : ℕ} (ns : List ℕ) (i : ℕ) → i < length ns
    → Puts l at (spaced (take i ns)) to m → b ≡ get_or ns i 0 → Puts m to (spaced (b ∷ [])) next o → Puts l at (spaced (take (i + 1) ns)) next o
puts_numbers_more {l} {m} {o} {at} {to} {next} {b} ns i h p e q =
    subst (λ (cs : List ℕ). Puts l at cs next o)
    (sym (spaced_append (take i ns) (b ∷ []))
    ∙ ap spaced (ap (λ (x : ℕ). take i ns ++ (x ∷ [])) e ∙ sym (take-suc ns i 0 h) ∙ ap (λ (k : ℕ). take k ns) (sym (add-one i))))
    (puts_append p q)

pub puts_numbers_whole : {l m : List ℕ} {at to : ℕ} (ns : List ℕ) (i : ℕ) → length ns ≤ i → Puts l at (spaced (take i ns)) to m
    → Puts l at (spaced ns) to m
puts_numbers_whole {l} {m} {at} {to} ns i k p = subst (λ (cs : List ℕ). Puts l at (spaced cs) to m) (take_all i ns k) p

pub puts_numbers_none : (l : List ℕ) (at to : ℕ) → to ≡ min at (length l) → Puts l at (spaced []) to l
unfolding spaced
puts_numbers_none l at to e = puts_start l at to e

-- the number that is put is the one that is meant
pub puts_as : {l o : List ℕ} {at to m n : ℕ} → m ≡ n → Puts l at (spaced (m ∷ [])) to o → Puts l at (spaced (n ∷ [])) to o
puts_as {l} {o} {at} {to} e p = subst (λ (k : ℕ). Puts l at (spaced (k ∷ [])) to o) e p
