-- A set that is written as a number, a bit for each member, is read back. A set is a rising list; the idea is to go by the lowest
-- number that may be a member: bit 0 says whether it is one, and half the number is the set of those above it.
-- Assumes nothing.
use Prim.Native.Nat.{ℕ, zero, suc, ◌+◌, ◌*◌, ◌-◌, ◌/◌, ◌%◌, ◌^◌, ◌≤◌, ◌<◌}
use native.Mathlib.Nat.{pow-zero, pow-suc, pow-succ', div-one, div-div-eq-div-mul, pow-le-pow_right, eq-or-lt_of_le, sub_self}
use native.Mathlib.Omega.{arith}
use mathlib.Core.Path.{◌≡◌, refl, sym, ◌∙◌, ap, subst}
use mathlib.Core.Logic.{⊎_elim}
use mathlib.Core.Bool.{Bool, true, false, cond}
use mathlib.Core.List.{List, [], ◌∷◌}
use lib.Dec.{eqb}
use Rattle.kat.specs.Lists.{counted, upto, filter}
use Rattle.notation.specs.Query.{bit}
use Rattle.claims.specs.Fields.{set_number, number_set}
pub use Rattle.claims.specs.SheetWriting.{RisingWithin}

pub rising_from_below : (lo lo' hi : ℕ) (s : List ℕ) → lo ≤ lo' → RisingWithin lo' hi s → RisingWithin lo hi s
rising_from_below lo lo' hi [] h r = tt
rising_from_below lo lo' hi (k ∷ ks) h (a, b, r) = (omega arith, b, r)

-- what passes a test is rising
filter_counted_rising : (p : ℕ → Bool) (lo n hi : ℕ) → lo + n ≤ hi → RisingWithin lo hi (filter p (counted lo n))
filter_counted_rising p lo zero hi h = tt
filter_counted_rising p lo (suc n) hi h = go (p lo) (filter_counted_rising p (suc lo) n hi (omega arith))
  where
    go : (b : Bool) → RisingWithin (suc lo) hi (filter p (counted (suc lo) n))
        → RisingWithin lo hi (cond b (lo ∷ filter p (counted (suc lo) n)) (filter p (counted (suc lo) n)))
    go true r = (omega arith, omega arith, r)
    go false r = rising_from_below lo (suc lo) hi (filter p (counted (suc lo) n)) (omega arith) r

pub filter_rising : (p : ℕ → Bool) (lo hi : ℕ) → lo ≤ hi → RisingWithin lo hi (filter p (upto lo hi))
filter_rising p lo hi h = filter_counted_rising p lo (hi - lo) hi (omega arith)

-- without its lowest possible member a set's number is even, and half of it is the set's number counted from one higher
pub set_number_double : (lo hi : ℕ) (s : List ℕ) → RisingWithin (suc lo) hi s → set_number lo s ≡ 2 * set_number (suc lo) s
unfolding set_number
set_number_double lo hi [] r = refl
set_number_double lo hi (k ∷ ks) (a, b, r) =
    let e : k - lo ≡ suc (k - suc lo) = omega arith in
    let f : 2 ^ (k - lo) ≡ 2 ^ (k - suc lo) * 2 = ap (λ i. 2 ^ i) e ∙ pow-suc 2 (k - suc lo) in
    let g : set_number lo ks ≡ 2 * set_number (suc lo) ks =
    set_number_double lo hi ks (rising_from_below (suc lo) (suc k) hi ks (omega arith) r) in
    omega arith

pub set_number_even : (hi : ℕ) (s : List ℕ) → RisingWithin 1 hi s → set_number 0 s % 2 ≡ 0
set_number_even hi s r = omega (arith, set_number_double 0 hi s r)

-- with its lowest possible member
pub set_number_odd : (lo hi : ℕ) (ks : List ℕ) → RisingWithin (suc lo) hi ks → set_number lo (lo ∷ ks) ≡ 1 + 2 * set_number (suc lo) ks
unfolding set_number
set_number_odd lo hi ks r =
    let e : 2 ^ (lo - lo) ≡ 1 = ap (λ i. 2 ^ i) (sub_self lo) ∙ pow-zero 2 in
    omega (arith, e, set_number_double lo hi ks r)

set_number_below : (base lo hi : ℕ) (s : List ℕ) → base ≤ lo → lo ≤ hi → RisingWithin lo hi s
    → set_number base s + 2 ^ (lo - base) ≤ 2 ^ (hi - base)
unfolding set_number
set_number_below base lo hi [] h k r = omega (arith, pow-le-pow_right {n = 2} (omega arith) {i = lo - base} {j = hi - base} (omega arith))
set_number_below base lo hi (x ∷ xs) h k (a, b, r) =
    let e : suc x - base ≡ suc (x - base) = omega arith in
    let f : 2 ^ (suc x - base) ≡ 2 ^ (x - base) * 2 = ap (λ i. 2 ^ i) e ∙ pow-suc 2 (x - base) in
    let g : 2 ^ (lo - base) ≤ 2 ^ (x - base) = pow-le-pow_right (omega arith) (omega arith) in
    omega (arith, set_number_below base (suc x) hi xs (omega arith) b r)

-- a set's number has no bit for a number of hi or above
pub set_number_small : (lo hi : ℕ) (s : List ℕ) → lo ≤ hi → RisingWithin lo hi s → set_number lo s < 2 ^ (hi - lo)
set_number_small lo hi s h r =
    let e : 2 ^ (lo - lo) ≡ 1 = ap (λ i. 2 ^ i) (sub_self lo) ∙ pow-zero 2 in
    omega (arith, set_number_below lo lo hi s (omega arith) h r)

-- two tests that agree from lo on pick the same
filter_agrees : (p q : ℕ → Bool) (lo n : ℕ) → ((k : ℕ) → lo ≤ k → p k ≡ q k) → filter p (counted lo n) ≡ filter q (counted lo n)
filter_agrees p q lo zero h = refl
filter_agrees p q lo (suc n) h =
    rw (h lo (omega arith), filter_agrees p q (suc lo) n (λ k i. h k (omega arith)))

pub bit_zero : (m : ℕ) → bit 0 m ≡ eqb (m % 2) 1
unfolding bit
bit_zero m = ap (λ k. eqb (k % 2) 1) (div-one m)

pub bit_suc : (i m : ℕ) → bit (suc i) m ≡ bit i (m / 2)
unfolding bit
bit_suc i m = ap (λ k. eqb (k % 2) 1) (ap (λ k. m / k) (pow-succ' 2 i) ∙ sym (div-div-eq-div-mul m 2 (2 ^ i)))

-- the members among the n numbers from lo on
unfoldable pub picked : ℕ → ℕ → ℕ → List ℕ
picked lo n m = filter (λ k. bit (k - lo) m) (counted lo n)

pub picked_rising : (lo n m : ℕ) → RisingWithin lo (lo + n) (picked lo n m)
unfolding picked
picked_rising lo n m = filter_counted_rising (λ k. bit (k - lo) m) lo n (lo + n) (omega arith)

pub picked_suc : (lo n m : ℕ)
    → picked lo (suc n) m ≡ cond (eqb (m % 2) 1) (lo ∷ picked (suc lo) n (m / 2)) (picked (suc lo) n (m / 2))
unfolding picked
picked_suc lo n m =
    rw (ap (λ i. bit i m) (sub_self lo) ∙ bit_zero m, filter_agrees (λ k. bit (k - lo) m) (λ k. bit (k - suc lo) (m / 2)) (suc lo) n agree)
  where
    agree : (k : ℕ) → suc lo ≤ k → bit (k - lo) m ≡ bit (k - suc lo) (m / 2)
    agree k h = let e : k - lo ≡ suc (k - suc lo) = omega arith in ap (λ i. bit i m) e ∙ bit_suc (k - suc lo) m

pub picked_even : (lo n m x : ℕ) → m ≡ 2 * x → picked lo (suc n) m ≡ picked (suc lo) n x
picked_even lo n m x e =
    let p : m % 2 ≡ 0 = omega arith in
    let q : m / 2 ≡ x = omega arith in
    picked_suc lo n m ∙ rw (p, q)

pub picked_odd : (lo n m x : ℕ) → m ≡ 1 + 2 * x → picked lo (suc n) m ≡ lo ∷ picked (suc lo) n x
picked_odd lo n m x e =
    let p : m % 2 ≡ 1 = omega arith in
    let q : m / 2 ≡ x = omega arith in
    picked_suc lo n m ∙ rw (p, q)

picked_lowest : (n lo hi k : ℕ) (ks : List ℕ) → lo ≡ k → RisingWithin (suc lo) hi ks → picked (suc lo) n (set_number (suc lo) ks) ≡ ks
    → picked lo (suc n) (set_number lo (k ∷ ks)) ≡ k ∷ ks
picked_lowest n lo hi k ks e r back =
    subst (λ z. picked lo (suc n) (set_number lo (z ∷ ks)) ≡ z ∷ ks) e
    (picked_odd lo n (set_number lo (lo ∷ ks)) (set_number (suc lo) ks) (set_number_odd lo hi ks r) ∙ ap (λ l. lo ∷ l) back)

picked_higher : (n lo hi : ℕ) (s : List ℕ) → RisingWithin (suc lo) hi s → picked (suc lo) n (set_number (suc lo) s) ≡ s
    → picked lo (suc n) (set_number lo s) ≡ s
picked_higher n lo hi s r back =
    picked_even lo n (set_number lo s) (set_number (suc lo) s) (set_number_double lo hi s r) ∙ back

picked_read_back : (n lo hi : ℕ) (s : List ℕ) → hi ≤ lo + n → RisingWithin lo hi s → picked lo n (set_number lo s) ≡ s
unfolding picked
picked_read_back zero lo hi [] h r = refl
picked_read_back zero lo hi (k ∷ ks) h (a, b, r) = absurd (omega arith)
picked_read_back (suc n) lo hi [] h r = picked_higher n lo hi [] tt (picked_read_back n (suc lo) hi [] (omega arith) tt)
picked_read_back (suc n) lo hi (k ∷ ks) h (a, b, r) =
    ⊎_elim
    (λ e. let q : RisingWithin (suc lo) hi ks = rising_from_below (suc lo) (suc k) hi ks (omega arith) r in
    picked_lowest n lo hi k ks e q (picked_read_back n (suc lo) hi ks (omega arith) q))
    (λ e. let q : RisingWithin (suc lo) hi (k ∷ ks) = (e, b, r) in
    picked_higher n lo hi (k ∷ ks) q (picked_read_back n (suc lo) hi (k ∷ ks) (omega arith) q))
    (eq-or-lt_of_le a)

-- a set within lo and hi is read back
pub set_read_back : (lo hi : ℕ) (s : List ℕ) → RisingWithin lo hi s → number_set lo hi (set_number lo s) ≡ s
unfolding number_set picked
set_read_back lo hi s r = picked_read_back (hi - lo) lo hi s (omega arith) r
