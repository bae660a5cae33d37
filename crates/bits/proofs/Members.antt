-- The members of a set as a rising list, for any width and any lowest number: who is a member, the members of a union, of an
-- intersection, of one number alone and of all below a place; how many there are; the number of the list of members is the number
-- again, so that two sets with the same members are equal and only 0 has none.
-- Assumes nothing.
use Prim.Native.Nat.{ℕ, zero, suc, ◌+◌, ◌-◌, ◌/◌, ◌%◌, ◌^◌, ◌≤◌, ◌<◌}
use native.Mathlib.Nat.{pow-suc}
use native.Mathlib.Omega.{arith}
use mathlib.Core.Path.{◌≡◌, refl, sym, ◌∙◌, ap, ap₂}
use mathlib.Core.Logic.{◌⊎◌, ⊎_elim}
use mathlib.Core.Logic.◌⊎◌.{inl, inr}
use mathlib.Core.Bool.{Bool, true, ◌&&◌, ◌||◌, true≢false, and-or_distrib_right}
use mathlib.Core.List.{List, [], ◌∷◌, map}
use lib.Bits.{bit_and, bit_or}
use lib.Count.{ones, ones_step, ones-le}
use lib.Dec.{eqb}
use lib.ListN.{length}
use lib.Pow.{pow_pos}
use borrow.Author.Tests.{eq-eqb, eqb-true}
use Rattle.kat.specs.Lists.{In, counted, upto, member, is_empty, filter, some}
use Rattle.kat.proofs.Bools.{bool_ext, le_or_lt, false_of_not}
use Rattle.kat.proofs.Sets.{member_in, in_member, filter_in, in_filter, filter_same, some_same, in_upto, upto_in}
use Rattle.claims.specs.Query.{bit}
use Rattle.claims.specs.Fields.{set_number, number_set}
use Rattle.claims.proofs.SetBytes.{RisingWithin, filter_rising, set_number_small, set_read_back, picked, picked_even, picked_odd}
use Rattle.bits.proofs.Bit.{digit, bit_above, bit-bit_or, bit-bit_and, bit_ext}
use Rattle.bits.proofs.Lists.{filter_filter, some_filter, some_either, some_map}

module _ (lo hi m k : ℕ) where
  -- a member, by its bit
  pub number_in : In k (number_set lo hi m) → (lo ≤ k) × (k < hi) × (bit (k - lo) m ≡ true)
  unfolding number_set
  number_in i =
      let (j, b) = filter_in (λ k. bit (k - lo) m) (upto lo hi) i in
      let (p, q) = upto_in k lo hi j in
      (p, q, b)

  pub in_number : lo ≤ k → k < hi → bit (k - lo) m ≡ true → In k (number_set lo hi m)
  unfolding number_set
  in_number p q b = in_filter (λ k. bit (k - lo) m) (in_upto k lo hi p q) b

  pub member_number : lo ≤ k → k < hi → member k (number_set lo hi m) ≡ bit (k - lo) m
  member_number p q =
      bool_ext (member k (number_set lo hi m)) (bit (k - lo) m)
      (λ e. (number_in (member_in k (number_set lo hi m) e)).2) (λ e. in_member k (in_number p q e))

-- in a set of numbers below w
pub member_bit : (w m k : ℕ) → m < 2 ^ w → member k (number_set 0 w m) ≡ bit k m
member_bit w m k h =
    ⊎_elim
    (λ a. false_of_not (member k (number_set 0 w m))
    (λ e. let (p, q, b) = number_in 0 w m k (member_in k (number_set 0 w m) e) in omega arith)
    ∙ sym (bit_above w k m h a))
    (λ a. member_number 0 w m k (omega arith) a ∙ ap (λ i. bit i m) (omega arith))
    (le_or_lt w k)

-- a set whose bits are given by a test
pub number_filter : (lo hi m : ℕ) (p : ℕ → Bool) → ((k : ℕ) → lo ≤ k → k < hi → bit (k - lo) m ≡ p k)
    → number_set lo hi m ≡ filter p (upto lo hi)
unfolding number_set
number_filter lo hi m p h =
    filter_same (λ k. bit (k - lo) m) p (upto lo hi) (λ k i. let (a, b) = upto_in k lo hi i in h k a b)

-- some member passes a test
pub some_number : (p : ℕ → Bool) (lo hi m : ℕ) → some p (number_set lo hi m) ≡ some (λ k. bit (k - lo) m && p k) (upto lo hi)
unfolding number_set
some_number p lo hi m = some_filter (λ k. bit (k - lo) m) p (upto lo hi)

-- the members of an intersection are the members of one set that are in the other
pub number_and : (lo hi a b : ℕ) → number_set lo hi (bit_and a b) ≡ filter (λ k. bit (k - lo) b) (number_set lo hi a)
unfolding number_set
number_and lo hi a b =
    number_filter lo hi (bit_and a b) (λ k. bit (k - lo) a && bit (k - lo) b) (λ k p q. bit-bit_and (k - lo) a b)
    ∙ sym (filter_filter (λ k. bit (k - lo) a) (λ k. bit (k - lo) b) (upto lo hi))

-- the members of a union are those of the one and those of the other
pub number_or : (lo hi a b : ℕ) → number_set lo hi (bit_or a b) ≡ filter (λ k. bit (k - lo) a || bit (k - lo) b) (upto lo hi)
number_or lo hi a b =
    number_filter lo hi (bit_or a b) (λ k. bit (k - lo) a || bit (k - lo) b) (λ k p q. bit-bit_or (k - lo) a b)

-- some member of a union passes a test where one of either does
pub some_or : (p : ℕ → Bool) (lo hi a b : ℕ)
    → some p (number_set lo hi (bit_or a b)) ≡ (some p (number_set lo hi a) || some p (number_set lo hi b))
some_or p lo hi a b =
    some_number p lo hi (bit_or a b)
    ∙ some_same (λ k. bit (k - lo) (bit_or a b) && p k) (λ k. (bit (k - lo) a && p k) || (bit (k - lo) b && p k)) (upto lo hi)
    (λ k i. ap (λ x. x && p k) (bit-bit_or (k - lo) a b) ∙ and-or_distrib_right (bit (k - lo) a) (bit (k - lo) b) (p k))
    ∙ some_either (λ k. bit (k - lo) a && p k) (λ k. bit (k - lo) b && p k) (upto lo hi)
    ∙ sym (ap₂ ◌||◌ (some_number p lo hi a) (some_number p lo hi b))

-- the empty set has no member
picked_none : (lo n : ℕ) → picked lo n 0 ≡ []
unfolding picked
picked_none lo zero = refl
picked_none lo (suc n) = picked_even lo n 0 0 refl ∙ picked_none (suc lo) n

pub number_none : (lo hi : ℕ) → number_set lo hi 0 ≡ []
unfolding number_set picked
number_none lo hi = picked_none lo (hi - lo)

-- one number alone
picked_pow : (lo n k : ℕ) → k < n → picked lo n (2 ^ k) ≡ (lo + k) ∷ []
picked_pow lo zero k h = absurd (omega arith)
picked_pow lo (suc n) zero h =
    let e : lo ≡ lo + 0 = omega arith in
    picked_odd lo n 1 0 refl ∙ ap (λ l. lo ∷ l) (picked_none (suc lo) n) ∙ ap (λ k. k ∷ []) e
picked_pow lo (suc n) (suc k) h =
    let e : suc lo + k ≡ lo + suc k = omega arith in
    picked_even lo n (2 ^ suc k) (2 ^ k) (omega (arith, pow-suc 2 k)) ∙ picked_pow (suc lo) n k (omega arith) ∙ ap (λ k. k ∷ []) e

pub number_pow : (lo hi k : ℕ) → lo + k < hi → number_set lo hi (2 ^ k) ≡ (lo + k) ∷ []
unfolding number_set picked
number_pow lo hi k h = picked_pow lo (hi - lo) k (omega arith)

-- all below a place
picked_ones : (lo w n : ℕ) → n ≤ w → picked lo w (2 ^ n - 1) ≡ counted lo n
picked_ones lo w zero h = picked_none lo w
picked_ones lo zero (suc n) h = absurd (omega arith)
picked_ones lo (suc w) (suc n) h =
    picked_odd lo w (2 ^ suc n - 1) (2 ^ n - 1) (omega (arith, pow-suc 2 n, pow_pos n))
    ∙ ap (λ l. lo ∷ l) (picked_ones (suc lo) w n (omega arith))

pub number_ones : (lo hi n : ℕ) → lo + n ≤ hi → number_set lo hi (2 ^ n - 1) ≡ upto lo (lo + n)
unfolding number_set picked
number_ones lo hi n h =
    let e : n ≡ lo + n - lo = omega arith in
    picked_ones lo (hi - lo) n (omega arith) ∙ ap (counted lo) e

-- as many as there are ones
picked_length : (lo n m : ℕ) → m < 2 ^ n → length (picked lo n m) ≡ ones m
unfolding picked
picked_length lo zero m h = omega (arith, ones-le 0 m h)
picked_length lo (suc n) m h = go (digit m) (picked_length (suc lo) n (m / 2) (omega (arith, pow-suc 2 n)))
  where
    go : (m % 2 ≡ 0) ⊎ (m % 2 ≡ 1) → length (picked (suc lo) n (m / 2)) ≡ ones (m / 2) → length (picked lo (suc n) m) ≡ ones m
    go (inl d) e = ap length (picked_even lo n m (m / 2) (omega arith)) ∙ omega (arith, ones_step m)
    go (inr d) e = ap length (picked_odd lo n m (m / 2) (omega arith)) ∙ omega (arith, ones_step m)

pub number_length : (lo hi m : ℕ) → m < 2 ^ (hi - lo) → length (number_set lo hi m) ≡ ones m
unfolding number_set picked
number_length lo hi m h = picked_length lo (hi - lo) m h

-- numbers counted from a higher one
picked_shift : (d lo n m : ℕ) → picked (d + lo) n m ≡ map (λ k. d + k) (picked lo n m)
unfolding picked
picked_shift d lo zero m = refl
picked_shift d lo (suc n) m = go (digit m) (ap (λ i. picked i n (m / 2)) e ∙ picked_shift d (suc lo) n (m / 2))
  where
    e : suc (d + lo) ≡ d + suc lo
    e = omega arith

    go : (m % 2 ≡ 0) ⊎ (m % 2 ≡ 1) → picked (suc (d + lo)) n (m / 2) ≡ map (λ k. d + k) (picked (suc lo) n (m / 2))
        → picked (d + lo) (suc n) m ≡ map (λ k. d + k) (picked lo (suc n) m)
    go (inl z) h =
        picked_even (d + lo) n m (m / 2) (omega arith) ∙ h
        ∙ sym (ap (map (λ k. d + k)) (picked_even lo n m (m / 2) (omega arith)))
    go (inr z) h =
        picked_odd (d + lo) n m (m / 2) (omega arith) ∙ ap (λ l. (d + lo) ∷ l) h
        ∙ sym (ap (map (λ k. d + k)) (picked_odd lo n m (m / 2) (omega arith)))

pub number_shift : (d lo hi m : ℕ) → number_set (d + lo) (d + hi) m ≡ map (λ k. d + k) (number_set lo hi m)
unfolding number_set picked
number_shift d lo hi m =
    let e : d + hi - (d + lo) ≡ hi - lo = omega arith in
    ap (λ n. picked (d + lo) n m) e ∙ picked_shift d lo (hi - lo) m

pub some_shift : (p : ℕ → Bool) (d lo hi m : ℕ)
    → some p (number_set (d + lo) (d + hi) m) ≡ some (λ k. p (d + k)) (number_set lo hi m)
some_shift p d lo hi m = ap (some p) (number_shift d lo hi m) ∙ some_map (λ k. d + k) p (number_set lo hi m)

-- a set of numbers below hi has no more members below a higher bound
picked_wide : (lo n n' m : ℕ) → n ≤ n' → m < 2 ^ n → picked lo n' m ≡ picked lo n m
unfolding picked
picked_wide lo zero n' m h k = let e : m ≡ 0 = omega arith in ap (picked lo n') e ∙ picked_none lo n'
picked_wide lo (suc n) zero m h k = absurd (omega arith)
picked_wide lo (suc n) (suc n') m h k =
    go (digit m) (picked_wide (suc lo) n n' (m / 2) (omega arith) (omega (arith, pow-suc 2 n)))
  where
    go : (m % 2 ≡ 0) ⊎ (m % 2 ≡ 1) → picked (suc lo) n' (m / 2) ≡ picked (suc lo) n (m / 2)
        → picked lo (suc n') m ≡ picked lo (suc n) m
    go (inl z) e =
        picked_even lo n' m (m / 2) (omega arith) ∙ e ∙ sym (picked_even lo n m (m / 2) (omega arith))
    go (inr z) e =
        picked_odd lo n' m (m / 2) (omega arith) ∙ ap (λ l. lo ∷ l) e ∙ sym (picked_odd lo n m (m / 2) (omega arith))

pub number_wide : (lo hi hi' m : ℕ) → hi ≤ hi' → m < 2 ^ (hi - lo) → number_set lo hi' m ≡ number_set lo hi m
unfolding number_set picked
number_wide lo hi hi' m h k = picked_wide lo (hi - lo) (hi' - lo) m (omega arith) k

-- the bits of the number that a set is written as
pub bit_number : (lo hi : ℕ) (s : List ℕ) → RisingWithin lo hi s → (k : ℕ)
    → lo ≤ k → k < hi → bit (k - lo) (set_number lo s) ≡ member k s
bit_number lo hi s r k p q = sym (member_number lo hi (set_number lo s) k p q) ∙ ap (member k) (set_read_back lo hi s r)

-- sets with the same members are equal
pub numbers_equal : (lo hi a b : ℕ) → a < 2 ^ (hi - lo) → b < 2 ^ (hi - lo) → number_set lo hi a ≡ number_set lo hi b → a ≡ b
numbers_equal lo hi a b p q e =
    bit_ext (hi - lo) a b p q
    (λ i l. sym (at a i l) ∙ ap (member (lo + i)) e ∙ at b i l)
  where
    at : (m i : ℕ) → i < hi - lo → member (lo + i) (number_set lo hi m) ≡ bit i m
    at m i l =
        let z : lo + i - lo ≡ i = omega arith in
        member_number lo hi m (lo + i) (omega arith) (omega arith) ∙ ap (λ k. bit k m) z

-- a number is read back from its members
pub number_read_back : (lo hi m : ℕ) → lo ≤ hi → m < 2 ^ (hi - lo) → set_number lo (number_set lo hi m) ≡ m
unfolding number_set
number_read_back lo hi m h k =
    let r = filter_rising (λ k. bit (k - lo) m) lo hi h in
    numbers_equal lo hi (set_number lo (number_set lo hi m)) m (set_number_small lo hi (number_set lo hi m) h r) k
    (set_read_back lo hi (number_set lo hi m) r)

-- only 0 has no member
pub number_empty : (lo hi m : ℕ) → m < 2 ^ (hi - lo) → number_set lo hi m ≡ [] → m ≡ 0
number_empty lo hi m h e = numbers_equal lo hi m 0 h (pow_pos (hi - lo)) (e ∙ sym (number_none lo hi))

pub empty_test : (lo hi m : ℕ) → m < 2 ^ (hi - lo) → is_empty (number_set lo hi m) ≡ eqb m 0
empty_test lo hi m h =
    bool_ext (is_empty (number_set lo hi m)) (eqb m 0)
    (λ e. eq-eqb m 0 (number_empty lo hi m h (nothing (number_set lo hi m) e)))
    (λ e. ap (λ k. is_empty (number_set lo hi k)) (eqb-true m 0 e) ∙ ap is_empty (number_none lo hi))
  where
    nothing : (l : List ℕ) → is_empty l ≡ true → l ≡ []
    nothing [] e = refl
    nothing (x ∷ xs) e = absurd (true≢false (sym e))
