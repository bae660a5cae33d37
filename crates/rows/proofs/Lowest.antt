-- The lowest pair that one table has and another lacks, and the lowest event that a table relates to itself: they are those of what the
-- tables show, by from, then to; and there is one exactly where some pair, or some event, passes the test.
-- Assumes nothing.
use Prim.Native.Nat.{ℕ, ◌+◌, ◌*◌, ◌-◌, ◌/◌, ◌%◌, ◌^◌, ◌≤◌, ◌<◌}
use native.Mathlib.Nat.{mod-lt}
use native.Mathlib.Omega.{arith}
use mathlib.Core.Path.{◌≡◌, refl, sym, ◌∙◌, ap, ap₂, subst}
use mathlib.Core.Logic.{⊎_elim}
use mathlib.Core.Bool.{Bool, true, false, cond, not, ◌&&◌, ◌||◌}
use mathlib.Core.List.{List, [], ◌∷◌}
use lib.Dec.{ltb}
use lib.ListN.{get_or}
use lib.Pow.{pow_pos}
use borrow.Author.Tests.{lt-ltb}
use Rattle.kat.specs.Lists.{upto, filter, some, is_empty, In, here, there}
use Rattle.kat.proofs.Bools.{and_left, false_of_not, lt_or_le}
use Rattle.kat.proofs.Sets.{filter_in, upto_in}
use Rattle.claims.specs.Query.{bit}
use Rattle.claims.specs.Judgement.{Outcome, holds_in, breaks_at, breaks_from, lowest_event, lowest_to, or_else, lowest_pair as lowest_pair_of}
use Rattle.bits.specs.Sets.{members}
use Rattle.bits.proofs.Bit.{bit_above, bit-bit_and, bits_equal}
use Rattle.bits.proofs.Shifted.{bit_cut}
use Rattle.bits.proofs.Lists.{some_filled}
use Rattle.bits.proofs.Members.{number_filter, number_wide}
use Rattle.side_atoms.proofs.Atoms.{bit_not}
use Rattle.rows.specs.Rows.{lacking, pair_from, NOWHERE, lowest_from, lowest_pair, lowest_of, lowest_loop}
use Rattle.rows.specs.Outcomes.{pair_outcome, event_outcome}
use Rattle.rows.proofs.Shown.{Shows}

-- a number with no bit from w on
small_of_bits : (w m : ℕ) → ((i : ℕ) → w ≤ i → bit i m ≡ false) → m < 2 ^ w
small_of_bits w m h =
    let l : m % 2 ^ w < 2 ^ w = mod-lt m (pow_pos w) in
    let e : m ≡ m % 2 ^ w = bits_equal m (m % 2 ^ w) (λ i. ⊎_elim (λ a. sym (bit_cut w i m a)) (λ a. h i a ∙ sym (bit_above w i (m % 2 ^ w) l a)) (lt_or_le i w)) in
    subst (λ k. k < 2 ^ w) (sym e) l

-- the first member of a list as an outcome
abbrev first_of : ℕ → List ℕ → Outcome
first_of x [] = holds_in
first_of x (y ∷ ys) = breaks_from x y

lowest_first : (h : ℕ → ℕ → Bool) (x : ℕ) (ys : List ℕ) → lowest_to h x ys ≡ first_of x (filter (h x) ys)
unfolding lowest_to
lowest_first h x [] = refl
lowest_first h x (y ∷ ys) = go (h x y) (lowest_first h x ys)
  where
    go : (b : Bool) → lowest_to h x ys ≡ first_of x (filter (h x) ys)
        → ◌≡◌ {A = Outcome} (elim b [ true ↦ breaks_from x y | false ↦ lowest_to h x ys ]) (first_of x (cond b (y ∷ filter (h x) ys) (filter (h x) ys)))
    go true e = refl
    go false e = e

module _ (n : ℕ) (fits : n ≤ 64) (t u : List ℕ) (f g : ℕ → ℕ → Bool) (s : Shows n t f) (r : Shows n u g) where
  -- t has the pair and u lacks it
  abbrev apart : ℕ → ℕ → Bool
  apart x y = f x y && not (g x y)

  row_small : (v : List ℕ) (h : ℕ → ℕ → Bool) → Shows n v h → (x : ℕ) → get_or v x 0 < 2 ^ 64
  row_small v h q x =
      small_of_bits 64 (get_or v x 0) (λ i l. false_of_not (bit i (get_or v x 0)) (λ e. let (a, b) = q.outside x i e in omega arith))

  lacking_bit : (x y : ℕ) → y < 64 → bit y (lacking t u x) ≡ (bit y (get_or t x 0) && not (bit y (get_or u x 0)))
  unfolding lacking
  lacking_bit x y h =
      bit-bit_and y (get_or t x 0) (2 ^ 64 - 1 - get_or u x 0) ∙ ap (λ b. bit y (get_or t x 0) && b) (bit_not 64 y (get_or u x 0) (row_small u g r x) h)

  lacking_small : (x : ℕ) → lacking t u x < 2 ^ n
  unfolding lacking
  lacking_small x =
      small_of_bits n (lacking t u x) (λ i l. false_of_not (bit i (lacking t u x)) (λ e.
      let (a, b) = s.outside x i (and_left (bit i (get_or t x 0)) (bit i (2 ^ 64 - 1 - get_or u x 0)) (sym (bit-bit_and i (get_or t x 0) (2 ^ 64 - 1 - get_or u x 0)) ∙ e)) in
      omega arith))

  -- the members that t has and u lacks
  lacking_members : (x : ℕ) → x < n → members (lacking t u x) ≡ filter (apart x) (upto 0 n)
  lacking_members x h =
      number_wide 0 n 64 (lacking t u x) fits (subst (λ k. lacking t u x < 2 ^ k) (omega arith) (lacking_small x))
      ∙ number_filter 0 n (lacking t u x) (apart x) (λ y a b.
      let z : y - 0 ≡ y = omega arith in
      ap (λ k. bit k (lacking t u x)) z ∙ lacking_bit x y (omega arith)
      ∙ ap₂ (λ a b. a && not b) (s.inside x y h b) (r.inside x y h b))

  pair_at : (x y : ℕ) → x < 64 → y < 64 → pair_outcome (64 * x + y) ≡ breaks_from x y
  unfolding pair_outcome
  pair_at x y h k =
      let a : (64 * x + y) / 64 ≡ x = omega arith in
      let b : (64 * x + y) % 64 ≡ y = omega arith in
      ap (λ c. cond c (breaks_from ((64 * x + y) / 64) ((64 * x + y) % 64)) holds_in) (lt-ltb (64 * x + y) 4096 (omega arith))
      ∙ ap₂ breaks_from a b

  pair_first : (x : ℕ) → x < 64 → (ms : List ℕ) → ((y : ℕ) → In y ms → y < 64) → (d : ℕ) → pair_outcome (pair_from x ms d) ≡ or_else (first_of x ms) (pair_outcome d)
  unfolding pair_from
  pair_first x h [] k d = refl
  pair_first x h (y ∷ ys) k d = pair_at x y h (k y (here refl))

  pair_there : (x : ℕ) → x < 64 → (ms : List ℕ) → ((y : ℕ) → In y ms → y < 64) → (d : ℕ) → ltb (pair_from x ms d) 4096 ≡ (not (is_empty ms) || ltb d 4096)
  unfolding pair_from
  pair_there x h [] k d = refl
  pair_there x h (y ∷ ys) k d = let l : y < 64 = k y (here refl) in lt-ltb (64 * x + y) 4096 (omega arith)

  -- from some of the events
  lowest_from_lem : (xs : List ℕ) → ((x : ℕ) → In x xs → x < n) → pair_outcome (lowest_from t u xs) ≡ lowest_pair_of apart (upto 0 n) xs
  unfolding lowest_from lowest_pair_of pair_outcome
  lowest_from_lem [] k = refl
  lowest_from_lem (x ∷ xs) k =
      let h : x < n = k x (here refl) in
      ap (λ ms. pair_outcome (pair_from x ms (lowest_from t u xs))) (lacking_members x h)
      ∙ pair_first x (omega arith) (filter (apart x) (upto 0 n)) (λ y i. let (a, b) = upto_in y 0 n (filter_in (apart x) (upto 0 n) i).0 in omega arith) (lowest_from t u xs)
      ∙ ap₂ or_else (sym (lowest_first apart x (upto 0 n))) (lowest_from_lem xs (λ y i. k y (there i)))

  some_from : (xs : List ℕ) → ((x : ℕ) → In x xs → x < n) → ltb (lowest_from t u xs) 4096 ≡ some (λ x. some (apart x) (upto 0 n)) xs
  unfolding lowest_from
  some_from [] k = refl
  some_from (x ∷ xs) k =
      let h : x < n = k x (here refl) in
      ap (λ ms. ltb (pair_from x ms (lowest_from t u xs)) 4096) (lacking_members x h)
      ∙ pair_there x (omega arith) (filter (apart x) (upto 0 n)) (λ y i. let (a, b) = upto_in y 0 n (filter_in (apart x) (upto 0 n) i).0 in omega arith) (lowest_from t u xs)
      ∙ ap₂ ◌||◌ (sym (some_filled (apart x) (upto 0 n))) (some_from xs (λ y i. k y (there i)))

  -- the lowest pair that t has and u lacks
  pub lowest_pair_lem : pair_outcome (lowest_pair t u n) ≡ lowest_pair_of apart (upto 0 n) (upto 0 n)
  unfolding lowest_pair
  lowest_pair_lem = lowest_from_lem (upto 0 n) (λ x i. (upto_in x 0 n i).1)

  -- there is one
  pub some_pair_apart : ltb (lowest_pair t u n) NOWHERE ≡ some (λ x. some (apart x) (upto 0 n)) (upto 0 n)
  unfolding lowest_pair
  some_pair_apart = some_from (upto 0 n) (λ x i. (upto_in x 0 n i).1)

module _ (n : ℕ) (fits : n ≤ 64) (t : List ℕ) (f : ℕ → ℕ → Bool) (s : Shows n t f) where
  lowest_of_lem : (xs : List ℕ) → ((x : ℕ) → In x xs → x < n) → event_outcome (lowest_of t xs) ≡ lowest_event (λ x. f x x) xs
  unfolding lowest_of lowest_event event_outcome
  lowest_of_lem [] k = refl
  lowest_of_lem (x ∷ xs) k =
      let h : x < n = k x (here refl) in
      ap (λ b. event_outcome (cond b x (lowest_of t xs))) (s.inside x x h h) ∙ go (f x x) h (lowest_of_lem xs (λ y i. k y (there i)))
    where
      go : (b : Bool) → x < n → event_outcome (lowest_of t xs) ≡ lowest_event (λ x. f x x) xs
          → event_outcome (cond b x (lowest_of t xs)) ≡ elim b as (λ z. Outcome) [ true ↦ breaks_at x | false ↦ lowest_event (λ x. f x x) xs ]
      go true h e = ap (λ c. cond c (breaks_at x) holds_in) (lt-ltb x 4096 (omega arith))
      go false h e = e

  some_of : (xs : List ℕ) → ((x : ℕ) → In x xs → x < n) → ltb (lowest_of t xs) 4096 ≡ some (λ x. f x x) xs
  unfolding lowest_of
  some_of [] k = refl
  some_of (x ∷ xs) k =
      let h : x < n = k x (here refl) in
      ap (λ b. ltb (cond b x (lowest_of t xs)) 4096) (s.inside x x h h) ∙ go (f x x) h (some_of xs (λ y i. k y (there i)))
    where
      go : (b : Bool) → x < n → ltb (lowest_of t xs) 4096 ≡ some (λ x. f x x) xs
          → ltb (cond b x (lowest_of t xs)) 4096 ≡ (b || some (λ x. f x x) xs)
      go true h e = lt-ltb x 4096 (omega arith)
      go false h e = e

  -- the lowest event related to itself
  pub lowest_loop_lem : event_outcome (lowest_loop t n) ≡ lowest_event (λ x. f x x) (upto 0 n)
  unfolding lowest_loop
  lowest_loop_lem = lowest_of_lem (upto 0 n) (λ x i. (upto_in x 0 n i).1)

  -- there is one
  pub some_loop : ltb (lowest_loop t n) NOWHERE ≡ some (λ x. f x x) (upto 0 n)
  unfolding lowest_loop
  some_loop = some_of (upto 0 n) (λ x i. (upto_in x 0 n i).1)
