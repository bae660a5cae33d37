-- The searches for the lowest pair and for the lowest event in a loop, event by event: what is found among the events from x on is found among
-- all of them, since no event passed had one. A row past the table is empty, so nothing is found there.
-- Assumes nothing.
use Prim.Native.Nat.{ℕ, zero, suc, ◌+◌, ◌*◌, ◌-◌, ◌^◌, ◌≤◌, ◌<◌, min}
use native.Mathlib.Omega.{arith}
use mathlib.Core.Path.{◌≡◌, refl, sym, ◌∙◌, ap}
use mathlib.Core.Logic.{⊎_elim}
use mathlib.Core.Bool.{Bool, true, false, cond}
use mathlib.Core.List.{List, ◌∷◌}
use lib.Bits.{bit_and, and_zero_l}
use lib.Count.{count_trailing_zeros}
use lib.ListN.{length, get_or, get_or-eq_default}
use Rattle.kat.specs.Lists.{counted, upto}
use Rattle.kat.proofs.Bools.{lt_or_le}
use Rattle.claims.specs.Query.{bit}
use Rattle.bits.specs.Sets.{members}
use Rattle.bits.proofs.Bit.{bit_none}
use Rattle.bits.proofs.Lowest.{Lowest}
use Rattle.bits.proofs.Members.{number_none}
use Rattle.rows.specs.Rows.{NOWHERE, lacking, pair_from, lowest_from, lowest_pair, lowest_of, lowest_loop}

-- a range begins with its lowest number
upto_more : (i e : ℕ) → i < e → upto i e ≡ i ∷ upto (i + 1) e
upto_more i e h =
    let z : e - i ≡ suc (e - (i + 1)) = omega arith in
    let y : suc i ≡ i + 1 = omega arith in
    ap (counted i) z ∙ ap (λ j. i ∷ counted j (e - (i + 1))) y

module _ (t u : List ℕ) where
  pub pair_begin : (n : ℕ) → lowest_from t u (upto 0 n) ≡ lowest_pair t u n
  unfolding lowest_pair
  pair_begin n = refl

  -- the row of x has no pair that u lacks, or its lowest one is the pair sought
  empty_row : (x : ℕ) (xs : List ℕ) → lacking t u x ≡ 0 → lowest_from t u (x ∷ xs) ≡ lowest_from t u xs
  unfolding lowest_from pair_from
  empty_row x xs e = ap (λ w. pair_from x (members w) (lowest_from t u xs)) e ∙ ap (λ ys. pair_from x ys (lowest_from t u xs)) (number_none 0 64)

  pub pair_more : (x n w : ℕ) → x < n → w ≡ bit_and (get_or t x 0) (2 ^ 64 - 1 - get_or u x 0) → w ≡ 0
      → lowest_from t u (upto (x + 1) n) ≡ lowest_from t u (upto x n)
  unfolding lacking
  pair_more x n w h e z = sym (ap (lowest_from t u) (upto_more x n h) ∙ empty_row x (upto (x + 1) n) (sym e ∙ z))

  pub pair_found : (x n w : ℕ) → x < n → w ≡ bit_and (get_or t x 0) (2 ^ 64 - 1 - get_or u x 0) → Lowest 64 w
      → 64 * x + count_trailing_zeros 64 w ≡ lowest_from t u (upto x n)
  unfolding lacking lowest_from pair_from
  pair_found x n w h e l =
      let rest = lowest_from t u (upto (x + 1) n) in
      sym (ap (lowest_from t u) (upto_more x n h) ∙ ap (λ k. pair_from x (members k) rest) (sym e) ∙ ap (λ ys. pair_from x ys rest) l.members)

  -- past the table
  past : (k x : ℕ) → length t ≤ x → lowest_from t u (counted x k) ≡ NOWHERE
  unfolding lowest_from lacking
  past zero x h = refl
  past (suc k) x h =
      empty_row x (counted (suc x) k)
      (ap (λ w. bit_and w (2 ^ 64 - 1 - get_or u x 0)) (get_or-eq_default t 0 h) ∙ and_zero_l (2 ^ 64 - 1 - get_or u x 0))
      ∙ past k (suc x) (omega arith)

  pub pair_end : (x n : ℕ) → min n (length t) ≤ x → NOWHERE ≡ lowest_from t u (upto x n)
  unfolding lowest_from
  pair_end x n h =
      ⊎_elim (λ l. sym (past (n - x) x (omega arith)))
      (λ l. let z : n - x ≡ 0 = omega arith in sym (ap (λ k. lowest_from t u (counted x k)) z)) (lt_or_le x n)

module _ (t : List ℕ) where
  pub loop_begin : (n : ℕ) → lowest_of t (upto 0 n) ≡ lowest_loop t n
  unfolding lowest_loop
  loop_begin n = refl

  -- x is related to itself, or not
  at_event : (x : ℕ) (xs : List ℕ) (b : Bool) → b ≡ bit x (get_or t x 0) → lowest_of t (x ∷ xs) ≡ cond b x (lowest_of t xs)
  unfolding lowest_of
  at_event x xs b e = sym (ap (λ c. cond c x (lowest_of t xs)) e)

  pub loop_more : (x n : ℕ) (b : Bool) → x < n → b ≡ bit x (get_or t x 0) → b ≡ false → lowest_of t (upto (x + 1) n) ≡ lowest_of t (upto x n)
  loop_more x n b h e z =
      sym (ap (lowest_of t) (upto_more x n h) ∙ at_event x (upto (x + 1) n) false (sym z ∙ e))

  pub loop_found : (x n : ℕ) (b : Bool) → x < n → b ≡ bit x (get_or t x 0) → b ≡ true → x ≡ lowest_of t (upto x n)
  loop_found x n b h e z =
      sym (ap (lowest_of t) (upto_more x n h) ∙ at_event x (upto (x + 1) n) true (sym z ∙ e))

  -- past the table
  none_past : (k x : ℕ) → length t ≤ x → lowest_of t (counted x k) ≡ NOWHERE
  unfolding lowest_of
  none_past zero x h = refl
  none_past (suc k) x h =
      at_event x (counted (suc x) k) false (sym (ap (bit x) (get_or-eq_default t 0 h) ∙ bit_none x))
      ∙ none_past k (suc x) (omega arith)

  pub loop_end : (x n : ℕ) → min n (length t) ≤ x → NOWHERE ≡ lowest_of t (upto x n)
  unfolding lowest_of
  loop_end x n h =
      ⊎_elim (λ l. sym (none_past (n - x) x (omega arith)))
      (λ l. let z : n - x ≡ 0 = omega arith in sym (ap (λ k. lowest_of t (counted x k)) z)) (lt_or_le x n)
