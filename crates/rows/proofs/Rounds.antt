-- Rounds close a table: after the rounds through the numbers below k, row x has bit y exactly where x leads to y through these numbers, by
-- Warshall's recursion. Row k does not change in round k, so that a round may be done in place. Before that, the turns of the loops.
-- Assumes nothing.
use Prim.Native.Nat.{ℕ, zero, suc, ◌+◌, ◌^◌, ◌≤◌, ◌<◌, min}
use native.Mathlib.Numerals.{add-one}
use native.Mathlib.Omega.{arith}
use mathlib.Core.Path.{◌≡◌, refl, sym, ◌∙◌, ap, ap₂, subst}
use mathlib.Core.Bool.{Bool, true, false, cond, ◌&&◌, ◌||◌}
use mathlib.Core.List.{List}
use lib.Bits.{bit_or, or_zero_r, or_lt}
use lib.ListN.{length, get_or, set}
use lib.Pow.{pow_pos}
use Rattle.kat.specs.Closure.{table, entry, through, closure}
use Rattle.kat.proofs.Closure.{entry_table}
use Rattle.claims.specs.Query.{bit}
use Rattle.memory.specs.Memory.{between, changed}
use Rattle.memory.proofs.Words.{changed_length, changed_in, changed_at, changed_end, changed_more}
use Rattle.bits.proofs.Bit.{bit_none, bit-bit_or}
use Rattle.rows.specs.Rows.{joined_where, round, rounds}

-- a row joined where it has k, or left
pub merged_in : (w c k : ℕ) (b : Bool) → b ≡ bit k w → b ≡ true → bit_or w c ≡ bit_or w (cond (bit k w) c 0)
merged_in w c k b e h = ap (λ x. bit_or w (cond x c 0)) (sym h ∙ e)

pub merged_out : (w c k : ℕ) (b : Bool) → b ≡ bit k w → b ≡ false → w ≡ bit_or w (cond (bit k w) c 0)
merged_out w c k b e h = sym (or_zero_r w) ∙ ap (λ x. bit_or w (cond x c 0)) (sym h ∙ e)

-- one row, and then the rest
module _ (c k : ℕ) where
  abbrev pub merge : ℕ → ℕ → ℕ
  merge x w = bit_or w (cond (bit k w) c 0)

  pub where_begin : (t : List ℕ) (n : ℕ) → changed merge t 0 n ≡ joined_where t c k n
  unfolding joined_where
  where_begin t n = refl

  pub where_more : (t : List ℕ) (n x v : ℕ) → x < n → x < length t → v ≡ bit_or (get_or t x 0) (cond (bit k (get_or t x 0)) c 0)
      → changed merge (set t x v) (x + 1) n ≡ changed merge t x n
  where_more t n x v h l e = changed_more merge t n x v h l e

  pub where_end : (t : List ℕ) (n x : ℕ) → min n (length t) ≤ x → changed merge t x n ≡ t
  where_end t n x h = changed_end merge t n x h

-- the rounds, one after another
module _ (t : List ℕ) (n : ℕ) where
  pub rounds_begin : t ≡ rounds t n 0
  unfolding rounds
  rounds_begin = refl

  pub rounds_more : (k c : ℕ) (u v : List ℕ) → u ≡ rounds t n k → c ≡ get_or u k 0 → v ≡ joined_where u c k n → v ≡ rounds t n (k + 1)
  unfolding rounds round
  rounds_more k c u v e f h =
      h ∙ ap (λ d. joined_where u d k n) f ∙ ap (λ w. joined_where w (get_or w k 0) k n) e ∙ ap (rounds t n) (sym (add-one k))

  pub rounds_length : (k : ℕ) → length (rounds t n k) ≡ length t
  unfolding rounds round joined_where
  rounds_length zero = refl
  rounds_length (suc k) = changed_length (merge (get_or (rounds t n k) k 0) k) (rounds t n k) n 0 ∙ rounds_length k

  module _ (fits : n ≤ length t) (f : ℕ → ℕ → Bool) (shows : (x y : ℕ) → x < n → y < n → bit y (get_or t x 0) ≡ f x y) where
    -- row x has bit y where x leads to y
    rounds_through : (k : ℕ) → k ≤ n → (x y : ℕ) → x < n → y < n
        → bit y (get_or (rounds t n k) x 0) ≡ entry (through n k (table n f)) x y
    unfolding rounds round joined_where through
    rounds_through zero h x y a b = shows x y a b ∙ sym (entry_table n f x y a b)
    rounds_through (suc k) h x y a b =
        ap (bit y) (changed_in (merge (get_or (rounds t n k) k 0) k) (rounds t n k) n 0 x (omega (arith, rounds_length k)) (omega arith) a)
        ∙ bit-bit_or y (get_or (rounds t n k) x 0) (cond (bit k (get_or (rounds t n k) x 0)) (get_or (rounds t n k) k 0) 0)
        ∙ ap₂ ◌||◌ (rounds_through k (omega arith) x y a b)
        (either (bit k (get_or (rounds t n k) x 0)) (get_or (rounds t n k) k 0)
        ∙ ap₂ ◌&&◌ (rounds_through k (omega arith) x k a (omega arith)) (rounds_through k (omega arith) k y (omega arith) b))
        ∙ sym (entry_table n (λ x y. entry (through n k (table n f)) x y
        || (entry (through n k (table n f)) x k && entry (through n k (table n f)) k y)) x y a b)
      where
        either : (b : Bool) (w : ℕ) → bit y (cond b w 0) ≡ (b && bit y w)
        either true w = refl
        either false w = bit_none y

    pub rounds_closure : (x y : ℕ) → x < n → y < n → bit y (get_or (rounds t n n) x 0) ≡ entry (closure n f) x y
    unfolding closure
    rounds_closure x y a b = rounds_through n (omega arith) x y a b

  -- no row gets a bit from w on that none had
  module _ (w : ℕ) (below : (x : ℕ) → x < length t → get_or t x 0 < 2 ^ w) where
    joined_below : (b : Bool) (m c : ℕ) → m < 2 ^ w → c < 2 ^ w → bit_or m (cond b c 0) < 2 ^ w
    joined_below true m c h k = or_lt w m c h k
    joined_below false m c h k = or_lt w m 0 h (pow_pos w)

    kept_below : (b d : Bool) (m c : ℕ) → m < 2 ^ w → c < 2 ^ w → cond b (bit_or m (cond d c 0)) m < 2 ^ w
    kept_below true d m c h k = joined_below d m c h k
    kept_below false d m c h k = h

    pub rounds_below : n ≤ length t → (k : ℕ) → k ≤ n → (x : ℕ) → x < length t → get_or (rounds t n k) x 0 < 2 ^ w
    unfolding rounds round joined_where
    rounds_below fits zero h x l = below x l
    rounds_below fits (suc k) h x l =
        let u = rounds t n k in
        subst (λ m. m < 2 ^ w) (sym (changed_at (merge (get_or u k 0) k) u n 0 x (omega (arith, rounds_length k))))
        (kept_below (between 0 n x) (bit k (get_or u x 0)) (get_or u x 0) (get_or u k 0)
        (rounds_below fits k (omega arith) x l) (rounds_below fits k (omega arith) k (omega arith)))
