-- The rounds on columns close the table: after the rounds through the numbers below k, word y has bit x exactly where x leads to y through
-- these numbers, by Warshall's recursion. Word k does not change in round k, so that a round may be done in place.
-- Assumes nothing.
use Prim.Native.Nat.{ℕ, zero, suc, ◌+◌, ◌-◌, ◌≤◌, ◌<◌}
use native.Mathlib.Numerals.{add-one}
use native.Mathlib.Omega.{arith}
use mathlib.Core.Path.{◌≡◌, refl, sym, ◌∙◌, ap, ap₂}
use mathlib.Core.Logic.{⊎_elim}
use mathlib.Core.Bool.{Bool, true, false, cond, ◌&&◌, ◌||◌, and_comm}
use mathlib.Core.List.{List, ◌++◌}
use lib.Bits.{bit_or, or_zero_r}
use lib.ListN.{length, get_or, set, take, drop, length-append, length-drop, get_or-append}
use lib.Seq.{ext_get_or, length-take-le, get_or-take, get_or-drop, get_or-append-add}
use Rattle.kat.specs.Closure.{table, entry, through, closure}
use Rattle.kat.proofs.Bools.{le_or_lt}
use Rattle.kat.proofs.Closure.{entry_table}
use Rattle.claims.specs.Query.{bit}
use Rattle.memory.specs.Memory.{between, changed}
use Rattle.memory.proofs.Words.{words_ext, above, changed_length, changed_in, changed_out, changed_end, changed_more}
use Rattle.bits.proofs.Bit.{bit_none, bit-bit_or}
use Rattle.search_cover.specs.inner.Rounds.{joined_where, round, rounds}

-- a column joined where it has k, or left
pub merged_in : (w c k : ℕ) (b : Bool) → b ≡ bit k w → b ≡ true → bit_or w c ≡ bit_or w (cond (bit k w) c 0)
merged_in w c k b e h = ap (λ x. bit_or w (cond x c 0)) (sym h ∙ e)

pub merged_out : (w c k : ℕ) (b : Bool) → b ≡ bit k w → b ≡ false → w ≡ bit_or w (cond (bit k w) c 0)
merged_out w c k b e h = sym (or_zero_r w) ∙ ap (λ x. bit_or w (cond x c 0)) (sym h ∙ e)

-- one column, and then the rest
module _ (c k : ℕ) where
  abbrev pub merge : ℕ → ℕ → ℕ
  merge y w = bit_or w (cond (bit k w) c 0)

  pub where_begin : (t : List ℕ) (hi : ℕ) → changed merge t 0 hi ≡ joined_where t c k hi
  unfolding joined_where
  where_begin t hi = refl

  pub where_more : (t : List ℕ) (hi y v : ℕ) → y < hi → y < length t → v ≡ bit_or (get_or t y 0) (cond (bit k (get_or t y 0)) c 0)
      → changed merge (set t y v) (y + 1) hi ≡ changed merge t y hi
  where_more t hi y v h l e = changed_more merge t hi y v h l e

  pub where_end : (t : List ℕ) (hi y : ℕ) → hi ≤ y → changed merge t y hi ≡ t
  where_end t hi y h = changed_end merge t hi y (omega arith)

  -- the columns below hi by themselves, and the others behind them
  pub where_whole : (t : List ℕ) (hi : ℕ) → hi ≤ length t → changed merge (take hi t) 0 hi ++ drop hi t ≡ joined_where t c k hi
  unfolding joined_where
  where_whole t hi h =
      let l : length (take hi t) ≡ hi = length-take-le hi t h in
      let e : length (changed merge (take hi t) 0 hi) ≡ hi = changed_length merge (take hi t) hi 0 ∙ l in
      ext_get_or 0 (changed merge (take hi t) 0 hi ++ drop hi t) (changed merge t 0 hi)
      (omega (arith, length-append (changed merge (take hi t) 0 hi) (drop hi t), length-drop hi t, changed_length merge t hi 0))
      (λ y i. ⊎_elim (λ b. second y (y - hi) (omega arith) (omega (arith, length-append (changed merge (take hi t) 0 hi) (drop hi t), length-drop hi t)) e b)
      (λ b. first y b e) (le_or_lt hi y))
    where
      first : (y : ℕ) → y < hi → length (changed merge (take hi t) 0 hi) ≡ hi
          → get_or (changed merge (take hi t) 0 hi ++ drop hi t) y 0 ≡ get_or (changed merge t 0 hi) y 0
      first y b e =
          get_or-append (changed merge (take hi t) 0 hi) (drop hi t) 0 y (omega arith)
          ∙ changed_in merge (take hi t) hi 0 y (omega (arith, length-take-le hi t h)) (omega arith) b ∙ ap (merge y) (get_or-take hi t y 0 b)
          ∙ sym (changed_in merge t hi 0 y (omega arith) (omega arith) b)

      second : (y j : ℕ) → y ≡ hi + j → y < length t → length (changed merge (take hi t) 0 hi) ≡ hi → hi ≤ y
          → get_or (changed merge (take hi t) 0 hi ++ drop hi t) y 0 ≡ get_or (changed merge t 0 hi) y 0
      second y j z i e b =
          ap (λ n. get_or (changed merge (take hi t) 0 hi ++ drop hi t) n 0) (z ∙ ap (λ n. n + j) (sym e))
          ∙ get_or-append-add (changed merge (take hi t) 0 hi) (drop hi t) j 0 ∙ get_or-drop hi t j 0 ∙ ap (λ n. get_or t n 0) (sym z)
          ∙ sym (changed_out merge t hi 0 y i (above 0 hi y b))

-- a round through a number whose column is empty
pub round_none : (t : List ℕ) (c k hi : ℕ) → c ≡ get_or t k 0 → c ≡ 0 → t ≡ round t k hi
unfolding round joined_where changed
round_none t c k hi e z =
    words_ext t (length t) (λ y. cond (between 0 hi y) (bit_or (get_or t y 0) (cond (bit k (get_or t y 0)) (get_or t k 0) 0)) (get_or t y 0)) refl
    (λ y h. sym (at (get_or t y 0) (between 0 hi y) (bit k (get_or t y 0))))
  where
    at : (w : ℕ) (a b : Bool) → cond a (bit_or w (cond b (get_or t k 0) 0)) w ≡ w
    at w true true = ap (bit_or w) (sym e ∙ z) ∙ or_zero_r w
    at w true false = or_zero_r w
    at w false b = refl

pub round_some : (t u : List ℕ) (c k hi : ℕ) → c ≡ get_or t k 0 → u ≡ joined_where t c k hi → u ≡ round t k hi
unfolding round
round_some t u c k hi e h = h ∙ ap (λ d. joined_where t d k hi) e

-- the rounds, one after another
module _ (t : List ℕ) (hi : ℕ) where
  pub rounds_begin : t ≡ rounds t hi 0
  unfolding rounds
  rounds_begin = refl

  pub rounds_more : (k : ℕ) (u v : List ℕ) → u ≡ rounds t hi k → v ≡ round u k hi → v ≡ rounds t hi (k + 1)
  unfolding rounds
  rounds_more k u v e h = h ∙ ap (λ w. round w k hi) e ∙ ap (rounds t hi) (sym (add-one k))

  pub rounds_length : (k : ℕ) → length (rounds t hi k) ≡ length t
  unfolding rounds round joined_where
  rounds_length zero = refl
  rounds_length (suc k) = changed_length (merge (get_or (rounds t hi k) k 0) k) (rounds t hi k) hi 0 ∙ rounds_length k

  module _ (fits : hi ≤ length t) (f : ℕ → ℕ → Bool) (shows : (x y : ℕ) → x < hi → y < hi → bit x (get_or t y 0) ≡ f x y) where
    -- word y has bit x where x leads to y
    pub rounds_through : (k : ℕ) → k ≤ hi → (x y : ℕ) → x < hi → y < hi
        → bit x (get_or (rounds t hi k) y 0) ≡ entry (through hi k (table hi f)) x y
    unfolding rounds round joined_where through
    rounds_through zero h x y a b = shows x y a b ∙ sym (entry_table hi f x y a b)
    rounds_through (suc k) h x y a b =
        ap (bit x) (changed_in (merge (get_or (rounds t hi k) k 0) k) (rounds t hi k) hi 0 y (omega (arith, rounds_length k)) (omega arith) b)
        ∙ bit-bit_or x (get_or (rounds t hi k) y 0) (cond (bit k (get_or (rounds t hi k) y 0)) (get_or (rounds t hi k) k 0) 0)
        ∙ ap₂ ◌||◌ (rounds_through k (omega arith) x y a b)
        (either (bit k (get_or (rounds t hi k) y 0)) (get_or (rounds t hi k) k 0)
        ∙ ap₂ ◌&&◌ (rounds_through k (omega arith) k y (omega arith) b) (rounds_through k (omega arith) x k a (omega arith))
        ∙ and_comm (entry (through hi k (table hi f)) k y) (entry (through hi k (table hi f)) x k))
        ∙ sym (entry_table hi (λ x y. entry (through hi k (table hi f)) x y
        || (entry (through hi k (table hi f)) x k && entry (through hi k (table hi f)) k y)) x y a b)
      where
        either : (b : Bool) (w : ℕ) → bit x (cond b w 0) ≡ (b && bit x w)
        either true w = refl
        either false w = bit_none x

    pub rounds_closure : (x y : ℕ) → x < hi → y < hi → bit x (get_or (rounds t hi hi) y 0) ≡ entry (closure hi f) x y
    unfolding closure
    rounds_closure x y a b = rounds_through hi (omega arith) x y a b
