-- Words joined into columns: one turn of the walk of a set, one column sent on, and what stands in each place in the end. Each law compares
-- two memories place by place.
-- Assumes nothing.
use Prim.Native.Nat.{ℕ, ◌+◌, ◌-◌, ◌≤◌, ◌<◌}
use native.Mathlib.Omega.{arith}
use mathlib.Core.Path.{◌≡◌, refl, sym, ◌∙◌, ap, ap₂}
use mathlib.Core.Logic.{⊎_elim}
use mathlib.Core.Bool.{Bool, true, false, cond, not, ◌&&◌, and-true, and-false}
use mathlib.Core.List.{List, [], ◌∷◌, ◌++◌}
use lib.Bits.{bit_and, bit_or, or_zero_r}
use lib.Count.{count_trailing_zeros}
use lib.ListN.{length, get_or, set, take, drop, length-set, length-take, length-drop, length-append, length-replicate, get_or-replicate, get_or-append}
use lib.Seq.{ext_get_or, drop_at, drop-set-lt, get_or-take, get_or-drop, get_or-set_same, get_or-set_other}
use borrow.Author.Tests.{lt-ltb, le-ltb, eq-eqb, ne_eqb}
use Rattle.kat.specs.Lists.{upto}
use Rattle.kat.proofs.Bools.{le_or_lt}
use Rattle.claims.specs.Query.{bit}
use Rattle.claims.specs.Standings.{Letter}
use Rattle.memory.specs.Memory.{words, between, zeros}
use Rattle.memory.proofs.Words.{words_length, words_at_lem, words_ext, words_same, same_or_not, inside, above, inside_out}
use Rattle.bits.proofs.Bit.{bit_none, or_assoc}
use Rattle.bits.proofs.Lowest.{Lowest}
use Rattle.standings.specs.Steps.{step_from}
use Rattle.standings.specs.Steps.{leads, joined}
use Rattle.search_standings.specs.RingWords.{ring_words}
use Rattle.search_standings.proofs.RingLayout.{ring_is}
use Rattle.standings.proofs.Upto.{upto_more}
use Rattle.search_ring.specs.inner.Columns.{column_joined, column_of, pushed, spread_over, laid_out}

-- two memories that agree behind the standing
behind_same : (u v : List ℕ) → length u ≡ 40 → length v ≡ 40 → ((i : ℕ) → 34 ≤ i → i < 40 → get_or u i 0 ≡ get_or v i 0) → drop 34 u ≡ drop 34 v
behind_same u v e f h =
    ext_get_or 0 (drop 34 u) (drop 34 v) (length-drop 34 u ∙ ap (λ n. n - 34) (e ∙ sym f) ∙ sym (length-drop 34 v))
    (λ i l. get_or-drop 34 u i 0 ∙ h (34 + i) (omega arith) (omega (arith, length-drop 34 u)) ∙ sym (get_or-drop 34 v i 0))

zeros_length : (n : ℕ) → length (zeros n) ≡ n
unfolding zeros
zeros_length n = length-replicate n 0

-- a memory with the words of the standing 0
module _ (to : List ℕ) (full : length to ≡ 40) where
  pub wiped_length : length (zeros 34 ++ drop 34 to) ≡ 40
  wiped_length =
      length-append (zeros 34) (drop 34 to) ∙ omega (arith, zeros_length 34, length-drop 34 to)

  pub wiped_column : (q : ℕ) → q < 34 → get_or (zeros 34 ++ drop 34 to) q 0 ≡ 0
  unfolding zeros
  wiped_column q h =
      get_or-append (zeros 34) (drop 34 to) 0 q (omega (arith, zeros_length 34)) ∙ get_or-replicate 34 q 0 0 h

  pub wiped_behind : drop 34 (zeros 34 ++ drop 34 to) ≡ drop 34 to
  wiped_behind = drop_at (zeros 34) (drop 34 to) 34 (zeros_length 34)

-- one column joined, or none
module _ (to : List ℕ) (k w : ℕ) where
  pub join_in : k < 31 → set to (k + 1) (bit_or (get_or to (k + 1) 0) w) ≡ column_joined to k w
  unfolding column_joined
  join_in h = sym (ap (λ b. cond b (set to (k + 1) (bit_or (get_or to (k + 1) 0) w)) to) (lt-ltb k 31 h))

  pub join_out : 31 ≤ k → to ≡ column_joined to k w
  unfolding column_joined
  join_out h = sym (ap (λ b. cond b (set to (k + 1) (bit_or (get_or to (k + 1) 0) w)) to) (le-ltb k 31 h))

  pub join_length : length (column_joined to k w) ≡ length to
  join_length =
      ⊎_elim (λ h. ap length (sym (join_out h))) (λ h. ap length (sym (join_in h)) ∙ length-set to (k + 1) (bit_or (get_or to (k + 1) 0) w))
      (le_or_lt 31 k)

  -- at its own place, and elsewhere
  join_same : k < 31 → length to ≡ 40 → get_or (column_joined to k w) (k + 1) 0 ≡ bit_or (get_or to (k + 1) 0) w
  join_same h e =
      ap (λ t. get_or t (k + 1) 0) (sym (join_in h)) ∙ get_or-set_same to (k + 1) (bit_or (get_or to (k + 1) 0) w) 0 (omega arith)

  join_other : (i : ℕ) → (i ≡ k + 1 → ⊥) → get_or (column_joined to k w) i 0 ≡ get_or to i 0
  join_other i n =
      ⊎_elim (λ h. ap (λ t. get_or t i 0) (sym (join_out h)))
      (λ h. ap (λ t. get_or t i 0) (sym (join_in h)) ∙ get_or-set_other to (k + 1) i (bit_or (get_or to (k + 1) 0) w) 0 n) (le_or_lt 31 k)

  join_past : (i : ℕ) → 31 ≤ k → get_or (column_joined to k w) i 0 ≡ get_or to i 0
  join_past i h = ap (λ t. get_or t i 0) (sym (join_out h))

-- columns of a set: none from 32 on, that of the lowest member, and without it the others
column_out : (s i : ℕ) → 32 ≤ i → column_of s i ≡ false
unfolding column_of
column_out s i h = ap (λ b. b && bit (i - 1) s) (above 1 32 i h)

module _ {s : ℕ} (low : Lowest 64 s) where
  abbrev least : ℕ
  least = count_trailing_zeros 64 s

  column_lowest : least < 31 → column_of s (least + 1) ≡ true
  unfolding column_of
  column_lowest h =
      let z : least + 1 - 1 ≡ least = omega arith in
      ap₂ ◌&&◌ (inside 1 32 (least + 1) (omega arith) (omega arith)) (ap (λ j. bit j s) z ∙ low.set)

  column_cleared : column_of (bit_and s (s - 1)) (least + 1) ≡ false
  unfolding column_of
  column_cleared =
      let z : least + 1 - 1 ≡ least = omega arith in
      ap (λ b. between 1 32 (least + 1) && b)
      (ap (λ j. bit j (bit_and s (s - 1))) z ∙ low.cleared least ∙ ap (λ b. bit least s && not b) (eq-eqb least least refl)
      ∙ and-false (bit least s))
      ∙ and-false (between 1 32 (least + 1))

  column_kept : (i : ℕ) → (i ≡ least + 1 → ⊥) → column_of (bit_and s (s - 1)) i ≡ column_of s i
  unfolding column_of
  column_kept i n = go (between 1 32 i) refl
    where
      go : (b : Bool) → between 1 32 i ≡ b → (b && bit (i - 1) (bit_and s (s - 1))) ≡ (b && bit (i - 1) s)
      go true e =
          let (x, y) = inside_out 1 32 i e in
          low.cleared (i - 1) ∙ ap (λ b. bit (i - 1) s && not b) (ne_eqb (i - 1) least (λ d. n (omega arith))) ∙ and-true (bit (i - 1) s)
      go false e = refl

-- words joined into the columns of a set
module _ (to : List ℕ) (w : ℕ) where
  abbrev pushed_at : ℕ → ℕ → ℕ
  pushed_at s i = bit_or (get_or to i 0) (cond (column_of s i) w 0)

  pub pushed_length : (s : ℕ) → length (pushed to s w) ≡ 40
  unfolding pushed
  pushed_length s = words_length 40 (pushed_at s)

  pub pushed_none : (s : ℕ) → length to ≡ 40 → w ≡ 0 → to ≡ pushed to s w
  unfolding pushed
  pushed_none s e z = words_ext to 40 (pushed_at s) e (λ i h. sym (at i (column_of s i)))
    where
      at : (i : ℕ) (b : Bool) → bit_or (get_or to i 0) (cond b w 0) ≡ get_or to i 0
      at i true = ap (bit_or (get_or to i 0)) z ∙ or_zero_r (get_or to i 0)
      at i false = or_zero_r (get_or to i 0)

  pub pushed_end : (s : ℕ) → length to ≡ 40 → s ≡ 0 → pushed to s w ≡ to
  unfolding pushed column_of
  pushed_end s e z =
      sym (words_ext to 40 (pushed_at s) e
      (λ i h. sym (ap (λ b. bit_or (get_or to i 0) (cond b w 0))
      (ap (λ b. between 1 32 i && b) (ap (bit (i - 1)) z ∙ bit_none (i - 1)) ∙ and-false (between 1 32 i))
      ∙ or_zero_r (get_or to i 0))))

  -- the lowest member of s is joined, and then the rest
  pub pushed_more : {s : ℕ} → Lowest 64 s → length to ≡ 40
      → pushed (column_joined to (count_trailing_zeros 64 s) w) (bit_and s (s - 1)) w ≡ pushed to s w
  unfolding pushed
  pushed_more {s} low e =
      words_same 40 40 _ (pushed_at s) refl
      (λ i h. ⊎_elim
      (λ z. ⊎_elim
      (λ p. ap₂ (λ x b. bit_or x (cond b w 0)) (join_past to k w i p) (column_out rest i (omega arith) ∙ sym (column_out s i (omega arith))))
      (λ p. ap (λ j. bit_or (get_or (column_joined to k w) j 0) (cond (column_of rest j) w 0)) z
      ∙ ap₂ (λ x b. bit_or x (cond b w 0)) (join_same to k w p e) (column_cleared low)
      ∙ or_zero_r (bit_or (get_or to (k + 1) 0) w)
      ∙ sym (ap (λ j. pushed_at s j) z ∙ ap (λ b. bit_or (get_or to (k + 1) 0) (cond b w 0)) (column_lowest low p)))
      (le_or_lt 31 k))
      (λ z. ap₂ (λ x b. bit_or x (cond b w 0)) (join_other to k w i z) (column_kept low i z))
      (same_or_not i (k + 1)))
    where
      k : ℕ
      k = count_trailing_zeros 64 s

      rest : ℕ
      rest = bit_and s (s - 1)

-- each number of a list sent on
module _ (right : List ℕ) (l : Letter) (w : ℕ → ℕ) where
  abbrev spread_at : List ℕ → List ℕ → ℕ → ℕ
  spread_at os to i = bit_or (get_or to i 0) (cond (between 1 32 i) (joined right l w i os) 0)

  pub spread_length : (os to : List ℕ) → length (spread_over right l w os to) ≡ 40
  unfolding spread_over
  spread_length os to = words_length 40 (spread_at os to)

  pub spread_end : (os to : List ℕ) → length to ≡ 40 → os ≡ [] → spread_over right l w os to ≡ to
  unfolding spread_over joined
  spread_end os to e z =
      ap (λ l. words 40 (spread_at l to)) z
      ∙ sym (words_ext to 40 (spread_at [] to) e (λ i h. sym (ap (bit_or (get_or to i 0)) (nothing (between 1 32 i)) ∙ or_zero_r (get_or to i 0))))
    where
      nothing : (b : Bool) → ◌≡◌ {A = ℕ} (cond b 0 0) 0
      nothing true = refl
      nothing false = refl

  -- one sent on, and then the rest
  spread_cons : (o : ℕ) (os to : List ℕ)
      → spread_over right l w os (pushed to (step_from right o l.atom l.relation) (w o)) ≡ spread_over right l w (o ∷ os) to
  unfolding spread_over joined pushed column_of leads
  spread_cons o os to =
      words_same 40 40 _ (spread_at (o ∷ os) to) refl
      (λ i h. ap (λ x. bit_or x (cond (between 1 32 i) (joined right l w i os) 0)) (words_at_lem 40 _ i h) ∙ at i (between 1 32 i))
    where
      at : (i : ℕ) (b : Bool)
          → bit_or (bit_or (get_or to i 0) (cond (b && leads right l o i) (w o) 0)) (cond b (joined right l w i os) 0)
          ≡ bit_or (get_or to i 0) (cond b (bit_or (cond (leads right l o i) (w o) 0) (joined right l w i os)) 0)
      at i true = or_assoc (get_or to i 0) (cond (leads right l o i) (w o) 0) (joined right l w i os)
      at i false = ap (λ x. bit_or x 0) (or_zero_r (get_or to i 0))

  pub spread_more : (o e : ℕ) (to : List ℕ) (v : ℕ) → o < e → v ≡ w o
      → spread_over right l w (upto (o + 1) e) (pushed to (step_from right o l.atom l.relation) v) ≡ spread_over right l w (upto o e) to
  spread_more o e to v h z =
      ap (λ x. spread_over right l w (upto (o + 1) e) (pushed to (step_from right o l.atom l.relation) x)) z
      ∙ spread_cons o (upto (o + 1) e) to ∙ ap (λ os. spread_over right l w os to) (sym (upto_more o e h))

  -- in a column that was empty
  pub spread_column : (os to : List ℕ) (q : ℕ) → 1 ≤ q → q < 32 → get_or to q 0 ≡ 0
      → get_or (spread_over right l w os to) q 0 ≡ joined right l w q os
  unfolding spread_over
  spread_column os to q h k e =
      words_at_lem 40 (spread_at os to) q (omega arith)
      ∙ ap₂ (λ x b. bit_or x (cond b (joined right l w q os) 0)) e (inside 1 32 q h k)

  -- the words behind the standing
  pub spread_behind : (os to : List ℕ) → length to ≡ 40 → drop 34 (spread_over right l w os to) ≡ drop 34 to
  unfolding spread_over
  spread_behind os to e =
      behind_same (words 40 (spread_at os to)) to (words_length 40 (spread_at os to)) e
      (λ i h k. words_at_lem 40 (spread_at os to) i k
      ∙ ap (λ b. bit_or (get_or to i 0) (cond b (joined right l w i os) 0)) (above 1 32 i (omega arith)) ∙ or_zero_r (get_or to i 0))

-- a set sent into columns that are there
pub pushed_column : (to : List ℕ) (s w q : ℕ) → 1 ≤ q → q < 32 → get_or (pushed to s w) q 0 ≡ bit_or (get_or to q 0) (cond (bit (q - 1) s) w 0)
unfolding pushed column_of
pushed_column to s w q h k =
    words_at_lem 40 (λ i. bit_or (get_or to i 0) (cond (column_of s i) w 0)) q (omega arith)
    ∙ ap (λ b. bit_or (get_or to q 0) (cond (b && bit (q - 1) s) w 0)) (inside 1 32 q h k)

pub pushed_behind : (to : List ℕ) (s w : ℕ) → length to ≡ 40 → drop 34 (pushed to s w) ≡ drop 34 to
unfolding pushed
pushed_behind to s w e =
    behind_same (words 40 (pushed_at to w s)) to (words_length 40 (pushed_at to w s)) e
    (λ i h k. words_at_lem 40 (pushed_at to w s) i k ∙ ap (λ b. bit_or (get_or to i 0) (cond b w 0)) (column_out s i (omega arith)) ∙ or_zero_r (get_or to i 0))

pub laid_behind : (to : List ℕ) (p first z : ℕ) → drop 34 (laid_out to p first z) ≡ drop 34 to
unfolding laid_out
laid_behind to p first z =
    drop-set-lt 34 (set (set to 0 p) 32 first) 33 z (omega arith) ∙ drop-set-lt 34 (set to 0 p) 32 first (omega arith)
    ∙ drop-set-lt 34 to 0 p (omega arith)

-- the words of a standing, once P, the first atom and Z are in their places
pub laid_words : (to : List ℕ) (p first z : ℕ) (column : ℕ → ℕ) → length to ≡ 40
    → ((q : ℕ) → 1 ≤ q → q < 32 → get_or to q 0 ≡ column q) → take 34 (laid_out to p first z) ≡ ring_words p column first z
unfolding laid_out
laid_words to p first z column e h =
    ring_is (take 34 (laid_out to p first z)) p column first z
    (length-take 34 (laid_out to p first z) ∙ omega (arith, long))
    (get_or-take 34 (laid_out to p first z) 0 0 (omega arith)
    ∙ get_or-set_other (set (set to 0 p) 32 first) 33 0 z 0 (λ d. omega arith)
    ∙ get_or-set_other (set to 0 p) 32 0 first 0 (λ d. omega arith)
    ∙ get_or-set_same to 0 p 0 (omega arith))
    (λ q a b. get_or-take 34 (laid_out to p first z) q 0 (omega arith)
    ∙ get_or-set_other (set (set to 0 p) 32 first) 33 q z 0 (λ d. omega arith)
    ∙ get_or-set_other (set to 0 p) 32 q first 0 (λ d. omega arith)
    ∙ get_or-set_other to 0 q p 0 (λ d. omega arith) ∙ h q a b)
    (get_or-take 34 (laid_out to p first z) 32 0 (omega arith)
    ∙ get_or-set_other (set (set to 0 p) 32 first) 33 32 z 0 (λ d. omega arith)
    ∙ get_or-set_same (set to 0 p) 32 first 0 (omega (arith, length-set to 0 p)))
    (get_or-take 34 (laid_out to p first z) 33 0 (omega arith)
    ∙ get_or-set_same (set (set to 0 p) 32 first) 33 z 0 (omega (arith, length-set (set to 0 p) 32 first, length-set to 0 p)))
  where
    long : length (laid_out to p first z) ≡ 40
    long = length-set (set (set to 0 p) 32 first) 33 z ∙ length-set (set to 0 p) 32 first ∙ length-set to 0 p ∙ e
