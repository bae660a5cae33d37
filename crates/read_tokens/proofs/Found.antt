-- The token at a position by the tests that a scanner makes: where the line ends, and what byte stands behind the spaces; and that byte alone,
-- which is the mark's where a mark is found.
-- Assumes nothing.
use Prim.Native.Nat.{ℕ, suc, ◌+◌, ◌-◌, ◌≤◌, ◌<◌}
use native.Mathlib.Omega.{arith}
use mathlib.Core.Path.{◌≡◌, refl, sym, ◌∙◌, ap}
use mathlib.Core.Bool.{Bool, true, false, cond, ◌&&◌, true≢false}
use mathlib.Core.List.{List, [], ◌∷◌}
use lib.Dec.{leb}
use lib.ListN.{length, take, drop, get_or, drop_of_length-le}
use lib.Seq.{drop-cons}
use Rattle.claims.specs.Bytes.{letter}
use Rattle.read_tokens.specs.declared.Key.{Key}
use Rattle.read_tokens.specs.declared.Token.{Token}
use Rattle.read_tokens.specs.declared.Token.TheVariants.{Word, Mark, Bad, End}
use Rattle.read_tokens.specs.Scan.{is_space, word_byte, is_mark, front, key_of, word_at, token_from, token_at, first_byte}

-- a run from i to e, with the test of its first byte
module _ (s : List ℕ) (i b n e : ℕ) (ends : e ≡ i + n) (l : Bool) (first : l ≡ letter b) where
  pub found_word : (k : Key) → k ≡ key_of (take (e - i) (drop i s)) → (l && leb (e - i) 16) ≡ true → Word k e ≡ word_at s i b n
  unfolding word_at
  found_word k h t =
      let m : e - i ≡ n = omega arith in
      rw (h, ← m, ← first, t) (ap (Word (key_of (take (e - i) (drop i s)))) (omega arith))

  pub found_no_word : (l && leb (e - i) 16) ≡ false → Bad ≡ word_at s i b n
  unfolding word_at
  found_no_word t = let m : e - i ≡ n = omega arith in rw (← m, ← first, t)

pub found_past : (s : List ℕ) (at : ℕ) → length s ≤ at → End ≡ token_at s at
unfolding token_at token_from
found_past s at h =
    let m : length s ≤ at + front is_space (drop at s) = omega arith in
    rw (drop_of_length-le s m)

pub byte_past : (s : List ℕ) (at : ℕ) → length s ≤ at → 0 ≡ first_byte s at
unfolding first_byte
byte_past s at h =
    let m : length s ≤ at + front is_space (drop at s) = omega arith in
    rw (drop_of_length-le s m)

-- i is the first place at or behind `at` that holds no space
module _ (s : List ℕ) (at i : ℕ) (skipped : i ≡ at + front is_space (drop at s)) where
  pub found_end : length s ≤ i → End ≡ token_at s at
  unfolding token_at token_from
  found_end h = rw (← skipped, drop_of_length-le s h)

  byte_found : i < length s → token_at s at ≡ token_from s i (get_or s i 0 ∷ drop (suc i) s)
  unfolding token_at
  byte_found h = rw (← skipped, drop-cons s i 0 h)

  pub found_run : (r : Token) → i < length s → word_byte (get_or s i 0) ≡ true
      → r ≡ word_at s i (get_or s i 0) (front word_byte (drop i s)) → r ≡ token_at s at
  unfolding token_from
  found_run r h t e = rw (byte_found h, e, t, drop-cons s i 0 h)

  pub found_mark : i < length s → word_byte (get_or s i 0) ≡ false → is_mark (get_or s i 0) ≡ true → Mark (get_or s i 0) (i + 1) ≡ token_at s at
  unfolding token_from
  found_mark h t u = rw (byte_found h, t, u)

  pub found_bad : i < length s → word_byte (get_or s i 0) ≡ false → is_mark (get_or s i 0) ≡ false → Bad ≡ token_at s at
  unfolding token_from
  found_bad h t u = rw (byte_found h, t, u)

  pub byte_end : length s ≤ i → 0 ≡ first_byte s at
  unfolding first_byte
  byte_end h = rw (← skipped, drop_of_length-le s h)

  pub byte_here : i < length s → get_or s i 0 ≡ first_byte s at
  unfolding first_byte
  byte_here h = rw (← skipped, drop-cons s i 0 h)

-- a token that is no mark
abbrev markless : Token → Bool
markless (Word k e) = true
markless (Mark c e) = false
markless Bad = true
markless End = true

not_mark : (t : Token) (c e : ℕ) → markless t ≡ true → t ≡ Mark c e → ⊥
not_mark t c e h g = true≢false (sym h ∙ ap markless g)

word_no_mark : (s : List ℕ) (i b n c e : ℕ) → word_at s i b n ≡ Mark c e → ⊥
unfolding word_at
word_no_mark s i b n c e h = go (letter b && leb n 16) h
  where
    go : (w : Bool) → cond w (Word (key_of (take n (drop i s))) (i + n)) Bad ≡ Mark c e → ⊥
    go true g = not_mark (Word (key_of (take n (drop i s))) (i + n)) c e refl g
    go false g = not_mark Bad c e refl g

-- a mark that is found is the byte that stands there
mark_from : (s : List ℕ) (i : ℕ) (bs : List ℕ) (c e : ℕ) → token_from s i bs ≡ Mark c e → get_or bs 0 0 ≡ c
unfolding token_from
mark_from s i [] c e h = absurd (not_mark End c e refl h)
mark_from s i (b ∷ bs) c e h = go (word_byte b) (is_mark b) h
  where
    go : (w m : Bool) → cond w (word_at s i b (front word_byte (b ∷ bs))) (cond m (Mark b (i + 1)) Bad) ≡ Mark c e → b ≡ c
    go true m h = absurd (word_no_mark s i b (front word_byte (b ∷ bs)) c e h)
    go false true h = cc
    go false false h = absurd (not_mark Bad c e refl h)

pub mark_first : (s : List ℕ) (at c e : ℕ) → token_at s at ≡ Mark c e → first_byte s at ≡ c
unfolding token_at first_byte
mark_first s at c e h =
    mark_from s (at + front is_space (drop at s)) (drop (at + front is_space (drop at s)) s) c e h
