-- Keys as the code makes them and goes through them: from the bytes of a name, and over the words that are no names.
-- Assumes nothing.
use Prim.Native.Nat.{ℕ, ◌+◌, ◌≤◌, ◌<◌}
use native.Mathlib.Numerals.{add-one}
use mathlib.Core.Path.{◌≡◌, refl}
use mathlib.Core.Bool.{Bool, true, false, ◌||◌}
use mathlib.Core.List.{[]}
use lib.ListN.{drop, drop_of_length-le, get_or-eq_default}
use lib.Seq.{drop-cons}
use Rattle.kat.specs.Lists.{some}
use Rattle.claims.specs.Tokens.{reserved_words}
use Rattle.claims.specs.Fields.{from_bytes}
use Rattle.read_tokens.specs.declared.Key.{Key}
use Rattle.read_tokens.specs.Scan.{half_of, key_of}
use Rattle.read_names.specs.Keys.{same_key, reserved_key, word_key}

-- some word from the nth on has the key
unfoldable pub reserved_from : Key → ℕ → Bool
reserved_from k n = some (λ w. same_key k (key_of w)) (drop n reserved_words)

pub reserved_start : (k : Key) → reserved_from k 0 ≡ reserved_key k
unfolding reserved_from reserved_key
reserved_start k = refl

reserved_turn : (k : Key) (n : ℕ) → n < 14 → reserved_from k n ≡ (same_key k (word_key n) || reserved_from k (n + 1))
unfolding reserved_from word_key reserved_words
reserved_turn k n h = rw (add-one n, drop-cons reserved_words n [] h)

pub reserved_here : (k : Key) (n : ℕ) → n < 14 → same_key k (word_key n) ≡ true → true ≡ reserved_from k n
reserved_here k n h e = rw (reserved_turn k n h, e)

pub reserved_next : (k : Key) (n : ℕ) → n < 14 → same_key k (word_key n) ≡ false → reserved_from k (n + 1) ≡ reserved_from k n
reserved_next k n h e = rw (reserved_turn k n h, e)

pub reserved_end : (k : Key) (n : ℕ) → 14 ≤ n → false ≡ reserved_from k n
unfolding reserved_from reserved_words
reserved_end k n h = rw (drop_of_length-le reserved_words h)

pub word_key_behind : (n : ℕ) → 14 ≤ n → record { high = 0; low = 0 } ≡ word_key n
unfolding word_key key_of half_of from_bytes reserved_words
word_key_behind n h = rw (get_or-eq_default reserved_words [] h)
