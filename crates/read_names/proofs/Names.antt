-- Names by their keys: two names of one key are one name, so a name is compared by its key with another name, and with the words
-- that are no names.
-- Assumes nothing.
use Prim.Native.Nat.{ℕ, zero, suc, ◌+◌, ◌*◌, ◌≤◌, ◌<◌}
use native.Mathlib.Omega.{arith}
use mathlib.Core.Path.{◌≡◌, refl, ap, ap₂, subst}
use mathlib.Core.Logic.{⊎_elim}
use mathlib.Core.Bool.{Bool, true, ◌&&◌, ◌||◌}
use mathlib.Core.List.{List, [], ◌∷◌, map}
use lib.Dec.{eqb, leb}
use lib.ListN.{length, drop, get_or}
use borrow.Author.Tests.{leb-true, eqb-true, eq-eqb}
use Rattle.kat.specs.Lists.{some, every, counted, In, here, there}
use Rattle.kat.proofs.Bools.{bool_ext, or_cases, and_left, and_right, and_both, le_or_lt}
use Rattle.kat.proofs.Sets.{in_counted}
use Rattle.claims.specs.Bytes.{letter, digit, between, same}
use Rattle.claims.specs.Tokens.{word_like, reserved_words, is_reserved}
use Rattle.claims.specs.Fields.{from_bytes}
use Rattle.claims.proofs.Results.{same_is_equal, same_self}
use Rattle.read_tokens.specs.declared.Key.{Key}
use Rattle.read_tokens.specs.Scan.{word_byte, half_of, key_of, Spelled}
use Rattle.read_names.specs.Keys.{same_key, reserved_key, word_key}

-- all fit a byte
abbrev Small : List ℕ → Type 0
Small [] = Unit {0}
Small (b ∷ bs) = (b < 256) × Small bs

-- two numbers that are equal, of as many bytes, have the same bytes
numbers_differ : (xs ys : List ℕ) (m n : ℕ) → length xs ≡ length ys → Small xs → Small ys → from_bytes m xs ≡ from_bytes n ys
    → (m ≡ n) × (xs ≡ ys)
unfolding from_bytes
numbers_differ [] [] m n l p q e = (e, refl)
numbers_differ [] (y ∷ ys) m n l p q e = absurd (omega arith)
numbers_differ (x ∷ xs) [] m n l p q e = absurd (omega arith)
numbers_differ (x ∷ xs) (y ∷ ys) m n l (p, ps) (q, qs) e =
    let (f, g) = numbers_differ xs ys (m * 256 + x) (n * 256 + y) (omega arith) ps qs e in
    let h : x ≡ y = omega arith in
    (omega arith, ap₂ ◌∷◌ h g)

-- letters and digits are no zeros, and fit a byte
word_byte_range : (b : ℕ) → word_byte b ≡ true → (0 < b) × (b < 256)
unfolding word_byte
word_byte_range b e =
    ⊎_elim
    (λ h. ⊎_elim (range 65 90 (omega arith) (omega arith)) (range 97 122 (omega arith) (omega arith))
    (or_cases (between 65 90 b) (between 97 122 b) h))
    (range 48 57 (omega arith) (omega arith))
    (or_cases (letter b) (digit b) e)
  where
    range : (m n : ℕ) → 0 < m → n < 256 → between m n b ≡ true → (0 < b) × (b < 256)
    range m n p q h =
        let u : m ≤ b = leb-true m b (and_left (leb m b) (leb b n) h) in
        let v : b ≤ n = leb-true b n (and_right (leb m b) (leb b n) h) in
        (omega arith, omega arith)

byte_small : (w : List ℕ) (j : ℕ) → every word_byte w ≡ true → get_or w j 0 < 256
byte_small [] j e = omega arith
byte_small (b ∷ bs) zero e = (word_byte_range b (and_left (word_byte b) (every word_byte bs) e)).1
byte_small (b ∷ bs) (suc j) e = byte_small bs j (and_right (word_byte b) (every word_byte bs) e)

bytes_small : (w js : List ℕ) → every word_byte w ≡ true → Small (map (λ j. get_or w j 0) js)
bytes_small w [] e = tt
bytes_small w (j ∷ js) e = (byte_small w j e, bytes_small w js e)

at_each : (f g : ℕ → ℕ) {j : ℕ} {js : List ℕ} → In j js → map f js ≡ map g js → f j ≡ g j
at_each f g (here e) h = rw e (ap (λ l. get_or l 0 0) h)
at_each f g (there i) h = at_each f g i (ap (drop 1) h)

half_agrees : (w v : List ℕ) (p : ℕ) → every word_byte w ≡ true → every word_byte v ≡ true → half_of w p ≡ half_of v p
    → (j : ℕ) → p ≤ j → j < p + 8 → get_or w j 0 ≡ get_or v j 0
unfolding half_of
half_agrees w v p a b e j l h =
    at_each (λ j. get_or w j 0) (λ j. get_or v j 0) (in_counted j p 8 l h)
    (numbers_differ (map (λ j. get_or w j 0) (counted p 8)) (map (λ j. get_or v j 0) (counted p 8)) 0 0 refl
    (bytes_small w (counted p 8) a) (bytes_small v (counted p 8) b) e).1

-- two lists of at most n bytes that are no zeros, and agree at n places
agree : (w v : List ℕ) (n : ℕ) → length w ≤ n → length v ≤ n → every word_byte w ≡ true → every word_byte v ≡ true
    → ((j : ℕ) → j < n → get_or w j 0 ≡ get_or v j 0) → w ≡ v
agree [] [] n k l p q f = refl
agree [] (b ∷ v) n k l p q f =
    let h : (0 < b) × (b < 256) = word_byte_range b (and_left (word_byte b) (every word_byte v) q) in
    absurd (omega (arith, f 0 (omega arith)))
agree (a ∷ w) [] n k l p q f =
    let h : (0 < a) × (a < 256) = word_byte_range a (and_left (word_byte a) (every word_byte w) p) in
    absurd (omega (arith, f 0 (omega arith)))
agree (a ∷ w) (b ∷ v) zero k l p q f = absurd (omega arith)
agree (a ∷ w) (b ∷ v) (suc n) k l p q f =
    ap₂ ◌∷◌ (f 0 (omega arith))
    (agree w v n (omega arith) (omega arith) (and_right (word_byte a) (every word_byte w) p) (and_right (word_byte b) (every word_byte v) q)
    (λ j h. f (suc j) (omega arith)))

-- a name has at most 16 bytes
name_short : (w : List ℕ) → Spelled w → length w ≤ 16
unfolding word_like
name_short [] h = omega arith
name_short (b ∷ bs) h = omega (arith, leb-true (length bs) 15 (and_right (letter b) (leb (length bs) 15) h.like))

-- two names with one key are one name
pub keys_differ : (w v : List ℕ) → Spelled w → Spelled v → key_of w ≡ key_of v → w ≡ v
unfolding key_of
keys_differ w v a b e =
    agree w v 16 (name_short w a) (name_short v b) a.bytes b.bytes
    (λ j h. ⊎_elim
    (λ k. half_agrees w v 8 a.bytes b.bytes (ap (λ x. x.low) e) j k h)
    (λ k. half_agrees w v 0 a.bytes b.bytes (ap (λ x. x.high) e) j (omega arith) k)
    (le_or_lt 8 j))

key_sound : (a b : Key) → same_key a b ≡ true → a ≡ b
unfolding same_key
key_sound a b e =
    let h : a.high ≡ b.high = eqb-true a.high b.high (and_left (eqb a.high b.high) (eqb a.low b.low) e) in
    let l : a.low ≡ b.low = eqb-true a.low b.low (and_right (eqb a.high b.high) (eqb a.low b.low) e) in
    λ i. record { high = h i; low = l i }

key_self : (a : Key) → same_key a a ≡ true
unfolding same_key
key_self a = and_both (eq-eqb a.high a.high refl) (eq-eqb a.low a.low refl)

-- names are compared by their keys
pub same_key_lem : (w v : List ℕ) → Spelled w → Spelled v → same_key (key_of w) (key_of v) ≡ same w v
same_key_lem w v a b =
    bool_ext (same_key (key_of w) (key_of v)) (same w v)
    (λ e. subst (λ x. same w x ≡ true) (keys_differ w v a b (key_sound (key_of w) (key_of v) e)) (same_self w))
    (λ e. subst (λ x. same_key (key_of w) (key_of x) ≡ true) (same_is_equal w v e) (key_self (key_of w)))

-- the words that are no names are spelled as names are
name_test : List ℕ → Bool
name_test v = word_like v && every word_byte v

by_test : (v : List ℕ) → name_test v ≡ true → Spelled v
unfolding name_test
by_test v e = record { like = and_left (word_like v) (every word_byte v) e; bytes = and_right (word_like v) (every word_byte v) e }

reserved_spelled : every name_test reserved_words ≡ true
unfolding name_test reserved_words word_like word_byte
reserved_spelled = refl

some_same : (w : List ℕ) → Spelled w → (vs : List (List ℕ)) → every name_test vs ≡ true
    → some (λ v. same_key (key_of w) (key_of v)) vs ≡ some (same w) vs
some_same w a [] e = refl
some_same w a (v ∷ vs) e =
    ap₂ ◌||◌ (same_key_lem w v a (by_test v (and_left (name_test v) (every name_test vs) e)))
    (some_same w a vs (and_right (name_test v) (every name_test vs) e))

-- a name is known as reserved by its key
pub reserved_is_reserved : (w : List ℕ) → Spelled w → reserved_key (key_of w) ≡ is_reserved w
unfolding reserved_key is_reserved
reserved_is_reserved w a = some_same w a reserved_words reserved_spelled

nth_spelled : (vs : List (List ℕ)) (n : ℕ) → every name_test vs ≡ true → n < length vs → Spelled (get_or vs n [])
nth_spelled [] n e h = absurd (omega arith)
nth_spelled (v ∷ vs) zero e h = by_test v (and_left (name_test v) (every name_test vs) e)
nth_spelled (v ∷ vs) (suc n) e h = nth_spelled vs n (and_right (name_test v) (every name_test vs) e) (omega arith)

pub reserved_name_lem : (n : ℕ) → n < 14 → Spelled (get_or reserved_words n [])
unfolding reserved_words
reserved_name_lem n h = nth_spelled reserved_words n reserved_spelled h

-- whether a name is the nth word that is no name
pub same_word : (w : List ℕ) (n : ℕ) → Spelled w → n < 14 → same_key (key_of w) (word_key n) ≡ same w (get_or reserved_words n [])
unfolding word_key
same_word w n a h = same_key_lem w (get_or reserved_words n []) a (reserved_name_lem n h)
