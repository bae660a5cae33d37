-- A word as a set of occurrences, bit p - 1 for occurrence p: the word is the number of the set, as the sheet writes it; it is 0 where the
-- set is empty, and two words are equal where the sets are. Both kinds of claim share this.
-- Assumes nothing.
use Prim.Native.Nat.{ℕ, suc, ◌-◌, ◌^◌, ◌<◌}
use native.Mathlib.Omega.{arith}
use mathlib.Core.Path.{◌≡◌, sym, ◌∙◌, ap, subst}
use mathlib.Core.Bool.{true}
use mathlib.Core.List.{List}
use lib.Dec.{eqb}
use borrow.Author.Tests.{eqb-true, eq-eqb}
use Rattle.kat.specs.Lists.{is_empty}
use Rattle.kat.proofs.Bools.{bool_ext}
use Rattle.claims.specs.Bytes.{same}
use Rattle.claims.specs.Fields.{set_number, number_set, big_endian}
use Rattle.claims.specs.SheetBytes.{set_bytes}
use Rattle.claims.proofs.Results.{same_is_equal, same_self}
use Rattle.bits.proofs.Members.{number_read_back, empty_test}

-- the occurrences from 1 to n that a word is
abbrev pub occurrences_of : ℕ → ℕ → List ℕ
occurrences_of n w = number_set 1 (suc n) w

-- a word below 2 ^ n is the number of its occurrences, as the sheet writes it
pub word_read_back : (n w : ℕ) → w < 2 ^ n → set_number 1 (occurrences_of n w) ≡ w
word_read_back n w h =
    let z : suc n - 1 ≡ n = omega arith in
    number_read_back 1 (suc n) w (omega arith) (subst (λ m. w < 2 ^ m) (sym z) h)

pub word_empty : (n w : ℕ) → w < 2 ^ n → is_empty (occurrences_of n w) ≡ eqb w 0
word_empty n w h =
    let z : suc n - 1 ≡ n = omega arith in
    empty_test 1 (suc n) w (subst (λ m. w < 2 ^ m) (sym z) h)

pub word_same : (n v w : ℕ) → v < 2 ^ n → w < 2 ^ n → same (occurrences_of n v) (occurrences_of n w) ≡ eqb v w
word_same n v w g h =
    bool_ext (same (occurrences_of n v) (occurrences_of n w)) (eqb v w)
    (λ e. eq-eqb v w
    (sym (word_read_back n v g) ∙ ap (set_number 1) (same_is_equal (occurrences_of n v) (occurrences_of n w) e) ∙ word_read_back n w h))
    (λ e. subst (λ x. same (occurrences_of n v) (occurrences_of n x) ≡ true) (eqb-true v w e) (same_self (occurrences_of n v)))

-- the bytes of the set are the bytes of the word
pub word_bytes : (n w : ℕ) → w < 2 ^ n → set_bytes (occurrences_of n w) ≡ big_endian 8 w
unfolding set_bytes
word_bytes n w h = ap (big_endian 8) (word_read_back n w h)
