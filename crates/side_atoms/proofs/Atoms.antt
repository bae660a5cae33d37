-- Sets of atoms by their bits: a set's number has bit a exactly where atom a passes the test, so unions, intersections, complements
-- and equalities of sets are those of tests.
-- Assumes nothing.
use Prim.Native.Nat.{ℕ, zero, suc, ◌+◌, ◌-◌, ◌/◌, ◌%◌, ◌^◌, ◌≤◌, ◌<◌}
use native.Mathlib.Nat.{pow-suc}
use native.Mathlib.Omega.{arith}
use mathlib.Core.Path.{◌≡◌, sym, ◌∙◌, ap, ap₂}
use mathlib.Core.Logic.{◌⊎◌}
use mathlib.Core.Logic.◌⊎◌.{inl, inr}
use mathlib.Core.Bool.{Bool, true, false, not, ◌&&◌, ◌||◌}
use lib.Bits.{bit_and, bit_or, or_lt, and_lt}
use lib.Dec.{eqb}
use borrow.Author.Tests.{lt-ltb}
use Rattle.kat.specs.Lists.{upto, member, filter}
use Rattle.kat.proofs.Bools.{bool_ext}
use Rattle.kat.proofs.Sets.{member_in, in_member, filter_in, in_filter, in_upto}
use Rattle.claims.specs.Query.{bit}
use Rattle.claims.specs.Fields.{set_number}
use Rattle.claims.proofs.SetBytes.{filter_rising, set_number_small, bit_zero, bit_suc}
use Rattle.bits.proofs.Bit.{digit, bit_none, bit-bit_or, bit-bit_and, bit_ext, bit_ones}
use Rattle.bits.proofs.Members.{bit_number}
use Rattle.side_atoms.specs.Atoms.{atoms_of, all_atoms}

-- a test over a range
pub member_filter : (f : ℕ → Bool) (lo hi k : ℕ) → lo ≤ k → k < hi → member k (filter f (upto lo hi)) ≡ f k
member_filter f lo hi k p q =
    bool_ext (member k (filter f (upto lo hi))) (f k)
    (λ e. (filter_in f (upto lo hi) (member_in k (filter f (upto lo hi)) e)).1)
    (λ e. in_member k (in_filter f (in_upto k lo hi p q) e))

-- the bits of the number of the set of the k from lo to below hi that pass a test
pub bit_of : (f : ℕ → Bool) (lo hi k : ℕ) → lo ≤ hi → lo ≤ k → k < hi → bit (k - lo) (set_number lo (filter f (upto lo hi))) ≡ f k
bit_of f lo hi k h p q =
    bit_number lo hi (filter f (upto lo hi)) (filter_rising f lo hi h) k p q ∙ member_filter f lo hi k p q

pub number_small : (f : ℕ → Bool) (lo hi : ℕ) → lo ≤ hi → set_number lo (filter f (upto lo hi)) < 2 ^ (hi - lo)
number_small f lo hi h = set_number_small lo hi (filter f (upto lo hi)) h (filter_rising f lo hi h)

-- a number with those bits is the set's number
pub number_ext : (f : ℕ → Bool) (lo hi m : ℕ) → lo ≤ hi → m < 2 ^ (hi - lo) → ((i : ℕ) → i < hi - lo → bit i m ≡ f (lo + i))
    → m ≡ set_number lo (filter f (upto lo hi))
number_ext f lo hi m h s e =
    bit_ext (hi - lo) m (set_number lo (filter f (upto lo hi))) s (number_small f lo hi h)
    (λ i l. let z : lo + i - lo ≡ i = omega arith in
    e i l ∙ sym (sym (ap (λ j. bit j (set_number lo (filter f (upto lo hi)))) z) ∙ bit_of f lo hi (lo + i) h (omega arith) (omega arith)))

module _ (f : ℕ → Bool) where
  pub atoms_small : atoms_of f < 2 ^ 64
  unfolding atoms_of
  atoms_small = number_small f 0 64 (omega arith)

  pub atoms_bit : (a : ℕ) → a < 64 → bit a (atoms_of f) ≡ f a
  unfolding atoms_of
  atoms_bit a h =
      let z : a ≡ a - 0 = omega arith in
      ap (λ j. bit j (set_number 0 (filter f (upto 0 64)))) z ∙ bit_of f 0 64 a (omega arith) (omega arith) h

  -- a word with those bits is the set
  pub atoms_ext : (m : ℕ) → m < 2 ^ 64 → ((a : ℕ) → a < 64 → bit a m ≡ f a) → m ≡ atoms_of f
  atoms_ext m s e = bit_ext 64 m (atoms_of f) s atoms_small (λ a h. e a h ∙ sym (atoms_bit a h))

pub atoms_same : (f g : ℕ → Bool) → ((a : ℕ) → a < 64 → f a ≡ g a) → atoms_of f ≡ atoms_of g
atoms_same f g e = atoms_ext g (atoms_of f) (atoms_small f) (λ a h. atoms_bit f a h ∙ e a h)

pub atoms_or : (f g : ℕ → Bool) → bit_or (atoms_of f) (atoms_of g) ≡ atoms_of (λ a. f a || g a)
atoms_or f g =
    atoms_ext (λ a. f a || g a) (bit_or (atoms_of f) (atoms_of g)) (or_lt 64 (atoms_of f) (atoms_of g) (atoms_small f) (atoms_small g))
    (λ a h. bit-bit_or a (atoms_of f) (atoms_of g) ∙ ap₂ ◌||◌ (atoms_bit f a h) (atoms_bit g a h))

pub atoms_and : (f g : ℕ → Bool) → bit_and (atoms_of f) (atoms_of g) ≡ atoms_of (λ a. f a && g a)
atoms_and f g =
    atoms_ext (λ a. f a && g a) (bit_and (atoms_of f) (atoms_of g)) (and_lt 64 (atoms_of f) (atoms_of g) (atoms_small f) (atoms_small g))
    (λ a h. bit-bit_and a (atoms_of f) (atoms_of g) ∙ ap₂ ◌&&◌ (atoms_bit f a h) (atoms_bit g a h))

-- the bits of a complement within w bits
pub bit_not : (w i m : ℕ) → m < 2 ^ w → i < w → bit i (2 ^ w - 1 - m) ≡ not (bit i m)
bit_not zero i m s h = absurd (omega arith)
bit_not (suc w) zero m s h =
    bit_zero (2 ^ suc w - 1 - m) ∙ go (digit m) ∙ sym (ap not (bit_zero m))
  where
    go : (m % 2 ≡ 0) ⊎ (m % 2 ≡ 1) → eqb ((2 ^ suc w - 1 - m) % 2) 1 ≡ not (eqb (m % 2) 1)
    go (inl p) =
        let e : (2 ^ suc w - 1 - m) % 2 ≡ 1 = omega (arith, pow-suc 2 w) in
        rw (p, e)
    go (inr p) =
        let e : (2 ^ suc w - 1 - m) % 2 ≡ 0 = omega (arith, pow-suc 2 w) in
        rw (p, e)
bit_not (suc w) (suc i) m s h =
    let e : (2 ^ suc w - 1 - m) / 2 ≡ 2 ^ w - 1 - m / 2 = omega (arith, pow-suc 2 w) in
    bit_suc i (2 ^ suc w - 1 - m) ∙ ap (bit i) e ∙ bit_not w i (m / 2) (omega (arith, pow-suc 2 w)) (omega arith)
    ∙ sym (ap not (bit_suc i m))

pub atoms_not : (f : ℕ → Bool) → all_atoms - atoms_of f ≡ atoms_of (λ a. not (f a))
atoms_not f =
    atoms_ext (λ a. not (f a)) (all_atoms - atoms_of f) (omega arith)
    (λ a h. bit_not 64 a (atoms_of f) (atoms_small f) h ∙ ap not (atoms_bit f a h))

pub atoms_none : 0 ≡ atoms_of (λ a. false)
atoms_none = atoms_ext (λ a. false) 0 (omega arith) (λ a h. bit_none a)

pub atoms_all : all_atoms ≡ atoms_of (λ a. true)
atoms_all = atoms_ext (λ a. true) all_atoms (omega arith) (λ a h. bit_ones a 64 ∙ lt-ltb a 64 h)
