-- The set of the relations that the lines of a query close, by a walk over its codes: what one code adds; and its members: relation i is in the set exactly where the code of its `closed` line is among the codes.
-- Assumes nothing.
use Prim.Native.Nat.{ℕ, ◌+◌, ◌-◌, ◌≤◌, ◌<◌}
use native.Mathlib.Omega.{arith}
use mathlib.Core.Path.{◌≡◌, refl, sym, ◌∙◌, ap}
use mathlib.Core.Logic.{◌⊎◌, ⊎_elim}
use mathlib.Core.Logic.◌⊎◌.{inl, inr}
use mathlib.Core.Bool.{Bool, ◌||◌, or-false, or_assoc}
use mathlib.Core.List.{List, [], ◌∷◌}
use lib.Dec.{eqb}
use borrow.Author.Tests.{eq-eqb, ne_eqb, lt-ltb, le-ltb, lt-leb, le-leb}
use Rattle.kat.specs.Lists.{some}
use Rattle.kat.proofs.Bools.{lt_or_le}
use Rattle.claims.specs.Query.{bit}
use Rattle.bits.specs.Sets.{including}
use Rattle.bits.proofs.Bit.{bit_none}
use Rattle.bits.proofs.Rows.{bit_including}
use Rattle.side_relations.specs.Relations.{closed_with, closed_set}

-- one code, and then the others
module _ (s k : ℕ) where
  pub closed_below : k < 160 → s ≡ closed_with s k
  unfolding closed_with
  closed_below h = sym (rw (lt-leb 160 k h))

  pub closed_above : 176 ≤ k → s ≡ closed_with s k
  unfolding closed_with
  closed_above h = sym (rw (le-leb 160 k (omega arith), le-ltb k 176 h))

  pub closed_line_lem : 160 ≤ k → k < 176 → (r : ℕ) → r ≡ including 64 s (k - 160) → r ≡ closed_with s k
  unfolding closed_with
  closed_line_lem h l r e = e ∙ sym (rw (le-leb 160 k h, lt-ltb k 176 l))

-- the end of a `closed` line of relation number i
abbrev pub of_closed : ℕ → ℕ → Bool
of_closed i k = eqb k (160 + i)

-- the set goes by the codes
module _ (s k i : ℕ) (h : i < 16) where
  -- a code of no `closed` line
  aside : s ≡ closed_with s k → (k ≡ 160 + i → ⊥) → bit i (closed_with s k) ≡ (bit i s || of_closed i k)
  aside e n = ap (bit i) (sym e) ∙ sym (ap (λ b. bit i s || b) (ne_eqb k (160 + i) n) ∙ or-false (bit i s))

  same_test : 160 ≤ k → (k < 160 + i) ⊎ (160 + i ≤ k) → (160 + i < k) ⊎ (k ≤ 160 + i) → eqb i (k - 160) ≡ of_closed i k
  same_test g (inl a) b = ne_eqb i (k - 160) (λ z. omega arith) ∙ sym (ne_eqb k (160 + i) (λ z. omega arith))
  same_test g (inr a) (inl b) = ne_eqb i (k - 160) (λ z. omega arith) ∙ sym (ne_eqb k (160 + i) (λ z. omega arith))
  same_test g (inr a) (inr b) = eq-eqb i (k - 160) (omega arith) ∙ sym (eq-eqb k (160 + i) (omega arith))

  closed_with_bit : bit i (closed_with s k) ≡ (bit i s || of_closed i k)
  closed_with_bit =
      ⊎_elim (λ l. aside (closed_below s k l) (λ z. omega arith))
      (λ g. ⊎_elim (taken g) (λ l. aside (closed_above s k l) (λ z. omega arith)) (lt_or_le k 176)) (lt_or_le k 160)
    where
      taken : 160 ≤ k → k < 176 → bit i (closed_with s k) ≡ (bit i s || of_closed i k)
      taken g l =
          ap (bit i) (sym (closed_line_lem s k g l (including 64 s (k - 160)) refl)) ∙ bit_including 64 s (k - 160) i (omega arith)
          ∙ ap (λ b. bit i s || b) (same_test g (lt_or_le k (160 + i)) (lt_or_le (160 + i) k))

closed_bit_from : (ks : List ℕ) (s i : ℕ) → i < 16 → bit i (closed_set s ks) ≡ (bit i s || some (of_closed i) ks)
unfolding closed_set
closed_bit_from [] s i h = sym (or-false (bit i s))
closed_bit_from (k ∷ ks) s i h =
    closed_bit_from ks (closed_with s k) i h ∙ ap (λ b. b || some (of_closed i) ks) (closed_with_bit s k i h)
    ∙ or_assoc (bit i s) (of_closed i k) (some (of_closed i) ks)

pub closed_bit : (ks : List ℕ) (i : ℕ) → i < 16 → bit i (closed_set 0 ks) ≡ some (of_closed i) ks
closed_bit ks i h = closed_bit_from ks 0 i h ∙ ap (λ b. b || some (of_closed i) ks) (bit_none i)
