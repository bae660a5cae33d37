-- A row of M from the columns, bit by bit: below the columns passed the row has the bits that the definition has.
-- Assumes nothing.
use Prim.Native.Nat.{ℕ, zero, suc, ◌+◌, ◌-◌, ◌/◌, ◌^◌, ◌<◌}
use native.Mathlib.Omega.{arith}
use mathlib.Core.Path.{◌≡◌, refl, sym, ◌∙◌, ap, subst}
use mathlib.Core.Logic.{⊎_elim}
use mathlib.Core.Bool.{Bool, true, false, cond}
use mathlib.Core.List.{List}
use lib.ListN.{get_or}
use borrow.Author.Tests.{eq-eqb, ne_eqb}
use Rattle.claims.specs.Query.{bit}
use Rattle.memory.proofs.Words.{same_or_not}
use Rattle.bits.specs.Sets.{including}
use Rattle.bits.proofs.Bit.{bit_none, bit_above}
use Rattle.bits.proofs.Puts.{bit_put, bit_kept, put_small}
use Rattle.side_atoms.proofs.Atoms.{number_ext}
use Rattle.search_standings.specs.RingWords.{in_m}
use Rattle.search_standings.proofs.RingRows.{in_m_none}
use Rattle.search_contents.specs.FieldWords.{number_m, number_n, row_number}

-- the row has the bits of row p of M below q, and no other
pub record RowBelow (s : List ℕ) (p q row : ℕ) : Type 0 where
  pub small : row < 2 ^ q
  pub bits : (i : ℕ) → i < q → bit i row ≡ in_m s p i

module _ (s : List ℕ) (p : ℕ) where
  -- no number is in bit 0
  pub row_none : RowBelow s p 1 0
  row_none = record { small = omega arith; bits = λ i h. bit_none i ∙ first i h }
    where
      first : (i : ℕ) → i < 1 → false ≡ in_m s p i
      first zero h = sym (in_m_none s p)
      first (suc i) h = absurd (omega arith)

  -- one column more
  pub row_more : (q row : ℕ) (b : Bool) → RowBelow s p q row → q < 64 → b ≡ in_m s p q → RowBelow s p (q + 1) (cond b (including 64 row q) row)
  row_more q row b h l e =
      record {
        small = put_small row q b l h.small;
        bits = λ i k. ⊎_elim
            (λ z. ap (λ j. bit j (cond b (including 64 row q) row)) z ∙ bit_put row q b l (bit_above q q row h.small (omega arith))
            ∙ e ∙ ap (in_m s p) (sym z))
            (λ z. bit_kept row q i b l z ∙ h.bits i (omega arith))
            (same_or_not i q);
      }

  -- all columns
  pub row_all : (row : ℕ) → RowBelow s p 32 row → row ≡ number_m s p
  unfolding number_m
  row_all row h = number_ext (in_m s p) 0 32 row (omega arith) h.small (λ i l. h.bits i l ∙ ap (in_m s p) (omega arith))

-- rows by the table that they are of
pub row_first : (upper : Bool) (s : List ℕ) (p : ℕ) → upper ≡ true → p ≡ 0 → row_number upper s p ≡ 0
unfolding row_number number_n
row_first upper s p e z =
    subst (λ b. row_number b s p ≡ 0) (sym e) (ap (λ b. cond b 0 (get_or s p 0 / 2 ^ 32)) (eq-eqb p 0 z))

pub row_upper : (upper : Bool) (s : List ℕ) (p : ℕ) → upper ≡ true → (p ≡ 0 → ⊥) → row_number upper s p ≡ get_or s p 0 / 2 ^ 32
unfolding row_number number_n
row_upper upper s p e z =
    subst (λ b. row_number b s p ≡ get_or s p 0 / 2 ^ 32) (sym e) (ap (λ b. cond b 0 (get_or s p 0 / 2 ^ 32)) (ne_eqb p 0 z))

pub row_lower : (upper : Bool) (s : List ℕ) (p : ℕ) → upper ≡ false → row_number upper s p ≡ number_m s p
unfolding row_number
row_lower upper s p e = subst (λ b. row_number b s p ≡ number_m s p) (sym e) refl
