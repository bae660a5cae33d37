-- The tables of all relations: one more filled, and the one at a place.
-- Assumes nothing.
use Prim.Native.Nat.{ℕ, zero, suc, ◌+◌, ◌≤◌, ◌<◌}
use native.Mathlib.Omega.{arith}
use mathlib.Core.Path.{◌≡◌, refl, sym, ◌∙◌, ap, subst}
use mathlib.Core.Logic.{⊎_elim}
use mathlib.Core.Bool.{Bool}
use mathlib.Core.List.{List, [], ◌∷◌}
use lib.ListN.{length, get_or, set, replicate, get_or-eq_default}
use lib.Seq.{get_or-set_same, get_or-set_other}
use Rattle.kat.proofs.Bools.{lt_or_le}
use Rattle.claims.specs.Query.{bit}
use Rattle.memory.specs.Memory.{zeros}
use Rattle.rows.specs.Rows.{blank}
use Rattle.draw_rows.specs.Rows.{relation_rows, drawn_rows, table_at}

-- the first k relations are filled
abbrev pub Filled : List ℕ → ℕ → ℕ → ℕ → List (List ℕ) → Type 0
Filled bs n closed k ts = (r : ℕ) → r < k → table_at ts r ≡ drawn_rows bs n closed r

module _ (bs : List ℕ) (n closed : ℕ) where
  -- one more
  pub filled_more : (ts : List (List ℕ)) (k : ℕ) (t : List ℕ) (b : Bool) → k < length ts → b ≡ bit k closed → t ≡ relation_rows bs n k b
      → Filled bs n closed k ts → Filled bs n closed (k + 1) (set ts k t)
  unfolding drawn_rows table_at
  filled_more ts k t b h e v f r l =
      ⊎_elim
      (λ (s : r < k). get_or-set_other ts k r t blank (λ c. omega arith) ∙ f r s)
      (λ (s : k ≤ r). let same : r ≡ k = omega arith in
      subst (λ i. get_or (set ts k t) i blank ≡ relation_rows bs n i (bit i closed)) (sym same)
      (get_or-set_same ts k t blank h ∙ v ∙ ap (relation_rows bs n k) e))
      (lt_or_le r k)

-- past the tables
pub blank_table : (ts : List (List ℕ)) (r : ℕ) → length ts ≤ r → replicate 64 0 ≡ table_at ts r
unfolding table_at blank zeros
blank_table ts r h = sym (get_or-eq_default ts (replicate 64 0) {n = r} h)

-- among them what would stand past them does not matter
pub inside_table : (ts : List (List ℕ)) (r : ℕ) (d : List ℕ) → r < length ts → get_or ts r d ≡ table_at ts r
unfolding table_at
inside_table [] r d h = absurd (omega arith)
inside_table (t ∷ ts) zero d h = refl
inside_table (t ∷ ts) (suc r) d h = inside_table ts r d (omega arith)
