-- The table of a side shows its expression: a set of occurrences as a word, one letter on by the table, is the set of the definition one
-- letter on; and so are the words that may end and the single atoms. (Document 01, "Standings".) n occurrences are a word below 2 ^ n,
-- bit p - 1 for occurrence p; the idea is to compare the two sets occurrence by occurrence.
-- Assumes nothing.
use Prim.Native.Nat.{ℕ, suc, ◌+◌, ◌-◌, ◌*◌, ◌^◌, ◌≤◌, ◌<◌}
use native.Mathlib.Nat.{lt_of_le_of_lt}
use native.Mathlib.Omega.{arith}
use mathlib.Core.Path.{◌≡◌, sym, ◌∙◌, ap, ap₂, subst}
use mathlib.Core.Bool.{Bool, ◌&&◌, and_comm, or-false}
use mathlib.Core.List.{List, [], ◌∷◌}
use lib.Bits.{and_le_r}
use lib.ListN.{get_or, take, drop}
use lib.Seq.{get_or-take, get_or-drop}
use Rattle.kat.specs.Lists.{some}
use Rattle.kat.specs.Expr.{Expr}
use Rattle.kat.specs.Tables.{occurrences, reads, null, next, stop, after, ends}
use Rattle.kat.proofs.Sets.{some_same}
use Rattle.claims.specs.Query.{bit}
use Rattle.claims.specs.Fields.{number_set}
use Rattle.bits.specs.Sets.{row, union_rows}
use Rattle.bits.proofs.Bit.{bit-bit_and}
use Rattle.bits.proofs.Members.{number_in, number_filter, number_wide, some_shift}
use Rattle.bits.proofs.Rows.{bit_union, meets_some}
use Rattle.side_atoms.proofs.Atoms.{bit_of, number_small, atoms_bit}
use Rattle.side_tables.specs.SideTable.{occurrence_set, side_table}
use Rattle.side_tables.proofs.SideTable.{table_step, table_end, table_letter, table_null}
use Rattle.standings.specs.Steps.{next_set, readers, enders, step_from, step_set, ends_set, null_at}
use Rattle.side_tables.specs.Layout.{ROW}

-- a test over the occurrences of a word is the test over its members, counted from 0
pub some_occurrences : (p : ℕ → Bool) (n s : ℕ) → some p (number_set 1 (suc n) s) ≡ some (λ k. p (suc k)) (number_set 0 n s)
some_occurrences p n s =
    let z : suc n ≡ 1 + n = omega arith in
    ap (λ e. some p (number_set 1 e s)) z ∙ some_shift p 1 0 n s
    ∙ some_same (λ k. p (1 + k)) (λ k. p (suc k)) (number_set 0 n s) (λ k i. ap p (omega arith))

-- row k of the steps at atom a
pub step_row : (t : List ℕ) (a k : ℕ) → k < 64 → row (take 64 (drop (ROW * a + 1) t)) k ≡ next_set t a (suc k)
unfolding next_set
step_row t a k h =
    get_or-take 64 (drop (ROW * a + 1) t) k 0 h ∙ get_or-drop (ROW * a + 1) t k 0 ∙ ap (λ i. get_or t i 0) (omega arith)

module _ (E : Expr) where
  -- an occurrence of the set of those that pass a test, and how large the set is
  set_bit : (f : ℕ → Bool) (q : ℕ) → 1 ≤ q → q < suc (occurrences E) → bit (q - 1) (occurrence_set (occurrences E) f) ≡ f q
  set_bit f q h l = bit_of f 1 (suc (occurrences E)) q (omega arith) h l

  set_small : (f : ℕ → Bool) → occurrence_set (occurrences E) f < 2 ^ occurrences E
  set_small f =
      let z : suc (occurrences E) - 1 ≡ occurrences E = omega arith in
      subst (λ w. occurrence_set (occurrences E) f < 2 ^ w) z (number_small f 1 (suc (occurrences E)) (omega arith))

  -- what the table has of occurrence q
  pub next_bit : (a p q : ℕ) → a < 64 → p < ROW → 1 ≤ q → q < suc (occurrences E) → bit (q - 1) (next_set (side_table E) a p) ≡ next E p q a
  unfolding next_set
  next_bit a p q h k i l = ap (bit (q - 1)) (table_step E a p h k) ∙ set_bit (λ o. next E p o a) q i l

  pub reads_bit : (r q : ℕ) → r < 16 → 1 ≤ q → q < suc (occurrences E) → bit (q - 1) (readers (side_table E) r) ≡ reads E 0 q r
  unfolding readers
  reads_bit r q h i l = ap (bit (q - 1)) (table_letter E r h) ∙ set_bit (λ o. reads E 0 o r) q i l

  pub ends_bit : (a q : ℕ) → a < 64 → 1 ≤ q → q < suc (occurrences E) → bit (q - 1) (enders (side_table E) a) ≡ stop E q a
  unfolding enders
  ends_bit a q h i l = ap (bit (q - 1)) (table_end E a h) ∙ set_bit (λ o. stop E o a) q i l

  pub readers_small : (r : ℕ) → r < 16 → readers (side_table E) r < 2 ^ occurrences E
  unfolding readers
  readers_small r h = subst (λ w. w < 2 ^ occurrences E) (sym (table_letter E r h)) (set_small (λ o. reads E 0 o r))

  pub enders_small : (a : ℕ) → a < 64 → enders (side_table E) a < 2 ^ occurrences E
  unfolding enders
  enders_small a h = subst (λ w. w < 2 ^ occurrences E) (sym (table_end E a h)) (set_small (λ o. stop E o a))

  -- the single atom
  pub null_shown : (a : ℕ) → a < 64 → null_at (side_table E) a ≡ null E a
  unfolding null_at
  null_shown a h = ap (bit a) (table_null E) ∙ atoms_bit (null E) a h

  module _ (a r : ℕ) (low : a < 64) (letter : r < 16) where
    -- one letter on from one occurrence, or from nothing read
    pub from_small : (p : ℕ) → step_from (side_table E) p a r < 2 ^ occurrences E
    unfolding step_from
    from_small p =
        lt_of_le_of_lt (and_le_r (next_set (side_table E) a p) (readers (side_table E) r)) (readers_small r letter)

    pub from_bit : (p q : ℕ) → p < ROW → 1 ≤ q → q < suc (occurrences E)
        → bit (q - 1) (step_from (side_table E) p a r) ≡ (reads E 0 q r && next E p q a)
    unfolding step_from
    from_bit p q h i l =
        bit-bit_and (q - 1) (next_set (side_table E) a p) (readers (side_table E) r)
        ∙ ap₂ ◌&&◌ (next_bit a p q low h i l) (reads_bit r q letter i l) ∙ and_comm (next E p q a) (reads E 0 q r)

    pub from_shown : (p : ℕ) → p < ROW
        → number_set 1 (suc (occurrences E)) (step_from (side_table E) p a r) ≡ after E (p ∷ []) a r
    unfolding after
    from_shown p h =
        number_filter 1 (suc (occurrences E)) (step_from (side_table E) p a r)
        (λ q. reads E 0 q r && some (λ o. next E o q a) (p ∷ []))
        (λ q i l. from_bit p q h i l ∙ ap (λ b. reads E 0 q r && b) (sym (or-false (next E p q a))))

    -- one letter on from a set of occurrences
    pub set_step_small : (s : ℕ) → step_set (side_table E) s a r < 2 ^ occurrences E
    unfolding step_set
    set_step_small s =
        lt_of_le_of_lt (and_le_r (union_rows (take 64 (drop (ROW * a + 1) (side_table E))) s) (readers (side_table E) r))
        (readers_small r letter)

    module _ (few : occurrences E ≤ 64) where
      union_bit : (s q : ℕ) → s < 2 ^ occurrences E → 1 ≤ q → q < suc (occurrences E)
          → bit (q - 1) (union_rows (take 64 (drop (ROW * a + 1) (side_table E))) s)
          ≡ some (λ p. next E p q a) (number_set 1 (suc (occurrences E)) s)
      union_bit s q h i l =
          let z : occurrences E - 0 ≡ occurrences E = omega arith in
          bit_union (take 64 (drop (ROW * a + 1) (side_table E))) s (q - 1)
          ∙ some_same (λ k. bit (q - 1) (row (take 64 (drop (ROW * a + 1) (side_table E))) k)) (λ k. next E (suc k) q a) (number_set 0 64 s)
          (λ k j. let (u, v, w) = number_in 0 64 s k j in
          ap (bit (q - 1)) (step_row (side_table E) a k v) ∙ next_bit a (suc k) q low (omega arith) i l)
          ∙ ap (some (λ k. next E (suc k) q a)) (number_wide 0 (occurrences E) 64 s few (subst (λ w. s < 2 ^ w) (sym z) h))
          ∙ sym (some_occurrences (λ p. next E p q a) (occurrences E) s)

      pub set_step_bit : (s q : ℕ) → s < 2 ^ occurrences E → 1 ≤ q → q < suc (occurrences E)
          → bit (q - 1) (step_set (side_table E) s a r)
          ≡ (reads E 0 q r && some (λ p. next E p q a) (number_set 1 (suc (occurrences E)) s))
      unfolding step_set
      set_step_bit s q h i l =
          bit-bit_and (q - 1) (union_rows (take 64 (drop (ROW * a + 1) (side_table E))) s) (readers (side_table E) r)
          ∙ ap₂ ◌&&◌ (union_bit s q h i l) (reads_bit r q letter i l)
          ∙ and_comm (some (λ p. next E p q a) (number_set 1 (suc (occurrences E)) s)) (reads E 0 q r)

      pub set_step_shown : (s : ℕ) → s < 2 ^ occurrences E
          → number_set 1 (suc (occurrences E)) (step_set (side_table E) s a r) ≡ after E (number_set 1 (suc (occurrences E)) s) a r
      unfolding after
      set_step_shown s h =
          number_filter 1 (suc (occurrences E)) (step_set (side_table E) s a r)
          (λ q. reads E 0 q r && some (λ p. next E p q a) (number_set 1 (suc (occurrences E)) s)) (λ q i l. set_step_bit s q h i l)

  -- one of a set of occurrences may be read last
  pub ends_shown : (a s : ℕ) → a < 64 → s < 2 ^ occurrences E
      → ends_set (side_table E) s a ≡ ends E (number_set 1 (suc (occurrences E)) s) a
  unfolding ends_set ends
  ends_shown a s h l =
      meets_some (occurrences E) s (enders (side_table E) a) l
      ∙ some_same (λ k. bit k (enders (side_table E) a)) (λ k. stop E (suc k) a) (number_set 0 (occurrences E) s)
      (λ k j. let (u, v, w) = number_in 0 (occurrences E) s k j in
      ap (λ i. bit i (enders (side_table E) a)) (omega arith) ∙ ends_bit a (suc k) h (omega arith) (omega arith))
      ∙ sym (some_occurrences (λ p. stop E p a) (occurrences E) s)
