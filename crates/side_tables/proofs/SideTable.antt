-- What stands at each place of the table of an expression, for those who read it; and the theorem that a table which shows an expression, with
-- the atoms that are words of it, is its table.
-- Assumes nothing.
use Prim.Native.Nat.{ℕ, zero, suc, ◌+◌, ◌-◌, ◌*◌, ◌/◌, ◌%◌, ◌^◌, ◌≤◌, ◌<◌}
use native.Mathlib.Omega.{arith}
use mathlib.Core.Path.{◌≡◌, refl, sym, ◌∙◌, ap, ap₂, subst}
use mathlib.Core.Logic.{⊎_elim}
use mathlib.Core.Bool.{Bool, false}
use mathlib.Core.List.{List, [], ◌∷◌, ◌++◌}
use lib.ListN.{length, get_or, set, length-append, length-set, get_or-append}
use lib.Seq.{get_or-append-add, get_or-set_same, get_or-set_other}
use Rattle.kat.specs.Expr.{Expr, alt, none as nowhere}
use Rattle.kat.specs.Tables.{occurrences, reads, null, firsts, lasts, follows, next, stop}
use Rattle.kat.proofs.Bools.{false_of_not, le_or_lt, lt_or_le}
use Rattle.kat.proofs.Ranges.{firsts_range, lasts_range, follows_range, reads_range}
use Rattle.claims.specs.Query.{bit}
use Rattle.bits.proofs.Bit.{bit_above, bits_equal}
use Rattle.side_atoms.specs.Atoms.{atoms_of}
use Rattle.side_atoms.proofs.Atoms.{bit_of, number_small}
use Rattle.side_tables.specs.SideTable.{occurrence_set, step_words, end_words, letter_words, side_table}
use Rattle.side_tables.specs.Layout.{ENDS, LETTERS, NULL, TABLE, ROW}
use Rattle.memory.proofs.Words.{words_length, words_at_lem, words_ext, same_or_not}
use Rattle.side_tables.proofs.Shows.{Shows}

-- the parts by their lengths
behind : (l m : List ℕ) (k j : ℕ) → length l ≡ k → get_or (l ++ m) (k + j) 0 ≡ get_or m j 0
behind l m k j e = ap (λ i. get_or (l ++ m) (i + j) 0) (sym e) ∙ get_or-append-add l m j 0

module _ (E : Expr) where
  step_length : length (step_words E) ≡ ENDS
  unfolding step_words
  step_length = words_length ENDS (λ i. occurrence_set (occurrences E) (λ q. next E (i % ROW) q (i / ROW)))

  end_length : length (end_words E) ≡ 64
  unfolding end_words
  end_length = words_length 64 (λ a. occurrence_set (occurrences E) (λ p. stop E p a))

  letter_length : length (letter_words E) ≡ 16
  unfolding letter_words
  letter_length = words_length 16 (λ r. occurrence_set (occurrences E) (λ q. reads E 0 q r))

  pub table_length : length (side_table E) ≡ TABLE
  unfolding side_table
  table_length =
      length-append (step_words E) (end_words E ++ (letter_words E ++ (atoms_of (null E) ∷ [])))
      ∙ ap₂ ◌+◌ step_length (length-append (end_words E) (letter_words E ++ (atoms_of (null E) ∷ []))
      ∙ ap₂ ◌+◌ end_length (length-append (letter_words E) (atoms_of (null E) ∷ []) ∙ ap (λ n. n + 1) letter_length))

  -- the occurrences that may come next at atom a where p was read last
  pub table_step : (a p : ℕ) → a < 64 → p < ROW → get_or (side_table E) (ROW * a + p) 0 ≡ occurrence_set (occurrences E) (λ q. next E p q a)
  unfolding side_table step_words
  table_step a p h l =
      let r : (ROW * a + p) / ROW ≡ a = omega arith in
      let s : (ROW * a + p) % ROW ≡ p = omega arith in
      get_or-append (step_words E) (end_words E ++ (letter_words E ++ (atoms_of (null E) ∷ []))) 0 (ROW * a + p) (omega (arith, step_length))
      ∙ words_at_lem ENDS (λ i. occurrence_set (occurrences E) (λ q. next E (i % ROW) q (i / ROW))) (ROW * a + p) (omega arith)
      ∙ ap₂ (λ i j. occurrence_set (occurrences E) (λ q. next E i q j)) s r

  -- those that may be last at atom a
  pub table_end : (a : ℕ) → a < 64 → get_or (side_table E) (ENDS + a) 0 ≡ occurrence_set (occurrences E) (λ p. stop E p a)
  unfolding side_table end_words
  table_end a h =
      behind (step_words E) (end_words E ++ (letter_words E ++ (atoms_of (null E) ∷ []))) ENDS a step_length
      ∙ get_or-append (end_words E) (letter_words E ++ (atoms_of (null E) ∷ [])) 0 a (omega (arith, end_length))
      ∙ words_at_lem 64 (λ b. occurrence_set (occurrences E) (λ p. stop E p b)) a h

  -- those that read relation r
  pub table_letter : (r : ℕ) → r < 16 → get_or (side_table E) (LETTERS + r) 0 ≡ occurrence_set (occurrences E) (λ q. reads E 0 q r)
  unfolding side_table letter_words
  table_letter r h =
      let z : LETTERS + r ≡ ENDS + (64 + r) = omega arith in
      ap (λ i. get_or (side_table E) i 0) z
      ∙ behind (step_words E) (end_words E ++ (letter_words E ++ (atoms_of (null E) ∷ []))) ENDS (64 + r) step_length
      ∙ behind (end_words E) (letter_words E ++ (atoms_of (null E) ∷ [])) 64 r end_length
      ∙ get_or-append (letter_words E) (atoms_of (null E) ∷ []) 0 r (omega (arith, letter_length))
      ∙ words_at_lem 16 (λ s. occurrence_set (occurrences E) (λ q. reads E 0 q s)) r h

  -- the atoms that are words
  pub table_null : get_or (side_table E) NULL 0 ≡ atoms_of (null E)
  unfolding side_table
  table_null =
      behind (step_words E) (end_words E ++ (letter_words E ++ (atoms_of (null E) ∷ []))) ENDS 80 step_length
      ∙ behind (end_words E) (letter_words E ++ (atoms_of (null E) ∷ [])) 64 16 end_length
      ∙ behind (letter_words E) (atoms_of (null E) ∷ []) 16 0 letter_length

-- what an expression says of occurrences that it has not
module _ (E : Expr) where
  within_set : (f : ℕ → Bool) (w : ℕ) → ((q : ℕ) → bit q w ≡ f (suc q)) → ((q : ℕ) → occurrences E ≤ q → f (suc q) ≡ false)
      → w ≡ occurrence_set (occurrences E) f
  within_set f w h above =
      bits_equal w (occurrence_set (occurrences E) f)
      (λ q. h q ∙ ⊎_elim
      (λ e. above q e ∙ sym (bit_above (occurrences E) q (occurrence_set (occurrences E) f)
      (let z : suc (occurrences E) - 1 ≡ occurrences E = omega arith in
      subst (λ n. occurrence_set (occurrences E) f < 2 ^ n) z (number_small f 1 (suc (occurrences E)) (omega arith))) e))
      (λ e. let z : q ≡ suc q - 1 = omega arith in
      sym (ap (λ n. bit n (occurrence_set (occurrences E) f)) z ∙ bit_of f 1 (suc (occurrences E)) (suc q) (omega arith) (omega arith) (omega arith)))
      (le_or_lt (occurrences E) q))

-- the table of the parts that wait, where there is one, with the atoms that are words of it ("Standings")
module _ (E : Expr) (t : List ℕ) (few : occurrences E ≤ 64) (x : Shows (alt nowhere E) t) (w : ℕ) (e : w ≡ atoms_of (null E)) where
  abbrev told : List ℕ
  told = set t NULL w

  kept : (i : ℕ) → i < NULL → get_or told i 0 ≡ get_or t i 0
  kept i h = get_or-set_other t NULL i w 0 (λ z. omega arith)

  -- after nothing
  first_word : (a : ℕ) → a < 64 → get_or t (ROW * a) 0 ≡ occurrence_set (occurrences E) (λ q. next E 0 q a)
  first_word a h =
      within_set E (λ q. firsts E 0 q a) (get_or t (ROW * a) 0) (λ q. x.first a q h)
      (λ q i. false_of_not (firsts E 0 (suc q) a) (λ z. let (c, d) = firsts_range E 0 (suc q) a z in omega arith))

  -- after an occurrence
  step_word : (a p : ℕ) → a < 64 → p < 64 → get_or t (ROW * a + 1 + p) 0 ≡ occurrence_set (occurrences E) (λ q. next E (suc p) q a)
  step_word a p h l =
      within_set E (λ q. follows E 0 (suc p) q a) (get_or t (ROW * a + 1 + p) 0) (λ q. x.step a p q h l)
      (λ q i. false_of_not (follows E 0 (suc p) (suc q) a) (λ z. let (c, d) = follows_range E 0 (suc p) (suc q) a z in omega arith))

  step_at_lem : (a p : ℕ) → a < 64 → p < ROW → get_or t (ROW * a + p) 0 ≡ occurrence_set (occurrences E) (λ q. next E p q a)
  step_at_lem a zero h l = ap (λ i. get_or t i 0) (omega arith) ∙ first_word a h
  step_at_lem a (suc p) h l = ap (λ i. get_or t i 0) (omega arith) ∙ step_word a p h (omega arith)

  end_word : (a : ℕ) → a < 64 → get_or t (ENDS + a) 0 ≡ occurrence_set (occurrences E) (λ p. stop E p a)
  end_word a h =
      within_set E (λ p. stop E p a) (get_or t (ENDS + a) 0) (λ p. x.end a p h)
      (λ p i. false_of_not (lasts E 0 (suc p) a) (λ z. let (c, d) = lasts_range E 0 (suc p) a z in omega arith))

  letter_word : (r : ℕ) → r < 16 → get_or t (LETTERS + r) 0 ≡ occurrence_set (occurrences E) (λ q. reads E 0 q r)
  letter_word r h =
      within_set E (λ q. reads E 0 q r) (get_or t (LETTERS + r) 0) (λ q. x.letter r q h)
      (λ q i. false_of_not (reads E 0 (suc q) r) (λ z. let (c, d) = reads_range E 0 (suc q) r z in omega arith))

  inside : (i : ℕ) → i < NULL → get_or t i 0 ≡ get_or (side_table E) i 0
  inside i h =
      ⊎_elim
      (λ l. let z : i ≡ ROW * (i / ROW) + i % ROW = omega arith in
      ap (λ j. get_or t j 0) z ∙ step_at_lem (i / ROW) (i % ROW) (omega arith) (omega arith)
      ∙ sym (table_step E (i / ROW) (i % ROW) (omega arith) (omega arith)) ∙ ap (λ j. get_or (side_table E) j 0) (sym z))
      (λ l. ⊎_elim
      (λ m. let z : i ≡ ENDS + (i - ENDS) = omega arith in
      ap (λ j. get_or t j 0) z ∙ end_word (i - ENDS) (omega arith) ∙ sym (table_end E (i - ENDS) (omega arith))
      ∙ ap (λ j. get_or (side_table E) j 0) (sym z))
      (λ m. let z : i ≡ LETTERS + (i - LETTERS) = omega arith in
      ap (λ j. get_or t j 0) z ∙ letter_word (i - LETTERS) (omega arith) ∙ sym (table_letter E (i - LETTERS) (omega arith))
      ∙ ap (λ j. get_or (side_table E) j 0) (sym z))
      (lt_or_le i LETTERS))
      (lt_or_le i ENDS)

  pub told_table_lem : told ≡ side_table E
  told_table_lem =
      words_ext told TABLE (λ i. get_or (side_table E) i 0) (length-set t NULL w ∙ x.long) places
      ∙ sym (words_ext (side_table E) TABLE (λ i. get_or (side_table E) i 0) (table_length E) (λ i h. refl))
    where
      places : (i : ℕ) → i < TABLE → get_or told i 0 ≡ get_or (side_table E) i 0
      places i h =
          ⊎_elim
          (λ l. ap (λ j. get_or told j 0) l ∙ get_or-set_same t NULL w 0 (omega (arith, x.long)) ∙ e ∙ sym (table_null E) ∙ ap (λ j. get_or (side_table E) j 0) (sym l))
          (λ l. kept i (omega arith) ∙ inside i (omega arith))
          (same_or_not i NULL)
