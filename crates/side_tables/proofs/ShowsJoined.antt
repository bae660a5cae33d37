-- A table that shows the parts that wait, after the last two of them are put in sequence: the tables of a part are false outside its range, so
-- that within the range of a part the table of all parts is that of this one.
-- Assumes nothing.
use Prim.Native.Nat.{ℕ, suc, ◌+◌, ◌*◌, ◌≤◌, ◌<◌}
use native.Mathlib.Omega.{arith}
use mathlib.Core.Path.{◌≡◌, refl, sym, ◌∙◌, ap, ap₂}
use mathlib.Core.Logic.{⊎_elim}
use mathlib.Core.Bool.{Bool, true, false, cond, not, ◌&&◌, ◌||◌, and-true, and-false, or-false, or_assoc}
use mathlib.Core.List.{List}
use lib.Bits.{bit_and, bit_or}
use lib.ListN.{length, get_or}
use Rattle.kat.specs.Expr.{Expr, alt, seq}
use Rattle.kat.specs.Tables.{occurrences, reads, null, firsts, lasts, follows}
use Rattle.kat.proofs.Bools.{false_of_not, lt_or_le}
use Rattle.kat.proofs.Ranges.{firsts_range, lasts_range}
use Rattle.claims.specs.Query.{bit}
use Rattle.bits.proofs.Bit.{bit-bit_or, bit-bit_and}
use Rattle.side_tables.specs.InPlace.{range_set, joined, kept_if, cut, sequenced}
use Rattle.side_tables.specs.Layout.{ENDS, LETTERS, NULL, TABLE, ROW}
use Rattle.side_tables.proofs.Changes.{joined_first, joined_end, joined_step, joined_above, joined_long}
use Rattle.side_tables.proofs.Marks.{cut_first, cut_end, cut_step, cut_above, cut_long}
use Rattle.side_tables.proofs.RangeSets.{range_small, range_in, range_below, range_above, kept_bit}
use Rattle.side_tables.proofs.Shows.{Shows}

-- a set of occurrences, by a test of each that is false outside a range
pub record Ranged (lo n : ℕ) (f : ℕ → Bool) : Type 0 where
  pub below : (q : ℕ) → q < lo → f q ≡ false
  pub above : (q : ℕ) → lo + n ≤ q → f q ≡ false

module _ (E : Expr) (k a : ℕ) where
  pub first_ranged : Ranged k (occurrences E) (λ q. firsts E k (suc q) a)
  first_ranged =
      record {
        below = λ q h. false_of_not (firsts E k (suc q) a) (λ e. let (x, y) = firsts_range E k (suc q) a e in omega arith);
        above = λ q h. false_of_not (firsts E k (suc q) a) (λ e. let (x, y) = firsts_range E k (suc q) a e in omega arith);
      }

  pub last_ranged : Ranged k (occurrences E) (λ q. lasts E k (suc q) a)
  last_ranged =
      record {
        below = λ q h. false_of_not (lasts E k (suc q) a) (λ e. let (x, y) = lasts_range E k (suc q) a e in omega arith);
        above = λ q h. false_of_not (lasts E k (suc q) a) (λ e. let (x, y) = lasts_range E k (suc q) a e in omega arith);
      }

-- three parts in a row, by a test of each: within the range of one only this one counts, and outside it only the others
module _ (k m n : ℕ) (u d e : ℕ → Bool) (ru : Ranged 0 k u) (rd : Ranged k m d) (re : Ranged (k + m) n e) (few : k + (m + n) ≤ 64) (q : ℕ) where
  abbrev all : Bool
  all = (u q || d q) || e q

  past : 64 ≤ q → all ≡ false
  past h = ap₂ ◌||◌ (ap₂ ◌||◌ (ru.above q (omega arith)) (rd.above q (omega arith))) (re.above q (omega arith))

  in_second : (all && bit q (range_set k (k + m))) ≡ d q
  in_second =
      ⊎_elim
      (λ h. ap (λ b. all && b) (range_below k (k + m) q h (omega arith)) ∙ and-false all ∙ sym (rd.below q h))
      (λ h. ⊎_elim
      (λ i. ap (λ b. all && b) (range_in k (k + m) q h i (omega arith)) ∙ and-true all
      ∙ ap₂ (λ x y. (x || d q) || y) (ru.above q (omega arith)) (re.below q i) ∙ or-false (d q))
      (λ i. ap (λ b. all && b) (range_above k (k + m) q i) ∙ and-false all ∙ sym (rd.above q i))
      (lt_or_le q (k + m)))
      (lt_or_le q k)

  in_third : (all && bit q (range_set (k + m) (k + (m + n)))) ≡ e q
  in_third =
      ⊎_elim
      (λ h. ap (λ b. all && b) (range_below (k + m) (k + (m + n)) q h (omega arith)) ∙ and-false all ∙ sym (re.below q h))
      (λ h. ⊎_elim
      (λ i. ap (λ b. all && b) (range_in (k + m) (k + (m + n)) q h i (omega arith)) ∙ and-true all
      ∙ ap₂ (λ x y. (x || y) || e q) (ru.above q (omega arith)) (rd.above q (omega arith)))
      (λ i. ap (λ b. all && b) (range_above (k + m) (k + (m + n)) q i) ∙ and-false all ∙ sym (re.above q (omega arith)))
      (lt_or_le q (k + (m + n))))
      (lt_or_le q (k + m))

  -- the third cut, where b does not hold
  third_cut : (b : Bool) → (all && (b || not (bit q (range_set (k + m) (k + (m + n)))))) ≡ (u q || (d q || (b && e q)))
  third_cut true = and-true all ∙ or_assoc (u q) (d q) (e q)
  third_cut false =
      ⊎_elim
      (λ h. ap (λ b. all && not b) (range_below (k + m) (k + (m + n)) q h (omega arith)) ∙ and-true all
      ∙ ap (λ y. (u q || d q) || y) (re.below q h) ∙ or_assoc (u q) (d q) false)
      (λ h. ⊎_elim
      (λ i. ap (λ b. all && not b) (range_in (k + m) (k + (m + n)) q h i (omega arith)) ∙ and-false all
      ∙ sym (ap₂ (λ x y. x || (y || false)) (ru.above q (omega arith)) (rd.above q (omega arith))))
      (λ i. ap (λ b. all && not b) (range_above (k + m) (k + (m + n)) q i) ∙ and-true all
      ∙ ap (λ y. (u q || d q) || y) (re.above q (omega arith)) ∙ or_assoc (u q) (d q) false)
      (lt_or_le q (k + (m + n))))
      (lt_or_le q (k + m))

  -- the second cut, where b does not hold
  second_cut : (b : Bool) → (all && (b || not (bit q (range_set k (k + m))))) ≡ (u q || ((d q && b) || e q))
  second_cut true = and-true all ∙ or_assoc (u q) (d q) (e q) ∙ ap (λ x. u q || (x || e q)) (sym (and-true (d q)))
  second_cut false =
      ⊎_elim
      (λ h. ap (λ b. all && not b) (range_below k (k + m) q h (omega arith)) ∙ and-true all ∙ or_assoc (u q) (d q) (e q)
      ∙ ap (λ x. u q || (x || e q)) (rd.below q h ∙ sym (and-false (d q))))
      (λ h. ⊎_elim
      (λ i. ap (λ b. all && not b) (range_in k (k + m) q h i (omega arith)) ∙ and-false all
      ∙ sym (ap₂ (λ x y. x || ((d q && false) || y)) (ru.above q (omega arith)) (re.below q i)
      ∙ or-false (d q && false) ∙ and-false (d q)))
      (λ i. ap (λ b. all && not b) (range_above k (k + m) q i) ∙ and-true all ∙ or_assoc (u q) (d q) (e q)
      ∙ ap (λ x. u q || (x || e q)) (rd.above q i ∙ sym (and-false (d q))))
      (lt_or_le q (k + m)))
      (lt_or_le q k)

-- the word after p with what may be first, where p may be last
pub joined_bit : (e from w f to p q : ℕ) → bit q (cond (bit p (bit_and e from)) (bit_or w (bit_and f to)) w)
    ≡ (bit q w || ((bit p e && bit p from) && (bit q f && bit q to)))
joined_bit e from w f to p q = ap (λ b. bit q (cond b (bit_or w (bit_and f to)) w)) (bit-bit_and p e from) ∙ go (bit p e && bit p from)
  where
    go : (b : Bool) → bit q (cond b (bit_or w (bit_and f to)) w) ≡ (bit q w || (b && (bit q f && bit q to)))
    go true = bit-bit_or q w (bit_and f to) ∙ ap (λ c. bit q w || c) (bit-bit_and q f to)
    go false = sym (or-false (bit q w))

-- a sequence
module _ {U D E : Expr} {t : List ℕ} (x : Shows (alt (alt U D) E) t) (k m n : ℕ) (isK : 0 + occurrences U ≡ k) (isM : occurrences D ≡ m)
    (isN : occurrences E ≡ n) (few : k + (m + n) ≤ 64) (v w : ℕ) (isV : (a : ℕ) → a < 64 → bit a v ≡ null D a) (isW : (a : ℕ) → a < 64 → bit a w ≡ null E a) where
  after_both : 0 + (occurrences U + occurrences D) ≡ k + m
  after_both = omega (arith, isK, isM)

  after_left : 0 + occurrences U + occurrences D ≡ k + m
  after_left = omega (arith, isK, isM)

  from_bits : (a q : ℕ) → ((firsts U 0 (suc q) a || firsts D (0 + occurrences U) (suc q) a) || firsts E (0 + (occurrences U + occurrences D)) (suc q) a)
      ≡ ((firsts U 0 (suc q) a || firsts D k (suc q) a) || firsts E (k + m) (suc q) a)
  from_bits a q = ap₂ (λ i j. (firsts U 0 (suc q) a || firsts D i (suc q) a) || firsts E j (suc q) a) isK after_both

  to_bits : (a q : ℕ) → ((lasts U 0 (suc q) a || lasts D (0 + occurrences U) (suc q) a) || lasts E (0 + (occurrences U + occurrences D)) (suc q) a)
      ≡ ((lasts U 0 (suc q) a || lasts D k (suc q) a) || lasts E (k + m) (suc q) a)
  to_bits a q = ap₂ (λ i j. (lasts U 0 (suc q) a || lasts D i (suc q) a) || lasts E j (suc q) a) isK after_both

  left_none : (a : ℕ) → Ranged 0 k (λ q. firsts U 0 (suc q) a)
  left_none a =
      let r = first_ranged U 0 a in
      record { below = r.below; above = λ q h. r.above q (omega (arith, isK)) }

  left_end : (a : ℕ) → Ranged 0 k (λ q. lasts U 0 (suc q) a)
  left_end a =
      let r = last_ranged U 0 a in
      record { below = r.below; above = λ q h. r.above q (omega (arith, isK)) }

  mid_first : (a : ℕ) → Ranged k m (λ q. firsts D k (suc q) a)
  mid_first a = let r = first_ranged D k a in record { below = r.below; above = λ q h. r.above q (omega (arith, isM)) }

  mid_end : (a : ℕ) → Ranged k m (λ q. lasts D k (suc q) a)
  mid_end a = let r = last_ranged D k a in record { below = r.below; above = λ q h. r.above q (omega (arith, isM)) }

  right_first : (a : ℕ) → Ranged (k + m) n (λ q. firsts E (k + m) (suc q) a)
  right_first a = let r = first_ranged E (k + m) a in record { below = r.below; above = λ q h. r.above q (omega (arith, isN)) }

  right_end : (a : ℕ) → Ranged (k + m) n (λ q. lasts E (k + m) (suc q) a)
  right_end a = let r = last_ranged E (k + m) a in record { below = r.below; above = λ q h. r.above q (omega (arith, isN)) }

  abbrev from : ℕ
  from = range_set k (k + m)

  abbrev to : ℕ
  to = range_set (k + m) (k + (m + n))

  abbrev both : List ℕ
  both = joined from to t

  long : length both ≡ TABLE
  long = joined_long from to t x.long

  first_bit : (a q : ℕ) → a < 64 → bit q (get_or t (ROW * a) 0) ≡ ((firsts U 0 (suc q) a || firsts D k (suc q) a) || firsts E (k + m) (suc q) a)
  first_bit a q h = x.first a q h ∙ from_bits a q

  end_bit : (a p : ℕ) → a < 64 → bit p (get_or t (ENDS + a) 0) ≡ ((lasts U 0 (suc p) a || lasts D k (suc p) a) || lasts E (k + m) (suc p) a)
  end_bit a p h = x.end a p h ∙ to_bits a p

  seq_first : (a q : ℕ) → a < 64 → bit q (get_or (cut from to v w both) (ROW * a) 0) ≡ firsts (alt U (seq D E)) 0 (suc q) a
  seq_first a q h =
      ap (bit q) (cut_first from to v w both long a h ∙ ap (kept_if (bit a v) to) (joined_first from to t x.long a h))
      ∙ kept_bit (bit a v) to (get_or t (ROW * a) 0) q (range_small (k + m) (k + (m + n)))
      (λ i. first_bit a q h ∙ past k m n _ _ _ (left_none a) (mid_first a) (right_first a) few q i)
      ∙ ap₂ (λ b c. b && (c || not (bit q to))) (first_bit a q h) (isV a h)
      ∙ third_cut k m n _ _ _ (left_none a) (mid_first a) (right_first a) few q (null D a)
      ∙ ap₂ (λ i j. firsts U 0 (suc q) a || (firsts D i (suc q) a || (null D a && firsts E j (suc q) a))) (sym isK) (sym after_left)

  seq_end : (a p : ℕ) → a < 64 → bit p (get_or (cut from to v w both) (ENDS + a) 0) ≡ lasts (alt U (seq D E)) 0 (suc p) a
  seq_end a p h =
      ap (bit p) (cut_end from to v w both long a h ∙ ap (kept_if (bit a w) from) (joined_end from to t x.long a h))
      ∙ kept_bit (bit a w) from (get_or t (ENDS + a) 0) p (range_small k (k + m))
      (λ i. end_bit a p h ∙ past k m n _ _ _ (left_end a) (mid_end a) (right_end a) few p i)
      ∙ ap₂ (λ b c. b && (c || not (bit p from))) (end_bit a p h) (isW a h)
      ∙ second_cut k m n _ _ _ (left_end a) (mid_end a) (right_end a) few p (null E a)
      ∙ ap₂ (λ i j. lasts U 0 (suc p) a || ((lasts D i (suc p) a && null E a) || lasts E j (suc p) a)) (sym isK) (sym after_left)

  seq_step : (a p q : ℕ) → a < 64 → p < 64 → bit q (get_or (cut from to v w both) (ROW * a + 1 + p) 0) ≡ follows (alt U (seq D E)) 0 (suc p) (suc q) a
  seq_step a p q h l =
      ap (bit q) (cut_step from to v w both long a p h l ∙ joined_step from to t x.long a p h l)
      ∙ joined_bit (get_or t (ENDS + a) 0) from (get_or t (ROW * a + 1 + p) 0) (get_or t (ROW * a) 0) to p q
      ∙ ap₂ ◌||◌ (x.step a p q h l)
      (ap₂ ◌&&◌ (ap (λ b. b && bit p from) (end_bit a p h) ∙ in_second k m n _ _ _ (left_end a) (mid_end a) (right_end a) few p)
      (ap (λ b. b && bit q to) (first_bit a q h) ∙ in_third k m n _ _ _ (left_none a) (mid_first a) (right_first a) few q))
      ∙ group (follows U 0 (suc p) (suc q) a) (follows D (0 + occurrences U) (suc p) (suc q) a) _ _
      ∙ ap (λ j. follows U 0 (suc p) (suc q) a
      || ((follows D (0 + occurrences U) (suc p) (suc q) a || follows E j (suc p) (suc q) a) || (lasts D k (suc p) a && firsts E (k + m) (suc q) a)))
      (after_both ∙ sym after_left)
      ∙ ap₂ (λ i j. follows U 0 (suc p) (suc q) a
      || ((follows D (0 + occurrences U) (suc p) (suc q) a || follows E (0 + occurrences U + occurrences D) (suc p) (suc q) a)
      || (lasts D i (suc p) a && firsts E j (suc q) a))) (sym isK) (sym after_left)
    where
      group : (b c d e : Bool) → (((b || c) || d) || e) ≡ (b || ((c || d) || e))
      group true c d e = refl
      group false c d e = refl

  pub shows_sequence : Shows (alt U (seq D E)) (sequenced k (k + m) (k + (m + n)) v w t)
  unfolding sequenced
  shows_sequence =
      record {
        long = cut_long from to v w both long;
        first = seq_first;
        step = seq_step;
        end = seq_end;
        letter = λ r q h.
            ap (bit q) (cut_above from to v w both long (LETTERS + r) (omega arith) ∙ joined_above from to t x.long (LETTERS + r) (omega arith))
            ∙ x.letter r q h ∙ or_assoc (reads U 0 (suc q) r) (reads D (0 + occurrences U) (suc q) r) _
            ∙ ap (λ j. reads U 0 (suc q) r || (reads D (0 + occurrences U) (suc q) r || reads E j (suc q) r)) (after_both ∙ sym after_left);
        untold = cut_above from to v w both long NULL (omega arith) ∙ joined_above from to t x.long NULL (omega arith) ∙ x.untold;
      }
