-- A table that shows the parts that wait, after the last of them is repeated. A part in which every occurrence that may be first may already
-- follow every one that may be last is not changed by a repetition; a repeated part is such a one.
-- Assumes nothing.
use Prim.Native.Nat.{ℕ, suc, ◌+◌, ◌*◌, ◌≤◌, ◌<◌}
use native.Mathlib.Omega.{arith}
use mathlib.Core.Path.{◌≡◌, refl, sym, ◌∙◌, ap, ap₂}
use mathlib.Core.Logic.{⊎_elim}
use mathlib.Core.Bool.{Bool, true, false, ◌&&◌, ◌||◌, and-true, and-false, or-false, or_assoc}
use mathlib.Core.List.{List}
use lib.ListN.{get_or}
use Rattle.kat.specs.Expr.{Expr, test, alt, plus, opt}
use Rattle.kat.specs.Tables.{occurrences, firsts, lasts, follows}
use Rattle.kat.proofs.Bools.{or_right, lt_or_le}
use Rattle.claims.specs.Query.{bit}
use Rattle.side_tables.specs.InPlace.{range_set, iterated}
use Rattle.side_tables.specs.Layout.{ENDS, LETTERS, NULL, ROW}
use Rattle.side_tables.proofs.Changes.{joined_first, joined_end, joined_step, joined_above, joined_long}
use Rattle.side_tables.proofs.RangeSets.{range_in, range_below, range_above}
use Rattle.side_tables.proofs.Shows.{Shows, shows_same}
use Rattle.side_tables.proofs.ShowsJoined.{Ranged, first_ranged, last_ranged, joined_bit}

-- every occurrence that may be first may follow every one that may be last
abbrev pub Looped : Expr → Type 0
Looped E = (k p q a : ℕ) → (lasts E k p a && firsts E k q a) ≡ true → follows E k p q a ≡ true

pub looped_test : (s : ℕ → Bool) → Looped (test s)
looped_test s k p q a e = e

pub looped_plus : (E : Expr) → Looped (plus E)
looped_plus E k p q a e = or_right (follows E k p q a) e

pub looped_opt : (E : Expr) → Looped E → Looped (opt E)
looped_opt E h k p q a e =
    ap (λ b. b || false) (h k p q a (sym (ap₂ ◌&&◌ (or-false (lasts E k p a)) (or-false (firsts E k q a))) ∙ e))

-- such a part, repeated
again_same : (E : Expr) → Looped E → (k p q a : ℕ) → (follows E k p q a || (lasts E k p a && firsts E k q a)) ≡ follows E k p q a
again_same E h k p q a = go (lasts E k p a && firsts E k q a) (h k p q a) (follows E k p q a)
  where
    go : (b : Bool) → (b ≡ true → follows E k p q a ≡ true) → (c : Bool) → (follows E k p q a || b) ≡ follows E k p q a
    go true f c = or_right (follows E k p q a) refl ∙ sym (f refl)
    go false f c = or-false (follows E k p q a)

pub shows_looped : {U E : Expr} {t : List ℕ} → Looped E → Shows (alt U E) t → Shows (alt U (plus E)) t
shows_looped {U} {E} h x =
    shows_same x (λ q a. refl)
    (λ p q a. ap (λ b. follows U 0 (suc p) (suc q) a || b) (sym (again_same E h (0 + occurrences U) (suc p) (suc q) a)))
    (λ p a. refl) (λ q r. refl)

-- two parts, by a test of each: within the range of the second only this one counts
in_last : (k n : ℕ) (u e : ℕ → Bool) → Ranged 0 k u → Ranged k n e → k + n ≤ 64 → (q : ℕ) → ((u q || e q) && bit q (range_set k (k + n))) ≡ e q
in_last k n u e ru re few q =
    ⊎_elim
    (λ h. ap (λ b. (u q || e q) && b) (range_below k (k + n) q h (omega arith)) ∙ and-false (u q || e q) ∙ sym (re.below q h))
    (λ h. ⊎_elim
    (λ i. ap (λ b. (u q || e q) && b) (range_in k (k + n) q h i (omega arith)) ∙ and-true (u q || e q)
    ∙ ap (λ x. x || e q) (ru.above q (omega arith)))
    (λ i. ap (λ b. (u q || e q) && b) (range_above k (k + n) q i) ∙ and-false (u q || e q) ∙ sym (re.above q i))
    (lt_or_le q (k + n)))
    (lt_or_le q k)

module _ {U E : Expr} {t : List ℕ} (x : Shows (alt U E) t) (k n : ℕ) (isK : 0 + occurrences U ≡ k) (isN : occurrences E ≡ n) (few : k + n ≤ 64) where
  abbrev within : ℕ
  within = range_set k (k + n)

  first_in_lem : (a q : ℕ) → a < 64 → (bit q (get_or t (ROW * a) 0) && bit q within) ≡ firsts E k (suc q) a
  first_in_lem a q h =
      let ru = first_ranged U 0 a in
      let re = first_ranged E k a in
      ap (λ b. b && bit q within) (x.first a q h ∙ ap (λ i. firsts U 0 (suc q) a || firsts E i (suc q) a) isK)
      ∙ in_last k n (λ q. firsts U 0 (suc q) a) (λ q. firsts E k (suc q) a)
      (record { below = ru.below; above = λ q i. ru.above q (omega (arith, isK)) })
      (record { below = re.below; above = λ q i. re.above q (omega (arith, isN)) }) few q

  end_in : (a p : ℕ) → a < 64 → (bit p (get_or t (ENDS + a) 0) && bit p within) ≡ lasts E k (suc p) a
  end_in a p h =
      let ru = last_ranged U 0 a in
      let re = last_ranged E k a in
      ap (λ b. b && bit p within) (x.end a p h ∙ ap (λ i. lasts U 0 (suc p) a || lasts E i (suc p) a) isK)
      ∙ in_last k n (λ q. lasts U 0 (suc q) a) (λ q. lasts E k (suc q) a)
      (record { below = ru.below; above = λ q i. ru.above q (omega (arith, isK)) })
      (record { below = re.below; above = λ q i. re.above q (omega (arith, isN)) }) few p

  pub shows_repeated : Shows (alt U (plus E)) (iterated k (k + n) t)
  unfolding iterated
  shows_repeated =
      record {
        long = joined_long within within t x.long;
        first = λ a q h. ap (bit q) (joined_first within within t x.long a h) ∙ x.first a q h;
        step = λ a p q h l.
            ap (bit q) (joined_step within within t x.long a p h l)
            ∙ joined_bit (get_or t (ENDS + a) 0) within (get_or t (ROW * a + 1 + p) 0) (get_or t (ROW * a) 0) within p q
            ∙ ap₂ ◌||◌ (x.step a p q h l) (ap₂ ◌&&◌ (end_in a p h) (first_in_lem a q h))
            ∙ or_assoc (follows U 0 (suc p) (suc q) a) (follows E (0 + occurrences U) (suc p) (suc q) a) _
            ∙ ap (λ i. follows U 0 (suc p) (suc q) a
            || (follows E (0 + occurrences U) (suc p) (suc q) a || (lasts E i (suc p) a && firsts E i (suc q) a))) (sym isK);
        end = λ a p h. ap (bit p) (joined_end within within t x.long a h) ∙ x.end a p h;
        letter = λ r q h. ap (bit q) (joined_above within within t x.long (LETTERS + r) (omega arith)) ∙ x.letter r q h;
        untold = joined_above within within t x.long NULL (omega arith) ∙ x.untold;
      }
