-- The plain statements of a verdict exclude each other and settle what they name: a claim is not proved and refuted at one allowance,
-- nor proved or refuted and spent; two lists that prove have the same count, two words that refute are the same. And what is proved
-- or refuted by them passes as a sheet. None of this is about how a verdict is found.
-- Assumes nothing.
use Prim.Native.Nat.{ℕ, suc, ◌≤◌}
use native.Mathlib.Nat.{le_antisymm}
use native.Mathlib.Decide.{dec_lt}
use native.Mathlib.Omega.{arith}
use mathlib.Core.Path.{◌≡◌, refl, sym}
use mathlib.Core.Logic.{⊎_elim, by_cases}
use mathlib.Core.Logic.◌⊎◌.{inl, inr}
use mathlib.Core.Bool.{true}
use mathlib.Core.List.{List, [], ◌∷◌}
use lib.ListN.{length}
use Rattle.kat.specs.Lists.{In, here}
use Rattle.kat.specs.Word.{Word, end, size}
use Rattle.kat.specs.Ring.{onto}
use Rattle.kat.proofs.Sets.{in_member}
use Rattle.kat.proofs.Bools.{bool_cases, true_not_false}
use Rattle.verdicts.specs.Standings.{System}
use Rattle.verdicts.specs.Passing.{refuting, proving}
use Rattle.verdicts.specs.Verdicts.{Holds, ProvedBy, RefutedBy, SpentAt}
use Rattle.verdicts.specs.Lawful.{Lawful}
use Rattle.verdicts.proofs.Distinct.{distinct_no_longer}
use Rattle.verdicts.proofs.Order.{words_same}
use Rattle.verdicts.proofs.Prefixes
use Rattle.verdicts.proofs.Passing.{Listed, ClosedByLetters, closed_passes}

module _ (S : System) (c : ℕ) where
  pub proved_not_refuted : (ss : List S.Standing) (w : Word) → ProvedBy S c ss → RefutedBy S c w → ⊥
  proved_not_refuted ss w (none_refutes, d, all, few) (g, h, shorter, first, most) = true_not_false h (none_refutes w g)

  pub proved_not_spent : (ss : List S.Standing) (n : ℕ) → ProvedBy S c ss → SpentAt S c n → ⊥
  proved_not_spent ss n (none_refutes, d, all, few) ((ts, e, w, more), shorter, each) =
      let h = distinct_no_longer ts ss e (λ s i. let (m, k, x) = w s i in (all s).1 (m, x)) in
      omega arith

  pub refuted_not_spent : (w : Word) (n : ℕ) → RefutedBy S c w → SpentAt S c n → ⊥
  refuted_not_spent w n (g, h, shorter, first, most) ((ts, e, i, more), shorter', each) =
      by_cases (dec_lt (size w) n) (λ k. true_not_false h (shorter' w g k))
      (λ k. let q = most ts e (λ s j. let (m, b, x) = i s j in (m, omega arith, x)) in omega arith)

  -- the count is settled
  pub proved_same_count : (ss ts : List S.Standing) → ProvedBy S c ss → ProvedBy S c ts → length ss ≡ length ts
  proved_same_count ss ts (p, d, all, few) (q, e, all', few') =
      le_antisymm (distinct_no_longer ss ts d (λ s i. (all' s).1 ((all s).0 i))) (distinct_no_longer ts ss e (λ s i. (all s).1 ((all' s).0 i)))

  not_shorter : (w v : Word) → RefutedBy S c w → RefutedBy S c v → size v ≤ size w
  not_shorter w v (g, h, shorter, first, most) (g', h', shorter', first', most') =
      by_cases (dec_lt (size w) (size v)) (λ k. absurd (true_not_false h (shorter' w g k))) (λ k. omega arith)

  -- the word is settled
  pub refuted_same : (w v : Word) → RefutedBy S c w → RefutedBy S c v → w ≡ v
  refuted_same w v p q =
      let e : size w ≡ size v = le_antisymm (not_shorter v w q p) (not_shorter w v p q) in
      words_same w v (p.3 v q.0 (sym e) q.1) (q.3 w p.0 e p.1)

pub none_in_nil : (l : List ℕ) → ((a : ℕ) → In a l → ⊥) → l ≡ []
none_in_nil [] h = refl
none_in_nil (a ∷ as') h = absurd (h a (here refl))

module _ (S : System) (laws : Lawful S) (c : ℕ) where
  held_listed : (ss : List S.Standing) (s : S.Standing) → ProvedBy S c ss → (S.possible s ≡ true → (n : ℕ) × Holds S n s)
      → Listed S laws ss s
  held_listed ss s p h =
      ⊎_elim (λ o. inr ((p.2 s).1 (h o))) (λ o. inl o) (bool_cases (S.possible s))

  pub proved_closed : (ss : List S.Standing) → ProvedBy S c ss → ClosedByLetters S laws ss
  unfolding refuting
  proved_closed ss p =
      record {
        none_alone = none_in_nil S.alone (λ a i. true_not_false (in_member a i) (p.0 (end a) (in_member a (laws.alone_live a i))));
        begins = λ l h. held_listed ss (S.begin l) p (λ o. (1, Prefixes.holds_begin S l h o));
        goes_on = λ s l i h. held_listed ss (S.onward s l) p
            (λ o. let (n, x) = (p.2 s).0 i in (suc n, Prefixes.holds_onward S n s l x h o));
        completes_none = λ s i. none_in_nil (S.finals s) (λ b j.
            let (n, (l, st, q, o)) = (p.2 s).0 i in
            true_not_false (Prefixes.finals_refute S b st j) (p.0 (onto l (end b)) (Prefixes.finals_guarded S laws b st j)));
      }

  pub proved_passes : (ss : List S.Standing) → ProvedBy S c ss → proving S ss ≡ true
  proved_passes ss p = closed_passes S laws ss (proved_closed ss p)
