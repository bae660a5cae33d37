-- The verdict and the plain statements are one, for every lawful kind of standing: each answer means its statement, of the three
-- statements exactly one holds, and it settles the answer. The answers pass as sheets and keep to the allowance.
-- Assumes nothing.
use Prim.Native.Nat.{ℕ, suc, ◌≤◌}
use native.Mathlib.Omega.{arith}
use mathlib.Core.Path.{◌≡◌, refl, ◌∙◌, ap, subst}
use mathlib.Core.Logic.◌⊎◌.{inl, inr}
use mathlib.Core.Bool.{true}
use mathlib.Core.List.{List}
use lib.ListN.{length}
use Rattle.kat.specs.Word.{Word, size}
use Rattle.verdicts.specs.Standings.{System}
use Rattle.verdicts.specs.Passing.{refuting, proving}
use Rattle.verdicts.specs.Search.{Verdict, proved, refuted, spent, verdict}
use Rattle.verdicts.specs.Verdicts.{ProvedBy, RefutedBy, SpentAt, Answered, ExactlyOne}
use Rattle.verdicts.specs.Lawful.{Lawful}
use Rattle.verdicts.specs.Orders.{InOrder}
use Rattle.verdicts.proofs.Walk.{Means, verdict_means}
use Rattle.verdicts.proofs.Plain.{proved_not_refuted, proved_not_spent, refuted_not_spent, proved_same_count, refuted_same, proved_passes}

module _ (S : System) (laws : Lawful S) (allowance : ℕ) where
  means : (v : Verdict S) → verdict S allowance ≡ v → Means S allowance v
  means v e = subst (Means S allowance) e (verdict_means S laws allowance)

  pub proved_is_proved : (ss : List S.Standing) → verdict S allowance ≡ proved ss → ProvedBy S allowance ss
  proved_is_proved ss e = (means (proved ss) e).0

  pub refuted_is_least : (w : Word) → verdict S allowance ≡ refuted w → RefutedBy S allowance w
  refuted_is_least w e = (means (refuted w) e).0

  pub spent_is_spent : verdict S allowance ≡ spent → (n : ℕ) × SpentAt S allowance n
  spent_is_spent e = means spent e

  -- the standings stand in the order of their least prefixes
  pub proved_in_order : (ss : List S.Standing) → verdict S allowance ≡ proved ss → InOrder S ss
  proved_in_order ss e = (means (proved ss) e).1

  -- bounds
  pub proved_is_few : (ss : List S.Standing) → verdict S allowance ≡ proved ss → length ss ≤ allowance
  proved_is_few ss e = (proved_is_proved ss e).3

  pub refuted_is_within : (w : Word) → verdict S allowance ≡ refuted w → size w ≤ allowance
  refuted_is_within w e = (means (refuted w) e).1

  pub refuted_is_short : (w : Word) → verdict S allowance ≡ refuted w → size w ≤ suc allowance
  refuted_is_short w e = let h = refuted_is_within w e in omega arith

  -- sheets
  pub search_proved_passes : (ss : List S.Standing) → verdict S allowance ≡ proved ss → proving S ss ≡ true
  search_proved_passes ss e = proved_passes S laws allowance ss (proved_is_proved ss e)

  pub search_refuted_passes : (w : Word) → verdict S allowance ≡ refuted w → refuting S w ≡ true
  search_refuted_passes w e = (refuted_is_least w e).1

  pub exactly_one : ExactlyOne S allowance
  exactly_one =
      record {
        one = go (verdict S allowance) (verdict_means S laws allowance);
        not_proved_and_refuted = proved_not_refuted S allowance;
        not_proved_and_spent = proved_not_spent S allowance;
        not_refuted_and_spent = refuted_not_spent S allowance;
      }
    where
      go : (v : Verdict S) → Means S allowance v → Answered S allowance
      go (proved ss) m = inl (ss, m.0)
      go (refuted w) m = inr (inl (w, m.0))
      go spent m = inr (inr m)

  -- each statement settles the answer
  pub is_proved : (ss : List S.Standing) → ProvedBy S allowance ss
      → (ts : List S.Standing) × (verdict S allowance ≡ proved ts) × (length ts ≡ length ss)
  is_proved ss p = go (verdict S allowance) refl
    where
      go : (v : Verdict S) → verdict S allowance ≡ v
          → (ts : List S.Standing) × (verdict S allowance ≡ proved ts) × (length ts ≡ length ss)
      go (proved ts) e = (ts, e, proved_same_count S allowance ts ss (proved_is_proved ts e) p)
      go (refuted w) e = absurd (proved_not_refuted S allowance ss w p (refuted_is_least w e))
      go spent e = let (n, h) = spent_is_spent e in absurd (proved_not_spent S allowance ss n p h)

  pub is_refuted : (w : Word) → RefutedBy S allowance w → verdict S allowance ≡ refuted w
  is_refuted w p = go (verdict S allowance) refl
    where
      go : (v : Verdict S) → verdict S allowance ≡ v → verdict S allowance ≡ refuted w
      go (proved ss) e = absurd (proved_not_refuted S allowance ss w (proved_is_proved ss e) p)
      go (refuted v) e = e ∙ ap refuted (refuted_same S allowance v w (refuted_is_least v e) p)
      go spent e = let (n, h) = spent_is_spent e in absurd (refuted_not_spent S allowance w n p h)

  pub is_spent : (n : ℕ) → SpentAt S allowance n → verdict S allowance ≡ spent
  is_spent n p = go (verdict S allowance) refl
    where
      go : (v : Verdict S) → verdict S allowance ≡ v → verdict S allowance ≡ spent
      go (proved ss) e = absurd (proved_not_spent S allowance ss n (proved_is_proved ss e) p)
      go (refuted w) e = absurd (refuted_not_spent S allowance w n (refuted_is_least w e) p)
      go spent e = e
