-- The verdict means what the plain statements say, for every lawful kind of standing. The idea: what is known at a level goes over to
-- the next one, and the fuel lasts, since each level but the last adds a standing: before it is out, more are seen than allowed.
-- Assumes nothing.
use Prim.Native.Nat.{ℕ, zero, suc, ◌+◌, ◌≤◌, zero-le}
use native.Mathlib.Nat.{eq-or-lt_of_le}
use native.Mathlib.Omega.{arith}
use mathlib.Core.Path.{◌≡◌, refl, ap, subst}
use mathlib.Core.Logic.{⊎_elim}
use mathlib.Core.Logic.◌⊎◌.{inl, inr}
use mathlib.Core.Bool.{Bool, true, false}
use mathlib.Core.List.{List, [], ◌∷◌, ◌++◌}
use mathlib.Core.Option.{Option, some, none}
use lib.Dec.{ltb}
use lib.ListN.{length, length-append}
use borrow.Author.Tests.{ltb-true, ltb-false}
use Rattle.kat.specs.Lists.{In, here}
use Rattle.kat.specs.Word.{Word, end, at, size, numbers}
use Rattle.kat.proofs.Sets.{member_in, in_member}
use Rattle.verdicts.specs.Standings.{System, letters}
use Rattle.verdicts.specs.Passing.{refuting}
use Rattle.verdicts.specs.Search.{Entry, Verdict, proved, refuted, spent, first_level, next_level, fresh, completed, levels, verdict_within, verdict}
use Rattle.notation.specs.Words.{Guarded}
use Rattle.verdicts.specs.Verdicts.{NotAfter, Within, ProvedBy, RefutedBy, SpentAt}
use Rattle.verdicts.specs.Lawful.{Lawful}
use Rattle.verdicts.specs.Orders.{Rising, InOrder}
use Rattle.verdicts.proofs.Fresh.{standings}
use Rattle.verdicts.proofs.Candidates.{Completes, completed_some}
use Rattle.verdicts.proofs.Levels.{Reached, within_none, start_behind, first_offered, fresh_reached, longer, next_behind, next_offered}
use Rattle.verdicts.proofs.Ordered.{OrderedTo, start_ordered, next_ordered}
use Rattle.verdicts.proofs.Answers.{first_lowest, spent_here, refuted_size, refuted_here, proved_here}

-- what a verdict says; the list that proves is in order, and a refuting word is no longer than the allowance
abbrev pub Means : (S : System) → ℕ → Verdict S → Type 0
Means S c (proved ss) = ProvedBy S c ss × InOrder S ss
Means S c (refuted w) = RefutedBy S c w × (size w ≤ c)
Means S c spent = (n : ℕ) × SpentAt S c n

-- the cases of the search
module _ (S : System) (f c : ℕ) (seen : List (Entry S)) where
  pub levels_spent : (new : List (Entry S)) → ltb c (length seen) ≡ true → levels S (suc f) c seen new ≡ spent
  unfolding levels
  levels_spent new h = rw (h, levels) refl

  pub levels_refuted : (new : List (Entry S)) (w : Word) → ltb c (length seen) ≡ false → completed S new ≡ some w
      → levels S (suc f) c seen new ≡ refuted w
  unfolding levels
  levels_refuted new w h e = rw (h, e, levels) refl

  pub levels_proved : ltb c (length seen) ≡ false → levels S (suc f) c seen [] ≡ proved (standings S seen)
  unfolding levels completed
  levels_proved h = rw (h, levels) refl

  pub levels_next : (e : Entry S) (es : List (Entry S)) → ltb c (length seen) ≡ false → completed S (e ∷ es) ≡ none
      → levels S (suc f) c seen (e ∷ es)
      ≡ levels S f c (seen ++ fresh S seen (next_level S (e ∷ es))) (fresh S seen (next_level S (e ∷ es)))
  unfolding levels
  levels_next e es h q = rw (h, q, levels) refl

module _ (S : System) (laws : Lawful S) (c : ℕ) where
  -- the answers of a level
  module _ (f k : ℕ) (seen new : List (Entry S)) (r : Reached S laws k seen new) where
    spent_means : ltb c (length (seen ++ new)) ≡ true → Means S c (levels S (suc f) c (seen ++ new) new)
    spent_means h =
        rw (levels_spent S f c (seen ++ new) new h)
        (suc k, spent_here S laws c k seen new r (ltb-true c (length (seen ++ new)) h))

    refuted_means : (w : Word) → ltb c (length (seen ++ new)) ≡ false → completed S new ≡ some w
        → Means S c (levels S (suc f) c (seen ++ new) new)
    refuted_means w h e =
        let n : length (seen ++ new) ≤ c = ltb-false c (length (seen ++ new)) h in
        let t : Completes S new w = completed_some S new w e in
        let q : size w ≡ suc k = refuted_size S laws c k seen new r w t in
        let m : suc k ≤ length (seen ++ new) = longer S laws k seen new r t.entry t.inside in
        rw (levels_refuted S f c (seen ++ new) new w h e) (refuted_here S laws c k seen new r w t n, omega arith)

  proved_means : (f k : ℕ) (seen : List (Entry S)) → Reached S laws k seen [] → OrderedTo S k seen
      → ltb c (length (seen ++ [])) ≡ false → Means S c (levels S (suc f) c (seen ++ []) [])
  proved_means f k seen r o h =
      rw (levels_proved S f c (seen ++ []) h) (
        proved_here S laws c k seen r (ltb-false c (length (seen ++ [])) h),
        (seen ++ [], refl, (next_ordered S laws k seen [] r o).ordered),
      )

  -- f turns from level k + 1 on mean what they should
  abbrev FromOn : ℕ → ℕ → Type 0
  FromOn f k = (seen new : List (Entry S)) → Reached S laws k seen new → OrderedTo S k seen → Means S c (levels S f c (seen ++ new) new)

  next_means : (f k : ℕ) (seen : List (Entry S)) (e : Entry S) (es : List (Entry S)) → Reached S laws k seen (e ∷ es)
      → OrderedTo S k seen → FromOn f (suc k) → ltb c (length (seen ++ (e ∷ es))) ≡ false → completed S (e ∷ es) ≡ none
      → Means S c (levels S (suc f) c (seen ++ (e ∷ es)) (e ∷ es))
  next_means f k seen e es r o on h q =
      rw (levels_next S f c (seen ++ (e ∷ es)) e es h q)
      (on (seen ++ (e ∷ es)) (fresh S (seen ++ (e ∷ es)) (next_level S (e ∷ es)))
      (fresh_reached S laws (suc k) (seen ++ (e ∷ es)) (next_level S (e ∷ es))
      (next_behind S laws k seen (e ∷ es) r q e (here refl)) (next_offered S laws k seen (e ∷ es) r))
      (next_ordered S laws k seen (e ∷ es) r o))

  -- a level within the allowance
  quiet_means : (f k : ℕ) → FromOn f (suc k) → (seen new : List (Entry S)) → Reached S laws k seen new → OrderedTo S k seen
      → ltb c (length (seen ++ new)) ≡ false → completed S new ≡ none → Means S c (levels S (suc f) c (seen ++ new) new)
  quiet_means f k on seen [] r o h q = proved_means f k seen r o h
  quiet_means f k on seen (e ∷ es) r o h q = next_means f k seen e es r o on h q

  level_means : (f k : ℕ) → FromOn f (suc k) → FromOn (suc f) k
  level_means f k on seen new r o = go (ltb c (length (seen ++ new))) (completed S new) refl refl
    where
      go : (b : Bool) (w : Option Word) → ltb c (length (seen ++ new)) ≡ b → completed S new ≡ w
          → Means S c (levels S (suc f) c (seen ++ new) new)
      go true w h e = spent_means f k seen new r h
      go false (some w) h e = refuted_means f k seen new r w h e
      go false none h e = quiet_means f k on seen new r o h e

  -- where the fuel is out, more are seen than allowed
  out_means : (k : ℕ) → c + 2 ≤ k → FromOn 0 k
  unfolding levels
  out_means k h seen new r o =
      let b = r.behind.filled in (suc k, spent_here S laws c k seen new r (rw (length-append seen new) (omega arith)))

  levels_mean : (f k : ℕ) → c + 2 ≤ f + k → FromOn f k
  levels_mean zero k h = out_means k (omega arith)
  levels_mean (suc f) k h = level_means f k (levels_mean f (suc k) (omega arith))

  -- level 0 has no standing, and its words are the atoms alone
  none_within : (ss : List S.Standing) → ((s : S.Standing) → In s ss → Within S 0 s) → length ss ≤ c
  none_within [] w = zero-le
  none_within (s ∷ ss) w = absurd (within_none S laws s (w s (here refl)))

  alone_means : (a : ℕ) (as' : List ℕ) → S.alone ≡ a ∷ as' → RefutedBy S c (end a)
  unfolding refuting
  alone_means a as' e =
      let i : In a S.alone = rw e (here refl) in (
        in_member a (laws.alone_live a i),
        in_member a i,
        (λ v g h. absurd (omega arith)),
        alone_first,
        (λ ss d w. none_within ss w),
      )
    where
      alone_first : (v : Word) → Guarded S.live S.relations v → size v ≡ 0 → refuting S v ≡ true → NotAfter (a ∷ []) (numbers v)
      alone_first (end b) g n h =
          ⊎_elim (λ q. inr (q, tt)) (λ q. inl q)
          (eq-or-lt_of_le (first_lowest a as' b (subst Rising e laws.alone_rising) (subst (In b) e (member_in b S.alone h))))
      alone_first (at b r v) g n h = absurd (omega arith)

  -- the search by the refuting atoms
  abbrev pub opening : ℕ → List ℕ → Verdict S
  opening f as' =
      elim as' [
        | a ∷ bs ↦ refuted (end a)
        | [] ↦ levels S f c (fresh S [] (first_level S (letters S))) (fresh S [] (first_level S (letters S)))
      ]

  pub verdict_opens : (f : ℕ) (as' : List ℕ) → S.alone ≡ as' → verdict_within S f c ≡ opening f as'
  unfolding verdict_within
  verdict_opens f as' e = ap (opening f) e

  -- the first level, where no atom refutes by itself
  pub first_reached : S.alone ≡ [] → Reached S laws 0 [] (fresh S [] (first_level S (letters S)))
  first_reached e = fresh_reached S laws 0 [] (first_level S (letters S)) (start_behind S laws e) (first_offered S laws)

  within_means : (f : ℕ) → c + 2 ≤ f → Means S c (verdict_within S f c)
  within_means f h = go S.alone refl
    where
      go : (as' : List ℕ) → S.alone ≡ as' → Means S c (verdict_within S f c)
      go [] e =
          rw (verdict_opens f [] e)
          (levels_mean f 0 (omega arith) [] (fresh S [] (first_level S (letters S))) (first_reached e) (start_ordered S))
      go (a ∷ as') e = rw (verdict_opens f (a ∷ as') e) (alone_means a as' e, zero-le)

  pub verdict_means : Means S c (verdict S c)
  unfolding verdict
  verdict_means = within_means (suc (suc c)) (omega arith)
