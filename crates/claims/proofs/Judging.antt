-- The judgement of a finite graph is its relational meaning: the line is 0 exactly when the graph meets all lines and else the number of
-- the first line that it does not meet; the outcome says whether the claim holds, or the lowest event or pair that breaks it. The idea:
-- `Pairs` gives the meaning of the tables, `Broken` that of the lines, `Lowest` that of the searches; here they are put together.
-- It is asked that each edge be of one of the query's relations.
-- Assumes nothing.
use Prim.Native.Nat.{ℕ, ◌<◌}
use native.Mathlib.Omega.{arith}
use mathlib.Core.Path.{◌≡◌, refl, subst}
use mathlib.Core.Logic.{◌⊎◌, ◌↔◌, ⊎_elim}
use mathlib.Core.Logic.◌⊎◌.{inl, inr}
use mathlib.Core.Bool.{Bool, true, false, not, ◌&&◌}
use lib.Dec.{ltb→lt, lt→ltb}
use lib.ListN.{length}
use Rattle.kat.specs.Lists.{upto}
use Rattle.kat.specs.Closure.{entry}
use Rattle.kat.specs.Graph.{Finite, Graph, graph}
use Rattle.kat.proofs.Bools.{bool_cases, true_not_false, and_left, and_right, and_both, not_true_false, false_not_true, false_of_not}
use Rattle.notation.specs.Tree.{Tree, Claim, includes, empty, irreflexive}
use Rattle.notation.specs.Query.{Query, relations}
use Rattle.claims.specs.Judgement.{Outcome, holds_in, breaks_at, breaks_from, events, judged, claimed, lowest_event, lowest_pair, judgement}
use Rattle.claims.specs.Meaning.{ClaimHolds}
use Rattle.claims.specs.Judgements.{BrokenAt, BrokenFrom, LowestAt, LowestFrom, OutcomeIsMeaning, JudgementIsMeaning}
use Rattle.claims.proofs.Broken.{judged_is_related, zero_is_all_met, first_broken_lem}
use Rattle.claims.proofs.Lowest.{NoneOrLowest, LowestPair, lowest_event_lem, lowest_pair_lem}

module _ (G : Graph) (q : Query) where
  at_fails : (c : Claim) (x : G.Event) → BrokenAt G q c x → ClaimHolds G q c → ⊥
  at_fails (includes e f) x b h = b
  at_fails (empty e) x b h = b
  at_fails (irreflexive e) x b h = h x b

  from_fails : (c : Claim) (x y : G.Event) → BrokenFrom G q c x y → ClaimHolds G q c → ⊥
  from_fails (includes e f) x y (r, n) h = n (h x y r)
  from_fails (empty e) x y b h = h x y b
  from_fails (irreflexive e) x y b h = b

module _ (G : Finite) (q : Query) (c : Claim) where
  -- an outcome with what it stands for
  outcome_holds : {o : Outcome} → o ≡ holds_in → ClaimHolds (graph G) q c → OutcomeIsMeaning G q c o
  outcome_holds {o} e h =
      record {
        holds = ((λ p. h), (λ p. e));
        breaks_at_lem = λ x p. let z : ◌≡◌ {A = ℕ} 0 1 = cc in absurd (omega arith);
        breaks_from_lem = λ x y p. let z : ◌≡◌ {A = ℕ} 0 1 = cc in absurd (omega arith);
      }

  outcome_at : {o : Outcome} {x : ℕ} → o ≡ breaks_at x → LowestAt G q c x → OutcomeIsMeaning G q c o
  outcome_at {o} {x} e l =
      record {
        holds = (
          (λ p. let z : ◌≡◌ {A = ℕ} 0 1 = cc in absurd (omega arith)),
          (λ h. absurd (at_fails (graph G) q c l.event l.breaks h)),
        );
        breaks_at_lem = λ y p. let z : x ≡ y = cc in subst (LowestAt G q c) z l;
        breaks_from_lem = λ y w p. let z : ◌≡◌ {A = ℕ} 0 1 = cc in absurd (omega arith);
      }

  outcome_from : {o : Outcome} {x y : ℕ} → o ≡ breaks_from x y → LowestFrom G q c x y → OutcomeIsMeaning G q c o
  outcome_from {o} {x} {y} e l =
      record {
        holds = (
          (λ p. let z : ◌≡◌ {A = ℕ} 0 1 = cc in absurd (omega arith)),
          (λ h. absurd (from_fails (graph G) q c l.from l.to l.breaks h)),
        );
        breaks_at_lem = λ w p. let z : ◌≡◌ {A = ℕ} 0 1 = cc in absurd (omega arith);
        breaks_from_lem = λ w v p.
            let zx : x ≡ w = cc in
            let zy : y ≡ v = cc in
            subst (LowestFrom G q c w) zy (subst (λ u. LowestFrom G q c u y) zx l);
      }

  -- a search by a test that says whether an event, or a pair, breaks the claim
  by_events : (f : ℕ → Bool) → ((x : (graph G).Event) → (f x.0 ≡ true) ↔ BrokenAt (graph G) q c x)
      → (((x : (graph G).Event) → BrokenAt (graph G) q c x → ⊥) → ClaimHolds (graph G) q c)
      → OutcomeIsMeaning G q c (lowest_event f (events G))
  unfolding events
  by_events f is all = go (lowest_event f (upto 0 n)) (lowest_event_lem f n)
    where
      n : ℕ
      n = length G.atoms

      go : (o : Outcome) → NoneOrLowest f breaks_at n o → OutcomeIsMeaning G q c o
      go o (inl (e, a)) =
          outcome_holds e (all (λ x b. true_not_false ((is x).1 b) (a x.0 (ltb→lt x.0 n x.1))))
      go o (inr l) =
          let v : (graph G).Event = (l.at, lt→ltb l.at n l.below) in
          outcome_at l.is (record {
            event = v;
            number = refl;
            breaks = (is v).0 l.passes;
            none_lower = λ w h b. true_not_false ((is w).1 b) (l.none_lower w.0 h);
          })

  by_pairs : (f : ℕ → ℕ → Bool) → ((x y : (graph G).Event) → (f x.0 y.0 ≡ true) ↔ BrokenFrom (graph G) q c x y)
      → (((x y : (graph G).Event) → BrokenFrom (graph G) q c x y → ⊥) → ClaimHolds (graph G) q c)
      → OutcomeIsMeaning G q c (lowest_pair f (events G) (events G))
  unfolding events
  by_pairs f is all = go (lowest_pair f (upto 0 n) (upto 0 n)) (lowest_pair_lem f n)
    where
      n : ℕ
      n = length G.atoms

      go : (o : Outcome) → ((o ≡ holds_in) × ((w z : ℕ) → w < n → z < n → f w z ≡ false)) ⊎ LowestPair f n o
          → OutcomeIsMeaning G q c o
      go o (inl (e, a)) =
          outcome_holds e
          (all (λ x y b. true_not_false ((is x y).1 b) (a x.0 y.0 (ltb→lt x.0 n x.1) (ltb→lt y.0 n y.1))))
      go o (inr l) =
          let u : (graph G).Event = (l.from, lt→ltb l.from n l.from_below) in
          let v : (graph G).Event = (l.to, lt→ltb l.to n l.to_below) in
          outcome_from l.is (record {
            from = u;
            to = v;
            from_number = refl;
            to_number = refl;
            breaks = (is u v).0 l.passes;
            none_lower = λ w z h b.
                true_not_false ((is w z).1 b) (l.none_lower w.0 z.0 (ltb→lt z.0 n z.1) h);
          })

module _ (G : Finite) (q : Query) (known : (r : ℕ) (x y : (graph G).Event) → (graph G).edge r x y → r < length (relations q)) where
  outside : (e f : Tree) (x y : (graph G).Event)
      → ((entry (judged G q e) x.0 y.0 && not (entry (judged G q f) x.0 y.0)) ≡ true)
      ↔ BrokenFrom (graph G) q (includes e f) x y
  outside e f x y =
      let a : Bool = entry (judged G q e) x.0 y.0 in
      let b : Bool = entry (judged G q f) x.0 y.0 in (
        (λ h. (
          (judged_is_related G q known e x y).0 (and_left a (not b) h),
          λ r. true_not_false ((judged_is_related G q known f x y).1 r) (not_true_false b (and_right a (not b) h)),
        )),
        (λ (r, n). and_both ((judged_is_related G q known e x y).1 r)
            (false_not_true (false_of_not b (λ h. n ((judged_is_related G q known f x y).0 h))))),
      )

  inside : (e f : Tree) → ((x y : (graph G).Event) → BrokenFrom (graph G) q (includes e f) x y → ⊥)
      → ClaimHolds (graph G) q (includes e f)
  inside e f none x y r =
      let b : Bool = entry (judged G q f) x.0 y.0 in
      ⊎_elim (λ h. (judged_is_related G q known f x y).0 h)
      (λ h. absurd (none x y (r, λ s. true_not_false ((judged_is_related G q known f x y).1 s) h)))
      (bool_cases b)

  pub claim_outcome : (c : Claim) → OutcomeIsMeaning G q c (claimed G q c)
  unfolding claimed
  claim_outcome (includes e f) =
      by_pairs G q (includes e f) (λ x y. entry (judged G q e) x y && not (entry (judged G q f) x y)) (outside e f) (inside e f)
  claim_outcome (empty e) =
      by_pairs G q (empty e) (entry (judged G q e)) (judged_is_related G q known e) (λ none. none)
  claim_outcome (irreflexive e) =
      by_events G q (irreflexive e) (λ x. entry (judged G q e) x x) (λ x. judged_is_related G q known e x x) (λ none. none)

  pub judgement_is_meaning : (c : Claim) → JudgementIsMeaning G q c (judgement G q c)
  unfolding judgement
  judgement_is_meaning c =
      record {
        meets_all = zero_is_all_met G q known;
        first_unmet = first_broken_lem G q known;
        claim = claim_outcome c;
      }
