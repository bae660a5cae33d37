-- The judgement of a graph is the only one with its meaning: two judgements that both mean what the graph means are equal. So what
-- `judgement_is_meaning` says of the judge's answer fixes it. The idea: of two first unmet lines, and of two lowest events or pairs, the
-- later one has the other before it.
-- Assumes nothing.
use Prim.Native.Nat.{ℕ, zero, suc, ◌<◌, ◌≤◌}
use native.Mathlib.Omega.{arith}
use mathlib.Core.Path.{◌≡◌, refl, sym, ◌∙◌, ap}
use mathlib.Core.Logic.{◌⊎◌}
use mathlib.Core.Logic.◌⊎◌.{inl, inr}
use mathlib.Core.List.{List, [], ◌∷◌, ◌++◌}
use lib.ListN.{length}
use Rattle.kat.specs.Lists.{In, here, there}
use Rattle.kat.specs.Graph.{Finite, Graph, graph}
use Rattle.kat.proofs.Bools.{lt_or_le}
use Rattle.notation.specs.Tree.{Claim, includes, empty, irreflexive, Line}
use Rattle.notation.specs.Query.{Query}
use Rattle.claims.specs.Judgement.{Outcome, holds_in, breaks_at, breaks_from, Judgement}
use Rattle.claims.specs.Judgements.{BrokenAt, BrokenFrom, FirstUnmet, LowestAt, LowestFrom, OutcomeIsMeaning, JudgementIsMeaning}

-- numbers neither of which is lower are equal
neither_lower : (m n : ℕ) → (m < n → ⊥) → (n < m → ⊥) → m ≡ n
neither_lower m n h k = go (lt_or_le m n) (lt_or_le n m)
  where
    go : (m < n) ⊎ (n ≤ m) → (n < m) ⊎ (m ≤ n) → m ≡ n
    go (inl i) j = absurd (h i)
    go (inr i) (inl j) = absurd (k j)
    go (inr i) (inr j) = omega arith

-- of two places of one list, the sooner is before the later
sooner_is_before : {A : Type 0} (xs ys : List A) (x y : A) (as' bs : List A) → xs ++ (x ∷ as') ≡ ys ++ (y ∷ bs)
    → length xs < length ys → In x ys
sooner_is_before xs [] x y as' bs e h = absurd (omega arith)
sooner_is_before [] (z ∷ ys) x y as' bs e h =
    let p : x ≡ z = cc in here p
sooner_is_before (w ∷ xs) (z ∷ ys) x y as' bs e h =
    let p : xs ++ (x ∷ as') ≡ ys ++ (y ∷ bs) = cc in there (sooner_is_before xs ys x y as' bs p (omega arith))

module _ (G : Graph) (q : Query) where
  unmet_not_later : (ls : List Line) (m n : ℕ) → FirstUnmet G q ls m → FirstUnmet G q ls n → m < n → ⊥
  unmet_not_later ls m n f g h =
      f.unmet (g.met f.line
      (sooner_is_before f.before g.before f.line g.line f.after g.after (sym f.split ∙ g.split)
      (omega (arith, f.place, g.place))))

  -- a claim is broken by events or by pairs, not by both
  not_both : (c : Claim) (x u v : G.Event) → BrokenAt G q c x → BrokenFrom G q c u v → ⊥
  not_both (includes e f) x u v h k = h
  not_both (empty e) x u v h k = h
  not_both (irreflexive e) x u v h k = k

module _ (G : Finite) (q : Query) (c : Claim) where
  at_not_lower : (x y : ℕ) → LowestAt G q c x → LowestAt G q c y → x < y → ⊥
  at_not_lower x y l k h = k.none_lower l.event (omega (arith, l.number)) l.breaks

  from_not_lower : (x y u v : ℕ) → LowestFrom G q c x y → LowestFrom G q c u v → (x < u) ⊎ ((x ≡ u) × (y < v)) → ⊥
  from_not_lower x y u v l k (inl h) =
      k.none_lower l.from l.to (inl (omega (arith, l.from_number))) l.breaks
  from_not_lower x y u v l k (inr (h, i)) =
      k.none_lower l.from l.to (inr (l.from_number ∙ h, omega (arith, l.to_number))) l.breaks

  -- what holds is broken by nothing
  holds_alone : {o p : Outcome} → OutcomeIsMeaning G q c o → OutcomeIsMeaning G q c p → o ≡ holds_in → p ≡ holds_in
  holds_alone h k e = k.holds.1 (h.holds.0 e)

  pub one_outcome : (o p : Outcome) → OutcomeIsMeaning G q c o → OutcomeIsMeaning G q c p → o ≡ p
  one_outcome holds_in p h k = sym (holds_alone h k refl)
  one_outcome (breaks_at x) holds_in h k = holds_alone k h refl
  one_outcome (breaks_from x y) holds_in h k = holds_alone k h refl
  one_outcome (breaks_at x) (breaks_at y) h k =
      let l : LowestAt G q c x = h.breaks_at_lem x refl in
      let m : LowestAt G q c y = k.breaks_at_lem y refl in
      ap breaks_at (neither_lower x y (at_not_lower x y l m) (at_not_lower y x m l))
  one_outcome (breaks_at x) (breaks_from u v) h k =
      let l : LowestAt G q c x = h.breaks_at_lem x refl in
      let m : LowestFrom G q c u v = k.breaks_from_lem u v refl in
      absurd (not_both (graph G) q c l.event m.from m.to l.breaks m.breaks)
  one_outcome (breaks_from u v) (breaks_at x) h k =
      let l : LowestAt G q c x = k.breaks_at_lem x refl in
      let m : LowestFrom G q c u v = h.breaks_from_lem u v refl in
      absurd (not_both (graph G) q c l.event m.from m.to l.breaks m.breaks)
  one_outcome (breaks_from x y) (breaks_from u v) h k =
      let l : LowestFrom G q c x y = h.breaks_from_lem x y refl in
      let m : LowestFrom G q c u v = k.breaks_from_lem u v refl in
      let s : x ≡ u = neither_lower x u (λ i. from_not_lower x y u v l m (inl i)) (λ i. from_not_lower u v x y m l (inl i)) in
      let t : y ≡ v =
      neither_lower y v (λ i. from_not_lower x y u v l m (inr (s, i))) (λ i. from_not_lower u v x y m l (inr (sym s, i)))
      in
      (λ i. breaks_from (s i) (t i))

  one_line : (j k : Judgement) → JudgementIsMeaning G q c j → JudgementIsMeaning G q c k → (m n : ℕ) → j.line ≡ m → k.line ≡ n → m ≡ n
  one_line j k h i zero n e f = sym (i.meets_all.1 (h.meets_all.0 e)) ∙ f
  one_line j k h i (suc m) zero e f = sym e ∙ h.meets_all.1 (i.meets_all.0 f)
  one_line j k h i (suc m) (suc n) e f =
      let u : FirstUnmet (graph G) q q m = h.first_unmet m e in
      let v : FirstUnmet (graph G) q q n = i.first_unmet n f in
      ap suc (neither_lower m n (unmet_not_later (graph G) q q m n u v) (unmet_not_later (graph G) q q n m v u))

  -- two judgements with the meaning of the graph are equal
  pub one_judgement : (j k : Judgement) → JudgementIsMeaning G q c j → JudgementIsMeaning G q c k → j ≡ k
  one_judgement j k h i =
      let l : j.line ≡ k.line = one_line j k h i j.line k.line refl refl in
      let o : j.outcome ≡ k.outcome = one_outcome j.outcome k.outcome h.claim i.claim in
      (λ t. record { line = l t; outcome = o t })
