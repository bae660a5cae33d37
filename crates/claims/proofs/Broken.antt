-- The test whether a finite graph breaks a line is right: where it is true the graph does not meet the line, where it is false it does.
-- So the judgement's line is 0 exactly when the graph meets all lines, and otherwise the number of the first line that it does not
-- meet. The idea: each test looks at all events, or pairs of events, for one that breaks the line.
-- Assumes nothing.
use Prim.Native.Nat.{ℕ, suc, ◌+◌, ◌<◌}
use native.Mathlib.Omega.{arith}
use mathlib.Core.Path.{◌≡◌, refl, sym, ap, subst}
use mathlib.Core.Logic.{◌⊎◌, ◌↔◌, ⊎_elim}
use mathlib.Core.Logic.◌⊎◌.{inl, inr}
use mathlib.Core.Bool.{Bool, true, false, not, ◌&&◌}
use mathlib.Core.List.{List, [], ◌∷◌}
use lib.ListN.{length, get_or}
use Rattle.kat.specs.Lists.{In, here, there, some}
use Rattle.kat.specs.Closure.{entry}
use Rattle.kat.specs.Graph.{Finite, graph}
use Rattle.kat.proofs.Bools.{bool_cases, true_not_false, and_left, and_right, and_both, not_true_false, false_not_true}
use Rattle.kat.proofs.Sets.{in_append_right}
use Rattle.notation.specs.Tree.{Tree, TestTree, Name, Line, test_line, rel_line, let_line, never_line, within_line, closed_line, assume_empty, assume_irreflexive, claim_line}
use Rattle.notation.specs.Query.{Query, tests, relations, index_of, holds}
use Rattle.notation.specs.Sides.{meant, single}
use Rattle.claims.specs.Judgement.{events, some_pair, judged, breaks, first_broken}
use Rattle.claims.specs.Meaning.{Related, Meets, MeetsAll}
use Rattle.claims.proofs.Pairs.{some_event, event_some, pairs_are_related}
use Rattle.claims.specs.Judgements.{FirstUnmet}

-- the test b says that P fails
pub record Denies (b : Bool) (P : Type 0) : Type 0 where
  pub broken : b ≡ true → P → ⊥
  pub met : b ≡ false → P

pub some_pair_lem : (G : Finite) (f : ℕ → ℕ → Bool) → some_pair G f ≡ true
    → (x : (graph G).Event) × (y : (graph G).Event) × (f x.0 y.0 ≡ true)
unfolding some_pair
some_pair_lem G f e =
    let (x, h) = some_event G (λ x. some (f x) (events G)) e in
    let (y, j) = some_event G (f x.0) h in
    (x, y, j)

pub pair_some : (G : Finite) (f : ℕ → ℕ → Bool) (x y : (graph G).Event) → f x.0 y.0 ≡ true → some_pair G f ≡ true
unfolding some_pair
pair_some G f x y h = event_some G (λ x. some (f x) (events G)) x (event_some G (f x.0) y h)

module _ (G : Finite) (q : Query) (known : (r : ℕ) (x y : (graph G).Event) → (graph G).edge r x y → r < length (relations q)) where
  pub judged_is_related : (e : Tree) (x y : (graph G).Event)
      → (entry (judged G q e) x.0 y.0 ≡ true) ↔ Related (graph G) q e x y
  unfolding judged
  judged_is_related e x y = pairs_are_related G (length (relations q)) known (meant q (single q) e) x y

  never_breaks : (t : TestTree) → Denies (breaks G q (never_line t)) (Meets (graph G) q (never_line t))
  unfolding breaks
  never_breaks t =
      record {
        broken = λ e m. let (x, h) = some_event G (λ x. holds (tests q) t (get_or G.atoms x 0)) e in m x h;
        met = λ e x h. true_not_false (event_some G (λ x. holds (tests q) t (get_or G.atoms x 0)) x h) e;
      }

  within_breaks : (n : Name) (t u : TestTree) → Denies (breaks G q (within_line n t u)) (Meets (graph G) q (within_line n t u))
  unfolding breaks
  within_breaks n t u =
      record {
        broken = λ e m.
            let (x, y, h) = some_pair_lem G bad e in
            let (a, b) = m x y (and_left (edge x.0 y.0) (not (good x.0 y.0)) h) in
            true_not_false (and_both a b)
            (not_true_false (good x.0 y.0) (and_right (edge x.0 y.0) (not (good x.0 y.0)) h));
        met = λ e x y h.
            let g : good x.0 y.0 ≡ true =
            ⊎_elim (λ g. g) (λ g. absurd (true_not_false (pair_some G bad x y (and_both h (false_not_true g))) e))
            (bool_cases (good x.0 y.0))
            in (
              and_left (holds (tests q) t (get_or G.atoms x.0 0)) (holds (tests q) u (get_or G.atoms y.0 0)) g,
              and_right (holds (tests q) t (get_or G.atoms x.0 0)) (holds (tests q) u (get_or G.atoms y.0 0)) g,
            );
      }
    where
      edge : ℕ → ℕ → Bool
      edge x y = G.edges (index_of n (relations q)) x y

      good : ℕ → ℕ → Bool
      good x y = holds (tests q) t (get_or G.atoms x 0) && holds (tests q) u (get_or G.atoms y 0)

      bad : ℕ → ℕ → Bool
      bad x y = edge x y && not (good x y)

  closed_breaks : (n : Name) → Denies (breaks G q (closed_line n)) (Meets (graph G) q (closed_line n))
  unfolding breaks
  closed_breaks n =
      record {
        broken = λ e m.
            let (x, y, h) = some_pair_lem G bad e in
            let (z, j) =
            some_event G (open_at x.0 y.0) (and_right (edge x.0 y.0) (some (open_at x.0 y.0) (events G)) h)
            in
            true_not_false
            (m x y z (and_left (edge x.0 y.0) (some (open_at x.0 y.0) (events G)) h)
            (and_left (edge y.0 z.0) (not (edge x.0 z.0)) j))
            (not_true_false (edge x.0 z.0) (and_right (edge y.0 z.0) (not (edge x.0 z.0)) j));
        met = λ e x y z h j.
            ⊎_elim (λ g. g)
            (λ g.
            let o = event_some G (open_at x.0 y.0) z (and_both j (false_not_true g)) in
            absurd (true_not_false (pair_some G bad x y (and_both h o)) e))
            (bool_cases (edge x.0 z.0));
      }
    where
      edge : ℕ → ℕ → Bool
      edge x y = G.edges (index_of n (relations q)) x y

      open_at : ℕ → ℕ → ℕ → Bool
      open_at x y z = edge y z && not (edge x z)

      bad : ℕ → ℕ → Bool
      bad x y = edge x y && some (open_at x y) (events G)

  empty_breaks : (e : Tree) → Denies (breaks G q (assume_empty e)) (Meets (graph G) q (assume_empty e))
  unfolding breaks
  empty_breaks e =
      record {
        broken = λ b m. let (x, y, h) = some_pair_lem G (entry (judged G q e)) b in m x y ((judged_is_related e x y).0 h);
        met = λ b x y h. true_not_false (pair_some G (entry (judged G q e)) x y ((judged_is_related e x y).1 h)) b;
      }

  irreflexive_breaks : (e : Tree) → Denies (breaks G q (assume_irreflexive e)) (Meets (graph G) q (assume_irreflexive e))
  unfolding breaks
  irreflexive_breaks e =
      record {
        broken = λ b m. let (x, h) = some_event G (λ x. entry (judged G q e) x x) b in m x ((judged_is_related e x x).0 h);
        met = λ b x h. true_not_false (event_some G (λ x. entry (judged G q e) x x) x ((judged_is_related e x x).1 h)) b;
      }

  -- a line that says nothing of graphs is met
  always_met : Denies false (Unit {0})
  always_met = record { broken = λ e m. true_not_false e refl; met = λ e. tt }

  pub breaks_is_broken : (l : Line) → Denies (breaks G q l) (Meets (graph G) q l)
  unfolding breaks
  breaks_is_broken (test_line n) = always_met
  breaks_is_broken (rel_line n) = always_met
  breaks_is_broken (let_line n e) = always_met
  breaks_is_broken (never_line t) = never_breaks t
  breaks_is_broken (within_line n t u) = within_breaks n t u
  breaks_is_broken (closed_line n) = closed_breaks n
  breaks_is_broken (assume_empty e) = empty_breaks e
  breaks_is_broken (assume_irreflexive e) = irreflexive_breaks e
  breaks_is_broken (claim_line c) = always_met

module _ (G : Finite) (q : Query) (known : (r : ℕ) (x y : (graph G).Event) → (graph G).edge r x y → r < length (relations q)) where
  -- counted from line suc n: all lines are met and the number is 0, or it is that of the first unmet one
  abbrev Found : ℕ → List Line → ℕ → Type 0
  Found n ls k =
      ((k ≡ 0) × ((l : Line) → In l ls → Meets (graph G) q l)) ⊎ ((m : ℕ) × (k ≡ suc (n + m)) × FirstUnmet (graph G) q ls m)

  found_on : (n : ℕ) (l : Line) (ls : List Line) (k : ℕ) → Meets (graph G) q l → Found (suc n) ls k → Found n (l ∷ ls) k
  found_on n l ls k h (inl (e, m)) = inl (e, all)
    where
      all : (l' : Line) → In l' (l ∷ ls) → Meets (graph G) q l'
      all l' (here p) = subst (Meets (graph G) q) (sym p) h
      all l' (there i) = m l' i
  found_on n l ls k h (inr (m, e, u)) =
      inr (
        suc m,
        omega arith,
        record {
          before = l ∷ u.before;
          line = u.line;
          after = u.after;
          split = ap (λ t. l ∷ t) u.split;
          place = ap suc u.place;
          met = all;
          unmet = u.unmet;
        },
      )
    where
      all : (l' : Line) → In l' (l ∷ u.before) → Meets (graph G) q l'
      all l' (here p) = subst (Meets (graph G) q) (sym p) h
      all l' (there i) = u.met l' i

  first_found : (n : ℕ) (ls : List Line) → Found n ls (first_broken G q (suc n) ls)
  unfolding first_broken
  first_found n [] = inl (refl, λ l i. elim i [ ])
  first_found n (l ∷ ls) = go (breaks G q l) (breaks_is_broken G q known l) (first_found (suc n) ls)
    where
      rest : ℕ
      rest = first_broken G q (suc (suc n)) ls

      go : (b : Bool) → Denies b (Meets (graph G) q l) → Found (suc n) ls rest
          → Found n (l ∷ ls) (elim b [ true ↦ suc n | false ↦ rest ])
      go true r f =
          inr (
            0,
            omega arith,
            record {
              before = [];
              line = l;
              after = ls;
              split = refl;
              place = refl;
              met = λ l i. elim i [ ];
              unmet = r.broken refl;
            },
          )
      go false r f = found_on n l ls rest (r.met refl) f

  found_zero : (k : ℕ) → Found 0 q k → (k ≡ 0) ↔ MeetsAll (graph G) q
  found_zero k (inl (e, m)) = ((λ z. m), (λ z. e))
  found_zero k (inr (m, e, u)) = (
    (λ z. absurd (omega arith)),
    (λ a. absurd (u.unmet (a u.line (subst (In u.line) (sym u.split) (in_append_right u.before (here refl)))))),
  )

  found_suc : (k m : ℕ) → Found 0 q k → k ≡ suc m → FirstUnmet (graph G) q q m
  found_suc k m (inl (e, a)) z = absurd (omega arith)
  found_suc k m (inr (i, e, u)) z = let w : i ≡ m = omega arith in subst (FirstUnmet (graph G) q q) w u

  -- the number is 0 exactly when all lines are met, and suc m when line suc m is the first unmet one
  pub zero_is_all_met : (first_broken G q 1 q ≡ 0) ↔ MeetsAll (graph G) q
  zero_is_all_met = found_zero (first_broken G q 1 q) (first_found 0 q)

  pub first_broken_lem : (m : ℕ) → first_broken G q 1 q ≡ suc m → FirstUnmet (graph G) q q m
  first_broken_lem m e = found_suc (first_broken G q 1 q) m (first_found 0 q) e
