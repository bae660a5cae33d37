-- The listed form of a finite execution graph: it has the same events and the same edges between them, each edge once, so it is as the
-- graph reader asks where there are at most 64 events, and its judgement is that of the graph. So every such graph can be given to the
-- judge as bytes. The idea: graphs with the same edges mean the same, and a judgement is fixed by the meaning.
-- Assumes nothing.
use Prim.Native.Nat.{ℕ, suc, ◌<◌, ◌≤◌, zero-le}
use native.Mathlib.Omega.{arith}
use mathlib.Core.Path.{◌≡◌, refl, sym, ap, subst}
use mathlib.Core.Logic.{◌↔◌}
use mathlib.Core.Bool.{true}
use mathlib.Core.List.{List, [], ◌∷◌, map, flat_map}
use lib.Dec.{ltb→lt, lt→ltb}
use lib.ListN.{length, get_or}
use Rattle.kat.specs.Lists.{In, here, there, upto, filter}
use Rattle.kat.specs.Graph.{Finite, graph}
use Rattle.kat.proofs.Sets.{filter_in, in_filter, in_map, map_in, in_upto, upto_in}
use Rattle.notation.specs.Tree.{Claim}
use Rattle.notation.specs.Query.{Query, atoms, relations}
use Rattle.claims.specs.Meaning.{Execution}
use Rattle.verdicts.specs.Verdicts.{Distinct}
use Rattle.verdicts.specs.Orders.{Pairwise, Rising}
use Rattle.claims.specs.GraphBytes.{Edge, Listed, finite}
use Rattle.claims.specs.GraphWriting.{WellListed, edge_of, edges_over, is_edge, listed_of}
use Rattle.claims.specs.Judgement.{Outcome, Judgement, judgement}
use Rattle.claims.specs.Judgements.{LowestAt, LowestFrom, OutcomeIsMeaning, JudgementIsMeaning}
use Rattle.verdicts.proofs.Pairwise.{pairwise_filter, pairwise_map, in_rows, rows_in, pairwise_rows, rising_upto}
use Rattle.claims.proofs.GraphReading.{ranges_of, edge_is_listed}
use Rattle.claims.proofs.Judging.{judgement_is_meaning}
use Rattle.claims.proofs.OneJudgement.{one_judgement}
use Rattle.claims.proofs.SameEdges.{same_all_met, same_claims, same_at, same_from, same_first_unmet}

-- two edges that are not equal
abbrev Apart : Edge → Edge → Type 0
Apart e f = e ≡ f → ⊥

apart_distinct : (es : List Edge) → Pairwise Apart es → Distinct es
apart_distinct [] p = tt
apart_distinct (e ∷ es) (h, p) = ((λ i. h e i refl), apart_distinct es p)

-- the edges of relation r from x, and those of relation r
abbrev from_row : List ℕ → ℕ → ℕ → List Edge
from_row xs r x = map (edge_of r x) xs

abbrev relation_row : List ℕ → ℕ → List Edge
relation_row xs r = flat_map (from_row xs r) xs

from_row_in : (xs : List ℕ) (r x : ℕ) (e : Edge) → In e (from_row xs r x) → (e.relation ≡ r) × (e.from ≡ x) × In e.to xs
from_row_in xs r x e i =
    let (y, j, p) = map_in (edge_of r x) xs i in
    (ap (λ (f : Edge). f.relation) p, ap (λ (f : Edge). f.from) p, subst (λ (f : Edge). In f.to xs) (sym p) j)

relation_row_in : (xs : List ℕ) (r : ℕ) (e : Edge) → In e (relation_row xs r) → (e.relation ≡ r) × In e.from xs × In e.to xs
relation_row_in xs r e i =
    let (x, j, k) = rows_in (from_row xs r) xs i in
    let (p, s, l) = from_row_in xs r x e k in
    (p, subst (λ z. In z xs) (sym s) j, l)

over_in : (rs xs : List ℕ) (e : Edge) → In e (edges_over rs xs) → In e.relation rs × In e.from xs × In e.to xs
unfolding edges_over
over_in rs xs e i =
    let (r, j, k) = rows_in (relation_row xs) rs i in
    let (p, s, l) = relation_row_in xs r e k in
    (subst (λ z. In z rs) (sym p) j, s, l)

in_over : (rs xs : List ℕ) (r x y : ℕ) → In r rs → In x xs → In y xs → In (edge_of r x y) (edges_over rs xs)
unfolding edges_over
in_over rs xs r x y i j k =
    in_rows (relation_row xs) i (in_rows (from_row xs r) j (in_map (edge_of r x) k))

from_row_apart : (xs : List ℕ) → Rising xs → (r x : ℕ) → Pairwise Apart (from_row xs r x)
from_row_apart xs R r x =
    pairwise_map ◌<◌ Apart (edge_of r x) xs R (λ y z h p. omega (arith, ap (λ (f : Edge). f.to) p))

relation_row_apart : (xs : List ℕ) → Rising xs → (r : ℕ) → Pairwise Apart (relation_row xs r)
relation_row_apart xs R r =
    pairwise_rows (from_row xs r) ◌<◌ Apart xs R (λ x i. from_row_apart xs R r x)
    (λ x y e f h i j p.
    omega (arith, ap (λ (f : Edge). f.from) p, (from_row_in xs r x e i).1, (from_row_in xs r y f j).1))

-- no edge stands twice
over_apart : (rs xs : List ℕ) → Rising rs → Rising xs → Pairwise Apart (edges_over rs xs)
unfolding edges_over
over_apart rs xs Q R =
    pairwise_rows (relation_row xs) ◌<◌ Apart rs Q (λ r i. relation_row_apart xs R r)
    (λ r s e f h i j p.
    omega (arith, ap (λ (f : Edge). f.relation) p, (relation_row_in xs r e i).0, (relation_row_in xs s f j).0))

-- a member of a list stands at a place
in_place : (a : ℕ) (l : List ℕ) → In a l → (i : ℕ) × (i < length l) × (get_or l i 0 ≡ a)
in_place a (b ∷ bs) (here e) = (0, omega arith, sym e)
in_place a (b ∷ bs) (there j) = let (i, h, e) = in_place a bs j in (suc i, omega arith, e)
in_place a [] x' = elim x' [ ]

module _ (G : Finite) (n : ℕ) where
  -- what is listed is an edge between events
  listed_is_edge : (e : Edge) → In e (listed_of G n).edges
      → (e.relation < n) × (e.from < length G.atoms) × (e.to < length G.atoms) × (is_edge G e ≡ true)
  unfolding listed_of
  listed_is_edge e i =
      let m : ℕ = length G.atoms in
      let (j, h) = filter_in (is_edge G) (edges_over (upto 0 n) (upto 0 m)) i in
      let (r, x, y) = over_in (upto 0 n) (upto 0 m) e j in
      ((upto_in e.relation 0 n r).1, (upto_in e.from 0 m x).1, (upto_in e.to 0 m y).1, h)

  -- and each edge between events is listed
  edge_listed : (r x y : ℕ) → r < n → x < length G.atoms → y < length G.atoms → G.edges r x y ≡ true
      → In (edge_of r x y) (listed_of G n).edges
  unfolding listed_of
  edge_listed r x y h k l e =
      let m : ℕ = length G.atoms in
      in_filter (is_edge G)
      (in_over (upto 0 n) (upto 0 m) r x y (in_upto r 0 n zero-le h) (in_upto x 0 m zero-le k) (in_upto y 0 m zero-le l)) e

module _ (q : Query) (G : Finite) (x : Execution (graph G) q) where
  -- the listed form of the graph
  abbrev in_list : Listed
  in_list = listed_of G (length (relations q))

  -- it is as the graph reader asks, where it has at most 64 events
  pub listed_well : length G.atoms ≤ 64 → WellListed (ranges_of q) (listed_of G (length (relations q)))
  unfolding listed_of
  listed_well few =
      let n : ℕ = length (relations q) in
      let m : ℕ = length G.atoms in
      record {
        atoms_known = λ a i. let (p, h, e) = in_place a G.atoms i in
            subst (λ b. b < atoms q) e (x.0 (p, lt→ltb p (length G.atoms) h));
        edges_known = λ e i. (listed_is_edge G n e i).0;
        from_event = λ e i. (listed_is_edge G n e i).1;
        to_event = λ e i. (listed_is_edge G n e i).2;
        at_most_64 = few;
        once_each = apart_distinct (filter (is_edge G) (edges_over (upto 0 n) (upto 0 m)))
            (pairwise_filter Apart (is_edge G) (edges_over (upto 0 n) (upto 0 m))
            (over_apart (upto 0 n) (upto 0 m) (rising_upto 0 n) (rising_upto 0 m)));
      }

  -- it has the same edges between events
  listed_same : (r : ℕ) (u v : (graph G).Event)
      → (G.edges r u.0 v.0 ≡ true) ↔ ((finite in_list).edges r u.0 v.0 ≡ true)
  listed_same r u v =
      let n : ℕ = length (relations q) in
      let m : ℕ = length G.atoms in (
        (λ h. (edge_is_listed in_list r u.0 v.0).1
            (edge_listed G n r u.0 v.0 (x.1 r u v h) (ltb→lt u.0 m u.1) (ltb→lt v.0 m v.1) h)),
        (λ h. (listed_is_edge G n (edge_of r u.0 v.0) ((edge_is_listed in_list r u.0 v.0).0 h)).3),
      )

  -- and so the other way round
  listed_back : (r : ℕ) (u v : (graph G).Event)
      → ((finite in_list).edges r u.0 v.0 ≡ true) ↔ (G.edges r u.0 v.0 ≡ true)
  listed_back r u v = ((listed_same r u v).1, (listed_same r u v).0)

  -- each edge of it is of one of the query's relations
  listed_known : (r : ℕ) (u v : (graph (finite in_list)).Event) → (graph (finite in_list)).edge r u v → r < length (relations q)
  listed_known r u v h = (listed_is_edge G (length (relations q)) (edge_of r u.0 v.0) ((edge_is_listed in_list r u.0 v.0).0 h)).0

  -- a lowest event, and a lowest pair, is one of the graph
  lowest_at : (c : Claim) (n : ℕ) → LowestAt (finite in_list) q c n → LowestAt G q c n
  unfolding listed_of finite
  lowest_at c n l =
      let E = (graph (finite in_list)).edge in
      let F = (graph G).edge in
      record {
        event = l.event;
        number = l.number;
        breaks = same_at (graph G).Event (graph G).atom E F listed_back q c l.event l.breaks;
        none_lower = λ w h b. l.none_lower w h (same_at (graph G).Event (graph G).atom F E listed_same q c w b);
      }

  lowest_from_lem : (c : Claim) (n m : ℕ) → LowestFrom (finite in_list) q c n m → LowestFrom G q c n m
  unfolding listed_of finite
  lowest_from_lem c n m l =
      let E = (graph (finite in_list)).edge in
      let F = (graph G).edge in
      record {
        from = l.from;
        to = l.to;
        from_number = l.from_number;
        to_number = l.to_number;
        breaks = same_from (graph G).Event (graph G).atom E F listed_back q c l.from l.to l.breaks;
        none_lower = λ w z h b. l.none_lower w z h (same_from (graph G).Event (graph G).atom F E listed_same q c w z b);
      }

  outcome_of_graph : (c : Claim) (o : Outcome) → OutcomeIsMeaning (finite in_list) q c o → OutcomeIsMeaning G q c o
  unfolding listed_of finite
  outcome_of_graph c o m =
      let E = (graph (finite in_list)).edge in
      let F = (graph G).edge in
      record {
        holds = (
          (λ e. same_claims (graph G).Event (graph G).atom E F listed_back q c (m.holds.0 e)),
          (λ h. m.holds.1 (same_claims (graph G).Event (graph G).atom F E listed_same q c h)),
        );
        breaks_at_lem = λ n e. lowest_at c n (m.breaks_at_lem n e);
        breaks_from_lem = λ n k e. lowest_from_lem c n k (m.breaks_from_lem n k e);
      }

  meaning_of_graph : (c : Claim) (j : Judgement) → JudgementIsMeaning (finite in_list) q c j → JudgementIsMeaning G q c j
  unfolding listed_of finite
  meaning_of_graph c j m =
      let E = (graph (finite in_list)).edge in
      let F = (graph G).edge in
      record {
        meets_all = (
          (λ e. same_all_met (graph G).Event (graph G).atom E F listed_back q (m.meets_all.0 e)),
          (λ h. m.meets_all.1 (same_all_met (graph G).Event (graph G).atom F E listed_same q h)),
        );
        first_unmet = λ n e. same_first_unmet (graph G).Event (graph G).atom E F listed_back q q n (m.first_unmet n e);
        claim = outcome_of_graph c j.outcome m.claim;
      }

  -- so its judgement is that of the graph
  pub listed_judged_the_same : (c : Claim) → judgement (finite (listed_of G (length (relations q)))) q c ≡ judgement G q c
  listed_judged_the_same c =
      one_judgement G q c (judgement (finite in_list) q c) (judgement G q c)
      (meaning_of_graph c (judgement (finite in_list) q c) (judgement_is_meaning (finite in_list) q listed_known c))
      (judgement_is_meaning G q x.1 c)
