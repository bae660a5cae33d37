-- A plain graph with its closed relations closed. If each event of the plain graph is live, each edge of a declared relation and each edge
-- within the limits of its relation, the filled graph is an execution graph and meets every line of `never`, `within` and `closed`; and
-- for what relations stand for, the two graphs relate the same events. The idea: an edge of the filled graph is one or more edges of
-- the plain one in a row, each of which is within the limits; a relation that is not closed keeps its edges.
-- Assumes nothing.
use Prim.Native.Nat.{ℕ, suc, ◌<◌}
use native.Mathlib.Omega.{arith}
use mathlib.Core.Path.{◌≡◌, refl, sym, ◌∙◌, ap, subst}
use mathlib.Core.Logic.{⊎_elim, ◌↔◌}
use mathlib.Core.Logic.◌⊎◌.{inl, inr}
use mathlib.Core.Bool.{Bool, true, false, not as flip}
use mathlib.Core.List.{List, [], ◌∷◌}
use lib.ListN.{length, get_or}
use borrow.Author.Tests.{eq-eqb}
use Rattle.kat.specs.Expr.{Expr, step, test, alt, seq, plus as repeated}
use Rattle.kat.specs.Lists.{In, here, there, some, member, upto}
use Rattle.kat.specs.Closure.{entry, closure}
use Rattle.kat.specs.Graph.{Finite, Graph, Rel, Plus, once, more, graph}
use Rattle.kat.proofs.Bools.{and_both, bool_cases, not_true_false, true_not_false}
use Rattle.kat.proofs.Sets.{in_some, filter_in, member_in, in_append_left, in_append_right}
use Rattle.kat.proofs.Closure.{plus_join, closure_is_plus_of}
use Rattle.notation.specs.Bytes.{same}
use Rattle.notation.specs.Tree.{Name, TestTree, Tree, Line, never_line, within_line, closed_line}
use Rattle.notation.specs.Query.{Query, Limit, each, index_of, tests, relations, nevers, limits, closed_names, closed, holds, atoms, live, removed}
use Rattle.notation.specs.Expanded.{Expanded, step_of, plus_of, bounded, stands_for}
use Rattle.notation.specs.Sides.{expr_of, replaced, side}
use Rattle.claims.specs.Meaning.{Execution, Meets, Related}
use Rattle.claims.specs.Drawn.{filled}
use Rattle.claims.proofs.Limits.{live_below}
use Rattle.claims.proofs.Lifting.{Passes, meant_lifted}
use Rattle.notation.proofs.Results.{same_is_equal}
use Rattle.claims.proofs.Replacement.{Between, bounded_means, single_edge, plus_map, side_means_the_same}

pub same_itself : (n : List ℕ) → same n n ≡ true
same_itself [] = refl
same_itself (x ∷ xs) = and_both (eq-eqb x x refl) (same_itself xs)

-- what a line of the query gives is among what each line gives
pub in_each : {A : Type 0} (f : Line → List A) {l : Line} {q : Query} {a : A} → In l q → In a (f l) → In a (each f q)
in_each f {a = a} (here {y = m} {l = ls} e) i = in_append_left (each f ls) (subst (λ z. In a (f z)) e i)
in_each f (there {y = m} j) i = in_append_right (f m) (in_each f j i)

-- a name whose place is in the list stands at that place
pub name_at_index : (n : Name) (ns : List Name) → index_of n ns < length ns → get_or ns (index_of n ns) [] ≡ n
name_at_index n [] h = absurd (omega arith)
name_at_index n (m ∷ ms) h = go (same n m) refl h (name_at_index n ms)
  where
    place : Bool → ℕ
    place b = elim b [ true ↦ 0 | false ↦ suc (index_of n ms) ]

    go : (b : Bool) → same n m ≡ b → place b < suc (length ms) → (index_of n ms < length ms → get_or ms (index_of n ms) [] ≡ n)
        → get_or (m ∷ ms) (place b) [] ≡ n
    go true e k ih = sym (same_is_equal n m e)
    go false e k ih = ih (omega arith)

limit_listed : (q : Query) (n : Name) (t u : TestTree) → In (within_line n t u) q
    → In (let b : Limit = record { from = t; to = u } in b) (each (limits n) q)
unfolding limits
limit_listed q n t u i = in_each (limits n) i (rw (same_itself n, limits) (here refl))

closing_listed : (q : Query) (n : Name) → In (closed_line n) q → closed q n ≡ true
unfolding closed closed_names
closing_listed q n i = in_some (same n) (in_each closed_names i (here refl)) (same_itself n)

never_live : (q : Query) (t : TestTree) (a : ℕ) → In (never_line t) q → member a (live q) ≡ true → holds (tests q) t a ≡ true → ⊥
unfolding live removed nevers
never_live q t a i h k =
    let f : TestTree → Bool = λ t. holds (tests q) t a in
    let (j, e) = filter_in (λ a. flip (some (λ t. holds (tests q) t a) (each nevers q))) (upto 0 (atoms q)) (member_in a (live q) h) in
    true_not_false (in_some f (in_each nevers i (here refl)) k) (not_true_false (some f (each nevers q)) e)

module _ {A : Type 0} {R : A → A → Type 0} where
  -- what every pair gives, the first of those in a row gives
  plus_first : {C : Type 0} → ((x y : A) → R x y → C) → {x y : A} → Plus R x y → C
  plus_first f (once {x = x} {y = y} h) = f x y h
  plus_first f (more {x = x} {y = y} h t) = f x y h

  -- what holds at the two ends of every pair holds at the ends of pairs in a row
  plus_ends : {B C : A → Type 0} → ((x y : A) → R x y → B x × C y) → {x y : A} → Plus R x y → B x × C y
  plus_ends f (once {x = x} {y = y} h) = f x y h
  plus_ends f (more {x = x} {y = y} h t) = let (b, c) = f x y h in let (d, e) = plus_ends f t in (b, e)

  -- each pair of those in a row may be pairs in a row
  plus_flat : {Q : A → A → Type 0} → ((x y : A) → R x y → Plus Q x y) → {x y : A} → Plus R x y → Plus Q x y
  plus_flat f (once {x = x} {y = y} h) = f x y h
  plus_flat f (more {x = x} {y = y} h t) = plus_join (f x y h) (plus_flat f t)

-- the filled graph, with the events of the plain one
abbrev pub shut : Query → Finite → Graph
shut q G =
    record {
      Event = (graph G).Event;
      atom = (graph G).atom;
      edge = λ r x y. (filled q G).edges r x.0 y.0 ≡ true;
    }

module _ (q : Query) (G : Finite) where
  -- the relation is closed
  is_closed : ℕ → Bool
  is_closed r = closed q (get_or (relations q) r [])

  -- its edges, by whether the relation is closed
  edge_by : Bool → ℕ → ℕ → ℕ → Bool
  edge_by b r x y = elim b [ true ↦ entry (closure (length G.atoms) (G.edges r)) x y | false ↦ G.edges r x y ]

  closed_edge : (r : ℕ) (x y : (graph G).Event) → is_closed r ≡ true → (shut q G).edge r x y ↔ Plus ((graph G).edge r) x y
  unfolding filled is_closed edge_by
  closed_edge r x y e =
      subst (λ b. (edge_by b r x.0 y.0 ≡ true) ↔ Plus ((graph G).edge r) x y) (sym e)
      (closure_is_plus_of (length G.atoms) (G.edges r) (λ x y. ((λ h. h), (λ h. h))) x y)

  open_edge : (r : ℕ) (x y : (graph G).Event) → is_closed r ≡ false → (shut q G).edge r x y ↔ (graph G).edge r x y
  unfolding filled is_closed edge_by
  open_edge r x y e =
      subst (λ b. (edge_by b r x.0 y.0 ≡ true) ↔ (graph G).edge r x y) (sym e) ((λ h. h), (λ h. h))

  -- an edge of the filled graph is one or more edges of the plain graph in a row
  pub edge_in_a_row : (r : ℕ) (x y : (graph G).Event) → (shut q G).edge r x y → Plus ((graph G).edge r) x y
  edge_in_a_row r x y h =
      ⊎_elim (λ e. (closed_edge r x y e).0 h) (λ e. once ((open_edge r x y e).0 h)) (bool_cases (is_closed r))

  pub edge_kept : (r : ℕ) (x y : (graph G).Event) → (graph G).edge r x y → (shut q G).edge r x y
  edge_kept r x y h =
      ⊎_elim (λ e. (closed_edge r x y e).1 (once h)) (λ e. (open_edge r x y e).1 h) (bool_cases (is_closed r))

  -- the filled graph relates what the plain one does
  pub plain_in_shut : (E : Expr) (x y : (graph G).Event) → Rel (graph G) E x y → Rel (shut q G) E x y
  plain_in_shut (step s) x y (r, h, e) = (r, h, edge_kept r x y e)
  plain_in_shut (test s) x y h = h
  plain_in_shut (alt e f) x y (inl h) = inl (plain_in_shut e x y h)
  plain_in_shut (alt e f) x y (inr h) = inr (plain_in_shut f x y h)
  plain_in_shut (seq e f) x y (z, h, k) = (z, plain_in_shut e x z h, plain_in_shut f z y k)
  plain_in_shut (repeated e) x y h = plus_map (graph G) (plain_in_shut e) h

  -- what is asked of the plain graph
  pub record Plain : Type 0 where
    pub live_atoms : (x : (graph G).Event) → member ((graph G).atom x) (live q) ≡ true
    pub declared : (r : ℕ) (x y : (graph G).Event) → (graph G).edge r x y → r < length (relations q)
    pub limited : (n : Name) (x y : (graph G).Event) → (graph G).edge (index_of n (relations q)) x y
        → Between (graph G) (tests q) (each (limits n) q) x y

module _ (q : Query) (G : Finite) (p : Plain q G) where
  declared_shut : (r : ℕ) (x y : (graph G).Event) → (shut q G).edge r x y → r < length (relations q)
  declared_shut r x y h = plus_first (p.declared r) (edge_in_a_row q G r x y h)

  pub shut_execution : Execution (shut q G) q
  shut_execution = ((λ x. live_below q ((graph G).atom x) (p.live_atoms x)), declared_shut)

  pub shut_never : (t : TestTree) → In (never_line t) q → Meets (shut q G) q (never_line t)
  shut_never t i x h = never_live q t ((graph G).atom x) i (p.live_atoms x) h

  shut_limited : (n : Name) (x y : (graph G).Event) → (shut q G).edge (index_of n (relations q)) x y
      → Between (graph G) (tests q) (each (limits n) q) x y
  shut_limited n x y h l i =
      plus_ends (λ x y k. p.limited n x y k l i) (edge_in_a_row q G (index_of n (relations q)) x y h)

  pub shut_within : (n : Name) (t u : TestTree) → In (within_line n t u) q → Meets (shut q G) q (within_line n t u)
  shut_within n t u i x y h = shut_limited n x y h (record { from = t; to = u }) (limit_listed q n t u i)

  -- an edge of relation n is closed exactly where n is
  closed_there : (n : Name) (x y : (graph G).Event) → (shut q G).edge (index_of n (relations q)) x y
      → is_closed q G (index_of n (relations q)) ≡ closed q n
  unfolding is_closed
  closed_there n x y h =
      ap (closed q) (name_at_index n (relations q) (declared_shut (index_of n (relations q)) x y h))

  pub shut_closed : (n : Name) → In (closed_line n) q → Meets (shut q G) q (closed_line n)
  shut_closed n i x y z h k =
      let r : ℕ = index_of n (relations q) in
      (closed_edge q G r x z (closed_there n x y h ∙ closing_listed q n i)).1
      (plus_join (edge_in_a_row q G r x y h) (edge_in_a_row q G r y z k))

  shut_replaced : (n : Name) (x y : (graph G).Event) → Rel (shut q G) (replaced q n) x y → Rel (graph G) (replaced q n) x y
  unfolding replaced stands_for expr_of
  shut_replaced n = go (closed q n) refl
    where
      r : ℕ
      r = index_of n (relations q)

      b : Expanded
      b = bounded (each (limits n) q) (step_of n)

      edge_of : (x y : (graph G).Event) → Rel (shut q G) (expr_of q b) x y → (shut q G).edge r x y
      edge_of x y h = (single_edge (shut q G) q n x y).0 ((bounded_means (shut q G) q (each (limits n) q) (step_of n) x y).0 h).0

      step_of_lem : (x y : (graph G).Event) → (graph G).edge r x y → Rel (graph G) (expr_of q b) x y
      step_of_lem x y h =
          (bounded_means (graph G) q (each (limits n) q) (step_of n) x y).1 ((single_edge (graph G) q n x y).1 h, p.limited n x y h)

      go : (c : Bool) → closed q n ≡ c → (x y : (graph G).Event) → Rel (shut q G) (expr_of q (elim c [ true ↦ plus_of b | false ↦ b ])) x y
          → Rel (graph G) (expr_of q (elim c [ true ↦ plus_of b | false ↦ b ])) x y
      go true e x y h = plus_flat (λ x y k. plus_map (graph G) step_of_lem (edge_in_a_row q G r x y (edge_of x y k))) h
      go false e x y h = let k = edge_of x y h in step_of_lem x y ((open_edge q G r x y (closed_there n x y k ∙ e)).0 k)

  -- for what relations stand for, the filled graph relates no more than the plain one
  Narrow : Expr → Expr → Type 0
  Narrow E F = (x y : (graph G).Event) → Rel (shut q G) E x y → Rel (graph G) F x y

  narrow_passes : Passes Narrow
  unfolding Narrow
  narrow_passes =
      record {
        of_test = λ s x y h. h;
        of_alt = λ E F E' F' f g x y h. ⊎_elim (λ k. inl (f x y k)) (λ k. inr (g x y k)) h;
        of_seq = λ E F E' F' f g x y (z, h, k). (z, f x z h, g z y k);
        of_plus = λ E E' f x y h. plus_map (graph G) f h;
      }

  shut_in_plain : (e : Tree) (x y : (graph G).Event) → Rel (shut q G) (side q e) x y → Rel (graph G) (side q e) x y
  unfolding side Narrow
  shut_in_plain e = meant_lifted Narrow narrow_passes q (replaced q) (replaced q) shut_replaced e

  -- an expression as written means in the filled graph what the side made of it means in the plain one
  pub related_in_plain : (e : Tree) (x y : (graph G).Event) → Related (shut q G) q e x y ↔ Rel (graph G) (side q e) x y
  related_in_plain e x y =
      let means = side_means_the_same (shut q G) q shut_within shut_closed e x y in
      ((λ h. shut_in_plain e x y (means.0 h)), (λ h. means.1 (plain_in_shut q G (side q e) x y h)))
