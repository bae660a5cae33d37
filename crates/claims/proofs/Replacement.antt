-- Replacement is right: in a graph that meets the `within` and `closed` lines each relation and what it stands for mean the same, and so
-- do an expression as written and the side made of it. The limits of a relation hold at both ends of its edges, so the tests around
-- a step change nothing; a closed relation is its own `+`. From the relations it passes to every expression (`Lifting.antt`).
-- Assumes nothing.
use Prim.Native.Nat.{ℕ}
use mathlib.Core.Path.{◌≡◌, refl, sym, ◌∙◌, ap, subst}
use mathlib.Core.Logic.{⊎_elim, ◌↔◌}
use mathlib.Core.Logic.◌⊎◌.{inl, inr}
use mathlib.Core.Bool.{Bool, true, false}
use mathlib.Core.List.{List, [], ◌∷◌}
use borrow.Author.Tests.{eqb-true, eq-eqb}
use Rattle.kat.specs.Expr.{Expr, test, seq}
use Rattle.kat.specs.Lists.{In, here, there}
use Rattle.kat.specs.Graph.{Graph, Rel, Plus, once, more}
use Rattle.kat.proofs.Sets.{some_in}
use Rattle.notation.specs.Bytes.{same}
use Rattle.notation.specs.Tree.{Name, TestTree, Tree, Line, within_line, closed_line, test_line, rel_line, never_line, let_line, claim_line, assume_irreflexive, assume_empty}
use Rattle.notation.specs.Query.{Query, Limit, each, index_of, tests, relations, limits, closed_names, closed, holds}
use Rattle.notation.specs.Expanded.{Expanded, step_of, test_of, sequence_of, plus_of, bounded, stands_for}
use Rattle.notation.specs.Sides.{meant, single, expr_of, replaced, side}
use Rattle.claims.specs.Meaning.{Related, Meets}
use Rattle.notation.proofs.Results.{same_is_equal, each_in}
use Rattle.claims.proofs.Lifting.{Passes, meant_lifted}

pub limit_line : (n : Name) (l : Line) (b : Limit) → In b (limits n l) → l ≡ within_line n b.from b.to
unfolding limits
limit_line n (within_line m t u) b i = go (same n m) refl i
  where
    go : (c : Bool) → same n m ≡ c → In b (elim c [ true ↦ record { from = t; to = u } ∷ [] | false ↦ [] ])
        → within_line m t u ≡ within_line n b.from b.to
    go true e (here h) =
        ap (λ k. within_line k t u) (sym (same_is_equal n m e)) ∙ ap (λ (z : Limit). within_line n z.from z.to) (sym h)
    go true e (there x7) = elim x7 [ ]
    go false e x3 = elim x3 [ ]
limit_line n (closed_line _) b i = elim i [ ]
limit_line n (test_line _) b i = elim i [ ]
limit_line n (rel_line _) b i = elim i [ ]
limit_line n (never_line _) b i = elim i [ ]
limit_line n (let_line _ _) b i = elim i [ ]
limit_line n (claim_line _) b i = elim i [ ]
limit_line n (assume_irreflexive _) b i = elim i [ ]
limit_line n (assume_empty _) b i = elim i [ ]

closing_line : (n : Name) (l : Line) → In n (closed_names l) → l ≡ closed_line n
unfolding closed_names
closing_line n (closed_line m) (here e) = ap closed_line (sym e)
closing_line n (within_line _ _ _) x8 = elim x8 [ ]
closing_line n (closed_line m) (there x9) = elim x9 [ ]
closing_line n (test_line _) x'' = elim x'' [ ]
closing_line n (rel_line _) x3 = elim x3 [ ]
closing_line n (never_line _) x5 = elim x5 [ ]
closing_line n (let_line _ _) x5 = elim x5 [ ]
closing_line n (claim_line _) x10 = elim x10 [ ]
closing_line n (assume_irreflexive _) x9 = elim x9 [ ]
closing_line n (assume_empty _) x8 = elim x8 [ ]

pub closed_line_lem : (q : Query) (n : Name) → closed q n ≡ true → In (closed_line n) q
unfolding closed
closed_line_lem q n e =
    let (m, i, h) = some_in (same n) (each closed_names q) e in
    let (l, j, k) = each_in closed_names q m i in
    subst (λ z. In z q) (closing_line m l k ∙ ap closed_line (sym (same_is_equal n m h))) j

module _ (G : Graph) where
  -- two expressions relate the same events
  abbrev pub Alike : Expr → Expr → Type 0
  Alike E F = (x y : G.Event) → Rel G E x y ↔ Rel G F x y

  pub plus_map : {R Q : G.Event → G.Event → Type 0} → ((x y : G.Event) → R x y → Q x y) → {x y : G.Event} → Plus R x y → Plus Q x y
  plus_map f (once {x = x} {y = y} h) = once (f x y h)
  plus_map f (more {x = x} {y = y} h t) = more (f x y h) (plus_map f t)

  pub plus_transitive : {R : G.Event → G.Event → Type 0} → ((x y z : G.Event) → R x y → R y z → R x z) → {x y : G.Event} → Plus R x y → R x y
  plus_transitive f (once h) = h
  plus_transitive f (more {x = x} {y = y} {z = z} h t) = f x y z h (plus_transitive f t)

  alike_passes : Passes Alike
  alike_passes =
      record {
        of_test = λ s x y. ((λ h. h), (λ h. h));
        of_alt = λ E F E' F' f g x y.
            ((λ h. ⊎_elim (λ k. inl ((f x y).0 k)) (λ k. inr ((g x y).0 k)) h), (λ h. ⊎_elim (λ k. inl ((f x y).1 k)) (λ k. inr ((g x y).1 k)) h));
        of_seq = λ E F E' F' f g x y. ((λ (z, h, k). (z, (f x z).0 h, (g z y).0 k)), (λ (z, h, k). (z, (f x z).1 h, (g z y).1 k)));
        of_plus = λ E E' f x y. ((λ t. plus_map (λ u v. (f u v).0) t), (λ t. plus_map (λ u v. (f u v).1) t));
      }

  -- an expression means the same where each relation does
  pub meant_alike : (q : Query) (v w : Name → Expr) → ((n : Name) → Alike (v n) (w n)) → (e : Tree) → Alike (meant q v e) (meant q w e)
  meant_alike = meant_lifted Alike alike_passes

  -- the tests of the limits hold at both ends
  abbrev pub Between : List Name → List Limit → G.Event → G.Event → Type 0
  Between ts ls x y = (l : Limit) → In l ls → (holds ts l.from (G.atom x) ≡ true) × (holds ts l.to (G.atom y) ≡ true)

  between_more : (ts : List Name) (l : Limit) (ls : List Limit) (x y : G.Event) → holds ts l.from (G.atom x) ≡ true
      → holds ts l.to (G.atom y) ≡ true → Between ts ls x y → Between ts (l ∷ ls) x y
  between_more ts l ls x y a c b m (here e) =
      subst (λ (z : Limit). (holds ts z.from (G.atom x) ≡ true) × (holds ts z.to (G.atom y) ≡ true)) (sym e) (a, c)
  between_more ts l ls x y a c b m (there i) = b m i

  -- a pair of an expression between limits is a pair of the expression at whose ends the tests hold
  pub bounded_means : (q : Query) (ls : List Limit) (e : Expanded) (x y : G.Event)
      → Rel G (expr_of q (bounded ls e)) x y ↔ (Rel G (expr_of q e) x y × Between (tests q) ls x y)
  unfolding bounded expr_of
  bounded_means q [] e x y = ((λ k. (k, (λ l i. elim i [ ]))), (λ (k, b). k))
  bounded_means q (l ∷ ls) e x y =
      let ih = bounded_means q ls (sequence_of (sequence_of (test_of l.from) e) (test_of l.to)) x y in (
        (λ k.
            let (j, b) = ih.0 k in
            let (m, a, c) = out j in
            (m, between_more (tests q) l ls x y a c b)),
        (λ (k, b). let (a, c) = b l (here refl) in ih.1 ((y, (x, (refl, a), k), (refl, c)), λ m i. b m (there i))),
      )
    where
      out : Rel G (seq (seq (test (holds (tests q) l.from)) (expr_of q e)) (test (holds (tests q) l.to))) x y
          → Rel G (expr_of q e) x y × (holds (tests q) l.from (G.atom x) ≡ true) × (holds (tests q) l.to (G.atom y) ≡ true)
      out (z, (w, (p, a), k), (r, b)) = (
        subst (Rel G (expr_of q e) x) r (subst (λ t. Rel G (expr_of q e) t z) (sym p) k),
        a,
        subst (λ t. holds (tests q) l.to (G.atom t) ≡ true) r b,
      )

  pub single_edge : (q : Query) (n : Name) (x y : G.Event) → Rel G (single q n) x y ↔ G.edge (index_of n (relations q)) x y
  unfolding single
  single_edge q n x y =
      let i : ℕ = index_of n (relations q) in
      ((λ (r, e, h). subst (λ s. G.edge s x y) (sym (eqb-true i r e)) h), (λ h. (i, eq-eqb i i refl, h)))

  module _ (q : Query)
      (kept : (n : Name) (t u : TestTree) → In (within_line n t u) q → Meets G q (within_line n t u))
      (shut : (n : Name) → In (closed_line n) q → Meets G q (closed_line n)) where
    limited_alike : (n : Name) → Alike (single q n) (expr_of q (bounded (each (limits n) q) (step_of n)))
    unfolding expr_of
    limited_alike n x y =
        let means = bounded_means q (each (limits n) q) (step_of n) x y in (
          (λ h.
              means.1 (
                h,
                λ b i.
                    let (l, j, k) = each_in (limits n) q b i in
                    kept n b.from b.to (subst (λ z. In z q) (limit_line n l b k) j) x y ((single_edge q n x y).0 h),
              )),
          (λ k. (means.0 k).0),
        )

    -- each relation and what it stands for mean the same
    pub replacement_is_right : (n : Name) → Alike (single q n) (replaced q n)
    unfolding replaced stands_for expr_of
    replacement_is_right n = go (closed q n) refl
      where
        e : Expanded
        e = bounded (each (limits n) q) (step_of n)

        go : (b : Bool) → closed q n ≡ b → Alike (single q n) (expr_of q (elim b [ true ↦ plus_of e | false ↦ e ]))
        go false h x y = limited_alike n x y
        go true h x y = (
          (λ k. once ((limited_alike n x y).0 k)),
          (λ t.
              (single_edge q n x y).1
              (plus_transitive (shut n (closed_line_lem q n h))
              (plus_map (λ u v k. (single_edge q n u v).0 ((limited_alike n u v).1 k)) t))),
        )

    -- an expression as written and the side made of it
    pub side_means_the_same : (e : Tree) (x y : G.Event) → Related G q e x y ↔ Rel G (side q e) x y
    unfolding side
    side_means_the_same e x y = meant_alike q (single q) (replaced q) replacement_is_right e x y
