-- What holds of every test and passes from the parts of an expression to the whole holds of every expression of a query, if it holds of
-- what each relation stands for. It is said of two expressions at once, one for each of two readings of the relations; lets are expanded
-- name by name in the same way on both sides.
-- Assumes nothing.
use Prim.Native.Nat.{ℕ}
use mathlib.Core.Path.{◌≡◌, refl, ap, subst}
use mathlib.Core.Bool.{Bool, true, false}
use mathlib.Core.List.{List, [], ◌∷◌, ◌++◌}
use Rattle.kat.specs.Expr.{Expr, test, alt, seq, plus as repeated, none as nowhere}
use Rattle.notation.specs.Bytes.{same}
use Rattle.notation.specs.Tree.{Name, Tree, name, tested, union, sequence, star, plus, opt}
use Rattle.notation.specs.Query.{Query, Bound, each, lookup, bound, bound_lets, names, tests, relations, lets, holds}
use Rattle.notation.specs.Sides.{expand, meant}

-- what passes from the parts of two expressions to the whole
pub record Passes (Q : Expr → Expr → Type 0) : Type 0 where
  pub of_test : (s : ℕ → Bool) → Q (test s) (test s)
  pub of_alt : (E F E' F' : Expr) → Q E E' → Q F F' → Q (alt E F) (alt E' F')
  pub of_seq : (E F E' F' : Expr) → Q E E' → Q F F' → Q (seq E F) (seq E' F')
  pub of_plus : (E E' : Expr) → Q E E' → Q (repeated E) (repeated E')

-- names bound on both sides to expressions of which Q holds
abbrev Bindings : (Expr → Expr → Type 0) → List (Bound Expr) → List (Bound Expr) → Type 0
Bindings Q [] [] = Unit {0}
Bindings Q [] (c ∷ cs) = ⊥
Bindings Q (b ∷ bs) [] = ⊥
Bindings Q (b ∷ bs) (c ∷ cs) = (b.called ≡ c.called) × Q b.means c.means × Bindings Q bs cs

module _ (Q : Expr → Expr → Type 0) (p : Passes Q) where
  everywhere : Q (test (λ a. true)) (test (λ a. true))
  everywhere = p.of_test (λ a. true)

  lookup_lifted : (n : Name) (bs cs : List (Bound Expr)) → Bindings Q bs cs → Q (lookup nowhere n bs) (lookup nowhere n cs)
  lookup_lifted n [] [] h = p.of_test (λ a. false)
  lookup_lifted n (b ∷ bs) (c ∷ cs) (e, f, g) =
      subst
      (λ z. Q (elim (same n b.called) [ true ↦ b.means | false ↦ lookup nowhere n bs ])
      (elim z [ true ↦ c.means | false ↦ lookup nowhere n cs ]))
      (ap (same n) e) (go (same n b.called) (lookup_lifted n bs cs g))
    where
      go : (z : Bool) → Q (lookup nowhere n bs) (lookup nowhere n cs)
          → Q (elim z [ true ↦ b.means | false ↦ lookup nowhere n bs ]) (elim z [ true ↦ c.means | false ↦ lookup nowhere n cs ])
      go true k = f
      go false k = k
  lookup_lifted n [] (c ∷ cs) h = elim h [ ]
  lookup_lifted n (b ∷ bs) [] h = elim h [ ]

  expand_lifted : (ts : List Name) (bs cs : List (Bound Expr)) → Bindings Q bs cs → (e : Tree) → Q (expand ts bs e) (expand ts cs e)
  unfolding expand
  expand_lifted ts bs cs h (name n) = lookup_lifted n bs cs h
  expand_lifted ts bs cs h (tested t) = p.of_test (holds ts t)
  expand_lifted ts bs cs h (union e f) = p.of_alt _ _ _ _ (expand_lifted ts bs cs h e) (expand_lifted ts bs cs h f)
  expand_lifted ts bs cs h (sequence e f) = p.of_seq _ _ _ _ (expand_lifted ts bs cs h e) (expand_lifted ts bs cs h f)
  expand_lifted ts bs cs h (star e) = p.of_alt _ _ _ _ (p.of_plus _ _ (expand_lifted ts bs cs h e)) everywhere
  expand_lifted ts bs cs h (plus e) = p.of_plus _ _ (expand_lifted ts bs cs h e)
  expand_lifted ts bs cs h (opt e) = p.of_alt _ _ _ _ (expand_lifted ts bs cs h e) everywhere

  bound_lifted : (v w : Name → Expr) → ((n : Name) → Q (v n) (w n)) → (ns : List Name) → Bindings Q (bound v ns) (bound w ns)
  bound_lifted v w h [] = tt
  bound_lifted v w h (n ∷ ns) = (refl, h n, bound_lifted v w h ns)

  one_more : (bs cs : List (Bound Expr)) (b c : Bound Expr) → Bindings Q bs cs → b.called ≡ c.called → Q b.means c.means
      → Bindings Q (bs ++ (b ∷ [])) (cs ++ (c ∷ []))
  one_more [] [] b c h e f = (e, f, tt)
  one_more (x ∷ bs) (y ∷ cs) b c (i, j, h) e f = (i, j, one_more bs cs b c h e f)
  one_more [] (y ∷ cs) b c h e f = elim h [ ]
  one_more (x ∷ bs) [] b c h e f = elim h [ ]

  lets_lifted : (ts : List Name) (bs cs : List (Bound Expr)) → Bindings Q bs cs → (ds : List (Bound Tree))
      → Bindings Q (bound_lets (expand ts) bs ds) (bound_lets (expand ts) cs ds)
  lets_lifted ts bs cs h [] = h
  lets_lifted ts bs cs h (d ∷ ds) =
      let b : Bound Expr = record { called = d.called; means = expand ts bs d.means } in
      let c : Bound Expr = record { called = d.called; means = expand ts cs d.means } in
      lets_lifted ts (bs ++ (b ∷ [])) (cs ++ (c ∷ [])) (one_more bs cs b c h refl (expand_lifted ts bs cs h d.means)) ds

  -- from what each relation stands for to every expression of the query
  pub meant_lifted : (q : Query) (v w : Name → Expr) → ((n : Name) → Q (v n) (w n)) → (e : Tree) → Q (meant q v e) (meant q w e)
  unfolding meant names
  meant_lifted q v w h e =
      expand_lifted (tests q) _ _ (lets_lifted (tests q) _ _ (bound_lifted v w h (relations q)) (each lets q)) e
