-- What is counted name by name, each let once, is what the expanded expression has: its occurrences, which are those of the side, and
-- its leaves. The idea: under `mapped`, which keeps of each name only what is taken of what it stands for, expanding becomes counting,
-- and so it becomes reading an expression of Kleene algebra. A name that is bound to nothing has neither.
-- Assumes nothing.
use Prim.Native.Nat.{ℕ, suc, ◌+◌, ◌*◌, ◌≤◌}
use native.Mathlib.Nat.{add-zero}
use native.Mathlib.Omega.{arith}
use mathlib.Core.Path.{◌≡◌, refl, sym, ◌∙◌, ap, ap₂}
use mathlib.Core.Bool.{Bool, true, false}
use mathlib.Core.List.{List, [], ◌∷◌, ◌++◌}
use lib.ListN.{length}
use Rattle.kat.specs.Expr.{alt, seq, plus as repeated, star as starred, opt as optional}
use Rattle.kat.specs.Tables.{occurrences}
use Rattle.notation.specs.Bytes.{same}
use Rattle.notation.specs.Tree.{Name, Tree, name, tested, union, sequence, star, plus, opt, Claim, includes, empty, irreflexive}
use Rattle.notation.specs.Query.{Query, Bound, Limit, lookup, bound, bound_lets, each, names, limits, closed, tests, relations, lets, assumed_empty, assumed_irreflexive}
use Rattle.notation.specs.Expanded.{Expanded, step_of, test_of, nothing, union_of, sequence_of, star_of, plus_of, opt_of, bounded, stands_for, expanded_in, expanded, count_expanded}
use Rattle.notation.specs.Sides.{expand, meant, single, expr_of, replaced, side, union_all, a0, a1, zero as zero_set, somewhere, decision}
use Rattle.notation.specs.Counting.{count, occurrences_of, leaves_of, total, size_of, with_anys, left_size, right_size}

module _ {A B : Type 0} (h : A → B) where
  -- each name with what h takes of what it stands for
  mapped : List (Bound A) → List (Bound B)
  mapped [] = []
  mapped (b ∷ bs) = record { called = b.called; means = h b.means } ∷ mapped bs

  mapped_append : (a b : List (Bound A)) → mapped (a ++ b) ≡ mapped a ++ mapped b
  unfolding mapped
  mapped_append [] b = refl
  mapped_append (x ∷ a) b = ap (λ l. record { called = x.called; means = h x.means } ∷ l) (mapped_append a b)

  mapped_lookup : (d : A) (n : Name) (env : List (Bound A)) → lookup (h d) n (mapped env) ≡ h (lookup d n env)
  unfolding mapped
  mapped_lookup d n [] = refl
  mapped_lookup d n (b ∷ bs) = go (same n b.called) (mapped_lookup d n bs)
    where
      go : (t : Bool) → lookup (h d) n (mapped bs) ≡ h (lookup d n bs)
          → ◌≡◌ {A = B} (elim t [ true ↦ h b.means | false ↦ lookup (h d) n (mapped bs) ])
          (h (elim t as (λ x. A) [ true ↦ b.means | false ↦ lookup d n bs ]))
      go true e = refl
      go false e = e

  mapped_bound : (w : Name → A) (ns : List Name) → bound (λ n. h (w n)) ns ≡ mapped (bound w ns)
  unfolding mapped
  mapped_bound w [] = refl
  mapped_bound w (n ∷ ns) = ap (λ l. record { called = n; means = h (w n) } ∷ l) (mapped_bound w ns)

  -- f makes of a let what g makes of it, once h is taken
  module _ (f : List (Bound A) → Tree → A) (g : List (Bound B) → Tree → B)
      (agree : (env : List (Bound A)) (e : Tree) → g (mapped env) e ≡ h (f env e)) where
    mapped_lets : (env : List (Bound A)) (bs : List (Bound Tree)) → bound_lets g (mapped env) bs ≡ mapped (bound_lets f env bs)
    unfolding mapped
    mapped_lets env [] = refl
    mapped_lets env (b ∷ bs) =
        ap (λ l. bound_lets g l bs) more ∙ mapped_lets (env ++ (record { called = b.called; means = f env b.means } ∷ [])) bs
      where
        more : mapped env ++ (record { called = b.called; means = g (mapped env) b.means } ∷ [])
            ≡ mapped (env ++ (record { called = b.called; means = f env b.means } ∷ []))
        more =
            ap (λ m. mapped env ++ (record { called = b.called; means = m } ∷ [])) (agree env b.means)
            ∙ sym (mapped_append env (record { called = b.called; means = f env b.means } ∷ []))

    -- so all names of a query do, and every expression over them
    named_alike : (q : Query) (w : Name → A) (e : Tree) → g (names q (λ n. h (w n)) g) e ≡ h (f (names q w f) e)
    unfolding names
    named_alike q w e =
        ap (λ env. g env e)
        (ap (λ env. bound_lets g env (each lets q)) (mapped_bound w (relations q)) ∙ mapped_lets (bound w (relations q)) (each lets q))
        ∙ agree (bound_lets f (bound w (relations q)) (each lets q)) e

-- an expression counts what it has when it is expanded
module _ (t : ℕ) where
  count_expanded_lem : (env : List (Bound Expanded)) (e : Tree) → count t (mapped (count_expanded t) env) e ≡ count_expanded t (expanded_in env e)
  unfolding count expanded_in count_expanded
  count_expanded_lem env (name n) = mapped_lookup (count_expanded t) nothing n env
  count_expanded_lem env (tested u) = refl
  count_expanded_lem env (union e f) = ap₂ ◌+◌ (count_expanded_lem env e) (count_expanded_lem env f)
  count_expanded_lem env (sequence e f) = ap₂ ◌+◌ (count_expanded_lem env e) (count_expanded_lem env f)
  count_expanded_lem env (star e) = count_expanded_lem env e
  count_expanded_lem env (plus e) = count_expanded_lem env e
  count_expanded_lem env (opt e) = count_expanded_lem env e

-- the leaves counted name by name are those of the expanded expression
pub counted_leaves : (q : Query) (e : Tree) → leaves_of q e ≡ count_expanded 1 (expanded q e)
unfolding leaves_of expanded
counted_leaves q e = named_alike (count_expanded 1) expanded_in (count 1) (count_expanded_lem 1) q (stands_for q) e

-- and so are the occurrences
pub counted_steps : (q : Query) (e : Tree) → occurrences_of q e ≡ count_expanded 0 (expanded q e)
unfolding occurrences_of expanded
counted_steps q e = named_alike (count_expanded 0) expanded_in (count 0) (count_expanded_lem 0) q (stands_for q) e

-- a side is the expanded expression
module _ (q : Query) where
  expand_expanded : (env : List (Bound Expanded)) (e : Tree) → expand (tests q) (mapped (expr_of q) env) e ≡ expr_of q (expanded_in env e)
  unfolding expand expanded_in expr_of
  expand_expanded env (name n) = mapped_lookup (expr_of q) nothing n env
  expand_expanded env (tested t) = refl
  expand_expanded env (union e f) = ap₂ alt (expand_expanded env e) (expand_expanded env f)
  expand_expanded env (sequence e f) = ap₂ seq (expand_expanded env e) (expand_expanded env f)
  expand_expanded env (star e) = ap starred (expand_expanded env e)
  expand_expanded env (plus e) = ap repeated (expand_expanded env e)
  expand_expanded env (opt e) = ap optional (expand_expanded env e)

  pub side_expanded : (e : Tree) → side q e ≡ expr_of q (expanded q e)
  unfolding side meant replaced expanded
  side_expanded e = named_alike (expr_of q) expanded_in (expand (tests q)) expand_expanded q (stands_for q) e

  -- each single step is an occurrence
  steps_occur : (x : Expanded) → count_expanded 0 x ≡ occurrences (expr_of q x)
  unfolding count_expanded expr_of single
  steps_occur (step_of n) = refl
  steps_occur (test_of t) = refl
  steps_occur nothing = refl
  steps_occur (union_of e f) = ap₂ ◌+◌ (steps_occur e) (steps_occur f)
  steps_occur (sequence_of e f) = ap₂ ◌+◌ (steps_occur e) (steps_occur f)
  steps_occur (star_of e) = steps_occur e ∙ sym (add-zero _)
  steps_occur (plus_of e) = steps_occur e
  steps_occur (opt_of e) = steps_occur e ∙ sym (add-zero _)

  -- what is counted of a tree is what its side has
  pub counted_occurrences : (e : Tree) → occurrences_of q e ≡ occurrences (side q e)
  counted_occurrences e = counted_steps q e ∙ steps_occur (expanded q e) ∙ ap occurrences (sym (side_expanded e))

-- a relation is one occurrence, whatever its limits
bounded_steps : (ls : List Limit) (e : Expanded) → count_expanded 0 (bounded ls e) ≡ count_expanded 0 e
unfolding bounded count_expanded
bounded_steps [] e = refl
bounded_steps (l ∷ ls) e = omega (arith, bounded_steps ls (sequence_of (sequence_of (test_of l.from) e) (test_of l.to)))

pub relation_occurs_once : (q : Query) (n : Name) → count_expanded 0 (stands_for q n) ≡ 1
unfolding stands_for count_expanded
relation_occurs_once q n = go (closed q n)
  where
    e : Expanded
    e = bounded (each (limits n) q) (step_of n)

    go : (b : Bool) → count_expanded 0 (elim b as (λ x. Expanded) [ true ↦ plus_of e | false ↦ e ]) ≡ 1
    go true = bounded_steps (each (limits n) q) (step_of n)
    go false = bounded_steps (each (limits n) q) (step_of n)

-- and one leaf, with two tests for each of its limits
bounded_leaves : (ls : List Limit) (e : Expanded) → count_expanded 1 (bounded ls e) ≡ count_expanded 1 e + 2 * length ls
unfolding bounded count_expanded
bounded_leaves [] e = omega arith
bounded_leaves (l ∷ ls) e = omega (arith, bounded_leaves ls (sequence_of (sequence_of (test_of l.from) e) (test_of l.to)))

pub relation_has_leaves : (q : Query) (n : Name) → count_expanded 1 (stands_for q n) ≡ suc (2 * length (each (limits n) q))
unfolding stands_for count_expanded
relation_has_leaves q n = go (closed q n)
  where
    e : Expanded
    e = bounded (each (limits n) q) (step_of n)

    go : (b : Bool) → count_expanded 1 (elim b as (λ x. Expanded) [ true ↦ plus_of e | false ↦ e ]) ≡ suc (2 * length (each (limits n) q))
    go true = omega (arith, bounded_leaves (each (limits n) q) (step_of n))
    go false = omega (arith, bounded_leaves (each (limits n) q) (step_of n))

-- no more occurrences than leaves
steps_are_leaves : (x : Expanded) → count_expanded 0 x ≤ count_expanded 1 x
unfolding count_expanded
steps_are_leaves (step_of n) = omega arith
steps_are_leaves (test_of t) = omega arith
steps_are_leaves nothing = omega arith
steps_are_leaves (union_of e f) = omega (arith, steps_are_leaves e, steps_are_leaves f)
steps_are_leaves (sequence_of e f) = omega (arith, steps_are_leaves e, steps_are_leaves f)
steps_are_leaves (star_of e) = steps_are_leaves e
steps_are_leaves (plus_of e) = steps_are_leaves e
steps_are_leaves (opt_of e) = steps_are_leaves e

pub occurrences_few : (q : Query) (e : Tree) → occurrences (side q e) ≤ leaves_of q e
occurrences_few q e =
    omega (arith, counted_occurrences q e, counted_steps q e, counted_leaves q e, steps_are_leaves (expanded q e))

counted_union : (q : Query) (es : List Tree) → total (occurrences_of q) es ≡ occurrences (union_all q es)
counted_union q [] = refl
counted_union q (e ∷ es) = ap₂ ◌+◌ (counted_occurrences q e) (counted_union q es)

pub total_append : (f : Tree → ℕ) (es fs : List Tree) → total f (es ++ fs) ≡ total f es + total f fs
total_append f [] fs = omega arith
total_append f (e ∷ es) fs = omega (arith, total_append f es fs)

-- the two sides of a claim
pub counted_left : (q : Query) (c : Claim) → (left_size q c).occurrences ≡ occurrences (decision q c).left
unfolding left_size size_of decision
counted_left q (includes e f) = omega (arith, counted_occurrences q e)
counted_left q (empty e) = omega (arith, counted_occurrences q e)
counted_left q (irreflexive e) = omega (arith, counted_occurrences q e)

pub counted_right : (q : Query) (c : Claim) → (right_size q c).occurrences ≡ occurrences (decision q c).right
unfolding right_size size_of with_anys decision somewhere a0 a1 zero_set
counted_right q (includes e f) = omega (arith, counted_occurrences q f, counted_union q (each assumed_empty q))
counted_right q (empty e) = omega (arith, counted_union q (each assumed_empty q))
counted_right q (irreflexive e) =
    let split = total_append (occurrences_of q) (each assumed_irreflexive q) (each assumed_empty q) in
    omega (arith, counted_union q (each assumed_empty q), counted_union q (each assumed_irreflexive q))
