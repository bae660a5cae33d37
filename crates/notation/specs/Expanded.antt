-- What a relation stands for, and expressions after expanding. (Document 01, "Words"; leaves are counted here, "Standings", Limits.)
-- Before anything else each relation stands for its step between its limits, and a closed one for the `+` of that; lets are expanded.
-- `stands_for` is the only place that knows what a relation stands for: the sides and what is counted of them go through it.
-- Assumes nothing.
use Rattle.std.specs.Prelude.{ℕ, ◌+◌, true, false, List, [], ◌∷◌}
use Rattle.notation.specs.Tree.{Name, TestTree, Tree, name, tested, union, sequence, star, plus, opt}
use Rattle.notation.specs.Query.{Query, Bound, Limit, lookup, each, names, limits, closed}

-- an expression after expanding: no names, but single steps of relations and bracketed tests ("Words")
pub data Expanded : Type 0 where
  step_of : Name → Expanded  -- the single step of a relation
  test_of : TestTree → Expanded  -- `[T]`
  nothing : Expanded  -- the union of nothing
  union_of sequence_of : Expanded → Expanded → Expanded  -- `|`, `;`
  star_of plus_of opt_of : Expanded → Expanded  -- `*`, `+`, `?`

-- [T];e;[U] for each limit ("Words")
unfoldable pub bounded : List Limit → Expanded → Expanded
bounded [] e = e
bounded (l ∷ ls) e = bounded ls (sequence_of (sequence_of (test_of l.from) e) (test_of l.to))

-- what a relation stands for: its step between its limits, and the `+` of that if it is closed ("Words")
unfoldable pub stands_for : Query → Name → Expanded
stands_for q n =
    let e : Expanded = bounded (each (limits n) q) (step_of n) in
    elim (closed q n) [ true ↦ plus_of e | false ↦ e ]

-- an expression as written, where each name stands for what it is bound to ("Words")
unfoldable pub expanded_in : List (Bound Expanded) → Tree → Expanded
expanded_in env (name n) = lookup nothing n env
expanded_in env (tested t) = test_of t
expanded_in env (union e f) = union_of (expanded_in env e) (expanded_in env f)
expanded_in env (sequence e f) = sequence_of (expanded_in env e) (expanded_in env f)
expanded_in env (star e) = star_of (expanded_in env e)
expanded_in env (plus e) = plus_of (expanded_in env e)
expanded_in env (opt e) = opt_of (expanded_in env e)

-- an expression of the query after expanding: relations replaced, lets expanded ("Words")
unfoldable pub expanded : Query → Tree → Expanded
expanded q e = expanded_in (names q (stands_for q) expanded_in) e

-- what is counted of an expanded expression, where a step counts one and a bracketed test t: with 0 its occurrences, with 1 its leaves ("Standings")
unfoldable pub count_expanded : ℕ → Expanded → ℕ
count_expanded t (step_of n) = 1
count_expanded t (test_of u) = t
count_expanded t nothing = 0
count_expanded t (union_of e f) = count_expanded t e + count_expanded t f
count_expanded t (sequence_of e f) = count_expanded t e + count_expanded t f
count_expanded t (star_of e) = count_expanded t e
count_expanded t (plus_of e) = count_expanded t e
count_expanded t (opt_of e) = count_expanded t e
