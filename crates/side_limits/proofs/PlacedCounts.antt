-- What an expression that stands at a place of a query's codes counts there is what it counts over the names of the query; and so do several.
-- Assumes nothing.
use Prim.Native.Nat.{ℕ, ◌+◌}
use mathlib.Core.Path.{◌≡◌, refl, ◌∙◌, ap, ap₂}
use mathlib.Core.Bool.{true}
use mathlib.Core.List.{List, [], ◌∷◌, ◌++◌}
use lib.ListN.{drop}
use lib.Seq.{drop_at}
use Rattle.claims.specs.Tree.{Name, Tree}
use Rattle.claims.specs.Query.{Query, each, index_of, names, lets, relations}
use Rattle.claims.specs.Counting.{count, total}
use Rattle.codes.specs.Codes.{tree_codes, lines_codes, query_codes}
use Rattle.codes.proofs.Names.{has}
use Rattle.codes.proofs.Orderly.{Orderly}
use Rattle.codes.proofs.Below.{tree_below}
use Rattle.side_items.proofs.Placed.{Placed, PlacedAll}
use Rattle.side_limits.specs.Tally.{Tally, weight, tally}
use Rattle.side_limits.specs.Places.{until_end, count_at, count_all}
use Rattle.side_limits.proofs.Expressions.{tree_counts, until_tree}
use Rattle.side_limits.proofs.Environment.{over, over_lets, named_in_all}
use Rattle.side_limits.proofs.Lines.{query_tally}

module _ (q : Query) (t : ℕ) (w : Name → ℕ) (v : ℕ → ℕ)
    (agree : (n : Name) → has n (relations q) ≡ true → v (index_of n (relations q)) ≡ w n) (o : Orderly [] q) where
  -- what each code counts, by the walk over all codes
  abbrev counted : ℕ → ℕ
  counted k = weight t v (tally t v (query_codes q)).lets k

  lets_counted : (tally t v (query_codes q)).lets ≡ over_lets q t w (each lets q)
  lets_counted = ap (λ (d : Tally). d.lets) (query_tally q t w v agree o)

  pub placed_counts : (e : Tree) (from : ℕ) → Placed q e from → count_at counted (query_codes q) from ≡ over q t w e
  unfolding count_at over
  placed_counts e from x =
      let p = x.before in
      let room = x.settled.room in
      let ls = over_lets q t w (each lets q) in
      ap₂ (λ ms ks. until_end (weight t v ms) ks) lets_counted
      (ap (drop from) x.codes ∙ drop_at (lines_codes [] p ++ x.lead) (tree_codes p e ++ (x.ended ∷ x.rest)) from x.place)
      ∙ until_tree (weight t v ls) (tree_codes p e) x.ended x.rest (tree_below p room e) x.ends
      ∙ tree_counts p room t v ls (names q w (count t)) (named_in_all q t w v agree o p x.onward x.whole x.settled) e x.known

  pub all_placed : (es : List Tree) (ss : List ℕ) → PlacedAll q es ss → count_all counted (query_codes q) ss ≡ total (over q t w) es
  unfolding count_all
  all_placed [] [] x = refl
  all_placed (e ∷ es) (s ∷ ss) (x, xs) = ap₂ ◌+◌ (placed_counts e s x) (all_placed es ss xs)
  all_placed [] (s ∷ ss) x = elim x [ ]
  all_placed (e ∷ es) [] x = elim x [ ]
