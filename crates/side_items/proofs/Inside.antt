-- Items none of which ends a line: those of an expression.
-- Assumes nothing.
use Prim.Native.Nat.{ℕ, ◌<◌}
use native.Mathlib.Omega.{arith}
use mathlib.Core.Path.{◌≡◌, subst}
use mathlib.Core.List.{List, [], ◌∷◌, ◌++◌}
use mathlib.Core.Option.{none}
use Rattle.claims.specs.Tree.{Tree}
use Rattle.claims.specs.Names.{tree_uses, first_slip}
use Rattle.claims.specs.Query.{Query}
use Rattle.codes.specs.Codes.{tree_codes}
use Rattle.codes.proofs.Orderly.{Settled}
use Rattle.codes.proofs.Below.{Below, tree_below}
use Rattle.side_items.specs.Items.{Scan, scanned, Item}
use Rattle.side_items.proofs.Scanned.{items_from, resting, of_test_small, Tested, plain}
use Rattle.side_items.proofs.TreeItems.{tree_items, tree_gives}

-- items none of which ends a line
abbrev pub Inside : List Item → Type 0
Inside [] = Unit {0}
Inside (x ∷ xs) = (x.code < 128) × Inside xs

inside_from : (s : Scan) (ks : List ℕ) → Below 128 ks → Inside (items_from s ks)
unfolding items_from
inside_from s [] b = tt
inside_from s (k ∷ ks) (h, b) = (h, inside_from (scanned s k) ks b)

pub tree_inside : (p : Query) (s : Settled p) (ss : List ℕ) (e : Tree) → first_slip p (tree_uses e) ≡ none → Inside (tree_items ss p e)
tree_inside p s ss e h =
    subst Inside ((tree_gives p s ss e h).items 0 0) (inside_from (resting 0 0 ss) (tree_codes p e) (tree_below p s.room e))

pub inside_append : (xs ys : List Item) → Inside xs → Inside ys → Inside (xs ++ ys)
inside_append [] ys a b = b
inside_append (x ∷ xs) ys (h, a) b = (h, inside_append xs ys a b)

pub inside_plain : (ks : List ℕ) → Tested ks → Inside (plain ks)
inside_plain [] t = tt
inside_plain (k ∷ ks) (h, t) = let (l, n) = of_test_small k h in (omega arith, inside_plain ks t)
