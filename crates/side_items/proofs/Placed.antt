-- Where the expressions of a query stand among its codes: behind the codes of the lines before, or behind the left side of an inclusion;
-- a code that ends an expression follows. And what the sets of the relations must be for the tables to be right.
-- Assumes nothing.
use Prim.Native.Nat.{ℕ, ◌+◌, ◌≤◌}
use mathlib.Core.Path.{◌≡◌}
use mathlib.Core.Logic.{◌⊎◌}
use mathlib.Core.Bool.{true, ◌&&◌}
use mathlib.Core.List.{List, [], ◌∷◌, ◌++◌}
use mathlib.Core.Option.{none}
use lib.ListN.{length, get_or}
use Rattle.claims.specs.Tree.{Name, Tree}
use Rattle.claims.specs.Names.{tree_uses, first_slip}
use Rattle.claims.specs.Query.{Query, each, index_of, tests, relations, limits, closed}
use Rattle.codes.specs.Codes.{tree_codes, lines_codes, query_codes}
use Rattle.codes.proofs.Names.{has}
use Rattle.codes.proofs.Orderly.{Settled}
use Rattle.side_atoms.specs.Atoms.{atoms_of}
use Rattle.side_atoms.specs.Single.{starts, stops}

-- the codes of the expression e stand from place `from` on
pub record Placed (q : Query) (e : Tree) (from : ℕ) : Type 0 where
  pub before : Query
  pub onward : Query
  pub whole : before ++ onward ≡ q
  pub settled : Settled before
  pub known : first_slip before (tree_uses e) ≡ none
  pub lead : List ℕ  -- the left side of an inclusion, where e is the right one
  pub leads : (lead ≡ []) ⊎ ((x : Tree) × (lead ≡ tree_codes before x ++ (135 ∷ [])))
  pub ended : ℕ
  pub rest : List ℕ
  pub codes : query_codes q ≡ (lines_codes [] before ++ lead) ++ (tree_codes before e ++ (ended ∷ rest))
  pub place : length (lines_codes [] before ++ lead) ≡ from
  pub ends : 128 ≤ ended

-- several expressions, each at its place
abbrev pub PlacedAll : Query → List Tree → List ℕ → Type 0
PlacedAll q [] [] = Unit {0}
PlacedAll q [] (s ∷ ss) = ⊥
PlacedAll q (e ∷ es) [] = ⊥
PlacedAll q (e ∷ es) (s ∷ ss) = Placed q e s × PlacedAll q es ss

-- the sets of the relations say where the step of each may start and stop, and follow itself
pub record Limited (q : Query) (rels : List ℕ) : Type 0 where
  pub starting : (n : Name) → has n (relations q) ≡ true
      → get_or rels (index_of n (relations q)) 0 ≡ atoms_of (starts (tests q) (each (limits n) q))
  pub stopping : (n : Name) → has n (relations q) ≡ true
      → get_or rels (16 + index_of n (relations q)) 0 ≡ atoms_of (stops (tests q) (each (limits n) q))
  pub following : (n : Name) → has n (relations q) ≡ true
      → get_or rels (32 + index_of n (relations q)) 0
      ≡ atoms_of (λ a. closed q n && (stops (tests q) (each (limits n) q) a && starts (tests q) (each (limits n) q) a))
