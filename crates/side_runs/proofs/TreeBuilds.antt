-- The items of an expression build what the expression is expanded to, with one part at a time for each of its leaves, where its tests
-- and its names build what they stand for.
-- Assumes nothing.
use Prim.Native.Nat.{ℕ, ◌≤◌}
use native.Mathlib.Omega.{arith}
use mathlib.Core.Path.{◌≡◌, sym}
use mathlib.Core.List.{List, [], ◌∷◌, ◌++◌}
use mathlib.Core.Option.{none}
use lib.ListN.{length, length-append}
use Rattle.kat.specs.Expr.{Expr, none as nowhere}
use Rattle.claims.specs.Tree.{Name, TestTree, Tree, name, tested, union, sequence, star, plus, opt}
use Rattle.claims.specs.Names.{uses_either, test_uses, tree_uses, slip, first_slip}
use Rattle.claims.specs.Query.{Query, Bound, lookup, holds}
use Rattle.claims.specs.Counting.{count}
use Rattle.claims.specs.Sides.{expand}
use Rattle.codes.specs.Codes.{code_of, test_codes, tree_codes}
use Rattle.codes.proofs.Orderly.{slip_first, slip_append, Settled}
use Rattle.side_atoms.specs.Atoms.{atoms_of}
use Rattle.side_atoms.specs.Tests.{test_set}
use Rattle.side_parts.specs.Machine.{Machine, stepped}
use Rattle.side_runs.specs.Performing.{performed, perform}
use Rattle.side_parts.proofs.Builds.{Builds}
use Rattle.side_parts.proofs.BuildsLeaves.{builds_same, builds_given}
use Rattle.side_parts.proofs.BuildsJoined.{builds_union, builds_sequence}
use Rattle.side_parts.proofs.BuildsIterated.{builds_plus, builds_opt, builds_star}
use Rattle.side_items.proofs.TreeItems.{bracket_items, name_item, tree_items, test_codes_lem, either_code}
use Rattle.side_runs.proofs.Performed.{perform_one, perform_bracket, perform_last, perform_two}
use Rattle.side_items.proofs.Inside.{tree_inside}

-- how many codes two operands have, or one, with the operator
two_few : (xs ys : List ℕ) (k n : ℕ) → length ((xs ++ ys) ++ (k ∷ [])) ≤ n → (length xs ≤ n) × (length ys ≤ n)
two_few xs ys k n h = let z = length-append (xs ++ ys) (k ∷ []) in let y = length-append xs ys in (omega arith, omega arith)

one_few : (xs : List ℕ) (k n : ℕ) → length (xs ++ (k ∷ [])) ≤ n → length xs ≤ n
one_few xs k n h = omega (arith, length-append xs (k ∷ []))

module _ (p : Query) (s : Settled p) (ss : List ℕ) (call : ℕ → Machine → Machine) (rels : List ℕ) (ts : List Name)
    (counts : List (Bound ℕ)) (means : List (Bound Expr))
    (testing : (t : TestTree) → first_slip p (test_uses t) ≡ none → length (test_codes p t) ≤ 4096
    → test_set (test_codes p t) ≡ atoms_of (holds ts t))
    (naming : (n : Name) → slip p (uses_either n) ≡ none
    → Builds (lookup 0 n counts) (performed call rels (name_item ss (code_of p n))) (lookup nowhere n means)) where
  pub tree_builds : (e : Tree) → first_slip p (tree_uses e) ≡ none → length (tree_codes p e) ≤ 4096
      → Builds (count 1 counts e) (perform call rels (tree_items ss p e)) (expand ts means e)
  unfolding tree_uses tree_codes tree_items bracket_items name_item count expand stepped
  tree_builds (name n) h l =
      let h' = (slip_first p (uses_either n) [] h).0 in
      let (a, b) = either_code p s n h' in
      builds_same (λ m. sym (perform_one call rels (name_item ss (code_of p n)) m (omega arith))) (naming n h')
  tree_builds (tested t) h l =
      builds_same (λ m. sym (perform_bracket call rels (test_codes p t) (test_set (test_codes p t)) m (test_codes_lem p s t h)))
      (builds_given (holds ts t) (test_set (test_codes p t)) (testing t h (one_few (test_codes p t) 6 4096 l)))
  tree_builds (union e f) h l =
      let (a, b) = slip_append p (tree_uses e) (tree_uses f) h in
      let (i, j) = two_few (tree_codes p e) (tree_codes p f) 7 4096 l in
      builds_same
      (λ m. sym (perform_two call rels 7 (tree_items ss p e) (tree_items ss p f) m (tree_inside p s ss e a) (tree_inside p s ss f b) (omega arith)))
      (builds_union (tree_builds e a i) (tree_builds f b j))
  tree_builds (sequence e f) h l =
      let (a, b) = slip_append p (tree_uses e) (tree_uses f) h in
      let (i, j) = two_few (tree_codes p e) (tree_codes p f) 8 4096 l in
      builds_same
      (λ m. sym (perform_two call rels 8 (tree_items ss p e) (tree_items ss p f) m (tree_inside p s ss e a) (tree_inside p s ss f b) (omega arith)))
      (builds_sequence (tree_builds e a i) (tree_builds f b j))
  tree_builds (star e) h l =
      builds_same (λ m. sym (perform_last call rels 9 (tree_items ss p e) m (tree_inside p s ss e h) (omega arith)))
      (builds_star (tree_builds e h (one_few (tree_codes p e) 9 4096 l)))
  tree_builds (plus e) h l =
      builds_same (λ m. sym (perform_last call rels 10 (tree_items ss p e) m (tree_inside p s ss e h) (omega arith)))
      (builds_plus (tree_builds e h (one_few (tree_codes p e) 10 4096 l)))
  tree_builds (opt e) h l =
      builds_same (λ m. sym (perform_last call rels 11 (tree_items ss p e) m (tree_inside p s ss e h) (omega arith)))
      (builds_opt (tree_builds e h (one_few (tree_codes p e) 11 4096 l)))
