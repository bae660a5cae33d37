-- The items of an expression that was read, by recursion on the expression: those of its codes, after the lines of a query.
-- A name is a relation or a let, so its code is none of a T; a name in a T is a test, so its code is one.
-- Assumes nothing.
use Prim.Native.Nat.{ℕ, ◌+◌, ◌-◌, ◌≤◌, ◌<◌}
use native.Mathlib.Omega.{arith}
use mathlib.Core.Path.{◌≡◌, refl, ap}
use mathlib.Core.Logic.{⊎_elim}
use mathlib.Core.Bool.{true, cond, ◌&&◌}
use mathlib.Core.List.{List, [], ◌∷◌, ◌++◌}
use mathlib.Core.Option.{some, none}
use lib.Dec.{leb, ltb}
use lib.ListN.{get_or, length-map}
use borrow.Author.Tests.{le-ltb, lt-ltb, le-leb}
use Rattle.claims.specs.Tree.{Name, TestTree, test_name, true_test, false_test, either, both, not, Tree, name, tested, union, sequence, star, plus, opt}
use Rattle.claims.specs.Names.{a_relation, a_let, uses_test, uses_either, test_uses, tree_uses, kind_of, slip, first_slip}
use Rattle.claims.specs.Query.{Query, Bound, each, index_of, lets, tests, relations}
use Rattle.codes.specs.Codes.{let_names, kind_code, code_of, test_codes, tree_codes}
use Rattle.codes.proofs.Names.{index_le, index_lt}
use Rattle.codes.proofs.Orderly.{slip_first, slip_append, Settled}
use Rattle.codes.proofs.Below.{a_test_lem}
use Rattle.codes.proofs.Bindings.{relation_or_let, relation_in, let_in}
use Rattle.side_atoms.specs.Tests.{test_set}
use Rattle.side_items.specs.Items.{of_test, arg_of, Item}
use Rattle.side_items.proofs.Scanned.{item, resting, Tested, plain, tested_append, not_of_test, arg_of_lem, Gives, gives_append, gives_code, gives_bracket}

-- a bracketed T
unfoldable pub bracket_items : Query → TestTree → List Item
bracket_items p t = plain (test_codes p t) ++ (item 6 (test_set (test_codes p t)) ∷ [])

-- a name, where the lines of the lets start at ss
unfoldable pub name_item : List ℕ → ℕ → Item
name_item ss k = item k (cond (leb 64 k && ltb k 96) (get_or ss (k - 64) 0) 0)

-- an expression
unfoldable pub tree_items : List ℕ → Query → Tree → List Item
tree_items ss p (name n) = name_item ss (code_of p n) ∷ []
tree_items ss p (tested t) = bracket_items p t
tree_items ss p (union e f) = (tree_items ss p e ++ tree_items ss p f) ++ (item 7 0 ∷ [])
tree_items ss p (sequence e f) = (tree_items ss p e ++ tree_items ss p f) ++ (item 8 0 ∷ [])
tree_items ss p (star e) = tree_items ss p e ++ (item 9 0 ∷ [])
tree_items ss p (plus e) = tree_items ss p e ++ (item 10 0 ∷ [])
tree_items ss p (opt e) = tree_items ss p e ++ (item 11 0 ∷ [])

-- the code of a relation's name, and of a let's
pub record RelationCode (p : Query) (n : Name) : Type 0 where
  pub code : code_of p n ≡ 32 + index_of n (relations p)
  pub few : index_of n (relations p) < 16

pub record LetCode (p : Query) (n : Name) : Type 0 where
  pub code : code_of p n ≡ 64 + index_of n (let_names p)
  pub few : index_of n (let_names p) < 32

module _ (p : Query) (s : Settled p) where
  pub relation_code : (n : Name) → kind_of p n ≡ some a_relation → RelationCode p n
  unfolding code_of kind_code
  relation_code n k =
      record {
        code = ap (kind_code p n) k;
        few = omega (arith, index_lt n (relations p) (relation_in p n s k), s.room.relations);
      }

  pub let_code : (n : Name) → kind_of p n ≡ some a_let → LetCode p n
  unfolding code_of kind_code let_names
  let_code n k =
      record {
        code = ap (kind_code p n) k;
        few = omega (
          arith,
          index_lt n (let_names p) (let_in p n s k),
          length-map (each lets p) (λ (b : Bound Tree). b.called),
          s.room.lets,
        );
      }

  pub either_code : (n : Name) → slip p (uses_either n) ≡ none → (32 ≤ code_of p n) × (code_of p n < 96)
  unfolding slip
  either_code n e =
      ⊎_elim (λ k. let c = relation_code n k in (omega arith, omega arith)) (λ k. let c = let_code n k in (omega arith, omega arith))
      (relation_or_let (kind_of p n) e)

  -- the codes of a T that was read
  test_code : (n : Name) → slip p (uses_test n) ≡ none → of_test (code_of p n) ≡ true
  unfolding slip code_of kind_code of_test
  test_code n e =
      let h : index_of n (tests p) ≤ 6 = omega (arith, index_le n (tests p), s.room.tests) in
      rw (
        a_test_lem (kind_of p n) e,
        code_of,
        kind_code,
        of_test,
        le-ltb (16 + index_of n (tests p)) 6 (omega arith),
        le-leb 16 (16 + index_of n (tests p)) (omega arith),
        lt-ltb (16 + index_of n (tests p)) 32 (omega arith),
      )

  pub test_codes_lem : (t : TestTree) → first_slip p (test_uses t) ≡ none → Tested (test_codes p t)
  unfolding test_codes test_uses of_test
  test_codes_lem (test_name n) e = (test_code n (slip_first p (uses_test n) [] e).0, tt)
  test_codes_lem true_test e = (refl, tt)
  test_codes_lem false_test e = (refl, tt)
  test_codes_lem (either t u) e =
      let (a, b) = slip_append p (test_uses t) (test_uses u) e in
      tested_append (test_codes p t ++ test_codes p u) (3 ∷ []) (tested_append (test_codes p t) (test_codes p u) (test_codes_lem t a) (test_codes_lem u b))
      (refl, tt)
  test_codes_lem (both t u) e =
      let (a, b) = slip_append p (test_uses t) (test_uses u) e in
      tested_append (test_codes p t ++ test_codes p u) (4 ∷ []) (tested_append (test_codes p t) (test_codes p u) (test_codes_lem t a) (test_codes_lem u b))
      (refl, tt)
  test_codes_lem (not t) e = tested_append (test_codes p t) (5 ∷ []) (test_codes_lem t e) (refl, tt)

  module _ (ss : List ℕ) where
    name_gives : (n : Name) → slip p (uses_either n) ≡ none → Gives ss (code_of p n ∷ []) (name_item ss (code_of p n) ∷ [])
    unfolding name_item
    name_gives n e =
        let (l, h) = either_code n e in
        gives_code ss (code_of p n) _ (omega arith) (not_of_test (code_of p n) l)
        (λ a x. arg_of_lem (resting a x ss) (code_of p n) (λ z. omega arith) (λ z. omega arith))

    -- an operator after its operands
    two_give : (k : ℕ) (xs ys : List ℕ) (is js : List Item) → Gives ss xs is → Gives ss ys js → Gives ss (k ∷ []) (item k 0 ∷ [])
        → Gives ss ((xs ++ ys) ++ (k ∷ [])) ((is ++ js) ++ (item k 0 ∷ []))
    two_give k xs ys is js g h o =
        gives_append ss (xs ++ ys) (k ∷ []) (is ++ js) (item k 0 ∷ []) (gives_append ss xs ys is js g h) o

    -- the codes of an expression that was read give its items
    pub tree_gives : (e : Tree) → first_slip p (tree_uses e) ≡ none → Gives ss (tree_codes p e) (tree_items ss p e)
    unfolding tree_codes tree_uses tree_items bracket_items of_test arg_of
    tree_gives (name n) h = name_gives n (slip_first p (uses_either n) [] h).0
    tree_gives (tested t) h = gives_bracket ss (test_codes p t) (test_codes_lem t h)
    tree_gives (union e f) h =
        let (a, b) = slip_append p (tree_uses e) (tree_uses f) h in
        two_give 7 (tree_codes p e) (tree_codes p f) (tree_items ss p e) (tree_items ss p f) (tree_gives e a) (tree_gives f b)
        (gives_code ss 7 0 (omega arith) refl (λ a l. refl))
    tree_gives (sequence e f) h =
        let (a, b) = slip_append p (tree_uses e) (tree_uses f) h in
        two_give 8 (tree_codes p e) (tree_codes p f) (tree_items ss p e) (tree_items ss p f) (tree_gives e a) (tree_gives f b)
        (gives_code ss 8 0 (omega arith) refl (λ a l. refl))
    tree_gives (star e) h =
        gives_append ss (tree_codes p e) (9 ∷ []) (tree_items ss p e) (item 9 0 ∷ []) (tree_gives e h)
        (gives_code ss 9 0 (omega arith) refl (λ a l. refl))
    tree_gives (plus e) h =
        gives_append ss (tree_codes p e) (10 ∷ []) (tree_items ss p e) (item 10 0 ∷ []) (tree_gives e h)
        (gives_code ss 10 0 (omega arith) refl (λ a l. refl))
    tree_gives (opt e) h =
        gives_append ss (tree_codes p e) (11 ∷ []) (tree_items ss p e) (item 11 0 ∷ []) (tree_gives e h)
        (gives_code ss 11 0 (omega arith) refl (λ a l. refl))
