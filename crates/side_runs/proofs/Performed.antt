-- What the items of an expression do to the machine: those of a T nothing, a bracket puts its set on top, a relation a new occurrence,
-- a let whatever its line builds, and an operator joins what its operands have put on top. The code that ends the line stops the walk.
-- Assumes nothing.
use Prim.Native.Nat.{ℕ, ◌+◌, ◌-◌, ◌^◌, ◌≤◌, ◌<◌}
use native.Mathlib.Omega.{arith}
use mathlib.Core.Path.{◌≡◌, refl, ◌∙◌, ap, ap₂}
use mathlib.Core.Bool.{true, cond}
use mathlib.Core.List.{List, [], ◌∷◌, ◌++◌}
use lib.ListN.{get_or}
use borrow.Author.Tests.{lt-ltb, le-leb, lt-leb, ne_eqb}
use Rattle.side_items.specs.Items.{of_test, Item}
use Rattle.side_parts.specs.Machine.{Machine, given, fresh, stepped}
use Rattle.side_runs.specs.Performing.{performed, perform}
use Rattle.side_items.proofs.Scanned.{item, of_test_small, Tested, plain}
use Rattle.side_items.proofs.TreeItems.{name_item}
use Rattle.side_items.proofs.Inside.{Inside, inside_append, inside_plain}

-- a code of a T does nothing
pub idle : (rels : List ℕ) (k x : ℕ) (m : Machine) → of_test k ≡ true → stepped rels k x m ≡ m
unfolding stepped
idle rels k x m h =
    let (l, n) = of_test_small k h in
    rw (
      stepped,
      ne_eqb k 6 (n 6 (omega arith) (omega arith)),
      ne_eqb k 7 (n 7 (omega arith) (omega arith)),
      ne_eqb k 8 (n 8 (omega arith) (omega arith)),
      ne_eqb k 9 (n 9 (omega arith) (omega arith)),
      ne_eqb k 10 (n 10 (omega arith) (omega arith)),
      ne_eqb k 11 (n 11 (omega arith) (omega arith)),
      ne_eqb k 48 (λ z. omega arith),
      lt-leb 32 k l,
    )

-- a relation adds an occurrence
relation_stepped : (rels : List ℕ) (k x : ℕ) (m : Machine) → 32 ≤ k → k < 48
    → stepped rels k x m ≡ fresh (get_or rels (k - 32) 0) (get_or rels (k - 16) 0) (get_or rels k 0) (2 ^ (k - 32)) m
unfolding stepped
relation_stepped rels k x m h l =
    rw (
      stepped,
      ne_eqb k 6 (λ z. omega arith),
      ne_eqb k 7 (λ z. omega arith),
      ne_eqb k 8 (λ z. omega arith),
      ne_eqb k 9 (λ z. omega arith),
      ne_eqb k 10 (λ z. omega arith),
      ne_eqb k 11 (λ z. omega arith),
      ne_eqb k 48 (λ z. omega arith),
      le-leb 32 k h,
      lt-ltb k 48 l,
    )

module _ (call : ℕ → Machine → Machine) (rels : List ℕ) where
  -- what is no let is stepped over
  plain_performed : (k x : ℕ) (m : Machine) → k < 64 → performed call rels (item k x) m ≡ stepped rels k x m
  unfolding performed
  plain_performed k x m h = rw (performed, lt-leb 64 k h)

  pub relation_performed : (ss : List ℕ) (k r : ℕ) → k ≡ 32 + r → r < 16 → (m : Machine)
      → performed call rels (name_item ss k) m ≡ fresh (get_or rels r 0) (get_or rels (16 + r) 0) (get_or rels (32 + r) 0) (2 ^ r) m
  unfolding name_item
  relation_performed ss k r e h m =
      plain_performed k _ m (omega arith) ∙ relation_stepped rels k _ m (omega arith) (omega arith)
      ∙ ap (λ x. fresh (get_or rels (x - 32) 0) (get_or rels (x - 16) 0) (get_or rels x 0) (2 ^ (x - 32)) m) e
      ∙ ap₂ (λ x y. fresh (get_or rels x 0) (get_or rels y 0) (get_or rels (32 + r) 0) (2 ^ x) m) (omega arith) (omega arith)

  pub let_performed : (ss : List ℕ) (k j : ℕ) → k ≡ 64 + j → j < 32 → (m : Machine)
      → performed call rels (name_item ss k) m ≡ call (get_or ss j 0) m
  unfolding performed name_item
  let_performed ss k j e h m =
      rw (performed, name_item, le-leb 64 k (omega arith), lt-ltb k 96 (omega arith)) (ap (λ x. call (get_or ss x 0) m) (omega arith))

  pub perform_append : (xs ys : List Item) (m : Machine) → Inside xs
      → perform call rels (xs ++ ys) m ≡ perform call rels ys (perform call rels xs m)
  unfolding perform
  perform_append [] ys m b = refl
  perform_append (x ∷ xs) ys m (h, b) = rw (lt-leb 128 x.code h) (perform_append xs ys (performed call rels x m) b)

  pub perform_one : (x : Item) (m : Machine) → x.code < 128 → perform call rels (x ∷ []) m ≡ performed call rels x m
  unfolding perform
  perform_one x m h = ap (λ b. cond b m (performed call rels x m)) (lt-leb 128 x.code h)

  -- the end of the line
  pub perform_end : (x : Item) (xs : List Item) (m : Machine) → 128 ≤ x.code → perform call rels (x ∷ xs) m ≡ m
  unfolding perform
  perform_end x xs m h = ap (λ b. cond b m (perform call rels xs (performed call rels x m))) (le-leb 128 x.code h)

  -- the codes of a T, and then its bracket
  perform_plain : (ks : List ℕ) (m : Machine) → Tested ks → perform call rels (plain ks) m ≡ m
  unfolding perform
  perform_plain [] m t = refl
  perform_plain (k ∷ ks) m (h, t) =
      let (l, n) = of_test_small k h in
      rw (lt-leb 128 k (omega arith))
      (ap (perform call rels (plain ks)) (plain_performed k 0 m (omega arith) ∙ idle rels k 0 m h) ∙ perform_plain ks m t)

  pub perform_bracket : (ks : List ℕ) (x : ℕ) (m : Machine) → Tested ks → perform call rels (plain ks ++ (item 6 x ∷ [])) m ≡ given x m
  unfolding stepped
  perform_bracket ks x m t =
      perform_append (plain ks) (item 6 x ∷ []) m (inside_plain ks t)
      ∙ perform_one (item 6 x) _ (omega arith) ∙ plain_performed 6 x _ (omega arith) ∙ ap (given x) (perform_plain ks m t)

  -- an operator after its operands
  pub perform_last : (k : ℕ) (xs : List Item) (m : Machine) → Inside xs → k < 64
      → perform call rels (xs ++ (item k 0 ∷ [])) m ≡ stepped rels k 0 (perform call rels xs m)
  perform_last k xs m b h =
      perform_append xs (item k 0 ∷ []) m b
      ∙ perform_one (item k 0) (perform call rels xs m) (omega arith) ∙ plain_performed k 0 (perform call rels xs m) h

  pub perform_two : (k : ℕ) (xs ys : List Item) (m : Machine) → Inside xs → Inside ys → k < 64
      → perform call rels ((xs ++ ys) ++ (item k 0 ∷ [])) m ≡ stepped rels k 0 (perform call rels ys (perform call rels xs m))
  perform_two k xs ys m a b h =
      perform_last k (xs ++ ys) m (inside_append xs ys a b) h ∙ ap (stepped rels k 0) (perform_append xs ys m a)
