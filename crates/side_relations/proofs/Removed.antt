-- The atoms that the `never` lines of a query remove, and those that are left, from the codes of the query: the set that a `never` needs is
-- the set of the atoms that satisfy its test, and the sets of all of them together are the removed atoms.
-- Assumes nothing.
use Prim.Native.Nat.{ℕ, ◌+◌, ◌-◌, ◌^◌, ◌≤◌, ◌<◌}
use native.Mathlib.Nat.{pow-le-pow_right}
use native.Mathlib.Omega.{arith}
use mathlib.Core.Path.{◌≡◌, refl, sym, ◌∙◌, ap, ap₂, subst}
use mathlib.Core.Logic.{⊎_elim}
use mathlib.Core.Bool.{Bool, false, cond, not, ◌&&◌, ◌||◌, or-false, or_assoc}
use mathlib.Core.List.{List, [], ◌∷◌, ◌++◌, append_assoc}
use mathlib.Core.Option.{none}
use lib.Bits.{bit_or}
use lib.Dec.{eqb, ltb}
use lib.ListN.{length, length-append}
use borrow.Author.Tests.{lt-ltb, le-ltb, ne_eqb}
use Rattle.kat.specs.Lists.{upto, filter, some}
use Rattle.kat.proofs.Bools.{lt_or_le}
use Rattle.claims.specs.Tree.{TestTree, Line, test_line, rel_line, let_line, never_line, within_line, closed_line, assume_empty, assume_irreflexive, claim_line}
use Rattle.claims.specs.Names.{uses, first_slip}
use Rattle.claims.specs.Query.{Query, each, index_of, bit, nevers, tests, relations, holds, atoms, removed, live}
use Rattle.claims.specs.Fields.{set_number}
use Rattle.codes.specs.Codes.{test_codes, line_codes, lines_codes, query_codes}
use Rattle.codes.proofs.Orderly.{Orderly, Settled, settled_none, settled_more, settled_on}
use Rattle.bits.proofs.Bit.{bit_above}
use Rattle.side_atoms.specs.Atoms.{atoms_of}
use Rattle.side_atoms.specs.Tests.{test_set}
use Rattle.side_atoms.proofs.Atoms.{atoms_same, atoms_or, atoms_none, atoms_bit, atoms_ext, bit_of, number_small}
use Rattle.side_items.specs.Items.{Item, unscanned, items_of}
use Rattle.side_relations.specs.Relations.{removed_set, live_set}
use Rattle.side_items.proofs.Scanned.{item, items_from, items_of_lem, resting, plain}
use Rattle.side_items.proofs.TreeItems.{test_codes_lem}
use Rattle.side_items.proofs.LineItems.{line_items, line_starts, lines_items}
use Rattle.side_items.proofs.EarlierTests.{set_earlier}
use Rattle.side_items.proofs.FreeItems.{Free, Unmarked, free_plain, line_free}

-- the end of a `never` line
abbrev of_never : ℕ → Bool
of_never k = eqb k 131

removed_free : (is js : List Item) → Free of_never is → removed_set (is ++ js) ≡ removed_set js
unfolding removed_set
removed_free [] js f = refl
removed_free (i ∷ is) js (h, f) = ap (λ b. bit_or (cond b i.arg 0) (removed_set (is ++ js))) h ∙ removed_free is js f

other : (k : ℕ) → k < 144 → (k ≡ 131 → ⊥) → of_never k ≡ false
other k h n = ne_eqb k 131 n

some_append : {A : Type 0} (f : A → Bool) (xs ys : List A) → some f (xs ++ ys) ≡ (some f xs || some f ys)
some_append f [] ys = refl
some_append f (x ∷ xs) ys = ap (λ b. f x || b) (some_append f xs ys) ∙ sym (or_assoc (f x) (some f xs) (some f ys))

module _ (q : Query) where
  -- an atom that one of these tests removes
  abbrev under : List TestTree → ℕ → Bool
  under ts a = some (λ t. holds (tests q) t a) ts

  -- a line, where the lines after it remove the atoms of g
  module _ (p r : Query) (z : p ++ r ≡ q) (s : Settled p) (ss : List ℕ) (js : List Item) (g : ℕ → Bool) (after : removed_set js ≡ atoms_of g) where
    line_other : (l : Line) → first_slip p (uses l) ≡ none → Unmarked of_never p l → removed_set (line_items ss p l ++ js) ≡ atoms_of g
    line_other l e u = removed_free (line_items ss p l) js (line_free of_never other p s ss l e u) ∙ after

    line_removed : (l : Line) → first_slip p (uses l) ≡ none → length (line_codes p l) ≤ 4096
        → removed_set (line_items ss p l ++ js) ≡ atoms_of (λ a. under (nevers l) a || g a)
    unfolding nevers line_items line_codes uses removed_set
    line_removed (test_line n) e h = line_other (test_line n) e tt
    line_removed (rel_line n) e h = line_other (rel_line n) e tt
    line_removed (let_line n t) e h = line_other (let_line n t) e tt
    line_removed (never_line t) e h =
        let ks = test_codes p t in
        ap removed_set (append_assoc (plain ks) (item 131 (test_set ks) ∷ []) js)
        ∙ removed_free (plain ks) (item 131 (test_set ks) ∷ js) (free_plain of_never other ks (test_codes_lem p s t e))
        ∙ ap₂ bit_or (set_earlier q p r z s t e (omega (arith, length-append ks (131 ∷ [])))) after
        ∙ atoms_or (holds (tests q) t) g
        ∙ atoms_same (λ a. holds (tests q) t a || g a) (λ a. (holds (tests q) t a || false) || g a)
        (λ a i. ap (λ b. b || g a) (sym (or-false (holds (tests q) t a))))
    line_removed (within_line n t u) e h = line_other (within_line n t u) e (ne_eqb (144 + index_of n (relations p)) 131 (λ y. omega arith))
    line_removed (closed_line n) e h = line_other (closed_line n) e (ne_eqb (160 + index_of n (relations p)) 131 (λ y. omega arith))
    line_removed (assume_empty t) e h = line_other (assume_empty t) e tt
    line_removed (assume_irreflexive t) e h = line_other (assume_irreflexive t) e tt
    line_removed (claim_line c) e h = line_other (claim_line c) e tt

  lines_removed : (p r : Query) → p ++ r ≡ q → Orderly p r → Settled p → length (lines_codes p r) ≤ 4096 → (a : ℕ) (ss : List ℕ)
      → removed_set (items_from (resting a a ss) (lines_codes p r)) ≡ atoms_of (under (each nevers r))
  unfolding lines_codes removed_set items_from
  lines_removed p [] z o s h a ss = atoms_none
  lines_removed p (l ∷ r) z (e, c, o) s h a ss =
      let b = a + length (line_codes p l) in
      let two = length-append (line_codes p l) (lines_codes (p ++ (l ∷ [])) r) in
      ap removed_set (lines_items p l r e s a ss)
      ∙ line_removed p (l ∷ r) z s ss (items_from (resting b b (ss ++ line_starts a l)) (lines_codes (p ++ (l ∷ [])) r)) (under (each nevers r))
      (lines_removed (p ++ (l ∷ [])) r (append_assoc p (l ∷ []) r ∙ z) o (settled_more p l e c s) (omega arith) b (ss ++ line_starts a l))
      l e (omega arith)
      ∙ atoms_same (λ x. under (nevers l) x || under (each nevers r) x) (under (nevers l ++ each nevers r))
      (λ x i. sym (some_append (λ t. holds (tests q) t x) (nevers l) (each nevers r)))

-- the atoms under a `never`
pub removed_atoms : (q : Query) → Orderly [] q → length (query_codes q) ≤ 4096 → removed_set (items_of (query_codes q)) ≡ atoms_of (removed q)
unfolding query_codes removed unscanned
removed_atoms q o h = ap removed_set (items_of_lem (query_codes q)) ∙ lines_removed q [] q refl o settled_none h 0 []

-- at most 6 tests make at most 64 atoms
pub below_sixty_four : (t : ℕ) → t ≤ 6 → 2 ^ t ≤ 64
below_sixty_four t h = pow-le-pow_right {n = 2} (omega arith) {i = t} {j = 6} h

-- the atoms below n that pass a test
few_atoms : (f : ℕ → Bool) (n : ℕ) → n ≤ 64 → atoms_of (λ a. ltb a n && f a) ≡ set_number 0 (filter f (upto 0 n))
few_atoms f n h =
    let m = set_number 0 (filter f (upto 0 n)) in
    let z : n - 0 ≡ n = omega arith in
    let small : m < 2 ^ n = subst (λ w. m < 2 ^ w) z (number_small f 0 n (omega arith)) in
    sym (atoms_ext (λ a. ltb a n && f a) m
    (omega (arith, small, pow-le-pow_right {n = 2} (omega arith) {i = n} {j = 64} h))
    (λ a i. ⊎_elim
    (λ l.
    let y : a ≡ a - 0 = omega arith in
    ap (λ j. bit j m) y ∙ bit_of f 0 n a (omega arith) (omega arith) l ∙ sym (ap (λ b. b && f a) (lt-ltb a n l)))
    (λ l. bit_above n a m small l ∙ sym (ap (λ b. b && f a) (le-ltb a n l)))
    (lt_or_le a n)))

-- the atoms that are left
pub live_atoms : (q : Query) → Orderly [] q → length (query_codes q) ≤ 4096
    → live_set (length (tests q)) (removed_set (items_of (query_codes q))) ≡ set_number 0 (live q)
unfolding live_set live atoms
live_atoms q o h =
    let n = 2 ^ length (tests q) in
    ap (live_set (length (tests q))) (removed_atoms q o h)
    ∙ atoms_same (λ a. ltb a n && not (bit a (atoms_of (removed q)))) (λ a. ltb a n && not (removed q a))
    (λ a i. ap (λ b. ltb a n && not b) (atoms_bit (removed q) a i))
    ∙ few_atoms (λ a. not (removed q a)) n (below_sixty_four (length (tests q)) (settled_on [] q o settled_none).room.tests)
