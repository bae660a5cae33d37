-- The sets of the relations of a query, from its codes, say where the step of each relation may start, stop and follow itself: its `within`
-- lines limit it, and it is closed where its number stands in the code of a `closed` line.
-- Assumes nothing.
use Prim.Native.Nat.{ℕ, ◌+◌, ◌-◌, ◌≤◌, ◌<◌}
use native.Mathlib.Omega.{arith}
use mathlib.Core.Path.{◌≡◌, refl, sym, ◌∙◌, ap, ap₂}
use mathlib.Core.Bool.{Bool, true, false, cond, ◌&&◌, ◌||◌, and_comm, or-false}
use mathlib.Core.List.{List, [], ◌∷◌, ◌++◌, append_assoc}
use mathlib.Core.Option.{none}
use lib.Bits.{bit_and}
use lib.Dec.{eqb}
use lib.ListN.{length, get_or}
use borrow.Author.Tests.{ne_eqb, lt-ltb, le-ltb}
use Rattle.claims.specs.Bytes.{same}
use Rattle.claims.specs.Tree.{Name, Line, test_line, rel_line, let_line, never_line, within_line, closed_line, assume_empty, assume_irreflexive, claim_line}
use Rattle.claims.specs.Names.{uses_relation, uses, first_slip}
use Rattle.claims.specs.Query.{Query, each, index_of, limits, closed_names, tests, relations, closed}
use Rattle.codes.specs.Codes.{line_codes, lines_codes, query_codes}
use Rattle.codes.proofs.Names.{has, has_append, index_lt}
use Rattle.codes.proofs.Orderly.{Orderly, slip_first, Settled, settled_none, settled_more, settled_on}
use Rattle.side_atoms.specs.Atoms.{atoms_of}
use Rattle.side_atoms.specs.Single.{starts, stops}
use Rattle.side_atoms.proofs.Atoms.{atoms_same, atoms_and, atoms_none}
use Rattle.memory.proofs.Words.{words_at_lem}
use Rattle.side_items.specs.Items.{Item, unscanned, items_of}
use Rattle.side_relations.specs.Relations.{limit_sets, closed_in, relation_at, relation_sets}
use Rattle.side_items.proofs.Placed.{Limited}
use Rattle.side_items.proofs.Scanned.{items_from, items_of_lem, resting}
use Rattle.side_items.proofs.LineItems.{line_items, line_starts, lines_items}
use Rattle.side_items.proofs.FreeItems.{Free, Unmarked, line_free}
use Rattle.codes.proofs.NamedRelations.{named_relation, same_number}
use Rattle.side_relations.proofs.NarrowedSets.{limits_start, limits_stop}

-- the end of a `closed` line of relation number i
abbrev of_closed : ℕ → ℕ → Bool
of_closed i k = eqb k (160 + i)

low_closed : (i k : ℕ) → k < 144 → (k ≡ 131 → ⊥) → of_closed i k ≡ false
low_closed i k h n = ne_eqb k (160 + i) (λ z. omega arith)

closed_free : (i : ℕ) (is js : List Item) → Free (of_closed i) is → closed_in (is ++ js) i ≡ closed_in js i
unfolding closed_in
closed_free i [] js f = refl
closed_free i (x ∷ is) js (h, f) = ap (λ b. b || closed_in (is ++ js) i) h ∙ closed_free i is js f

-- the `closed` lines of relation n of the query q
module _ (q : Query) (n : Name) (inQ : has n (relations q) ≡ true) where
  abbrev number : ℕ
  number = index_of n (relations q)

  module _ (p r : Query) (z : p ++ r ≡ q) (s : Settled p) (ss : List ℕ) (js : List Item) where
    line_other : (l : Line) → first_slip p (uses l) ≡ none → Unmarked (of_closed number) p l
        → closed_in (line_items ss p l ++ js) number ≡ closed_in js number
    line_other l e u = closed_free number (line_items ss p l) js (line_free (of_closed number) (low_closed number) p s ss l e u)

    line_closed : (l : Line) → first_slip p (uses l) ≡ none
        → closed_in (line_items ss p l ++ js) number ≡ (has n (closed_names l) || closed_in js number)
    unfolding closed_names line_items uses closed_in
    line_closed (test_line m) e = line_other (test_line m) e tt
    line_closed (rel_line m) e = line_other (rel_line m) e tt
    line_closed (let_line m t) e = line_other (let_line m t) e tt
    line_closed (never_line t) e = line_other (never_line t) e (ne_eqb 131 (160 + number) (λ y. omega arith))
    line_closed (within_line m t u) e =
        let k = index_lt m (relations p) (named_relation q p r z s m (slip_first p (uses_relation m) _ e).0) in
        line_other (within_line m t u) e (ne_eqb (144 + index_of m (relations p)) (160 + number) (λ y. omega (arith, k, s.room.relations)))
    line_closed (closed_line m) e =
        ap (λ b. b || closed_in js number)
        (same_number q p r z s m (slip_first p (uses_relation m) [] e).0 n inQ 160 ∙ sym (or-false (same n m)))
    line_closed (assume_empty t) e = line_other (assume_empty t) e tt
    line_closed (assume_irreflexive t) e = line_other (assume_irreflexive t) e tt
    line_closed (claim_line c) e = line_other (claim_line c) e tt

  lines_closed : (p r : Query) → p ++ r ≡ q → Orderly p r → Settled p → (a : ℕ) (ss : List ℕ)
      → closed_in (items_from (resting a a ss) (lines_codes p r)) number ≡ has n (each closed_names r)
  unfolding lines_codes items_from closed_in
  lines_closed p [] z o s a ss = refl
  lines_closed p (l ∷ r) z (e, c, o) s a ss =
      let b = a + length (line_codes p l) in
      ap (λ is. closed_in is number) (lines_items p l r e s a ss)
      ∙ line_closed p (l ∷ r) z s ss (items_from (resting b b (ss ++ line_starts a l)) (lines_codes (p ++ (l ∷ [])) r)) l e
      ∙ ap (λ x. has n (closed_names l) || x)
      (lines_closed (p ++ (l ∷ [])) r (append_assoc p (l ∷ []) r ∙ z) o (settled_more p l e c s) b (ss ++ line_starts a l))
      ∙ sym (has_append n (closed_names l) (each closed_names r))

  all_closed : Orderly [] q → closed_in (items_of (query_codes q)) number ≡ closed q n
  unfolding query_codes unscanned closed
  all_closed o = ap (λ is. closed_in is number) (items_of_lem (query_codes q)) ∙ lines_closed [] q refl o settled_none 0 []

-- what stands at each place
module _ (is : List Item) (i : ℕ) where
  set_low : i < 32 → get_or (relation_sets is) i 0 ≡ get_or (limit_sets is) i 0
  unfolding relation_sets relation_at
  set_low h =
      let ws = limit_sets is in
      words_at_lem 48 (relation_at (closed_in is) ws) i (omega arith)
      ∙ ap (λ b. cond b (get_or ws i 0) (cond (closed_in is (i - 32)) (bit_and (get_or ws (i - 32) 0) (get_or ws (i - 16) 0)) 0)) (lt-ltb i 32 h)

  set_high : i < 16
      → get_or (relation_sets is) (32 + i) 0 ≡ cond (closed_in is i) (bit_and (get_or (limit_sets is) i 0) (get_or (limit_sets is) (16 + i) 0)) 0
  unfolding relation_sets relation_at
  set_high h =
      let ws = limit_sets is in
      let k = 32 + i in
      words_at_lem 48 (relation_at (closed_in is) ws) k (omega arith)
      ∙ ap (λ b. cond b (get_or ws k 0) (cond (closed_in is (k - 32)) (bit_and (get_or ws (k - 32) 0) (get_or ws (k - 16) 0)) 0)) (le-ltb k 32 (omega arith))
      ∙ ap₂ (λ a b. cond (closed_in is a) (bit_and (get_or ws a 0) (get_or ws b 0)) 0) (omega arith) (omega arith)

-- a closed relation follows itself where it may stop and start
both_sets : (c : Bool) (x y : ℕ) (S E : ℕ → Bool) → x ≡ atoms_of S → y ≡ atoms_of E → cond c (bit_and x y) 0 ≡ atoms_of (λ a. c && (E a && S a))
both_sets true x y S E e f =
    ap₂ bit_and e f ∙ atoms_and S E ∙ atoms_same (λ a. S a && E a) (λ a. E a && S a) (λ a h. and_comm (S a) (E a))
both_sets false x y S E e f = atoms_none

-- the sets of the relations are right
pub limited_sets : (q : Query) → Orderly [] q → length (query_codes q) ≤ 4096 → Limited q (relation_sets (items_of (query_codes q)))
limited_sets q o few =
    let is = items_of (query_codes q) in
    record {
      starting = λ n h.
          let l = small n h in
          set_low is (index_of n (relations q)) (omega arith) ∙ limits_start q n h l o few;
      stopping = λ n h.
          let l = small n h in
          set_low is (16 + index_of n (relations q)) (omega arith) ∙ limits_stop q n h l o few;
      following = λ n h.
          let l = small n h in
          let i = index_of n (relations q) in
          set_high is i l
          ∙ ap (λ b. cond b (bit_and (get_or (limit_sets is) i 0) (get_or (limit_sets is) (16 + i) 0)) 0) (all_closed q n h o)
          ∙ both_sets (closed q n) (get_or (limit_sets is) i 0) (get_or (limit_sets is) (16 + i) 0)
          (starts (tests q) (each (limits n) q)) (stops (tests q) (each (limits n) q)) (limits_start q n h l o few) (limits_stop q n h l o few);
    }
  where
    small : (n : Name) → has n (relations q) ≡ true → index_of n (relations q) < 16
    small n h = omega (arith, index_lt n (relations q) h, (settled_on [] q o settled_none).room.relations)
