-- Where a relation of a query may start and stop, from the codes of the query: each `within` line of the relation cuts its two sets by the
-- sets of the line's two tests, wherever the line stands; a `within` line of another relation and every other line leave them as they are.
-- Assumes nothing.
use Prim.Native.Nat.{ℕ, ◌+◌, ◌≤◌, ◌<◌}
use native.Mathlib.Omega.{arith}
use mathlib.Core.Path.{◌≡◌, refl, sym, ◌∙◌, ap, ap₂, subst}
use mathlib.Core.Bool.{Bool, true, false, cond, ◌&&◌, and-true, and_assoc}
use mathlib.Core.List.{List, [], ◌∷◌, ◌++◌, append_assoc}
use mathlib.Core.Option.{none}
use lib.Bits.{bit_and}
use lib.Dec.{eqb, leb, ltb}
use lib.ListN.{length, get_or, set, length-append, length-set}
use lib.Seq.{get_or-set_same, get_or-set_other}
use borrow.Author.Tests.{eqb-true, eqb-false, ne_eqb, lt-ltb, le-ltb, le-leb, lt-leb}
use Rattle.kat.specs.Lists.{every}
use Rattle.claims.specs.Bytes.{same}
use Rattle.claims.specs.Tree.{Name, TestTree, Line, test_line, rel_line, let_line, never_line, within_line, closed_line, assume_empty, assume_irreflexive, claim_line}
use Rattle.claims.specs.Names.{uses_relation, test_uses, uses, first_slip}
use Rattle.claims.specs.Query.{Query, Limit, each, index_of, limits, tests, relations, holds}
use Rattle.codes.specs.Codes.{test_codes, line_codes, lines_codes, query_codes}
use Rattle.codes.proofs.Names.{has, index_lt}
use Rattle.codes.proofs.Orderly.{Orderly, slip_first, slip_append, Settled, settled_none, settled_more}
use Rattle.side_atoms.specs.Atoms.{atoms_of, all_atoms}
use Rattle.memory.specs.Memory.{words}
use Rattle.side_atoms.specs.Single.{starts, stops}
use Rattle.side_atoms.specs.Tests.{test_set}
use Rattle.side_atoms.proofs.Atoms.{atoms_same, atoms_and, atoms_all}
use Rattle.memory.proofs.Words.{words_length, words_at_lem}
use Rattle.side_items.specs.Items.{Item, unscanned, items_of}
use Rattle.side_relations.specs.Relations.{narrowed, limits_from, limit_sets}
use Rattle.side_items.proofs.Scanned.{item, items_from, items_of_lem, resting, of_test_small, Tested, plain}
use Rattle.side_items.proofs.TreeItems.{bracket_items, test_codes_lem}
use Rattle.side_items.proofs.LineItems.{line_items, line_starts, lines_items}
use Rattle.side_items.proofs.EarlierTests.{set_earlier}
use Rattle.side_items.proofs.FreeItems.{Free, Unmarked, line_free}
use Rattle.codes.proofs.NamedRelations.{named_relation, same_number}

-- the end of a `within` line
abbrev of_within : ℕ → Bool
of_within k = leb 144 k && ltb k 160

low_within : (k : ℕ) → k < 144 → (k ≡ 131 → ⊥) → of_within k ≡ false
low_within k h n = ap (λ b. b && ltb k 160) (lt-leb 144 k h)

high_within : (k : ℕ) → 160 ≤ k → of_within k ≡ false
high_within k h = rw (le-leb 144 k (omega arith), le-ltb k 160 h)

-- items that end no `within` line change no set, whatever the last two bracketed tests are after them
record Passed (x y : ℕ) (is : List Item) : Type 0 where
  first : ℕ
  second : ℕ
  on : (js : List Item) (ws : List ℕ) → limits_from x y (is ++ js) ws ≡ limits_from first second js ws

narrowed_none : (k x y : ℕ) (ws : List ℕ) → of_within k ≡ false → narrowed k x y ws ≡ ws
unfolding narrowed
narrowed_none k x y ws h = rw (narrowed, h)

free_passed : (x y : ℕ) (is : List Item) → Free of_within is → Passed x y is
unfolding limits_from
free_passed x y [] f = record { first = x; second = y; on = λ js ws. refl }
free_passed x y (i ∷ is) (h, f) =
    let v = cond (eqb i.code 6) y x in
    let w = cond (eqb i.code 6) i.arg y in
    let r = free_passed v w is f in
    record {
      first = r.first;
      second = r.second;
      on = λ js ws. ap (limits_from v w (is ++ js)) (narrowed_none i.code x y ws h) ∙ r.on js ws;
    }

-- the codes of a T, and then its bracket
plain_limits : (x y : ℕ) (ks : List ℕ) → Tested ks → (js : List Item) (ws : List ℕ) → limits_from x y (plain ks ++ js) ws ≡ limits_from x y js ws
unfolding limits_from
plain_limits x y [] t js ws = refl
plain_limits x y (k ∷ ks) (h, t) js ws =
    let (l, n) = of_test_small k h in
    let e = ne_eqb k 6 (n 6 (omega arith) (omega arith)) in
    ap₂ (λ b vs. limits_from (cond b y x) (cond b 0 y) (plain ks ++ js) vs) e
    (narrowed_none k x y ws (low_within k (omega arith) (λ z. omega arith)))
    ∙ plain_limits x y ks t js ws

bracket_limits : (p : Query) (t : TestTree) → Tested (test_codes p t) → (x y : ℕ) (js : List Item) (ws : List ℕ)
    → limits_from x y (bracket_items p t ++ js) ws ≡ limits_from y (test_set (test_codes p t)) js ws
unfolding limits_from bracket_items
bracket_limits p t h x y js ws =
    let ks = test_codes p t in
    ap (λ is. limits_from x y is ws) (append_assoc (plain ks) (item 6 (test_set ks) ∷ []) js)
    ∙ plain_limits x y ks h (item 6 (test_set ks) ∷ js) ws
    ∙ ap (limits_from y (test_set ks) js) (narrowed_none 6 x y ws refl)

narrowed_at : (j x y : ℕ) (ws : List ℕ) → j < 16
    → narrowed (144 + j) x y ws ≡ set (set ws j (bit_and (get_or ws j 0) x)) (16 + j) (bit_and (get_or ws (16 + j) 0) y)
unfolding narrowed
narrowed_at j x y ws h =
    rw (narrowed, le-leb 144 (144 + j) (omega arith), lt-ltb (144 + j) 160 (omega arith))
    (ap₂ (λ i k. set (set ws i (bit_and (get_or ws i 0) x)) k (bit_and (get_or ws k 0) y)) (omega arith) (omega arith))

-- relation number i may start at the atoms of S and stop at those of E
record Sets (i : ℕ) (ws : List ℕ) (S E : ℕ → Bool) : Type 0 where
  size : length ws ≡ 32
  starting : get_or ws i 0 ≡ atoms_of S
  stopping : get_or ws (16 + i) 0 ≡ atoms_of E

sets_same : (i : ℕ) (ws : List ℕ) (S E T U : ℕ → Bool) → Sets i ws S E → ((a : ℕ) → S a ≡ T a) → ((a : ℕ) → E a ≡ U a) → Sets i ws T U
sets_same i ws S E T U h f g =
    record {
      size = h.size;
      starting = h.starting ∙ atoms_same S T (λ a l. f a);
      stopping = h.stopping ∙ atoms_same E U (λ a l. g a);
    }

sets_more : (i : ℕ) (ws : List ℕ) (S E : ℕ → Bool) → Sets i ws S E → Sets i ws (λ a. S a && true) (λ a. E a && true)
sets_more i ws S E h =
    sets_same i ws S E (λ a. S a && true) (λ a. E a && true) h (λ a. sym (and-true (S a))) (λ a. sym (and-true (E a)))

module _ (i : ℕ) (small : i < 16) (ws : List ℕ) (S E : ℕ → Bool) (h : Sets i ws S E) where
  -- its own `within` line
  sets_cut : (T U : ℕ → Bool) → Sets i (narrowed (144 + i) (atoms_of T) (atoms_of U) ws) (λ a. S a && T a) (λ a. E a && U a)
  sets_cut T U =
      let v = bit_and (get_or ws i 0) (atoms_of T) in
      let w = bit_and (get_or ws (16 + i) 0) (atoms_of U) in
      let one = length-set ws i v in
      let two = length-set (set ws i v) (16 + i) w in
      subst (λ l. Sets i l (λ a. S a && T a) (λ a. E a && U a)) (sym (narrowed_at i (atoms_of T) (atoms_of U) ws small))
      (record {
        size = two ∙ one ∙ h.size;
        starting = get_or-set_other (set ws i v) (16 + i) i w 0 (λ z. omega arith) ∙ get_or-set_same ws i v 0 (omega (arith, h.size))
            ∙ ap (λ m. bit_and m (atoms_of T)) h.starting ∙ atoms_and S T;
        stopping = get_or-set_same (set ws i v) (16 + i) w 0 (omega (arith, h.size))
            ∙ ap (λ m. bit_and m (atoms_of U)) h.stopping ∙ atoms_and E U;
      })

  -- that of another relation
  sets_kept : (j x y : ℕ) → j < 16 → (j ≡ i → ⊥) → Sets i (narrowed (144 + j) x y ws) S E
  sets_kept j x y l n =
      let v = bit_and (get_or ws j 0) x in
      let w = bit_and (get_or ws (16 + j) 0) y in
      subst (λ l. Sets i l S E) (sym (narrowed_at j x y ws l))
      (record {
        size = length-set (set ws j v) (16 + j) w ∙ length-set ws j v ∙ h.size;
        starting = get_or-set_other (set ws j v) (16 + j) i w 0 (λ z. omega arith) ∙ get_or-set_other ws j i v 0 (λ z. omega arith) ∙ h.starting;
        stopping = get_or-set_other (set ws j v) (16 + j) (16 + i) w 0 (λ z. omega arith)
            ∙ get_or-set_other ws j (16 + i) v 0 (λ z. omega arith) ∙ h.stopping;
      })

every_append : {A : Type 0} (f : A → Bool) (xs ys : List A) → every f (xs ++ ys) ≡ (every f xs && every f ys)
every_append f [] ys = refl
every_append f (x ∷ xs) ys = ap (λ b. f x && b) (every_append f xs ys) ∙ sym (and_assoc (f x) (every f xs) (every f ys))

every_more : {A : Type 0} (f : A → Bool) (b : Bool) (xs ys : List A) → ((b && every f xs) && every f ys) ≡ (b && every f (xs ++ ys))
every_more f b xs ys = and_assoc b (every f xs) (every f ys) ∙ ap (λ c. b && c) (sym (every_append f xs ys))

-- the sets of relation n of the query q
module _ (q : Query) (n : Name) (inQ : has n (relations q) ≡ true) (small : index_of n (relations q) < 16) where
  abbrev number : ℕ
  number = index_of n (relations q)

  -- where the relation may start and stop by the limits ls too
  abbrev Cut : List ℕ → (ℕ → Bool) → (ℕ → Bool) → List Limit → Type 0
  Cut ws S E ls = Sets number ws (λ a. S a && starts (tests q) ls a) (λ a. E a && stops (tests q) ls a)

  -- what the items of a line do
  record Lined (x y : ℕ) (is : List Item) (ws : List ℕ) (S E : ℕ → Bool) (ls : List Limit) : Type 0 where
    first : ℕ
    second : ℕ
    sets : List ℕ
    on : (js : List Item) → limits_from x y (is ++ js) ws ≡ limits_from first second js sets
    cut : Cut sets S E ls

  module _ (p r : Query) (z : p ++ r ≡ q) (s : Settled p) (ss : List ℕ) (x y : ℕ) (ws : List ℕ) (S E : ℕ → Bool) (h : Sets number ws S E) where
    line_other : (l : Line) → first_slip p (uses l) ≡ none → Unmarked of_within p l → Lined x y (line_items ss p l) ws S E []
    unfolding starts stops
    line_other l e u =
        let r = free_passed x y (line_items ss p l) (line_free of_within low_within p s ss l e u) in
        record {
          first = r.first;
          second = r.second;
          sets = ws;
          on = λ js. r.on js ws;
          cut = sets_more number ws S E h;
        }

    within_cut : (m : Name) (t u : TestTree) → index_of m (relations p) < 16
        → (b : Bool) → same n m ≡ b → eqb (144 + index_of m (relations p)) (144 + number) ≡ same n m
        → Cut (narrowed (144 + index_of m (relations p)) (atoms_of (holds (tests q) t)) (atoms_of (holds (tests q) u)) ws) S E
        (elim b [ true ↦ record { from = t; to = u } ∷ [] | false ↦ [] ])
    unfolding starts stops
    within_cut m t u k true e f =
        let T = holds (tests q) t in
        let U = holds (tests q) u in
        let at : index_of m (relations p) ≡ number = omega (arith, eqb-true (144 + index_of m (relations p)) (144 + number) (f ∙ e)) in
        subst (λ j. Sets number (narrowed (144 + j) (atoms_of T) (atoms_of U) ws) (λ a. S a && (T a && true)) (λ a. E a && (U a && true))) (sym at)
        (sets_same number _ (λ a. S a && T a) (λ a. E a && U a) (λ a. S a && (T a && true)) (λ a. E a && (U a && true))
        (sets_cut number small ws S E h T U)
        (λ a. ap (λ b. S a && b) (sym (and-true (T a)))) (λ a. ap (λ b. E a && b) (sym (and-true (U a)))))
    within_cut m t u k false e f =
        sets_more number _ S E
        (sets_kept number small ws S E h (index_of m (relations p)) (atoms_of (holds (tests q) t)) (atoms_of (holds (tests q) u)) k
        (λ v. eqb-false (144 + index_of m (relations p)) (144 + number) (f ∙ e) (ap (λ i. 144 + i) v)))

    within_line_lem : (m : Name) (t u : TestTree) → first_slip p (uses (within_line m t u)) ≡ none → length (line_codes p (within_line m t u)) ≤ 4096
        → Lined x y (line_items ss p (within_line m t u)) ws S E (limits n (within_line m t u))
    unfolding line_items line_codes uses limits limits_from
    within_line_lem m t u e few =
        let (a, b) = slip_first p (uses_relation m) (test_uses t ++ test_uses u) e in
        let (c, d) = slip_append p (test_uses t) (test_uses u) b in
        let j = index_of m (relations p) in
        let ks = test_codes p t in
        let ls = test_codes p u in
        let k : j < 16 = omega (arith, index_lt m (relations p) (named_relation q p r z s m a), s.room.relations) in
        let one = length-append (ks ++ (6 ∷ [])) ((ls ++ (6 ∷ [])) ++ ((144 + j) ∷ [])) in
        let two = length-append (ls ++ (6 ∷ [])) ((144 + j) ∷ []) in
        let f : test_set ks ≡ atoms_of (holds (tests q) t) = set_earlier q p r z s t c (omega (arith, length-append ks (6 ∷ []))) in
        let g : test_set ls ≡ atoms_of (holds (tests q) u) = set_earlier q p r z s u d (omega (arith, length-append ls (6 ∷ []))) in
        record {
          first = test_set ks;
          second = test_set ls;
          sets = narrowed (144 + j) (atoms_of (holds (tests q) t)) (atoms_of (holds (tests q) u)) ws;
          on = λ js.
              ap (λ is. limits_from x y is ws)
              (append_assoc (bracket_items p t) (bracket_items p u ++ (item (144 + j) 0 ∷ [])) js
              ∙ ap (λ is. bracket_items p t ++ is) (append_assoc (bracket_items p u) (item (144 + j) 0 ∷ []) js))
              ∙ bracket_limits p t (test_codes_lem p s t c) x y (bracket_items p u ++ (item (144 + j) 0 ∷ js)) ws
              ∙ bracket_limits p u (test_codes_lem p s u d) y (test_set ks) (item (144 + j) 0 ∷ js) ws
              ∙ ap₂ (λ b vs. limits_from (cond b (test_set ls) (test_set ks)) (cond b 0 (test_set ls)) js vs) (ne_eqb (144 + j) 6 (λ v. omega arith))
              (ap₂ (λ v w. narrowed (144 + j) v w ws) f g);
          cut = within_cut m t u k (same n m) refl (same_number q p r z s m a n inQ 144);
        }

    line_limits : (l : Line) → first_slip p (uses l) ≡ none → length (line_codes p l) ≤ 4096
        → Lined x y (line_items ss p l) ws S E (limits n l)
    unfolding limits
    line_limits (test_line m) e few = line_other (test_line m) e tt
    line_limits (rel_line m) e few = line_other (rel_line m) e tt
    line_limits (let_line m t) e few = line_other (let_line m t) e tt
    line_limits (never_line t) e few = line_other (never_line t) e refl
    line_limits (within_line m t u) e few = within_line_lem m t u e few
    line_limits (closed_line m) e few = line_other (closed_line m) e (high_within (160 + index_of m (relations p)) (omega arith))
    line_limits (assume_empty t) e few = line_other (assume_empty t) e tt
    line_limits (assume_irreflexive t) e few = line_other (assume_irreflexive t) e tt
    line_limits (claim_line c) e few = line_other (claim_line c) e tt

  -- a line and then what follows it
  limits_append : (x y : ℕ) (is js : List Item) (ws : List ℕ) (S E : ℕ → Bool) (ls ms : List Limit) (d : Lined x y is ws S E ls)
      → Cut (limits_from d.first d.second js d.sets) (λ a. S a && starts (tests q) ls a) (λ a. E a && stops (tests q) ls a) ms
      → Cut (limits_from x y (is ++ js) ws) S E (ls ++ ms)
  unfolding starts stops
  limits_append x y is js ws S E ls ms d h =
      subst (λ vs. Cut vs S E (ls ++ ms)) (sym (d.on js))
      (sets_same number (limits_from d.first d.second js d.sets)
      (λ a. (S a && starts (tests q) ls a) && starts (tests q) ms a) (λ a. (E a && stops (tests q) ls a) && stops (tests q) ms a)
      (λ a. S a && starts (tests q) (ls ++ ms) a) (λ a. E a && stops (tests q) (ls ++ ms) a) h
      (λ a. every_more (λ (m : Limit). holds (tests q) m.from a) (S a) ls ms)
      (λ a. every_more (λ (m : Limit). holds (tests q) m.to a) (E a) ls ms))

  lines_limits : (p r : Query) → p ++ r ≡ q → Orderly p r → Settled p → length (lines_codes p r) ≤ 4096
      → (a : ℕ) (ss : List ℕ) (x y : ℕ) (ws : List ℕ) (S E : ℕ → Bool) → Sets number ws S E
      → Cut (limits_from x y (items_from (resting a a ss) (lines_codes p r)) ws) S E (each (limits n) r)
  unfolding lines_codes limits_from items_from starts stops
  lines_limits p [] z o s few a ss x y ws S E h = sets_more number ws S E h
  lines_limits p (l ∷ r) z (e, c, o) s few a ss x y ws S E h =
      let b = a + length (line_codes p l) in
      let two = length-append (line_codes p l) (lines_codes (p ++ (l ∷ [])) r) in
      let d = line_limits p (l ∷ r) z s ss x y ws S E h l e (omega arith) in
      subst (λ is. Cut (limits_from x y is ws) S E (limits n l ++ each (limits n) r)) (sym (lines_items p l r e s a ss))
      (limits_append x y (line_items ss p l) _ ws S E (limits n l) (each (limits n) r) d
      (lines_limits (p ++ (l ∷ [])) r (append_assoc p (l ∷ []) r ∙ z) o (settled_more p l e c s) (omega arith) b (ss ++ line_starts a l)
      d.first d.second d.sets _ _ d.cut))

  -- after all lines
  all_limits : Orderly [] q → length (query_codes q) ≤ 4096
      → Sets number (limit_sets (items_of (query_codes q))) (starts (tests q) (each (limits n) q)) (stops (tests q) (each (limits n) q))
  unfolding limit_sets query_codes unscanned
  all_limits o few =
      let ws = words 32 (λ i. all_atoms) in
      subst (λ is. Sets number (limits_from 0 0 is ws) (starts (tests q) (each (limits n) q)) (stops (tests q) (each (limits n) q)))
      (sym (items_of_lem (query_codes q)))
      (lines_limits [] q refl o settled_none few 0 [] 0 0 ws (λ a. true) (λ a. true)
      (record {
        size = words_length 32 (λ i. all_atoms);
        starting = words_at_lem 32 (λ i. all_atoms) number (omega arith) ∙ atoms_all;
        stopping = words_at_lem 32 (λ i. all_atoms) (16 + number) (omega arith) ∙ atoms_all;
      }))

  pub limits_start : Orderly [] q → length (query_codes q) ≤ 4096
      → get_or (limit_sets (items_of (query_codes q))) number 0 ≡ atoms_of (starts (tests q) (each (limits n) q))
  limits_start o few = (all_limits o few).starting

  pub limits_stop : Orderly [] q → length (query_codes q) ≤ 4096
      → get_or (limit_sets (items_of (query_codes q))) (16 + number) 0 ≡ atoms_of (stops (tests q) (each (limits n) q))
  limits_stop o few = (all_limits o few).stopping
