-- The codes of an expression of a query add a table that shows what the expression relates in the graph, where a table for each let before it
-- stands in memory. By induction on the expression; a name is a relation or a let, and a test is the set of its atoms.
-- Assumes nothing.
use Prim.Native.Nat.{ℕ, suc, ◌+◌, ◌-◌, ◌≤◌, ◌<◌, max}
use native.Mathlib.Omega.{arith}
use mathlib.Core.Path.{◌≡◌, refl, sym, ◌∙◌, ap, ap₂, subst}
use mathlib.Core.Logic.{⊎_elim}
use mathlib.Core.Bool.{Bool, true, false, ◌&&◌, ◌||◌, and-true}
use mathlib.Core.List.{List, [], ◌∷◌, ◌++◌}
use mathlib.Core.Option.{none}
use lib.Dec.{eqb, ltb}
use lib.ListN.{length, get_or, drop, length-append}
use borrow.Author.Tests.{ltb-true}
use Rattle.kat.specs.Lists.{upto, some as some_of}
use Rattle.kat.specs.Expr.{none as nowhere}
use Rattle.kat.specs.Closure.{table, entry, closure}
use Rattle.kat.specs.Graph.{Finite}
use Rattle.kat.proofs.Closure.{entry_table}
use Rattle.claims.specs.Tree.{Name, TestTree, Tree, name, tested, union, sequence, star, plus, opt, let_line}
use Rattle.claims.specs.Names.{uses_either, test_uses, tree_uses, kind_of, slip, first_slip}
use Rattle.claims.specs.Query.{Query, Bound, bit, each, index_of, lets, tests, relations, holds}
use Rattle.claims.specs.Sides.{expand, meant, single}
use Rattle.claims.specs.Judgement.{events, pairs_of, judged}
use Rattle.codes.specs.Codes.{test_codes, tree_codes, code_of, let_names}
use Rattle.claims.proofs.Results.{each_append}
use Rattle.codes.proofs.Names.{index_lt}
use Rattle.codes.proofs.Orderly.{Orderly, Settled, slip_first, slip_append}
use Rattle.codes.proofs.Bindings.{relation_or_let, relation_in, relation_place, LetLine, let_line_lem, relation_bound, let_bound, expand_grows}
use Rattle.side_atoms.specs.Tests.{test_set}
use Rattle.side_atoms.proofs.Atoms.{atoms_bit}
use Rattle.side_items.specs.Items.{of_test, Item}
use Rattle.side_items.proofs.Scanned.{item, of_test_small, Tested, plain}
use Rattle.side_items.proofs.TreeItems.{bracket_items, name_item, tree_items, test_codes_lem, relation_code, let_code}
use Rattle.side_items.proofs.EarlierTests.{set_earlier}
use Rattle.rows.specs.Rows.{joined, composed, reflexive, rounds, events_in, diagonal}
use Rattle.rows.proofs.Shown.{Shows, shows_same, shows_joined, shows_composed, shows_closed, shows_reflexive, bit_events, shows_diagonal}
use Rattle.tree_heights.specs.Heights.{height}
use Rattle.graph_tables.specs.declared.JudgedSoFar.{JudgedSoFar}
use Rattle.graph_tables.specs.Listed.{relation_rows, events_with}
use Rattle.graph_tables.specs.Machine.{Judging, table_at, pushed, changed_top, merged, operated}
use Rattle.graph_judge.specs.Machine.{performed, performed_all}
use Rattle.graph_tables.proofs.Steps.{does_relation, does_let, does_nothing_low}
use Rattle.graph_judge.proofs.Ends.{does_operate}
use Rattle.graph_judge.proofs.Graphed.{Graphed}
use Rattle.graph_judge.proofs.Broken.{some_one}
use Rattle.graph_judge.proofs.Added.{Added, Adds, Room, SameLets, adds_given, adds_changed, adds_merged}

-- codes in two parts
pub performed_append : (L : List ℕ) (j : Judging) (xs ys : List Item) → performed_all L j (xs ++ ys) ≡ performed_all L (performed_all L j xs) ys
unfolding performed_all
performed_append L j [] ys = refl
performed_append L j (x ∷ xs) ys = performed_append L (performed L j x) xs ys

pub performed_last : (L : List ℕ) (j : Judging) (xs : List Item) (i : Item) → performed_all L j (xs ++ (i ∷ [])) ≡ performed L (performed_all L j xs) i
unfolding performed_all
performed_last L j xs i = performed_append L j xs (i ∷ [])

-- the codes of a T do nothing
test_idle : (L : List ℕ) (j : Judging) (k : ℕ) → of_test k ≡ true → performed L j (item k 0) ≡ j
test_idle L j k h =
    let (l, n) = of_test_small k h in
    sym (does_operate L j k 0 (omega arith))
    ∙ does_nothing_low L j k 0 (n 6 (omega arith) (omega arith)) (n 7 (omega arith) (omega arith)) (n 8 (omega arith) (omega arith))
    (n 9 (omega arith) (omega arith)) (n 10 (omega arith) (omega arith)) (n 11 (omega arith) (omega arith)) l

pub tests_idle : (L : List ℕ) (j : Judging) (ks : List ℕ) → Tested ks → performed_all L j (plain ks) ≡ j
unfolding performed_all
tests_idle L j [] t = refl
tests_idle L j (k ∷ ks) (h, t) = ap (λ m. performed_all L m (plain ks)) (test_idle L j k h) ∙ tests_idle L j ks t

-- a relation's name, and a let's
relation_code_does : (L : List ℕ) (j : Judging) (r x : ℕ) → r < 16 → performed L j (item (32 + r) x) ≡ pushed j (relation_rows L r)
relation_code_does L j r x h =
    let e : 32 + r - 32 ≡ r = omega arith in
    sym (does_operate L j (32 + r) x (omega arith))
    ∙ does_relation L j (32 + r) x (λ z. omega arith) (λ z. omega arith) (λ z. omega arith) (λ z. omega arith) (λ z. omega arith) (λ z. omega arith)
    (omega arith) (omega arith)
    ∙ ap (λ i. pushed j (relation_rows L i)) e

let_code_does : (L : List ℕ) (j : Judging) (r x : ℕ) → r < 32 → performed L j (item (64 + r) x) ≡ pushed j (table_at j.mem r)
let_code_does L j r x h =
    let e : 64 + r - 64 ≡ r = omega arith in
    sym (does_operate L j (64 + r) x (omega arith))
    ∙ does_let L j (64 + r) x (λ z. omega arith) (λ z. omega arith) (λ z. omega arith) (λ z. omega arith) (λ z. omega arith) (λ z. omega arith)
    (omega arith) (omega arith)
    ∙ ap (λ i. pushed j (table_at j.mem i)) e

-- how many codes two operands have, or one, with the operator
pub two_few : (xs ys : List ℕ) (k n : ℕ) → length ((xs ++ ys) ++ (k ∷ [])) ≤ n → (length xs ≤ n) × (length ys ≤ n)
two_few xs ys k n h = let z = length-append (xs ++ ys) (k ∷ []) in let y = length-append xs ys in (omega arith, omega arith)

pub one_few : (xs : List ℕ) (k n : ℕ) → length (xs ++ (k ∷ [])) ≤ n → length xs ≤ n
one_few xs k n h = omega (arith, length-append xs (k ∷ []))

module _ (n : ℕ) where
  adds_same : (h : ℕ) (f g : ℕ → ℕ → Bool) (j : Judging) (F K : Judging → Judging)
      → ((k : Judging) → Room n h k → SameLets j k → F k ≡ K k)
      → ((x y : ℕ) → x < n → y < n → f x y ≡ g x y) → Adds n h f j F → Adds n h g j K
  adds_same h f g j F K e s a k r l =
      let x : Added n f k (F k) = a k r l in
      subst (Added n g k) (e k r l)
      (record {
        state = x.state;
        size = x.size;
        kept = x.kept;
        shown = shows_same n (table_at (F k).mem (32 + k.state.waiting)) f g s x.shown;
      })

pub height_some : (e : Tree) → 1 ≤ height e
unfolding height
height_some (name n) = omega arith
height_some (tested t) = omega arith
height_some (union e f) = omega (arith, height_some e)
height_some (sequence e f) = omega (arith, height_some e)
height_some (star e) = height_some e
height_some (plus e) = height_some e
height_some (opt e) = height_some e

module _ (G : Finite) (q : Query) (L : List ℕ) (n : ℕ) (g : Graphed G L n) where
  -- what an expression of the query relates
  abbrev pub related : Tree → ℕ → ℕ → Bool
  related e x y = entry (judged G q e) x y

  -- a table for each of the lets stands in memory, from place i on
  abbrev pub Known : ℕ → List (Bound Tree) → List (List ℕ) → Type 0
  Known i [] m = Unit {0}
  Known i (b ∷ bs) m = Shows n (table_at m i) (related b.means) × Known (suc i) bs m

  pub known_at : (i : ℕ) (cs : List (Bound Tree)) (b : Bound Tree) (bs : List (Bound Tree)) (m : List (List ℕ)) → Known i (cs ++ (b ∷ bs)) m
      → Shows n (table_at m (i + length cs)) (related b.means)
  known_at i [] b bs m (s, k) = let e : i ≡ i + 0 = omega arith in subst (λ x. Shows n (table_at m x) (related b.means)) e s
  known_at i (c ∷ cs) b bs m (s, k) =
      let e : suc i + length cs ≡ i + suc (length cs) = omega arith in
      subst (λ x. Shows n (table_at m x) (related b.means)) e (known_at (suc i) cs b bs m k)

  -- a table of the graph's size, by what it was made of
  sized : (f : ℕ → ℕ → Bool) (x y : ℕ) → x < n → y < n → f x y ≡ entry (table (length G.atoms) f) x y
  sized f x y h k = sym (entry_table (length G.atoms) f x y (omega (arith, g.events)) (omega (arith, g.events)))

  -- each event with itself, beside f
  with_itself : (f : ℕ → ℕ → Bool) (x y : ℕ) → x < n → y < n
      → (f x y || eqb x y) ≡ entry (table (length G.atoms) (λ x y. f x y || entry (table (length G.atoms) (λ x y. eqb x y && true)) x y)) x y
  with_itself f x y h k =
      ap (λ b. f x y || b) (sym (and-true (eqb x y)) ∙ sized (λ x y. eqb x y && true) x y h k)
      ∙ sized (λ x y. f x y || entry (table (length G.atoms) (λ x y. eqb x y && true)) x y) x y h k

  module _ (p r : Query) (z : p ++ r ≡ q) (o : Orderly [] q) (s : Settled p) (ss : List ℕ) (j : Judging) (known : Known 0 (each lets p) j.mem) where
    -- the set of a T
    test_shown : (t : TestTree) → first_slip p (test_uses t) ≡ none → length (test_codes p t) ≤ 4096
        → Shows n (diagonal (events_with L n (test_set (test_codes p t)))) (λ x y. eqb x y && holds (tests q) t (get_or G.atoms x 0))
    unfolding events_with
    test_shown t h l =
        shows_diagonal n (events_in (drop 1024 L) n (test_set (test_codes p t))) (λ x. holds (tests q) t (get_or G.atoms x 0)) g.few
        (λ x. bit_events (drop 1024 L) n (test_set (test_codes p t)) x g.few ∙ go x (ltb x n) refl)
      where
        go : (x : ℕ) (b : Bool) → ltb x n ≡ b
            → (b && bit (get_or (drop 1024 L) x 0) (test_set (test_codes p t))) ≡ (b && holds (tests q) t (get_or G.atoms x 0))
        go x true e =
            let i : x < n = ltb-true x n e in
            ap₂ bit (g.atoms x i) (set_earlier q p r z s t h l) ∙ atoms_bit (holds (tests q) t) (get_or G.atoms x 0) (g.atoms_few x i)
        go x false e = refl

    -- the table of a let
    let_shown : (m : Name) (l : LetLine p m) → index_of m (let_names p) < 32 → (k : Judging) → SameLets j k
        → Shows n (table_at k.mem (index_of m (let_names p))) (related (name m))
    unfolding judged meant expand lets
    let_shown m l few k b =
        let zero_on : 0 + length (each lets l.earlier) ≡ length (each lets l.earlier) = omega arith in
        shows_same n (table_at k.mem (index_of m (let_names p))) (related l.means) (related (name m))
        (λ x y h i. ap (λ w. entry (pairs_of G (length (relations q)) w) x y)
        (sym (let_bound nowhere (expand (tests q)) (expand_grows (tests q)) q (single q) o p r z m l)))
        (subst (λ i. Shows n (table_at k.mem i) (related l.means)) (sym l.number)
        (subst (λ t. Shows n t (related l.means)) (sym (b (length (each lets l.earlier)) (omega (arith, l.number))))
        (subst (λ i. Shows n (table_at j.mem i) (related l.means)) zero_on
        (known_at 0 (each lets l.earlier) (record { called = m; means = l.means }) (each lets l.later) j.mem
        (subst (λ x. Known 0 x j.mem) (ap (each lets) l.here ∙ each_append lets l.earlier (let_line m l.means ∷ l.later)) known)))))

    name_shown : (m : Name) → slip p (uses_either m) ≡ none
        → Adds n 1 (related (name m)) j (λ k. performed L k (name_item ss (code_of p m)))
    unfolding slip name_item judged meant expand pairs_of single
    name_shown m h =
        ⊎_elim
        (λ k.
        let c = relation_code p s m k in
        let (e, i) = relation_place q p r z m (relation_in p m s k) in
        adds_same n 1 (G.edges (index_of m (relations p))) (related (name m)) j (λ k. pushed k (relation_rows L (index_of m (relations p))))
        (λ k. performed L k (name_item ss (code_of p m)))
        (λ k a b. sym (ap (λ x. performed L k (name_item ss x)) c.code ∙ relation_code_does L k (index_of m (relations p)) _ c.few))
        (λ x y a b. sym (ap (λ w. entry (pairs_of G (length (relations q)) w) x y)
        (relation_bound nowhere (expand (tests q)) (expand_grows (tests q)) q (single q) o p r z s m k)
        ∙ sym (sized (λ x y. some_of (λ v. eqb (index_of m (relations q)) v && G.edges v x y) (upto 0 (length (relations q)))) x y a b)
        ∙ some_one (index_of m (relations q)) (length (relations q)) (λ v. G.edges v x y) (index_lt m (relations q) i)
        ∙ ap (λ v. G.edges v x y) (sym e)))
        (adds_given n (G.edges (index_of m (relations p))) j (λ k. relation_rows L (index_of m (relations p)))
        (λ k a b. g.edges (index_of m (relations p)) c.few)))
        (λ k.
        let c = let_code p s m k in
        let l = let_line_lem p s m k in
        adds_same n 1 (related (name m)) (related (name m)) j (λ k. pushed k (table_at k.mem (index_of m (let_names p))))
        (λ k. performed L k (name_item ss (code_of p m)))
        (λ k a b. sym (ap (λ x. performed L k (name_item ss x)) c.code ∙ let_code_does L k (index_of m (let_names p)) _ c.few))
        (λ x y a b. refl)
        (adds_given n (related (name m)) j (λ k. table_at k.mem (index_of m (let_names p)))
        (λ k a b. let_shown m l c.few k b)))
        (relation_or_let (kind_of p m) h)

    performed_two : (k : Judging) (xs ys : List Item) (c : ℕ) → performed_all L k ((xs ++ ys) ++ (item c 0 ∷ [])) ≡ performed L (performed_all L (performed_all L k xs) ys) (item c 0)
    performed_two k xs ys c =
        performed_last L k (xs ++ ys) (item c 0) ∙ ap (λ m. performed L m (item c 0)) (performed_append L k xs ys)

    -- a postfix after its operand
    postfix_shown : (e : Tree) (c : ℕ) (op : ℕ → List ℕ → List ℕ) (f f' : ℕ → ℕ → Bool)
        → ((t : List ℕ) → Shows n t (related e) → Shows n (op n t) f)
        → ((k : Judging) → performed L k (item c 0) ≡ changed_top (op k.state.events) k)
        → ((x y : ℕ) → x < n → y < n → f x y ≡ f' x y)
        → Adds n (height e) (related e) j (λ k. performed_all L k (tree_items ss p e))
        → Adds n (height e) f' j (λ k. performed_all L k (tree_items ss p e ++ (item c 0 ∷ [])))
    postfix_shown e c op f f' shows does same a =
        adds_same n (height e) f f' j (λ k. changed_top (op n) (performed_all L k (tree_items ss p e)))
        (λ k. performed_all L k (tree_items ss p e ++ (item c 0 ∷ [])))
        (λ k r l. sym (performed_last L k (tree_items ss p e) (item c 0) ∙ does (performed_all L k (tree_items ss p e))
        ∙ ap (λ m. changed_top (op m) (performed_all L k (tree_items ss p e))) (ap (λ (s : JudgedSoFar). s.events) (a k r l).state ∙ r.events)))
        same
        (adds_changed n (height e) (related e) f j (λ k. performed_all L k (tree_items ss p e)) (op n) (height_some e) shows a)

    pub tree_shown : (e : Tree) → first_slip p (tree_uses e) ≡ none → length (tree_codes p e) ≤ 4096
        → Adds n (height e) (related e) j (λ k. performed_all L k (tree_items ss p e))
    unfolding height judged meant expand pairs_of events tree_uses tree_codes tree_items bracket_items performed operated performed_all
    tree_shown (name m) h l = name_shown m (slip_first p (uses_either m) [] h).0
    tree_shown (tested t) h l =
        adds_same n 1 (λ x y. eqb x y && holds (tests q) t (get_or G.atoms x 0)) (related (tested t)) j
        (λ k. pushed k (diagonal (events_with L n (test_set (test_codes p t)))))
        (λ k. performed_all L k (tree_items ss p (tested t)))
        (λ k a b. sym (performed_last L k (plain (test_codes p t)) (item 6 (test_set (test_codes p t)))
        ∙ ap (λ m. performed L m (item 6 (test_set (test_codes p t)))) (tests_idle L k (test_codes p t) (test_codes_lem p s t h))
        ∙ ap (λ m. pushed k (diagonal (events_with L m (test_set (test_codes p t))))) a.events))
        (sized (λ x y. eqb x y && holds (tests q) t (get_or G.atoms x 0)))
        (adds_given n (λ x y. eqb x y && holds (tests q) t (get_or G.atoms x 0)) j
        (λ k. diagonal (events_with L n (test_set (test_codes p t)))) (λ k a b. test_shown t h (one_few (test_codes p t) 6 4096 l)))
    tree_shown (union e f) h l =
        let (a, b) = slip_append p (tree_uses e) (tree_uses f) h in
        let (i, m) = two_few (tree_codes p e) (tree_codes p f) 7 4096 l in
        adds_same n (max (height e) (suc (height f))) (λ x y. related e x y || related f x y) (related (union e f)) j
        (λ k. merged joined (performed_all L (performed_all L k (tree_items ss p e)) (tree_items ss p f)))
        (λ k. performed_all L k (tree_items ss p (union e f)))
        (λ k a b. sym (performed_two k (tree_items ss p e) (tree_items ss p f) 7))
        (sized (λ x y. related e x y || related f x y))
        (adds_merged n (height e) (height f) (related e) (related f) (λ x y. related e x y || related f x y) j
        (λ k. performed_all L k (tree_items ss p e)) (λ k. performed_all L k (tree_items ss p f)) joined (height_some e)
        (λ t u. shows_joined n g.few t u (related e) (related f)) (tree_shown e a i) (tree_shown f b m))
    tree_shown (sequence e f) h l =
        let (a, b) = slip_append p (tree_uses e) (tree_uses f) h in
        let (i, m) = two_few (tree_codes p e) (tree_codes p f) 8 4096 l in
        adds_same n (max (height e) (suc (height f))) (λ x y. some_of (λ z. related e x z && related f z y) (upto 0 n)) (related (sequence e f)) j
        (λ k. merged composed (performed_all L (performed_all L k (tree_items ss p e)) (tree_items ss p f)))
        (λ k. performed_all L k (tree_items ss p (sequence e f)))
        (λ k a b. sym (performed_two k (tree_items ss p e) (tree_items ss p f) 8))
        (λ x y a b. ap (λ m. some_of (λ z. related e x z && related f z y) (upto 0 m)) (sym g.events)
        ∙ sized (λ x y. some_of (λ z. related e x z && related f z y) (events G)) x y a b)
        (adds_merged n (height e) (height f) (related e) (related f) (λ x y. some_of (λ z. related e x z && related f z y) (upto 0 n)) j
        (λ k. performed_all L k (tree_items ss p e)) (λ k. performed_all L k (tree_items ss p f)) composed (height_some e)
        (λ t u. shows_composed n g.few t u (related e) (related f)) (tree_shown e a i) (tree_shown f b m))
    tree_shown (star e) h l =
        postfix_shown e 9 (λ m t. reflexive (rounds t m m) m) (λ x y. entry (closure n (related e)) x y || eqb x y) (related (star e))
        (λ t u. shows_reflexive n g.few (rounds t n n) (entry (closure n (related e))) (shows_closed n g.few t (related e) u))
        (λ k. refl)
        (λ x y a b. ap (λ m. entry (closure m (related e)) x y || eqb x y) (sym g.events)
        ∙ with_itself (λ x y. entry (closure (length G.atoms) (related e)) x y) x y a b)
        (tree_shown e h (one_few (tree_codes p e) 9 4096 l))
    tree_shown (plus e) h l =
        postfix_shown e 10 (λ m t. rounds t m m) (entry (closure n (related e))) (related (plus e)) (λ t u. shows_closed n g.few t (related e) u)
        (λ k. refl)
        (λ x y a b. ap (λ m. entry (closure m (related e)) x y) (sym g.events))
        (tree_shown e h (one_few (tree_codes p e) 10 4096 l))
    tree_shown (opt e) h l =
        postfix_shown e 11 (λ m t. reflexive t m) (λ x y. related e x y || eqb x y) (related (opt e))
        (λ t u. shows_reflexive n g.few t (related e) u) (λ k. refl)
        (with_itself (related e)) (tree_shown e h (one_few (tree_codes p e) 11 4096 l))
