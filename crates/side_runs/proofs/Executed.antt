-- Executing the items from a place on builds the expression that stands there: its names stand for what the lines before declare, and a
-- let for what its own line, which starts at a place before, builds.
-- Assumes nothing.
use Prim.Native.Nat.{ℕ, zero, suc, ◌+◌, ◌^◌, ◌≤◌, ◌<◌}
use native.Mathlib.Omega.{arith}
use mathlib.Core.Path.{◌≡◌, sym, ◌∙◌, ap}
use mathlib.Core.Logic.{⊎_elim}
use mathlib.Core.Bool.{cond, ◌&&◌}
use mathlib.Core.List.{List, [], ◌∷◌, ◌++◌}
use mathlib.Core.Option.{some, none}
use lib.Dec.{eqb, ltb}
use lib.ListN.{length, get_or, length-append}
use borrow.Author.Tests.{lt-ltb, eqb-true, eq-eqb}
use Rattle.kat.specs.Expr.{Expr, none as nowhere}
use Rattle.kat.proofs.Bools.{bool_ext}
use Rattle.claims.specs.Tree.{Name, Tree}
use Rattle.claims.specs.Names.{a_relation, a_let, uses_either, kind_of, slip}
use Rattle.claims.specs.Query.{Query, Bound, lookup, each, names, index_of, tests, relations, limits, closed}
use Rattle.claims.specs.Expanded.{stands_for, count_expanded}
use Rattle.claims.specs.Counting.{count, leaves_of}
use Rattle.claims.specs.Sides.{expand, meant, replaced, side}
use Rattle.claims.proofs.Counts.{relation_has_leaves}
use Rattle.codes.specs.Codes.{let_names, code_of, tree_codes, lines_codes, query_codes}
use Rattle.codes.proofs.Orderly.{Orderly, Settled}
use Rattle.codes.proofs.Bindings.{relation_or_let, relation_place, relation_in, LetLine, let_line_lem, relation_bound, let_bound, count_grows, expand_grows}
use Rattle.bits.proofs.Bit.{bit_pow}
use Rattle.side_atoms.specs.Single.{starts, stops}
use Rattle.side_atoms.proofs.Singles.{replaced_single}
use Rattle.side_items.specs.Items.{items_of}
use Rattle.side_parts.specs.Machine.{Machine}
use Rattle.side_runs.specs.Performing.{performed, perform}
use Rattle.side_runs.specs.Execution.{execute}
use Rattle.side_parts.proofs.Builds.{Builds}
use Rattle.side_parts.proofs.BuildsLeaves.{builds_more, builds_same, builds_fresh}
use Rattle.side_items.proofs.Placed.{Placed, Limited}
use Rattle.side_items.proofs.Scanned.{item}
use Rattle.side_items.proofs.TreeItems.{name_item, tree_items, relation_code, let_code}
use Rattle.side_runs.proofs.PlacedItems.{starts_before, placed_items, let_place, let_placed, let_starts_lem, let_before_lem}
use Rattle.side_runs.proofs.Performed.{relation_performed, let_performed, perform_append, perform_end}
use Rattle.side_items.proofs.Inside.{tree_inside}
use Rattle.side_items.proofs.EarlierTests.{set_earlier}
use Rattle.side_runs.proofs.TreeBuilds.{tree_builds}

equal_turned : (a b : ℕ) → eqb a b ≡ eqb b a
equal_turned a b =
    bool_ext (eqb a b) (eqb b a) (λ e. eq-eqb b a (sym (eqb-true a b e))) (λ e. eq-eqb a b (sym (eqb-true b a e)))

module _ (q : Query) (rels : List ℕ) (o : Orderly [] q) (few : length (query_codes q) ≤ 4096) (lim : Limited q rels) where
  -- the leaves of each name, and what it stands for
  abbrev leaves : Name → ℕ
  leaves n = count_expanded 1 (stands_for q n)

  abbrev counts : List (Bound ℕ)
  counts = names q leaves (count 1)

  abbrev means : List (Bound Expr)
  means = names q (replaced q) (expand (tests q))

  -- what builds the expression of each name
  abbrev Named : Query → List ℕ → (ℕ → Machine → Machine) → Name → Type 0
  Named p ss call n =
      Builds (lookup 0 n counts) (performed call rels (name_item ss (code_of p n))) (lookup nowhere n means)

  relation_fresh : (p r : Query) → p ++ r ≡ q → Settled p → (ss : List ℕ) (call : ℕ → Machine → Machine) (n : Name)
      → kind_of p n ≡ some a_relation → Builds 1 (performed call rels (name_item ss (code_of p n))) (replaced q n)
  relation_fresh p r z s ss call n k =
      let ts = tests q in
      let ls = each (limits n) q in
      let i = index_of n (relations q) in
      let c = relation_code p s n k in
      let (at, inside) = relation_place q p r z n (relation_in p n s k) in
      builds_same (λ m. sym (relation_performed call rels ss (code_of p n) i (omega arith) (omega arith) m))
      (builds_fresh (replaced q n) (starts ts ls) (stops ts ls) (λ a. closed q n && (stops ts ls a && starts ts ls a)) (eqb i)
      (replaced_single q n) (get_or rels i 0) (get_or rels (16 + i) 0) (get_or rels (32 + i) 0) (2 ^ i)
      (lim.starting n inside) (lim.stopping n inside) (lim.following n inside) (λ x h. bit_pow x i ∙ equal_turned x i))

  relation_named : (p r : Query) → p ++ r ≡ q → Settled p → (ss : List ℕ) (call : ℕ → Machine → Machine) (n : Name)
      → kind_of p n ≡ some a_relation → Named p ss call n
  relation_named p r z s ss call n k =
      rw (
        relation_bound 0 (count 1) (count_grows 1) q leaves o p r z s n k,
        relation_bound nowhere (expand (tests q)) (expand_grows (tests q)) q (replaced q) o p r z s n k,
      )
      (builds_more 1 (leaves n) (omega (arith, relation_has_leaves q n)) (relation_fresh p r z s ss call n k))

  -- an expression at its place, where the lets before it are built to a depth of d
  module _ (d : ℕ) (built : (e : Tree) (s : ℕ) → Placed q e s → s < d
      → Builds (leaves_of q e) (execute d rels (items_of (query_codes q)) s) (side q e))
      (e : Tree) (from : ℕ) (P : Placed q e from) (h : from < suc d) where
    -- how a let is built
    abbrev call : ℕ → Machine → Machine
    call s n = cond (ltb s from) (execute d rels (items_of (query_codes q)) s n) n

    abbrev places : List ℕ
    places = starts_before q o e from P

    let_built : (n : Name) (L : LetLine P.before n)
        → Builds (lookup 0 n counts) (execute d rels (items_of (query_codes q)) (let_place q o e from P n L)) (lookup nowhere n means)
    unfolding leaves_of side meant
    let_built n L =
        rw (
          let_bound 0 (count 1) (count_grows 1) q leaves o P.before P.onward P.whole n L,
          let_bound nowhere (expand (tests q)) (expand_grows (tests q)) q (replaced q) o P.before P.onward P.whole n L,
        )
        (built L.means (let_place q o e from P n L) (let_placed q o e from P n L) (omega (arith, let_before_lem q o e from P n L)))

    let_named : (n : Name) → kind_of P.before n ≡ some a_let → Named P.before places call n
    let_named n k =
        let L = let_line_lem P.before P.settled n k in
        let c = let_code P.before P.settled n k in
        let s = let_place q o e from P n L in
        builds_same
        (λ m.
        sym (let_performed call rels places (code_of P.before n) (index_of n (let_names P.before)) c.code c.few m
        ∙ ap (λ x. call x m) (let_starts_lem q o e from P n L)
        ∙ ap (λ b. cond b (execute d rels (items_of (query_codes q)) s m) m) (lt-ltb s from (let_before_lem q o e from P n L))))
        (let_built n L)

    naming : (n : Name) → slip P.before (uses_either n) ≡ none → Named P.before places call n
    unfolding slip
    naming n e =
        ⊎_elim (relation_named P.before P.onward P.whole P.settled places call n) (let_named n)
        (relation_or_let (kind_of P.before n) e)

    -- the items from the place on do what those of the expression do
    executed : (m : Machine) → execute (suc d) rels (items_of (query_codes q)) from m ≡ perform call rels (tree_items places P.before e) m
    unfolding execute
    executed m =
        let (x, is, f) = placed_items q o e from P in
        let own = tree_items places P.before e in
        ap (λ l. perform call rels l m) f
        ∙ perform_append call rels own (item P.ended x ∷ is) m (tree_inside P.before P.settled places e P.known)
        ∙ perform_end call rels (item P.ended x) is (perform call rels own m) P.ends

    few_codes : length (tree_codes P.before e) ≤ 4096
    few_codes =
        let front = lines_codes [] P.before ++ P.lead in
        let ks = tree_codes P.before e in
        omega (arith, ap length P.codes, length-append front (ks ++ (P.ended ∷ P.rest)), length-append ks (P.ended ∷ P.rest))

    one_deeper : Builds (leaves_of q e) (execute (suc d) rels (items_of (query_codes q)) from) (side q e)
    unfolding leaves_of side meant
    one_deeper =
        builds_same (λ m. sym (executed m))
        (tree_builds P.before P.settled places call rels (tests q) counts means
        (set_earlier q P.before P.onward P.whole P.settled) naming e P.known few_codes)

  executes : (d : ℕ) (e : Tree) (from : ℕ) → Placed q e from → from < d
      → Builds (leaves_of q e) (execute d rels (items_of (query_codes q)) from) (side q e)
  executes zero e from P h = absurd (omega arith)
  executes (suc d) e from P h = one_deeper d (executes d) e from P h

-- an expression of a query that was read, executed from its place
pub placed_builds : (q : Query) (rels : List ℕ) → Orderly [] q → length (query_codes q) ≤ 4096 → Limited q rels
    → (e : Tree) (from : ℕ) → Placed q e from → (d : ℕ) → from < d
    → Builds (leaves_of q e) (execute d rels (items_of (query_codes q)) from) (side q e)
placed_builds q rels o few lim e from P d h = executes q rels o few lim d e from P h
