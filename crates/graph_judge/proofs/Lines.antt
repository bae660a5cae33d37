-- The codes of a line of a query: behind them the judge stands in the next line, and has said of this one whether the graph breaks it, or of
-- the claim what becomes of it. One law a kind of line.
-- Assumes nothing.
use Prim.Native.Nat.{ℕ, ◌+◌, ◌≤◌, ◌<◌}
use native.Mathlib.Omega.{arith}
use mathlib.Core.Path.{◌≡◌, refl, sym, ◌∙◌, ap, ap₂, subst}
use mathlib.Core.Bool.{Bool, true, false, not, ◌&&◌, and-true}
use mathlib.Core.List.{List, [], ◌∷◌, ◌++◌}
use mathlib.Core.Option.{none}
use lib.Dec.{eqb, ltb}
use lib.ListN.{length, get_or, drop}
use Rattle.kat.specs.Lists.{upto, some}
use Rattle.kat.specs.Graph.{Finite}
use Rattle.kat.proofs.Sets.{some_same, upto_in}
use Rattle.claims.specs.Tree.{Name, TestTree, Tree, includes, empty, irreflexive, Line, let_line, never_line, assume_empty, assume_irreflexive, claim_line}
use Rattle.claims.specs.Names.{test_uses, tree_uses, first_slip}
use Rattle.claims.specs.Query.{Query, bit, each, lets, tests, holds}
use Rattle.claims.specs.Judgement.{Outcome, breaks_from, events, breaks, claimed, some_pair, lowest_event, lowest_to, or_else, lowest_pair as lowest_pair_of}
use Rattle.codes.specs.Codes.{test_codes, tree_codes}
use Rattle.codes.proofs.Orderly.{Orderly, Settled}
use Rattle.side_atoms.specs.Tests.{test_set}
use Rattle.side_atoms.proofs.Atoms.{atoms_bit}
use Rattle.side_items.proofs.Scanned.{item, plain}
use Rattle.side_items.proofs.TreeItems.{tree_items, test_codes_lem}
use Rattle.side_items.proofs.EarlierTests.{set_earlier}
use Rattle.rows.specs.Rows.{blank, NOWHERE, lowest_pair, lowest_loop}
use Rattle.rows.specs.Outcomes.{pair_outcome, event_outcome}
use Rattle.rows.proofs.Shown.{Shows, shows_blank, some_event_in}
use Rattle.rows.proofs.Lowest.{lowest_pair_lem, lowest_loop_lem, some_loop}
use Rattle.tree_heights.specs.Heights.{height}
use Rattle.graph_tables.specs.Listed.{events_with}
use Rattle.graph_tables.specs.Machine.{Judging, top, second}
use Rattle.graph_judge.specs.Machine.{any_pair, any_loop, broken_if, judged_line, line_ended, performed, performed_all}
use Rattle.graph_judge.proofs.Graphed.{Graphed}
use Rattle.graph_judge.proofs.Broken.{pair_there}
use Rattle.graph_judge.proofs.Added.{Added, top_shows, second_shows, one_more}
use Rattle.graph_judge.proofs.Expressions.{performed_append, performed_last, tests_idle, related, tree_shown}
use Rattle.graph_judge.proofs.InLines.{InLine, LineDone, FoundOf, added_in_line, broken_done, found_done, let_done}

-- tests that agree on all pairs have the same lowest one
lowest_to_same : (f h : ℕ → ℕ → Bool) → ((x y : ℕ) → f x y ≡ h x y) → (x : ℕ) (ys : List ℕ) → lowest_to f x ys ≡ lowest_to h x ys
unfolding lowest_to
lowest_to_same f h e x [] = refl
lowest_to_same f h e x (y ∷ ys) =
    ap₂ (λ b (m : Outcome). elim b as (λ z. Outcome) [ true ↦ breaks_from x y | false ↦ m ]) (e x y) (lowest_to_same f h e x ys)

lowest_same : (f h : ℕ → ℕ → Bool) → ((x y : ℕ) → f x y ≡ h x y) → (ys xs : List ℕ) → lowest_pair_of f ys xs ≡ lowest_pair_of h ys xs
unfolding lowest_pair_of
lowest_same f h e ys [] = refl
lowest_same f h e ys (x ∷ xs) = ap₂ or_else (lowest_to_same f h e x ys) (lowest_same f h e ys xs)

module _ (G : Finite) (q : Query) (L : List ℕ) (n : ℕ) (g : Graphed G L n) (o : Orderly [] q) (p r : Query) (z : p ++ r ≡ q) (s : Settled p)
    (ss : List ℕ) where
  -- an expression worked out in the line after those of p, where h tables may be needed
  pub expression_added : (e : Tree) → first_slip p (tree_uses e) ≡ none → length (tree_codes p e) ≤ 4096 → (j : Judging) → InLine G q L n g p j
      → j.state.waiting + height e ≤ 68 → Added n (related G q L n g e) j (performed_all L j (tree_items ss p e))
  expression_added e h l j i w =
      tree_shown G q L n g p r z o s ss j i.known e h l j (record { events = i.events; size = i.size; room = w }) (λ x y. refl)

  -- a line of one expression, behind it
  module _ (e : Tree) (h : first_slip p (tree_uses e) ≡ none) (l : length (tree_codes p e) ≤ 4096) (low : height e ≤ 67)
      (j : Judging) (i : InLine G q L n g p j) (w : j.state.waiting ≡ 0) where
    abbrev behind : Judging
    behind = performed_all L j (tree_items ss p e)

    added : Added n (related G q L n g e) j behind
    added = expression_added e h l j i (omega arith)

    shown : Shows n (top behind) (related G q L n g e)
    shown = top_shows n (related G q L n g e) j behind added

    in_line_lem : InLine G q L n g p behind
    in_line_lem = added_in_line G q L n g p (related G q L n g e) j behind s.room.lets added i

    pair_found : ltb (any_pair behind) NOWHERE ≡ some_pair G (related G q L n g e)
    pair_found =
        ap (λ m. ltb (lowest_pair (top behind) blank m) NOWHERE) in_line_lem.events
        ∙ pair_there G n g.events g.few (top behind) (related G q L n g e) shown

    loop_found : ltb (any_loop behind) NOWHERE ≡ some (λ x. related G q L n g e x x) (events G)
    unfolding events
    loop_found =
        ap (λ m. ltb (lowest_loop (top behind) m) NOWHERE) in_line_lem.events
        ∙ some_loop n g.few (top behind) (related G q L n g e) shown
        ∙ ap (λ m. some (λ x. related G q L n g e x x) (upto 0 m)) (sym g.events)

    pub empty_done : LineDone G q L n g p (assume_empty e) j (performed_all L j (tree_items ss p e ++ (item 133 0 ∷ [])))
    unfolding performed line_ended judged_line breaks lets
    empty_done =
        subst (LineDone G q L n g p (assume_empty e) j) (sym (performed_last L j (tree_items ss p e) (item 133 0)))
        (broken_done G q L n g p (assume_empty e) refl j behind (ltb (any_pair behind) NOWHERE) pair_found
        (ap (λ t. t.broken) added.state) (ap (λ t. t.line) added.state) tt in_line_lem)

    pub irreflexive_done : LineDone G q L n g p (assume_irreflexive e) j (performed_all L j (tree_items ss p e ++ (item 134 0 ∷ [])))
    unfolding performed line_ended judged_line breaks lets
    irreflexive_done =
        subst (LineDone G q L n g p (assume_irreflexive e) j) (sym (performed_last L j (tree_items ss p e) (item 134 0)))
        (broken_done G q L n g p (assume_irreflexive e) refl j behind (ltb (any_loop behind) NOWHERE) loop_found
        (ap (λ t. t.broken) added.state) (ap (λ t. t.line) added.state) tt in_line_lem)

    pub named_done : (m : Name) → length (each lets p) < 32 → LineDone G q L n g p (let_line m e) j (performed_all L j (tree_items ss p e ++ (item 130 0 ∷ [])))
    unfolding performed line_ended
    named_done m few =
        subst (LineDone G q L n g p (let_line m e) j) (sym (performed_last L j (tree_items ss p e) (item 130 0)))
        (let_done G q L n g p m e j behind few shown (ap (λ t. t.broken) added.state) in_line_lem)

    pub claimed_empty : LineDone G q L n g p (claim_line (empty e)) j (performed_all L j (tree_items ss p e ++ (item 137 0 ∷ [])))
    unfolding performed line_ended judged_line claimed events
    claimed_empty =
        subst (LineDone G q L n g p (claim_line (empty e)) j) (sym (performed_last L j (tree_items ss p e) (item 137 0)))
        (found_done G q L n g p (empty e) j behind (any_pair behind)
        (ap (λ m. pair_outcome (lowest_pair (top behind) blank m)) in_line_lem.events
        ∙ lowest_pair_lem n g.few (top behind) blank (related G q L n g e) (λ x y. false) shown (shows_blank n g.few)
        ∙ lowest_same (λ x y. related G q L n g e x y && true) (related G q L n g e) (λ x y. and-true (related G q L n g e x y)) (upto 0 n) (upto 0 n)
        ∙ ap (λ m. lowest_pair_of (related G q L n g e) (upto 0 m) (upto 0 m)) (sym g.events))
        (ap (λ t. t.broken) added.state) in_line_lem)

    pub claimed_irreflexive : LineDone G q L n g p (claim_line (irreflexive e)) j (performed_all L j (tree_items ss p e ++ (item 138 0 ∷ [])))
    unfolding performed line_ended judged_line claimed events
    claimed_irreflexive =
        subst (LineDone G q L n g p (claim_line (irreflexive e)) j) (sym (performed_last L j (tree_items ss p e) (item 138 0)))
        (found_done G q L n g p (irreflexive e) j behind (any_loop behind)
        (ap (λ m. event_outcome (lowest_loop (top behind) m)) in_line_lem.events
        ∙ lowest_loop_lem n g.few (top behind) (related G q L n g e) shown
        ∙ ap (λ m. lowest_event (λ x. related G q L n g e x x) (upto 0 m)) (sym g.events))
        (ap (λ t. t.broken) added.state) in_line_lem)

    -- an inclusion: its left side waits
    pub claimed_includes : (f : Tree) → first_slip p (tree_uses f) ≡ none → length (tree_codes p f) ≤ 4096 → height f ≤ 67
        → LineDone G q L n g p (claim_line (includes e f)) j
        (performed_all L j ((tree_items ss p e ++ (item 135 0 ∷ [])) ++ (tree_items ss p f ++ (item 136 0 ∷ []))))
    unfolding performed line_ended judged_line claimed events
    claimed_includes f a b c =
        let E = related G q L n g e in
        let F = related G q L n g f in
        let x : Added n F behind (performed_all L behind (tree_items ss p f)) =
        expression_added f a b behind in_line_lem (omega (arith, one_more n E j behind added))
        in
        let k : Judging = performed_all L behind (tree_items ss p f) in
        let i : InLine G q L n g p k = added_in_line G q L n g p F behind k s.room.lets x in_line_lem in
        subst (LineDone G q L n g p (claim_line (includes e f)) j)
        (sym (performed_append L j (tree_items ss p e ++ (item 135 0 ∷ [])) (tree_items ss p f ++ (item 136 0 ∷ []))
        ∙ ap (λ m. performed_all L m (tree_items ss p f ++ (item 136 0 ∷ []))) (performed_last L j (tree_items ss p e) (item 135 0))
        ∙ performed_last L behind (tree_items ss p f) (item 136 0)))
        (found_done G q L n g p (includes e f) j k (lowest_pair (second k) (top k) k.state.events)
        (ap (λ m. pair_outcome (lowest_pair (second k) (top k) m)) i.events
        ∙ lowest_pair_lem n g.few (second k) (top k) E F (second_shows n E j behind added F k x) (top_shows n F behind k x)
        ∙ ap (λ m. lowest_pair_of (λ x y. E x y && not (F x y)) (upto 0 m) (upto 0 m)) (sym g.events))
        (ap (λ t. t.broken) x.state ∙ ap (λ t. t.broken) added.state) i)

  -- the set of the events that satisfy a T
  never_found : (t : TestTree) → first_slip p (test_uses t) ≡ none → length (test_codes p t) ≤ 4096
      → not (eqb (events_with L n (test_set (test_codes p t))) 0) ≡ some (λ x. holds (tests q) t (get_or G.atoms x 0)) (events G)
  unfolding events_with events
  never_found t h l =
      some_event_in (drop 1024 L) n (test_set (test_codes p t)) g.few
      ∙ some_same (λ x. bit (get_or (drop 1024 L) x 0) (test_set (test_codes p t))) (λ x. holds (tests q) t (get_or G.atoms x 0)) (upto 0 n)
      (λ x i.
      let k : x < n = (upto_in x 0 n i).1 in
      ap₂ bit (g.atoms x k) (set_earlier q p r z s t h l) ∙ atoms_bit (holds (tests q) t) (get_or G.atoms x 0) (g.atoms_few x k))
      ∙ ap (λ m. some (λ x. holds (tests q) t (get_or G.atoms x 0)) (upto 0 m)) (sym g.events)

  module _ (j : Judging) (i : InLine G q L n g p j) (w : j.state.waiting ≡ 0) where
    pub never_done : (t : TestTree) → first_slip p (test_uses t) ≡ none → length (test_codes p t) ≤ 4096
        → LineDone G q L n g p (never_line t) j (performed_all L j (plain (test_codes p t) ++ (item 131 (test_set (test_codes p t)) ∷ [])))
    unfolding performed line_ended judged_line breaks lets
    never_done t h l =
        subst (LineDone G q L n g p (never_line t) j)
        (sym (performed_last L j (plain (test_codes p t)) (item 131 (test_set (test_codes p t)))
        ∙ ap (λ m. performed L m (item 131 (test_set (test_codes p t)))) (tests_idle L j (test_codes p t) (test_codes_lem p s t h))))
        (broken_done G q L n g p (never_line t) refl j j (not (eqb (events_with L j.state.events (test_set (test_codes p t))) 0))
        (ap (λ m. not (eqb (events_with L m (test_set (test_codes p t))) 0)) i.events ∙ never_found t h l) refl refl tt i)

    -- a line with nothing to judge
    pub bare_done : (l : Line) (k : ℕ) → lets l ≡ [] → breaks G q l ≡ false → FoundOf G q L n g l j.state.found
        → performed L j (item k 0) ≡ record { mem = j.mem; state = broken_if false j.state } → LineDone G q L n g p l j (performed_all L j (item k 0 ∷ []))
    unfolding performed_all
    bare_done l k e b f h = subst (LineDone G q L n g p l j) (sym h) (broken_done G q L n g p l e j j false (sym b) refl refl f i)
