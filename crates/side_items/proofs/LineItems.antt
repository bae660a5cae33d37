-- The items of the lines of a query that was read, line by line, and the places where its let lines start.
-- Assumes nothing.
use Prim.Native.Nat.{ℕ, ◌+◌, ◌≤◌}
use native.Mathlib.Omega.{arith}
use native.Mathlib.Nat.{add-zero}
use mathlib.Core.Path.{◌≡◌, refl, sym, ◌∙◌, ap, ap₂}
use mathlib.Core.List.{List, [], ◌∷◌, ◌++◌, map, append-nil, append_assoc}
use mathlib.Core.Option.{none}
use lib.ListN.{length, get_or, length-append, length-map}
use lib.Seq.{get_or-append-add}
use Rattle.claims.specs.Tree.{Name, TestTree, Tree, Claim, includes, empty, irreflexive, Line, test_line, rel_line, let_line, never_line, within_line, closed_line, assume_empty, assume_irreflexive, claim_line}
use Rattle.claims.specs.Names.{declares, uses_relation, test_uses, tree_uses, claim_uses, uses, first_slip}
use Rattle.claims.specs.Query.{Query, each, index_of, lets, relations}
use Rattle.codes.specs.Codes.{test_codes, tree_codes, claim_codes, line_codes, lines_codes}
use Rattle.codes.proofs.Orderly.{Orderly, slip_first, slip_append, Settled, settled_more}
use Rattle.side_atoms.specs.Tests.{test_set}
use Rattle.side_items.specs.Items.{of_test, scanned, Item}
use Rattle.side_items.proofs.Scanned.{item, items_from, after, items_append, after_append, resting, plain, end_scanned, Gives, gives_none, gives_append, gives_bracket, set_after, set_items, ended_after, ended_items}
use Rattle.side_items.proofs.TreeItems.{bracket_items, tree_items, test_codes_lem, tree_gives}

-- a claim, where the lines of the lets start at ss
unfoldable pub claim_items : List ℕ → Query → Claim → List Item
claim_items ss p (includes e f) = (tree_items ss p e ++ (item 135 0 ∷ [])) ++ (tree_items ss p f ++ (item 136 0 ∷ []))
claim_items ss p (empty e) = tree_items ss p e ++ (item 137 0 ∷ [])
claim_items ss p (irreflexive e) = tree_items ss p e ++ (item 138 0 ∷ [])

-- a line
unfoldable pub line_items : List ℕ → Query → Line → List Item
line_items ss p (test_line n) = item 128 0 ∷ []
line_items ss p (rel_line n) = item 129 0 ∷ []
line_items ss p (let_line n e) = tree_items ss p e ++ (item 130 0 ∷ [])
line_items ss p (never_line t) = plain (test_codes p t) ++ (item 131 (test_set (test_codes p t)) ∷ [])
line_items ss p (within_line n t u) = bracket_items p t ++ (bracket_items p u ++ (item (144 + index_of n (relations p)) 0 ∷ []))
line_items ss p (closed_line n) = item (160 + index_of n (relations p)) 0 ∷ []
line_items ss p (assume_empty e) = tree_items ss p e ++ (item 133 0 ∷ [])
line_items ss p (assume_irreflexive e) = tree_items ss p e ++ (item 134 0 ∷ [])
line_items ss p (claim_line c) = claim_items ss p c

-- where a let line starts: a, if the line is one
abbrev pub line_starts : ℕ → Line → List ℕ
line_starts a l = map (λ b. a) (lets l)

-- where the let lines of r start, which stand after those of p from place a on
unfoldable pub let_starts : ℕ → Query → Query → List ℕ
let_starts a p [] = []
let_starts a p (l ∷ r) = line_starts a l ++ let_starts (a + length (line_codes p l)) (p ++ (l ∷ [])) r

-- a line read from its start: what it gives, and that the next one starts behind it
pub record Lined (p : Query) (l : Line) : Type 0 where
  pub onward : (a : ℕ) (ss : List ℕ)
      → after (resting a a ss) (line_codes p l)
      ≡ resting (a + length (line_codes p l)) (a + length (line_codes p l)) (ss ++ line_starts a l)
  pub items : (a : ℕ) (ss : List ℕ) → items_from (resting a a ss) (line_codes p l) ≡ line_items ss p l

-- the end of a line that is no let
ended_line : (ks : List ℕ) (is : List Item) (ss : List ℕ) → Gives ss ks is → (a l k : ℕ) → 128 ≤ k → (k ≡ 130 → ⊥)
    → after (resting a l ss) (ks ++ (k ∷ [])) ≡ resting (a + length (ks ++ (k ∷ []))) (a + length (ks ++ (k ∷ []))) ss
ended_line ks is ss g a l k h n =
    ended_after ss ks is g a l k ∙ end_scanned (resting (a + length ks) l ss) k h n
    ∙ ap (λ x. resting x x ss) (omega (arith, length-append ks (k ∷ [])))

module _ (p : Query) (l : Line) (none_here : lets l ≡ []) where
  -- no let, so the starts stay
  no_start : (a : ℕ) (ss : List ℕ) → ss ≡ ss ++ line_starts a l
  no_start a ss = sym (ap (λ x. ss ++ map (λ b. a) x) none_here ∙ append-nil ss)

  -- a line that is no let: an expression, or several, and then its kind
  ended_lined : (ks : List ℕ) (k : ℕ) (is : List ℕ → List Item) → ((ss : List ℕ) → Gives ss ks (is ss))
      → 128 ≤ k → (k ≡ 130 → ⊥) → (k ≡ 131 → ⊥)
      → line_codes p l ≡ ks ++ (k ∷ []) → ((ss : List ℕ) → line_items ss p l ≡ is ss ++ (item k 0 ∷ [])) → Lined p l
  ended_lined ks k is g h n m c d =
      record {
        onward = λ a ss.
            rw c (ended_line ks (is ss) ss (g ss) a a k h n ∙ ap (resting _ _) (no_start a ss));
        items = λ a ss. rw c (ended_items ss ks (is ss) (g ss) a a k (omega arith) m ∙ sym (d ss));
      }

module _ (p : Query) (s : Settled p) where
  -- the end of a let line, and of a `never`
  let_lined : (n : Name) (e : Tree) → first_slip p (tree_uses e) ≡ none → Lined p (let_line n e)
  unfolding line_codes line_items lets scanned of_test
  let_lined n e h =
      record {
        onward = λ a ss.
            ended_after ss (tree_codes p e) (tree_items ss p e) (tree_gives p s ss e h) a a 130
            ∙ ap (λ x. resting x x (ss ++ (a ∷ []))) (omega (arith, length-append (tree_codes p e) (130 ∷ [])));
        items = λ a ss.
            ended_items ss (tree_codes p e) (tree_items ss p e) (tree_gives p s ss e h) a a 130 (omega arith) (λ z. omega arith);
      }

  never_lined : (t : TestTree) → first_slip p (test_uses t) ≡ none → Lined p (never_line t)
  unfolding line_codes line_items lets scanned of_test
  never_lined t h =
      record {
        onward = λ a ss.
            set_after ss (test_codes p t) (test_codes_lem p s t h) a a 131
            ∙ ap₂ (λ x y. resting x x y) (omega (arith, length-append (test_codes p t) (131 ∷ []))) (sym (append-nil ss));
        items = λ a ss. set_items ss (test_codes p t) (test_codes_lem p s t h) a a 131 refl;
      }

  -- a claim, whose left side in an inclusion ends like a line
  includes_lined : (e f : Tree) → first_slip p (tree_uses e) ≡ none → first_slip p (tree_uses f) ≡ none → Lined p (claim_line (includes e f))
  unfolding line_codes claim_codes line_items claim_items lets
  includes_lined e f h k =
      let ks = tree_codes p e in
      let ls = tree_codes p f in
      let split : (ks ++ (135 ∷ ls)) ++ (136 ∷ []) ≡ (ks ++ (135 ∷ [])) ++ (ls ++ (136 ∷ [])) =
      append_assoc ks (135 ∷ ls) (136 ∷ []) ∙ sym (append_assoc ks (135 ∷ []) (ls ++ (136 ∷ [])))
      in
      record {
        onward = λ a ss.
            let b = a + length (ks ++ (135 ∷ [])) in
            ap (after (resting a a ss)) split ∙ after_append (resting a a ss) (ks ++ (135 ∷ [])) (ls ++ (136 ∷ []))
            ∙ ap (λ x. after x (ls ++ (136 ∷ [])))
            (ended_line ks (tree_items ss p e) ss (tree_gives p s ss e h) a a 135 (omega arith) (λ z. omega arith))
            ∙ ended_line ls (tree_items ss p f) ss (tree_gives p s ss f k) b b 136 (omega arith) (λ z. omega arith)
            ∙ ap₂ (λ x y. resting x x y)
            (omega (arith, length-append (ks ++ (135 ∷ [])) (ls ++ (136 ∷ [])), ap length split)) (sym (append-nil ss));
        items = λ a ss.
            let b = a + length (ks ++ (135 ∷ [])) in
            ap (items_from (resting a a ss)) split ∙ items_append (resting a a ss) (ks ++ (135 ∷ [])) (ls ++ (136 ∷ []))
            ∙ ap₂ ◌++◌
            (ended_items ss ks (tree_items ss p e) (tree_gives p s ss e h) a a 135 (omega arith) (λ z. omega arith))
            (ap (λ x. items_from x (ls ++ (136 ∷ [])))
            (ended_line ks (tree_items ss p e) ss (tree_gives p s ss e h) a a 135 (omega arith) (λ z. omega arith))
            ∙ ended_items ss ls (tree_items ss p f) (tree_gives p s ss f k) b b 136 (omega arith) (λ z. omega arith));
      }

  within_lined : (n : Name) (t u : TestTree) → first_slip p (test_uses t) ≡ none → first_slip p (test_uses u) ≡ none → Lined p (within_line n t u)
  unfolding line_codes line_items bracket_items lets
  within_lined n t u h k =
      let ks = test_codes p t ++ (6 ∷ []) in
      let ls = test_codes p u ++ (6 ∷ []) in
      let r = 144 + index_of n (relations p) in
      ended_lined p (within_line n t u) refl (ks ++ ls) r (λ ss. bracket_items p t ++ bracket_items p u)
      (λ ss.
      gives_append ss ks ls (bracket_items p t) (bracket_items p u) (gives_bracket ss (test_codes p t) (test_codes_lem p s t h))
      (gives_bracket ss (test_codes p u) (test_codes_lem p s u k)))
      (omega arith) (λ z. omega arith) (λ z. omega arith) (sym (append_assoc ks ls (r ∷ [])))
      (λ ss. sym (append_assoc (bracket_items p t) (bracket_items p u) (item r 0 ∷ [])))

  -- an expression and the kind of the line
  tree_lined : (l : Line) → lets l ≡ [] → (e : Tree) → first_slip p (tree_uses e) ≡ none → (k : ℕ) → 133 ≤ k
      → line_codes p l ≡ tree_codes p e ++ (k ∷ [])
      → ((ss : List ℕ) → line_items ss p l ≡ tree_items ss p e ++ (item k 0 ∷ [])) → Lined p l
  tree_lined l z e h k b c d =
      ended_lined p l z (tree_codes p e) k (λ ss. tree_items ss p e) (λ ss. tree_gives p s ss e h) (omega arith) (λ y. omega arith) (λ y. omega arith) c d

  claim_lined : (c : Claim) → first_slip p (claim_uses c) ≡ none → Lined p (claim_line c)
  unfolding line_codes claim_codes line_items claim_items claim_uses lets
  claim_lined (includes e f) h = let (a, b) = slip_append p (tree_uses e) (tree_uses f) h in includes_lined e f a b
  claim_lined (empty e) h = tree_lined (claim_line (empty e)) refl e h 137 (omega arith) refl (λ ss. refl)
  claim_lined (irreflexive e) h = tree_lined (claim_line (irreflexive e)) refl e h 138 (omega arith) refl (λ ss. refl)

  bare_lined : (l : Line) → lets l ≡ [] → (k : ℕ) → 128 ≤ k → (k ≡ 130 → ⊥) → (k ≡ 131 → ⊥) → line_codes p l ≡ k ∷ []
      → ((ss : List ℕ) → line_items ss p l ≡ item k 0 ∷ []) → Lined p l
  bare_lined l z k h n m c d = ended_lined p l z [] k (λ ss. []) gives_none h n m c d

  -- a line that was read
  pub line_lined : (l : Line) → first_slip p (uses l) ≡ none → Lined p l
  unfolding line_codes line_items uses lets
  line_lined (test_line n) h = bare_lined (test_line n) refl 128 (omega arith) (λ z. omega arith) (λ z. omega arith) refl (λ ss. refl)
  line_lined (rel_line n) h = bare_lined (rel_line n) refl 129 (omega arith) (λ z. omega arith) (λ z. omega arith) refl (λ ss. refl)
  line_lined (let_line n e) h = let_lined n e (slip_first p (declares n) (tree_uses e) h).1
  line_lined (never_line t) h = never_lined t h
  line_lined (within_line n t u) h =
      let (a, b) = slip_append p (test_uses t) (test_uses u) (slip_first p (uses_relation n) (test_uses t ++ test_uses u) h).1 in
      within_lined n t u a b
  line_lined (closed_line n) h =
      bare_lined (closed_line n) refl (160 + index_of n (relations p)) (omega arith) (λ z. omega arith) (λ z. omega arith) refl (λ ss. refl)
  line_lined (assume_empty e) h = tree_lined (assume_empty e) refl e h 133 (omega arith) refl (λ ss. refl)
  line_lined (assume_irreflexive e) h = tree_lined (assume_irreflexive e) refl e h 134 (omega arith) refl (λ ss. refl)
  line_lined (claim_line c) h = claim_lined c h

-- the lines of r, after those of p
pub lines_after : (p r : Query) → Orderly p r → Settled p → (a : ℕ) (ss : List ℕ)
    → after (resting a a ss) (lines_codes p r)
    ≡ resting (a + length (lines_codes p r)) (a + length (lines_codes p r)) (ss ++ let_starts a p r)
unfolding after lines_codes let_starts
lines_after p [] o s a ss = ap₂ (λ x y. resting x x y) (sym (add-zero a)) (sym (append-nil ss))
lines_after p (l ∷ r) (e, c, o) s a ss =
    let b = a + length (line_codes p l) in
    after_append (resting a a ss) (line_codes p l) (lines_codes (p ++ (l ∷ [])) r)
    ∙ ap (λ x. after x (lines_codes (p ++ (l ∷ [])) r)) ((line_lined p s l e).onward a ss)
    ∙ lines_after (p ++ (l ∷ [])) r o (settled_more p l e c s) b (ss ++ line_starts a l)
    ∙ ap₂ (λ x y. resting x x y) (omega (arith, length-append (line_codes p l) (lines_codes (p ++ (l ∷ [])) r)))
    (append_assoc ss (line_starts a l) (let_starts b (p ++ (l ∷ [])) r))

pub lines_items : (p : Query) (l : Line) (r : Query) → first_slip p (uses l) ≡ none → Settled p → (a : ℕ) (ss : List ℕ)
    → items_from (resting a a ss) (lines_codes p (l ∷ r))
    ≡ line_items ss p l
    ++ items_from (resting (a + length (line_codes p l)) (a + length (line_codes p l)) (ss ++ line_starts a l)) (lines_codes (p ++ (l ∷ [])) r)
unfolding lines_codes
lines_items p l r e s a ss =
    let h = line_lined p s l e in
    items_append (resting a a ss) (line_codes p l) (lines_codes (p ++ (l ∷ [])) r)
    ∙ ap₂ ◌++◌ (h.items a ss) (ap (λ x. items_from x (lines_codes (p ++ (l ∷ [])) r)) (h.onward a ss))

-- the place of a let line
pub let_start : (a : ℕ) (p r : Query) (n : Name) (e : Tree) (t : Query)
    → get_or (let_starts a p (r ++ (let_line n e ∷ t))) (length (each lets r)) 0 ≡ a + length (lines_codes p r)
unfolding let_starts lines_codes lets
let_start a p [] n e t = sym (add-zero a)
let_start a p (l ∷ r) n e t =
    let b = a + length (line_codes p l) in
    let on = let_starts b (p ++ (l ∷ [])) (r ++ (let_line n e ∷ t)) in
    ap (λ x. get_or (line_starts a l ++ on) x 0) (omega (arith, length-append (lets l) (each lets r), length-map (lets l) (λ b. a)))
    ∙ get_or-append-add (line_starts a l) on (length (each lets r)) 0
    ∙ let_start b (p ++ (l ∷ [])) r n e t
    ∙ omega (arith, length-append (line_codes p l) (lines_codes (p ++ (l ∷ [])) r))
