-- The items from the place of an expression on: those of the expression, where each let has the place of its own line, and then the end
-- of the line. And that the expression of a let that it uses has such a place, before it.
-- Assumes nothing.
use Prim.Native.Nat.{ℕ, ◌+◌, ◌<◌}
use native.Mathlib.Omega.{arith}
use mathlib.Core.Path.{◌≡◌, refl, sym, ◌∙◌, ap, ap₂, subst}
use mathlib.Core.Logic.{◌⊎◌}
use mathlib.Core.Logic.◌⊎◌.{inl, inr}
use mathlib.Core.Bool.{cond}
use mathlib.Core.List.{List, [], ◌∷◌, ◌++◌, append-nil, append_assoc}
use lib.ListN.{length, get_or, drop, length-append}
use lib.Seq.{drop_at}
use borrow.Author.Tests.{ne_eqb}
use Rattle.claims.specs.Tree.{Name, Tree, let_line}
use Rattle.claims.specs.Names.{declares, tree_uses, uses}
use Rattle.claims.specs.Query.{Query, index_of}
use Rattle.codes.specs.Codes.{let_names, tree_codes, line_codes, lines_codes, query_codes}
use Rattle.codes.proofs.Orderly.{Orderly, slip_first, settled_none, settled_on}
use Rattle.codes.proofs.Below.{Below, tree_below}
use Rattle.codes.proofs.Bindings.{orderly_parts, LetLine}
use Rattle.codes.proofs.Claimed.{lines_append}
use Rattle.side_items.specs.Items.{Scan, arg_of, scanned, unscanned, Item, items_of}
use Rattle.side_items.proofs.Placed.{Placed}
use Rattle.side_items.proofs.Scanned.{item, items_from, after, items_of_lem, items_append, after_append, items_length, resting, end_scanned}
use Rattle.side_items.proofs.TreeItems.{tree_items, tree_gives}
use Rattle.side_items.proofs.LineItems.{let_starts, lines_after, let_start}

-- codes that end no line leave the places of the let lines as they are, and move on by their number
below_after : (s : Scan) (ks : List ℕ) → Below 128 ks → ((after s ks).at ≡ s.at + length ks) × ((after s ks).starts ≡ s.starts)
unfolding after scanned
below_after s [] b = (omega arith, refl)
below_after s (k ∷ ks) (h, b) =
    let (x, y) = below_after (scanned s k) ks b in
    (omega arith, y ∙ ap (λ c. cond c (s.starts ++ (s.line ∷ [])) s.starts) (ne_eqb k 130 (λ z. omega arith)))

-- the left side of an inclusion
left_after : (a : ℕ) (ss ks : List ℕ) → Below 128 ks
    → (l : ℕ) × (after (resting a a ss) (ks ++ (135 ∷ [])) ≡ resting (a + length (ks ++ (135 ∷ []))) l ss)
unfolding after
left_after a ss ks b =
    let s = after (resting a a ss) ks in
    let (x, y) = below_after (resting a a ss) ks b in (
      a + length (ks ++ (135 ∷ [])),
      after_append (resting a a ss) ks (135 ∷ []) ∙ end_scanned s 135 (omega arith) (λ z. omega arith)
          ∙ ap₂ (λ i j. resting i i j) (omega (arith, length-append ks (135 ∷ []))) y,
    )

module _ (q : Query) (o : Orderly [] q) (e : Tree) (from : ℕ) (P : Placed q e from) where
  -- where the let lines before start
  abbrev pub starts_before : List ℕ
  starts_before = let_starts 0 [] P.before

  before_orderly : Orderly [] P.before
  before_orderly = (orderly_parts [] P.before P.onward (subst (Orderly []) (sym P.whole) o)).0

  -- the codes of the lines before
  abbrev lines : List ℕ
  lines = lines_codes [] P.before

  lines_scanned : after unscanned lines ≡ resting (length lines) (length lines) starts_before
  unfolding unscanned
  lines_scanned =
      lines_after [] P.before before_orderly settled_none 0 [] ∙ ap (λ x. resting x x starts_before) (omega arith)

  -- no code of a T waits where the expression starts
  reached : (l : ℕ) × (after unscanned (lines ++ P.lead) ≡ resting from l starts_before)
  reached = go P.leads
    where
      go : (P.lead ≡ []) ⊎ ((x : Tree) × (P.lead ≡ tree_codes P.before x ++ (135 ∷ [])))
          → (l : ℕ) × (after unscanned (lines ++ P.lead) ≡ resting from l starts_before)
      go (inl z) = (
        length lines,
        ap (λ x. after unscanned (lines ++ x)) z ∙ ap (after unscanned) (append-nil lines) ∙ lines_scanned
            ∙ ap (λ x. resting x (length lines) starts_before) (omega (arith, length-append lines P.lead, ap length z, P.place)),
      )
      go (inr (x, z)) =
          let ks = tree_codes P.before x in
          let (l, f) = left_after (length lines) starts_before ks (tree_below P.before P.settled.room x) in (
            l,
            ap (λ x. after unscanned (lines ++ x)) z ∙ after_append unscanned lines (ks ++ (135 ∷ []))
                ∙ ap (λ s. after s (ks ++ (135 ∷ []))) lines_scanned ∙ f
                ∙ ap (λ x. resting x l starts_before) (omega (arith, length-append lines P.lead, ap length z, P.place)),
          )

  -- the items of the expression, and then the end of the line
  pub placed_items : (x : ℕ) × (is : List Item)
      × (drop from (items_of (query_codes q)) ≡ tree_items starts_before P.before e ++ (item P.ended x ∷ is))
  unfolding items_from
  placed_items =
      let (l, r) = reached in
      let front = lines ++ P.lead in
      let ks = tree_codes P.before e in
      let ms = P.ended ∷ P.rest in
      let g = tree_gives P.before P.settled starts_before e P.known in
      let s = resting (from + length ks) l starts_before in (
        arg_of s P.ended,
        items_from (scanned s P.ended) P.rest,
        ap (drop from)
            (items_of_lem (query_codes q) ∙ ap (items_from unscanned) P.codes ∙ items_append unscanned front (ks ++ ms))
            ∙ drop_at (items_from unscanned front) (items_from (after unscanned front) (ks ++ ms)) from (items_length unscanned front ∙ P.place)
            ∙ ap (λ x. items_from x (ks ++ ms)) r ∙ items_append (resting from l starts_before) ks ms
            ∙ ap₂ (λ is x. is ++ items_from x ms) (g.items from l) (g.rests from l),
      )

  module _ (n : Name) (L : LetLine P.before n) where
    -- the lines behind the let's
    abbrev behind : Query
    behind = L.later ++ P.onward

    let_whole : L.earlier ++ (let_line n L.means ∷ behind) ≡ q
    let_whole =
        sym (append_assoc L.earlier (let_line n L.means ∷ L.later) P.onward) ∙ ap (λ x. x ++ P.onward) (sym L.here) ∙ P.whole

    -- where the let's line starts
    abbrev pub let_place : ℕ
    let_place = length (lines_codes [] L.earlier)

    pub let_placed : Placed q L.means let_place
    unfolding uses query_codes lines_codes line_codes
    let_placed =
        let (h, k) = orderly_parts [] L.earlier (let_line n L.means ∷ behind) (subst (Orderly []) (sym let_whole) o) in
        let front = lines_codes [] L.earlier in
        let ks = tree_codes L.earlier L.means in
        let rest = lines_codes (L.earlier ++ (let_line n L.means ∷ [])) behind in
        record {
          before = L.earlier;
          onward = let_line n L.means ∷ behind;
          whole = let_whole;
          settled = settled_on [] L.earlier h settled_none;
          known = (slip_first L.earlier (declares n) (tree_uses L.means) k.0).1;
          lead = [];
          leads = inl refl;
          ended = 130;
          rest = rest;
          codes = ap (lines_codes []) (sym let_whole) ∙ lines_append [] L.earlier (let_line n L.means ∷ behind)
              ∙ ap₂ ◌++◌ (sym (append-nil front)) (append_assoc ks (130 ∷ []) rest);
          place = ap length (append-nil front);
          ends = omega arith;
        }

    -- it is the place that the let's item has, and it is before that of the expression
    pub let_starts_lem : get_or starts_before (index_of n (let_names P.before)) 0 ≡ let_place
    let_starts_lem =
        ap₂ (λ x y. get_or (let_starts 0 [] x) y 0) L.here L.number
        ∙ let_start 0 [] L.earlier n L.means L.later ∙ omega arith

    pub let_before_lem : let_place < from
    unfolding lines_codes line_codes
    let_before_lem =
        let front = lines_codes [] L.earlier in
        let ks = tree_codes L.earlier L.means in
        let rest = lines_codes (L.earlier ++ (let_line n L.means ∷ [])) L.later in
        omega (
          arith,
          P.place,
          length-append lines P.lead,
          ap (λ x. length (lines_codes [] x)) L.here,
          ap length (lines_append [] L.earlier (let_line n L.means ∷ L.later)),
          length-append front ((ks ++ (130 ∷ [])) ++ rest),
          length-append (ks ++ (130 ∷ [])) rest,
          length-append ks (130 ∷ []),
        )
