-- The judge over all lines of a query: the first line that it says is broken, and what it finds of the claim, are those of the graph's
-- judgement. Line by line: what is broken so far stays, and else the first of the lines that are left.
-- Assumes nothing.
use Prim.Native.Nat.{ℕ, ◌+◌, ◌≤◌}
use native.Mathlib.Omega.{arith}
use mathlib.Core.Path.{◌≡◌, refl, sym, ◌∙◌, ap, subst}
use mathlib.Core.Bool.{Bool, true, false, cond, ◌&&◌}
use mathlib.Core.List.{List, [], ◌∷◌, ◌++◌, append_assoc}
use mathlib.Core.Option.{none}
use lib.Dec.{eqb}
use lib.ListN.{length, length-append, length-replicate}
use borrow.Author.Tests.{eqb-true, ne_eqb}
use Rattle.kat.specs.Graph.{Finite}
use Rattle.claims.specs.Tree.{Claim, includes, empty, irreflexive, Line, test_line, rel_line, let_line, never_line, within_line, closed_line, assume_empty, assume_irreflexive, claim_line}
use Rattle.claims.specs.Names.{declares, uses_relation, test_uses, tree_uses, claim_uses, uses, first_slip}
use Rattle.claims.specs.Query.{Query, each, index_of, lets, relations}
use Rattle.claims.specs.Reading.{crowded}
use Rattle.claims.specs.Judgement.{breaks, first_broken, claimed}
use Rattle.claims.proofs.Results.{each_append}
use Rattle.codes.specs.Codes.{test_codes, tree_codes, claim_codes, line_codes, lines_codes, query_codes}
use Rattle.codes.proofs.Orderly.{Orderly, Settled, settled_none, settled_more, slip_first, slip_append}
use Rattle.codes.proofs.Claimed.{Claimed}
use Rattle.side_items.specs.Items.{unscanned, items_of}
use Rattle.side_items.proofs.Scanned.{items_from, resting, items_of_lem}
use Rattle.side_items.proofs.LineItems.{claim_items, line_items, line_starts, lines_items}
use Rattle.rows.specs.Rows.{blank}
use Rattle.tree_heights.specs.Heights.{LowClaim, LowLine, LowLines}
use Rattle.graph_tables.specs.Machine.{Judging}
use Rattle.graph_judge.specs.Machine.{broken_if, relation_line, judged_line, line_ended, performed, performed_all, beginning}
use Rattle.graph_judge.specs.Outcome.{outcome_of}
use Rattle.graph_judge.proofs.Graphed.{Graphed}
use Rattle.graph_judge.proofs.Expressions.{performed_append, one_few}
use Rattle.graph_judge.proofs.InLines.{InLine, LineDone, FoundOf, ring_claim}
use Rattle.graph_judge.proofs.Lines.{empty_done, irreflexive_done, named_done, claimed_empty, claimed_irreflexive, claimed_includes, never_done, bare_done}
use Rattle.graph_judge.proofs.Limits.{closed_done, within_done}

-- what is broken so far stays, and else the line, or the first of those behind it
next_broken : (b : Bool) (old line rest new : ℕ) → 1 ≤ line → new ≡ cond (b && eqb old 0) line old
    → cond (eqb new 0) rest new ≡ cond (eqb old 0) (elim b as (λ x. ℕ) [ true ↦ line | false ↦ rest ]) old
next_broken true old line rest new h e = go (eqb old 0) refl e
  where
    go : (c : Bool) → eqb old 0 ≡ c → new ≡ cond c line old → cond (eqb new 0) rest new ≡ cond c line old
    go true z f = ap (λ c. cond c rest new) (ne_eqb new 0 (λ y. omega arith)) ∙ f
    go false z f = ap (λ y. cond (eqb y 0) rest y) f ∙ ap (λ c. cond c rest old) z
next_broken false old line rest new h e = ap (λ y. cond (eqb y 0) rest y) e

-- the last of no lines
none_last : (b : Query) (c : Claim) → [] ≡ b ++ (claim_line c ∷ []) → ⊥
none_last [] c e = let y : ◌≡◌ {A = ℕ} 0 1 = cc in omega arith
none_last (x ∷ b) c e = let y : ◌≡◌ {A = ℕ} 0 1 = cc in omega arith

module _ (G : Finite) (q : Query) (L : List ℕ) (n : ℕ) (g : Graphed G L n) (o : Orderly [] q) where
  -- one line
  module _ (p r : Query) (s : Settled p) (ss : List ℕ) (j : Judging) (i : InLine G q L n g p j) (w : j.state.waiting ≡ 0) where
    claim_done : (c : Claim) → p ++ (claim_line c ∷ r) ≡ q → first_slip p (claim_uses c) ≡ none → LowClaim c → length (claim_codes p c) ≤ 4096
        → LineDone G q L n g p (claim_line c) j (performed_all L j (claim_items ss p c))
    unfolding claim_items claim_uses claim_codes
    claim_done (includes e f) z h (a, b) l =
        let (c, d) = slip_append p (tree_uses e) (tree_uses f) h in
        let x = length-append (tree_codes p e ++ (135 ∷ tree_codes p f)) (136 ∷ []) in
        let y = length-append (tree_codes p e) (135 ∷ tree_codes p f) in
        claimed_includes G q L n g o p (claim_line (includes e f) ∷ r) z s ss e c (omega arith) a j i w f d (omega arith) b
    claim_done (empty e) z h a l =
        claimed_empty G q L n g o p (claim_line (empty e) ∷ r) z s ss e h (one_few (tree_codes p e) 137 4096 l) a j i w
    claim_done (irreflexive e) z h a l =
        claimed_irreflexive G q L n g o p (claim_line (irreflexive e) ∷ r) z s ss e h (one_few (tree_codes p e) 138 4096 l) a j i w

    line_done : (l : Line) → p ++ (l ∷ r) ≡ q → first_slip p (uses l) ≡ none → crowded p l ≡ false → LowLine l → length (line_codes p l) ≤ 4096
        → LineDone G q L n g p l j (performed_all L j (line_items ss p l))
    unfolding line_items line_codes uses performed line_ended judged_line relation_line broken_if breaks lets
    line_done (test_line m) z h c a l = bare_done G q L n g o p (test_line m ∷ r) z s ss j i w (test_line m) 128 refl refl tt refl
    line_done (rel_line m) z h c a l = bare_done G q L n g o p (rel_line m ∷ r) z s ss j i w (rel_line m) 129 refl refl tt refl
    line_done (let_line m e) z h c a l =
        named_done G q L n g o p (let_line m e ∷ r) z s ss e (slip_first p (declares m) (tree_uses e) h).1 (one_few (tree_codes p e) 130 4096 l) a j i w m
        (omega (
          arith,
          (settled_more p (let_line m e) h c s).room.lets,
          ap length (each_append lets p (let_line m e ∷ [])),
          length-append (each lets p) (each lets (let_line m e ∷ [])),
        ))
    line_done (never_line t) z h c a l =
        never_done G q L n g o p (never_line t ∷ r) z s ss j i w t h (one_few (test_codes p t) 131 4096 l)
    line_done (within_line m t u) z h c a l =
        let (e, f) = slip_first p (uses_relation m) (test_uses t ++ test_uses u) h in
        let (b, d) = slip_append p (test_uses t) (test_uses u) f in
        let x = length-append (test_codes p t ++ (6 ∷ [])) ((test_codes p u ++ (6 ∷ [])) ++ ((144 + index_of m (relations p)) ∷ [])) in
        let y = length-append (test_codes p u ++ (6 ∷ [])) ((144 + index_of m (relations p)) ∷ []) in
        within_done G q L n g o p (within_line m t u ∷ r) z s ss j i w m e t u b d (omega arith) (omega arith)
    line_done (closed_line m) z h c a l =
        closed_done G q L n g o p (closed_line m ∷ r) z s ss j i w m (slip_first p (uses_relation m) [] h).0
    line_done (assume_empty e) z h c a l =
        empty_done G q L n g o p (assume_empty e ∷ r) z s ss e h (one_few (tree_codes p e) 133 4096 l) a j i w
    line_done (assume_irreflexive e) z h c a l =
        irreflexive_done G q L n g o p (assume_irreflexive e ∷ r) z s ss e h (one_few (tree_codes p e) 134 4096 l) a j i w
    line_done (claim_line c) z h d a l = claim_done c z h a l

  -- what is said of the lines r, from j on
  pub record Judges (r : List Line) (j k : Judging) : Type 0 where
    pub broken : k.state.broken ≡ cond (eqb j.state.broken 0) (first_broken G q j.state.line r) j.state.broken
    pub found : (b : Query) (c : Claim) → r ≡ b ++ (claim_line c ∷ []) → outcome_of (ring_claim c) k.state.found ≡ claimed G q c

  -- what is found of the claim, if the line is it, and else behind it
  last_found : (x : Line) (r : List Line) (m m' : ℕ) → FoundOf G q L n g x m → (r ≡ [] → m' ≡ m)
      → ((b : Query) (c : Claim) → r ≡ b ++ (claim_line c ∷ []) → outcome_of (ring_claim c) m' ≡ claimed G q c)
      → (b : Query) (c : Claim) → (x ∷ r) ≡ b ++ (claim_line c ∷ []) → outcome_of (ring_claim c) m' ≡ claimed G q c
  last_found x r m m' f e k [] c h =
      let first : x ≡ claim_line c = cc in
      let last : r ≡ [] = cc in
      ap (outcome_of (ring_claim c)) (e last) ∙ subst (λ y. FoundOf G q L n g y m) first f
  last_found x r m m' f e k (y ∷ b) c h = k b c (cc)

  lines_judged : (r p : Query) → p ++ r ≡ q → Orderly p r → Settled p → LowLines r → length (lines_codes p r) ≤ 4096 → (a : ℕ) (ss : List ℕ) (j : Judging)
      → InLine G q L n g p j → j.state.waiting ≡ 0 → Judges r j (performed_all L j (items_from (resting a a ss) (lines_codes p r)))
  unfolding lines_codes items_from performed_all first_broken
  lines_judged [] p z t s low l a ss j i w =
      record {
        broken = sym (kept j.state.broken (eqb j.state.broken 0) refl);
        found = λ b c e. absurd (none_last b c e);
      }
    where
      kept : (m : ℕ) (b : Bool) → eqb m 0 ≡ b → cond b 0 m ≡ m
      kept m true e = sym (eqb-true m 0 e)
      kept m false e = refl
  lines_judged (x ∷ r) p z (e, c, t) s (b, low) l a ss j i w =
      let few = length-append (line_codes p x) (lines_codes (p ++ (x ∷ [])) r) in
      let k : Judging = performed_all L j (line_items ss p x) in
      let d : LineDone G q L n g p x j k = line_done p r s ss j i w x z e c b (omega arith) in
      let v = a + length (line_codes p x) in
      let on = lines_judged r (p ++ (x ∷ [])) (append_assoc p (x ∷ []) r ∙ z) t (settled_more p x e c s) low (omega arith) v (ss ++ line_starts a x) k d.behind d.rests in
      subst (Judges (x ∷ r) j)
      (sym (ap (performed_all L j) (lines_items p x r e s a ss)
      ∙ performed_append L j (line_items ss p x) (items_from (resting v v (ss ++ line_starts a x)) (lines_codes (p ++ (x ∷ [])) r))))
      (record {
        broken = on.broken
            ∙ next_broken (breaks G q x) j.state.broken j.state.line (first_broken G q k.state.line r) k.state.broken
            (omega (arith, i.number)) d.broken
            ∙ ap (λ m. cond (eqb j.state.broken 0) (elim (breaks G q x) as (λ x. ℕ) [ true ↦ j.state.line | false ↦ first_broken G q m r ]) j.state.broken)
            (omega (arith, d.behind.number, i.number, length-append p (x ∷ [])));
        found = last_found x r k.state.found _ d.found
            (λ y. ap (λ r. (performed_all L k (items_from (resting v v (ss ++ line_starts a x)) (lines_codes (p ++ (x ∷ [])) r))).state.found) y) on.found;
      })

-- the judge over the codes of a query says what the judgement says
pub record SaysJudgement (G : Finite) (q : Query) (c : Claim) (k : Judging) : Type 0 where
  pub line : k.state.broken ≡ first_broken G q 1 q
  pub outcome : outcome_of (ring_claim c) k.state.found ≡ claimed G q c

pub query_judged : (G : Finite) (q : Query) (c : Claim) (L : List ℕ) (n : ℕ) → Graphed G L n → Claimed q c → LowLines q → length (query_codes q) ≤ 4096
    → SaysJudgement G q c (performed_all L (beginning n) (items_of (query_codes q)))
unfolding query_codes beginning unscanned
query_judged G q c L n g h low few =
    let j : Judging = beginning n in
    let x : Judges G q L n g h.lines q j (performed_all L j (items_from (resting 0 0 []) (lines_codes [] q))) =
    lines_judged G q L n g h.lines q [] refl h.lines settled_none low few 0 [] j
    (record { size = length-replicate 100 blank; events = refl; lets_before = refl; number = refl; known = tt }) refl
    in
    subst (λ is. SaysJudgement G q c (performed_all L j is)) (sym (items_of_lem (lines_codes [] q)))
    (record { line = x.broken; outcome = x.found h.before c h.last })
