-- The lines on a relation: behind the codes of a `within` line the judge has compared the relation with what goes from T to U, behind those of
-- a `closed` line with what two of its edges in a row lead to.
-- Assumes nothing.
use Prim.Native.Nat.{ℕ, ◌+◌, ◌-◌, ◌≤◌, ◌<◌}
use native.Mathlib.Omega.{arith}
use mathlib.Core.Path.{◌≡◌, refl, sym, ◌∙◌, ap, subst}
use mathlib.Core.Bool.{not, ◌&&◌}
use mathlib.Core.List.{List, [], ◌∷◌, ◌++◌}
use mathlib.Core.Option.{none}
use lib.Dec.{eqb, ltb}
use lib.ListN.{length, get_or}
use Rattle.kat.specs.Lists.{some}
use Rattle.kat.specs.Graph.{Finite}
use Rattle.kat.proofs.Closure.{entry_table}
use Rattle.claims.specs.Tree.{Name, TestTree, tested, within_line, closed_line}
use Rattle.claims.specs.Names.{uses_relation, test_uses, tree_uses, slip, first_slip}
use Rattle.claims.specs.Query.{Query, index_of, lets, tests, relations, holds}
use Rattle.claims.specs.Sides.{expand, meant}
use Rattle.claims.specs.Judgement.{events, some_pair, breaks, pairs_of, judged}
use Rattle.codes.specs.Codes.{test_codes, tree_codes}
use Rattle.codes.proofs.Names.{index_lt}
use Rattle.codes.proofs.Orderly.{Orderly, Settled}
use Rattle.codes.proofs.Bindings.{relation_place}
use Rattle.codes.proofs.NamedRelations.{named_relation}
use Rattle.side_items.proofs.Scanned.{item}
use Rattle.side_items.proofs.TreeItems.{bracket_items, tree_items}
use Rattle.rows.specs.Rows.{composed, NOWHERE, lowest_pair}
use Rattle.rows.proofs.Shown.{Shows, shows_same}
use Rattle.tree_heights.specs.Heights.{height}
use Rattle.graph_tables.specs.Listed.{relation_rows}
use Rattle.graph_tables.specs.declared.JudgedSoFar.{JudgedSoFar}
use Rattle.graph_tables.specs.Machine.{Judging, judging, top, second}
use Rattle.graph_judge.specs.Machine.{outside, unclosed, broken_if, relation_line, performed, performed_all}
use Rattle.graph_judge.proofs.Ends.{ends_within, ends_closed, ends_other, does_end}
use Rattle.graph_judge.proofs.Graphed.{Graphed}
use Rattle.graph_judge.proofs.Broken.{outside_limits, not_closed}
use Rattle.graph_judge.proofs.Added.{Added, top_shows, second_shows, one_more}
use Rattle.graph_judge.proofs.Expressions.{performed_append, performed_last, related}
use Rattle.graph_judge.proofs.InLines.{InLine, LineDone, added_in_line, broken_done}
use Rattle.graph_judge.proofs.Lines.{expression_added}

-- the end of a line on a relation
module _ (L : List ℕ) (j : Judging) (k : ℕ) (h : 144 ≤ k) where
  relation_does : (r : JudgedSoFar) → r ≡ relation_line L j k → performed L j (item k 0) ≡ judging j.mem r
  relation_does r e =
      sym (does_end L j k 0 (omega arith) (λ z. omega arith) r
      (e ∙ sym (ends_other L j k 0 (λ z. omega arith) (λ z. omega arith) (λ z. omega arith) (λ z. omega arith) (λ z. omega arith) (λ z. omega arith)
      (λ z. omega arith))))

module _ (L : List ℕ) (j : Judging) (r : ℕ) (h : r < 16) where
  within_does : performed L j (item (144 + r) 0) ≡ judging j.mem (broken_if (outside L j r) j.state)
  within_does =
      let e : 144 + r - 144 ≡ r = omega arith in
      relation_does L j (144 + r) (omega arith) (broken_if (outside L j r) j.state)
      (sym (ends_within L j (144 + r) (omega arith) (omega arith) ∙ ap (λ i. broken_if (outside L j i) j.state) e))

  closed_does : performed L j (item (160 + r) 0) ≡ judging j.mem (broken_if (unclosed L j.state r) j.state)
  closed_does =
      let e : 160 + r - 160 ≡ r = omega arith in
      relation_does L j (160 + r) (omega arith) (broken_if (unclosed L j.state r) j.state)
      (sym (ends_closed L j (160 + r) (omega arith) (omega arith) ∙ ap (λ i. broken_if (unclosed L j.state i) j.state) e))

module _ (G : Finite) (q : Query) (L : List ℕ) (n : ℕ) (g : Graphed G L n) (o : Orderly [] q) (p r : Query) (z : p ++ r ≡ q) (s : Settled p)
    (ss : List ℕ) (j : Judging) (i : InLine G q L n g p j) (w : j.state.waiting ≡ 0) (m : Name) (e : slip p (uses_relation m) ≡ none) where
  -- its number after the lines of p, and in the whole query
  abbrev number : ℕ
  number = index_of m (relations p)

  number_few : number < 16
  number_few = omega (arith, index_lt m (relations p) (named_relation q p r z s m e), s.room.relations)

  number_same : number ≡ index_of m (relations q)
  number_same = (relation_place q p r z m (named_relation q p r z s m e)).0

  pub closed_done : LineDone G q L n g p (closed_line m) j (performed_all L j (item (160 + number) 0 ∷ []))
  unfolding performed_all unclosed breaks lets
  closed_done =
      subst (LineDone G q L n g p (closed_line m) j) (sym (closed_does L j number number_few))
      (broken_done G q L n g p (closed_line m) refl j j (unclosed L j.state number)
      (ap (λ k. ltb (lowest_pair (composed (relation_rows L number) (relation_rows L number)) (relation_rows L number) k) NOWHERE) i.events
      ∙ not_closed G n g.events g.few (relation_rows L number) (G.edges number) (g.edges number number_few)
      ∙ ap (λ k. some_pair G (λ x y. G.edges k x y && some (λ z. G.edges k y z && not (G.edges k x z)) (events G))) number_same)
      refl refl tt i)

  -- a T in square brackets
  bracket_shown : (t : TestTree) (u : List ℕ) → Shows n u (related G q L n g (tested t))
      → Shows n u (λ x y. eqb x y && holds (tests q) t (get_or G.atoms x 0))
  unfolding judged meant expand pairs_of
  bracket_shown t u h =
      shows_same n u (related G q L n g (tested t)) (λ x y. eqb x y && holds (tests q) t (get_or G.atoms x 0))
      (λ x y a b.
      entry_table (length G.atoms) (λ x y. eqb x y && holds (tests q) t (get_or G.atoms x 0)) x y (omega (arith, g.events)) (omega (arith, g.events)))
      h

  pub within_done : (t u : TestTree) → first_slip p (test_uses t) ≡ none → first_slip p (test_uses u) ≡ none
      → length (test_codes p t ++ (6 ∷ [])) ≤ 4096 → length (test_codes p u ++ (6 ∷ [])) ≤ 4096
      → LineDone G q L n g p (within_line m t u) j (performed_all L j (bracket_items p t ++ (bracket_items p u ++ (item (144 + number) 0 ∷ []))))
  unfolding performed_all tree_uses tree_codes tree_items height outside breaks lets
  within_done t u a b c d =
      let T = related G q L n g (tested t) in
      let U = related G q L n g (tested u) in
      let k : Judging = performed_all L j (bracket_items p t) in
      let x : Added n T j k = expression_added G q L n g o p r z s ss (tested t) a c j i (omega arith) in
      let f : InLine G q L n g p k = added_in_line G q L n g p T j k s.room.lets x i in
      let l : Judging = performed_all L k (bracket_items p u) in
      let y : Added n U k l = expression_added G q L n g o p r z s ss (tested u) b d k f (omega (arith, one_more n T j k x)) in
      let h : InLine G q L n g p l = added_in_line G q L n g p U k l s.room.lets y f in
      let R = relation_rows L number in
      subst (LineDone G q L n g p (within_line m t u) j)
      (sym (performed_append L j (bracket_items p t) (bracket_items p u ++ (item (144 + number) 0 ∷ []))
      ∙ performed_last L k (bracket_items p u) (item (144 + number) 0) ∙ within_does L l number number_few))
      (broken_done G q L n g p (within_line m t u) refl j l (outside L l number)
      (ap (λ v. ltb (lowest_pair R (composed (composed (second l) R) (top l)) v) NOWHERE) h.events
      ∙ outside_limits G n g.events g.few R (second l) (top l) (G.edges number) (λ x. holds (tests q) t (get_or G.atoms x 0))
      (λ x. holds (tests q) u (get_or G.atoms x 0)) (g.edges number number_few)
      (bracket_shown t (second l) (second_shows n T j k x U l y)) (bracket_shown u (top l) (top_shows n U k l y))
      ∙ ap (λ v. some_pair G (λ x y. G.edges v x y && not (holds (tests q) t (get_or G.atoms x 0) && holds (tests q) u (get_or G.atoms y 0)))) number_same)
      (ap (λ t. t.broken) y.state ∙ ap (λ t. t.broken) x.state)
      (ap (λ t. t.line) y.state ∙ ap (λ t. t.line) x.state) tt h)
