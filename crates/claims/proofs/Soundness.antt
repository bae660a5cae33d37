-- Where no word refutes, the claim holds in every graph that meets the query's lines. Two events that the left side relates are joined by
-- a walk whose word is a left word; it does not refute, so it is a right word, or its ring is covered; and what the right side says of a
-- graph that meets the assumptions is the claim. A covered ring gives a walk round some rotation of the first one, some number of times.
-- Assumes nothing.
use Prim.Native.Nat.{ℕ}
use native.Mathlib.Omega.{arith}
use mathlib.Core.Path.{◌≡◌, refl, sym, ◌∙◌, ap, subst}
use mathlib.Core.Logic.{⊎_elim, ◌↔◌}
use mathlib.Core.Logic.◌⊎◌.{inl, inr}
use mathlib.Core.Bool.{Bool, true, false, not as flip}
use mathlib.Core.List.{List, [], ◌∷◌}
use lib.ListN.{length}
use Rattle.kat.specs.Expr.{Expr, alt, none as nowhere}
use Rattle.kat.specs.Lists.{In, here, there, member, some}
use Rattle.kat.specs.Graph.{Graph, Rel}
use Rattle.kat.specs.Word.{Word, end, first}
use Rattle.kat.specs.Language.{Lang}
use Rattle.kat.specs.Walk.{Walk, stay, go, word_of}
use Rattle.kat.specs.Ring.{Prefix, nothing, then, onto, body, join, times, start, Covered}
use Rattle.kat.specs.Tables.{null}
use Rattle.kat.proofs.Bools.{false_of_not, false_not_true, true_not_false}
use Rattle.kat.proofs.Sets.{some_in, in_filter, in_upto, in_member}
use Rattle.kat.proofs.Walks.{related_by_words, first_of_walk, last_of_walk}
use Rattle.kat.proofs.Words.{atom_is_word}
use Rattle.kat.proofs.Decided.{language_decided}
use Rattle.kat.proofs.Turns.{join_nothing, start_join}
use Rattle.kat.proofs.Traces.{Trace, trace_join, trace_of_walk, walk_of_trace, trace_start, trace_times}
use Rattle.notation.specs.Tree.{TestTree, Tree, Claim, includes, empty, irreflexive, Line, never_line, within_line, closed_line, assume_empty, assume_irreflexive, test_line, rel_line, let_line, claim_line}
use Rattle.notation.specs.Query.{Query, each, tests, relations, holds, atoms, removed, live, nevers, assumed_empty, assumed_irreflexive}
use Rattle.notation.specs.Sides.{side, union_all, a0, a1, zero, somewhere, decision, decision_of}
use Rattle.notation.specs.Words.{Guarded, Refutes}
use Rattle.claims.specs.Meaning.{Execution, Related, MeetsAll, ClaimHolds}
use Rattle.notation.proofs.Results.{each_in}
use Rattle.claims.proofs.Replacement.{side_means_the_same}

empty_line : (e : Tree) (l : Line) → In e (assumed_empty l) → l ≡ assume_empty e
unfolding assumed_empty
empty_line e (assume_empty f) (here h) = ap assume_empty (sym h)
empty_line e (within_line _ _ _) x8 = elim x8 [ ]
empty_line e (never_line _) x5 = elim x5 [ ]
empty_line e (closed_line _) x7 = elim x7 [ ]
empty_line e (assume_irreflexive _) x9 = elim x9 [ ]
empty_line e (assume_empty f) (there x10) = elim x10 [ ]
empty_line e (test_line _) x'' = elim x'' [ ]
empty_line e (rel_line _) x3 = elim x3 [ ]
empty_line e (let_line _ _) x5 = elim x5 [ ]
empty_line e (claim_line _) x10 = elim x10 [ ]

irreflexive_line : (e : Tree) (l : Line) → In e (assumed_irreflexive l) → l ≡ assume_irreflexive e
unfolding assumed_irreflexive
irreflexive_line e (assume_irreflexive f) (here h) = ap assume_irreflexive (sym h)
irreflexive_line e (within_line _ _ _) x8 = elim x8 [ ]
irreflexive_line e (never_line _) x5 = elim x5 [ ]
irreflexive_line e (closed_line _) x7 = elim x7 [ ]
irreflexive_line e (assume_irreflexive f) (there x11) = elim x11 [ ]
irreflexive_line e (assume_empty _) x8 = elim x8 [ ]
irreflexive_line e (test_line _) x'' = elim x'' [ ]
irreflexive_line e (rel_line _) x3 = elim x3 [ ]
irreflexive_line e (let_line _ _) x5 = elim x5 [ ]
irreflexive_line e (claim_line _) x10 = elim x10 [ ]

never_line_lem : (t : TestTree) (l : Line) → In t (nevers l) → l ≡ never_line t
unfolding nevers
never_line_lem t (never_line u) (here h) = ap never_line (sym h)
never_line_lem t (within_line _ _ _) x8 = elim x8 [ ]
never_line_lem t (never_line u) (there x7) = elim x7 [ ]
never_line_lem t (closed_line _) x7 = elim x7 [ ]
never_line_lem t (assume_irreflexive _) x9 = elim x9 [ ]
never_line_lem t (assume_empty _) x8 = elim x8 [ ]
never_line_lem t (test_line _) x'' = elim x'' [ ]
never_line_lem t (rel_line _) x3 = elim x3 [ ]
never_line_lem t (let_line _ _) x5 = elim x5 [ ]
never_line_lem t (claim_line _) x10 = elim x10 [ ]

module _ (G : Graph) where
  -- a union relates what one of its members does
  union_member : (q : Query) (es : List Tree) (x y : G.Event) → Rel G (union_all q es) x y → (e : Tree) × In e es × Rel G (side q e) x y
  union_member q [] x y (h, n) = absurd (true_not_false n refl)
  union_member q (e ∷ es) x y (inl h) = (e, here refl, h)
  union_member q (e ∷ es) x y (inr h) = let (f, i, k) = union_member q es x y h in (f, there i, k)

  -- an atom that is a word relates its event to itself
  null_relates : (E : Expr) (x : G.Event) → null E (G.atom x) ≡ true → Rel G E x x
  null_relates E x n = (related_by_words G E x x).1 (stay x, (atom_is_word E (G.atom x)).1 n)

  module _ (q : Query) (meets : MeetsAll G q) where
    as_side : (e : Tree) (x y : G.Event) → Related G q e x y ↔ Rel G (side q e) x y
    as_side = side_means_the_same G q (λ n t u i. meets (within_line n t u) i) (λ n i. meets (closed_line n) i)

    none_assumed_empty : (x y : G.Event) → Rel G (a0 q) x y → ⊥
    unfolding a0
    none_assumed_empty x y h =
        let (e, i, k) = union_member q (each assumed_empty q) x y h in
        let (l, j, m) = each_in assumed_empty q e i in
        meets (assume_empty e) (subst (λ z. In z q) (empty_line e l m) j) x y ((as_side e x y).1 k)

    none_assumed_irreflexive : (x : G.Event) → Rel G (a1 q) x x → ⊥
    unfolding a1
    none_assumed_irreflexive x h =
        let (e, i, k) = union_member q (each assumed_irreflexive q) x x h in
        let (l, j, m) = each_in assumed_irreflexive q e i in
        meets (assume_irreflexive e) (subst (λ z. In z q) (irreflexive_line e l m) j) x ((as_side e x x).1 k)

    none_zero : (x y : G.Event) → Rel G (zero q) x y → ⊥
    unfolding zero
    none_zero x y (e, n) = none_assumed_irreflexive x (null_relates (a1 q) x n)

    -- the right side of a path claim says what y says
    right_of_path : (Y : Expr) (x y : G.Event) → Rel G (alt Y (somewhere (alt (a0 q) (zero q)))) x y → Rel G Y x y
    unfolding somewhere
    right_of_path Y x y (inl h) = h
    right_of_path Y x y (inr (z, (m, s, inl h), t)) = absurd (none_assumed_empty m z h)
    right_of_path Y x y (inr (z, (m, s, inr h), t)) = absurd (none_zero m z h)

    -- the right side of a ring claim relates no event to itself
    right_of_ring : (x : G.Event) → Rel G (alt (a1 q) (somewhere (a0 q))) x x → ⊥
    unfolding somewhere
    right_of_ring x (inl h) = none_assumed_irreflexive x h
    right_of_ring x (inr (z, (m, s, h), t)) = none_assumed_empty m z h

    module _ (execution : Execution G q) where
      event_is_live : (x : G.Event) → member (G.atom x) (live q) ≡ true
      unfolding live removed
      event_is_live x =
          let dead : ℕ → Bool = λ a. some (λ t. holds (tests q) t a) (each nevers q) in
          in_member (G.atom x)
          (in_filter (λ a. flip (dead a)) (in_upto (G.atom x) 0 (atoms q) (omega arith) (execution.0 x))
          (false_not_true (false_of_not (dead (G.atom x)) (λ e.
          let (t, i, h) = some_in (λ t. holds (tests q) t (G.atom x)) (each nevers q) e in
          let (l, j, m) = each_in nevers q t i in
          meets (never_line t) (subst (λ z. In z q) (never_line_lem t l m) j) x h))))

      -- the word of a walk is a guarded word
      walk_is_guarded : {x y : G.Event} (p : Walk G x y) → Guarded (live q) (length (relations q)) (word_of G p)
      walk_is_guarded (stay x) = event_is_live x
      walk_is_guarded (go {x = x} {y = y} r e p) = (event_is_live x, execution.1 r x y e, walk_is_guarded p)

      -- where no word refutes, related events are related by y
      path_holds : (L Y : Expr) → ((w : Word) → Refutes (decision_of q false L (alt Y (somewhere (alt (a0 q) (zero q))))) w → ⊥)
          → (x y : G.Event) → Rel G L x y → Rel G Y x y
      path_holds L Y none x y h =
          let R : Expr = alt Y (somewhere (alt (a0 q) (zero q))) in
          let (p, l) = (related_by_words G L x y).0 h in
          ⊎_elim
          (λ k. right_of_path Y x y ((related_by_words G R x y).1 (p, k)))
          (λ k. absurd (none (word_of G p) (walk_is_guarded p, l, k)))
          (language_decided R (word_of G p))

      -- a covered ring of a walk that comes back is impossible
      ring_not_covered : (x : G.Event) (p : Walk G x x)
          → Covered (alt (a1 q) (somewhere (a0 q))) (first (word_of G p)) (body nothing (word_of G p)) → ⊥
      ring_not_covered x p (u, v, e, n, h) =
          let R : Expr = alt (a1 q) (somewhere (a0 q)) in
          let b : ℕ = first (word_of G p) in
          let (m, s, t) = (trace_join G x u v x).0 (subst (λ l. Trace G x l x) e (trace_of_walk G p)) in
          let turn : Trace G m (join v u) m = (trace_join G m v u m).1 (x, t, s) in
          let (o, k) = walk_of_trace G (times n (join v u)) (trace_times G m (join v u) turn n) (stay m) in
          let at_m : start b (join v u) ≡ G.atom m = starts b u v m s t (first_of_walk G p) in
          right_of_ring m ((related_by_words G R m m).1
          (o, subst (Lang R) (sym k) (subst (λ a. Lang R (onto (times n (join v u)) (end a))) at_m h)))
        where
          starts : (b : ℕ) (u v : Prefix) (m : G.Event) → Trace G x u m → Trace G m v x → b ≡ G.atom x → start b (join v u) ≡ G.atom m
          starts b nothing nothing m s t e = e ∙ ap G.atom s
          starts b u (then v a r) m s t e = start_join b b (then v a r) u tt ∙ trace_start G m (then v a r) x t
          starts b (then u a r) nothing m s t e =
              ap (start a) (join_nothing u) ∙ trace_start G x (then u a r) m s ∙ ap G.atom (sym t)

      ring_holds : (L : Expr) → ((w : Word) → Refutes (decision_of q true L (alt (a1 q) (somewhere (a0 q)))) w → ⊥)
          → (x : G.Event) → Rel G L x x → ⊥
      ring_holds L none x h =
          let (p, l) = (related_by_words G L x x).0 h in
          none (word_of G p)
          (walk_is_guarded p, l, (first_of_walk G p ∙ sym (last_of_walk G p), ring_not_covered x p))

-- where no word refutes, the claim holds in every graph that meets the query's lines
pub holds_in_every_graph : (q : Query) (c : Claim) → ((w : Word) → Refutes (decision q c) w → ⊥)
    → (G : Graph) → Execution G q → MeetsAll G q → ClaimHolds G q c
unfolding decision
holds_in_every_graph q (includes e f) none G execution meets =
    λ x y h.
    (as_side G q meets f x y).1 (path_holds G q meets execution (side q e) (side q f) none x y ((as_side G q meets e x y).0 h))
holds_in_every_graph q (empty e) none G execution meets =
    λ x y h.
    let (p, n) = path_holds G q meets execution (side q e) nowhere none x y ((as_side G q meets e x y).0 h) in
    true_not_false n refl
holds_in_every_graph q (irreflexive e) none G execution meets =
    λ x h. ring_holds G q meets execution (side q e) none x ((as_side G q meets e x x).0 h)
