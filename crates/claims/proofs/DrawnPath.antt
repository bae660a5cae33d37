-- The graph drawn from a word that refutes a path claim meets all lines of the query and breaks the claim. The idea: in a line of events
-- every walk from the first event to the last reads the whole word, and no walk comes back. So a pair of an assumed-empty expression
-- would make the word a word of `any*;a0;any*`, and an event that an assumed-irreflexive one relates to itself is an atom of `zero`; the
-- word is a right word in neither way.
-- Assumes nothing.
use Prim.Native.Nat.{ℕ, suc, ◌≤◌, ◌<◌}
use native.Mathlib.Omega.{arith}
use mathlib.Core.Path.{◌≡◌, refl, sym, ◌∙◌, ap, subst}
use mathlib.Core.Logic.{◌⊎◌, ⊎_elim}
use mathlib.Core.Logic.◌⊎◌.{inl, inr}
use mathlib.Core.Bool.{true, false}
use lib.Dec.{ltb→lt}
use lib.ListN.{length}
use Rattle.kat.specs.Expr.{Expr, alt, none}
use Rattle.kat.specs.Graph.{Finite, Rel, graph}
use Rattle.kat.specs.Word.{Word, end, at, first, size}
use Rattle.kat.specs.Language.{Lang}
use Rattle.kat.specs.Tables.{null}
use Rattle.kat.specs.Walk.{Walk, stay, go, word_of}
use Rattle.kat.proofs.Walks.{related_by_words}
use Rattle.kat.proofs.Words.{atom_is_word}
use Rattle.notation.specs.Tree.{Tree, includes, empty}
use Rattle.notation.specs.Query.{Query}
use Rattle.notation.specs.Sides.{decision_of, decision, side, a0, a1, zero as zeros, somewhere}
use Rattle.claims.specs.Meaning.{Related}
use Rattle.notation.specs.Words.{Refutes}
use Rattle.claims.specs.GraphBytes.{finite}
use Rattle.claims.specs.Drawn.{steps_of, drawn}
use Rattle.claims.proofs.Filled.{shut, Plain, related_in_plain}
use Rattle.claims.proofs.Laid.{rest, rest_alone, place, LetterAt, line_laid}
use Rattle.claims.proofs.LeftWords.{laid_plain}
use Rattle.claims.proofs.LaidWalks.{event, event_atom, somewhere_between, walk_later, ends_related}
use Rattle.claims.proofs.DrawnLines.{Counterexample, drawn_counterexample, meets_lines}

-- the plain graph of a path claim
abbrev line : Word → Finite
line w = finite (steps_of false w)

module _ (w : Word) where
  line_number : (x : (graph (line w)).Event) → x.0 ≤ size w
  line_number x =
      let (j, h, z) = (line_laid w).place_of x.0 (ltb→lt x.0 (length (line w).atoms) x.1) in
      subst (λ n. n ≤ size w) z h

  -- an edge is the letter after its event's place
  line_letter : (r : ℕ) (x y : (graph (line w)).Event) → (graph (line w)).edge r x y
      → (y.0 ≡ suc x.0) × (x.0 < size w) × LetterAt w x.0 r
  line_letter r x y h =
      let (j, b, p, q, l) = (line_laid w).letter_of_lem r x.0 y.0 h in
      (q ∙ ap suc (sym p), subst (λ n. n < size w) (sym p) b, subst (λ n. LetterAt w n r) (sym p) l)

  line_atom : (x : (graph (line w)).Event) → (graph (line w)).atom x ≡ first (rest x.0 w)
  line_atom x = event_atom (line w) w (place false w) (line_laid w) x x.0 (line_number x) refl

  -- a walk to the last event reads the word from its event on
  line_word : {x y : (graph (line w)).Event} (o : Walk (graph (line w)) x y) → y.0 ≡ size w → word_of (graph (line w)) o ≡ rest x.0 w
  line_word (stay x) e = ap end (line_atom x) ∙ rest_alone w x.0 e
  line_word (go {x = x} {y = m} r h o) e =
      let (s, b, l) = line_letter r x m h in
      ap (λ a. at a r (word_of (graph (line w)) o)) (line_atom x)
      ∙ ap (at (first (rest x.0 w)) r) (line_word o e ∙ ap (λ n. rest n w) s) ∙ sym l

  -- a walk stays at its event or comes to a later one
  line_grows : {x y : (graph (line w)).Event} (o : Walk (graph (line w)) x y)
      → ((word_of (graph (line w)) o ≡ end ((graph (line w)).atom x)) × (x.0 ≡ y.0)) ⊎ (x.0 < y.0)
  line_grows (stay x) = inl (refl, refl)
  line_grows (go {x = x} {y = m} {z = y} r h o) =
      let (s, b, l) = line_letter r x m h in
      inr (⊎_elim (λ (e, f). omega arith) (λ k. omega arith) (line_grows o))

  -- an event related to itself has an atom that is a word
  line_loop : (E : Expr) (x : (graph (line w)).Event) → Rel (graph (line w)) E x x → null E ((graph (line w)).atom x) ≡ true
  line_loop E x h =
      let (o, l) = (related_by_words (graph (line w)) E x x).0 h in
      ⊎_elim (λ (e, f). (atom_is_word E ((graph (line w)).atom x)).0 (subst (Lang E) e l)) (λ k. absurd (omega arith)) (line_grows o)

  -- the ends of the line
  line_ends_lem : (x : (graph (line w)).Event) × (y : (graph (line w)).Event) × (x.0 ≡ 0) × (y.0 ≡ size w)
  line_ends_lem =
      let (x, e) = event (line w) w (place false w) (line_laid w) 0 (omega arith) in
      let (y, f) = event (line w) w (place false w) (line_laid w) (size w) (omega arith) in
      (x, y, e, f)

  line_language : (E : Expr) (x y : (graph (line w)).Event) → x.0 ≡ 0 → y.0 ≡ size w → Rel (graph (line w)) E x y → Lang E w
  line_language E x y e f h =
      let (o, l) = (related_by_words (graph (line w)) E x y).0 h in
      subst (Lang E) (line_word o f ∙ ap (λ n. rest n w) e) l

  -- whatever is related makes the whole word a word of `any*;E;any*`
  line_somewhere : (E : Expr) (x y : (graph (line w)).Event) → Rel (graph (line w)) E x y → Lang (somewhere E) w
  line_somewhere E x y h =
      let (a, b, e, f) = line_ends_lem in
      let p = line_laid w in
      line_language (somewhere E) a b e f
      (somewhere_between (graph (line w)) E a x y b
      (walk_later (line w) w (place false w) p 0 x.0 (omega arith) (line_number x) a x e refl)
      h
      (walk_later (line w) w (place false w) p y.0 (size w) (line_number y) (omega arith) y b refl f))

-- a left word that is no right word, whatever stands after `in`
module _ (q : Query) (e : Tree) (F : Expr) (w : Word)
    (refutes : Refutes (decision_of q false (side q e) (alt F (somewhere (alt (a0 q) (zeros q))))) w) where
  line_plain : Plain q (line w)
  line_plain =
      laid_plain q (decision_of q false (side q e) (alt F (somewhere (alt (a0 q) (zeros q))))) refl refl e w refutes.0 refutes.1
      (line w) (place false w) (line_laid w)

  line_none : (x y : (graph (line w)).Event) → Rel (graph (line w)) (a0 q) x y → ⊥
  line_none x y h = refutes.2 (inr (line_somewhere w (alt (a0 q) (zeros q)) x y (inl h)))

  line_no_loop : (x : (graph (line w)).Event) → Rel (graph (line w)) (a1 q) x x → ⊥
  unfolding zeros
  line_no_loop x h = refutes.2 (inr (line_somewhere w (alt (a0 q) (zeros q)) x x (inr (refl, line_loop w (a1 q) x h))))

  -- the ends of the line are a pair of the left expression, and of nothing whose words are right words
  left_pair : (x : (graph (line w)).Event) × (y : (graph (line w)).Event) × Related (shut q (line w)) q e x y × (Rel (graph (line w)) F x y → ⊥)
  left_pair =
      let (x, y, i, j) = line_ends_lem w in (
        x,
        y,
        (related_in_plain q (line w) line_plain e x y).1
            (ends_related (line w) w (place false w) (line_laid w) (side q e) refutes.1 x y i j),
        λ h. refutes.2 (inl (line_language w F x y i j h)),
      )

-- `claim include`
pub drawn_include : (q : Query) (e f : Tree) (w : Word) → Refutes (decision q (includes e f)) w
    → Counterexample (graph (drawn q false w)) q (includes e f)
unfolding decision
drawn_include q e f w r =
    drawn_counterexample q (includes e f) false w
    (meets_lines q (line w) (line_plain q e (side q f) w r) (line_none q e (side q f) w r) (line_no_loop q e (side q f) w r)
    (includes e f)
    (λ c.
    let (x, y, h, k) = left_pair q e (side q f) w r in
    k ((related_in_plain q (line w) (line_plain q e (side q f) w r) f x y).0 (c x y h))))

-- `claim empty`
pub drawn_empty : (q : Query) (e : Tree) (w : Word) → Refutes (decision q (empty e)) w → Counterexample (graph (drawn q false w)) q (empty e)
unfolding decision
drawn_empty q e w r =
    drawn_counterexample q (empty e) false w
    (meets_lines q (line w) (line_plain q e none w r) (line_none q e none w r) (line_no_loop q e none w r) (empty e)
    (λ c. let (x, y, h, k) = left_pair q e none w r in c x y h))
