-- The graph drawn from a word that refutes a ring claim meets all lines of the query and breaks the claim. The idea: a walk in a ring of
-- events, with the rest of the ring from its last event on, reads the rest of the ring from its first event on and then whole turns;
-- so a walk that comes back to its event reads a whole number of turns of the rotation that starts there. A pair of an assumed-empty
-- expression can be prolonged to a walk that comes back.
-- Assumes nothing.
use Prim.Native.Nat.{ℕ, zero, suc, ◌<◌}
use native.Mathlib.Nat.{eq-or-lt_of_le, eq-zero-or-pos}
use native.Mathlib.Omega.{arith}
use mathlib.Core.Path.{◌≡◌, refl, sym, ◌∙◌, ap, subst}
use mathlib.Core.Logic.{◌⊎◌, ⊎_elim}
use mathlib.Core.Logic.◌⊎◌.{inl, inr}
use mathlib.Core.Bool.{true}
use lib.Dec.{ltb→lt}
use lib.ListN.{length}
use Rattle.kat.specs.Expr.{Expr, alt}
use Rattle.kat.specs.Graph.{Finite, Rel, graph}
use Rattle.kat.specs.Word.{Word, end, at, first, last, size}
use Rattle.kat.specs.Language.{Lang}
use Rattle.kat.specs.Ring.{Prefix, nothing, then, onto, body, join, times, start, round, Covered}
use Rattle.kat.specs.Walk.{Walk, stay, go, word_of}
use Rattle.kat.proofs.Turns.{join_nothing}
use Rattle.kat.specs.Turns.{NonEmpty}
use Rattle.kat.proofs.Walks.{related_by_words, last_of_walk}
use Rattle.kat.proofs.Words.{atom_is_word, word_of_body, covered_nothing}
use Rattle.kat.proofs.Prefixes.{join_assoc, join_cancel, times_front, times_turned, body_join, body_of_letter, start_of_body}
use Rattle.notation.specs.Tree.{Tree, irreflexive}
use Rattle.notation.specs.Query.{Query}
use Rattle.notation.specs.Sides.{decision_of, decision, side, a0, a1, somewhere}
use Rattle.claims.specs.Meaning.{Related}
use Rattle.notation.specs.Words.{Refutes}
use Rattle.claims.specs.GraphBytes.{finite}
use Rattle.claims.specs.Drawn.{steps_of, drawn}
use Rattle.claims.proofs.Filled.{shut, Plain, related_in_plain}
use Rattle.claims.proofs.Laid.{rest, rest_last, place, place_before, place_last, place_first, LetterAt, Laid, ring_laid, ring_inside}
use Rattle.claims.proofs.LeftWords.{laid_plain}
use Rattle.claims.proofs.LaidWalks.{event, event_atom, walk_join, walk_later, somewhere_between, ends_related}
use Rattle.claims.proofs.DrawnLines.{Counterexample, drawn_counterexample, meets_lines}

-- what comes before place j
abbrev before : ℕ → Word → Prefix
before zero w = nothing
before (suc j) (end a) = nothing
before (suc j) (at a r w) = join (then nothing a r) (before j w)

cut_body : (j : ℕ) (w : Word) → body nothing w ≡ join (before j w) (body nothing (rest j w))
cut_body zero w = sym (join_nothing (body nothing w))
cut_body (suc j) (end a) = refl
cut_body (suc j) (at a r w) =
    body_join (then nothing a r) w ∙ ap (join (then nothing a r)) (cut_body j w)
    ∙ sym (join_assoc (then nothing a r) (before j w) (body nothing (rest j w)))

-- before the last place there is a letter
rest_longer : (j : ℕ) (w : Word) → j < size w → NonEmpty (body nothing (rest j w))
rest_longer j (end a) h = absurd (omega arith)
rest_longer zero (at a r w) h = body_of_letter a r w
rest_longer (suc j) (at a r w) h = rest_longer j w (omega arith)

short_body : (w : Word) → size w ≡ 0 → body nothing w ≡ nothing
short_body (end a) h = refl
short_body (at a r w) h = absurd (omega arith)

-- the plain graph of a ring claim
abbrev ring : Word → Finite
ring w = finite (steps_of true w)

module _ (w : Word) (closing : first w ≡ last w) where
  laid : Laid (ring w) w (place true w)
  laid = ring_laid w closing

  -- the ring from the event on, up to the first event
  abbrev onward : (graph (ring w)).Event → Prefix
  onward x = body nothing (rest x.0 w)

  -- an edge is the first letter of the ring from its event on; it leads to the next place or closes the ring
  abbrev LeadsOn : ℕ → (graph (ring w)).Event → (graph (ring w)).Event → Type 0
  LeadsOn r x y =
      (onward x ≡ join (then nothing ((graph (ring w)).atom x) r) (onward y))
      ⊎ ((onward x ≡ then nothing ((graph (ring w)).atom x) r) × (onward y ≡ body nothing w))

  ring_letter_lem : (r : ℕ) (x y : (graph (ring w)).Event) → (graph (ring w)).edge r x y → LeadsOn r x y
  ring_letter_lem r x y h =
      let (j, b, p, q, l) = laid.letter_of_lem r x.0 y.0 h in
      from_place j b p q l (eq-or-lt_of_le b)
    where
      from_place : (j : ℕ) → j < size w → x.0 ≡ place true w j → y.0 ≡ place true w (suc j) → LetterAt w j r
          → (suc j ≡ size w) ⊎ (suc j < size w) → LeadsOn r x y
      from_place j b p q l c =
          let a : Prefix = then nothing ((graph (ring w)).atom x) r in
          let e : onward x ≡ join a (body nothing (rest (suc j) w)) =
          ap (λ n. body nothing (rest n w)) (p ∙ place_before true w j b) ∙ ap (body nothing) l
          ∙ body_join (then nothing (first (rest j w)) r) (rest (suc j) w)
          ∙ ap (λ o. join (then nothing o r) (body nothing (rest (suc j) w)))
          (sym (event_atom (ring w) w (place true w) laid x j (omega arith) p))
          in
          ⊎_elim
          (λ z. inr (
            e ∙ ap (λ u. join a (body nothing u)) (ap (λ n. rest n w) z ∙ rest_last w),
            ap (λ n. body nothing (rest n w)) (q ∙ ap (place true w) z ∙ place_last w),
          ))
          (λ k. inl (e ∙ ap (λ n. join a (body nothing (rest n w))) (sym (q ∙ place_before true w (suc j) k))))
          c

  -- one letter before a walk: the same number of turns, or one more
  ring_more : (r : ℕ) (x m : (graph (ring w)).Event) (v : Word) (y : Prefix) (n : ℕ) → LeadsOn r x m
      → join (body nothing v) y ≡ join (onward m) (times n (body nothing w))
      → (k : ℕ) × (join (body nothing (at ((graph (ring w)).atom x) r v)) y ≡ join (onward x) (times k (body nothing w)))
  ring_more r x m v y n c e = ⊎_elim (λ i. (n, front ∙ inner i)) (λ (i, f). (suc n, front ∙ around i f)) c
    where
      l : Prefix
      l = body nothing w

      a : Prefix
      a = then nothing ((graph (ring w)).atom x) r

      front : join (body a v) y ≡ join a (join (onward m) (times n l))
      front = ap (λ b. join b y) (body_join a v) ∙ join_assoc a (body nothing v) y ∙ ap (join a) e

      inner : onward x ≡ join a (onward m) → join a (join (onward m) (times n l)) ≡ join (onward x) (times n l)
      inner i = sym (join_assoc a (onward m) (times n l)) ∙ ap (λ b. join b (times n l)) (sym i)

      around : onward x ≡ a → onward m ≡ l → join a (join (onward m) (times n l)) ≡ join (onward x) (times (suc n) l)
      around i f =
          ap (λ b. join a (join b (times n l))) f ∙ ap (join a) (times_front l n) ∙ ap (λ b. join b (times (suc n) l)) (sym i)

  -- a walk and the ring from its last event on is the ring from its first event on and whole turns
  ring_reads : {x y : (graph (ring w)).Event} (o : Walk (graph (ring w)) x y)
      → (n : ℕ) × (join (body nothing (word_of (graph (ring w)) o)) (onward y) ≡ join (onward x) (times n (body nothing w)))
  ring_reads (stay x) = (0, join_nothing (onward x))
  ring_reads (go {x = x} {y = m} {z = y} r h o) =
      let (n, e) = ring_reads o in
      ring_more r x m (word_of (graph (ring w)) o) (onward y) n (ring_letter_lem r x m h) e

  -- a walk that comes back reads a whole number of turns of the rotation that starts at its event
  loop_turns : {x : (graph (ring w)).Event} (o : Walk (graph (ring w)) x x)
      → (n : ℕ) × (body nothing (word_of (graph (ring w)) o) ≡ times n (join (onward x) (before x.0 w)))
  loop_turns {x} o =
      let (n, e) = ring_reads o in
      let u : Prefix = before x.0 w in (
        n,
        join_cancel (body nothing (word_of (graph (ring w)) o)) (times n (join (onward x) u)) (onward x)
            (e ∙ ap (λ l. join (onward x) (times n l)) (cut_body x.0 w) ∙ sym (times_turned u (onward x) n)),
      )

  covered_long : (E : Expr) (x : (graph (ring w)).Event) → 0 < size w → Rel (graph (ring w)) E x x → Covered E (first w) (body nothing w)
  covered_long E x pos h =
      let (o, l) = (related_by_words (graph (ring w)) E x x).0 h in
      let (n, e) = loop_turns o in
      (before x.0 w, onward x, cut_body x.0 w, n, subst (Lang E) (turned o n e) l)
    where
      inside : x.0 < size w
      inside = ring_inside w x.0 pos (ltb→lt x.0 (length (ring w).atoms) x.1)

      atom_is : (graph (ring w)).atom x ≡ start (first w) (join (onward x) (before x.0 w))
      atom_is =
          event_atom (ring w) w (place true w) laid x x.0 (omega (arith, inside)) (sym (place_before true w x.0 inside))
          ∙ sym (start_of_body (first w) (rest x.0 w) (before x.0 w) (rest_longer x.0 w inside))

      turned : (o : Walk (graph (ring w)) x x) (n : ℕ)
          → body nothing (word_of (graph (ring w)) o) ≡ times n (join (onward x) (before x.0 w))
          → word_of (graph (ring w)) o ≡ round (first w) n (join (onward x) (before x.0 w))
      turned o n e =
          sym (word_of_body (word_of (graph (ring w)) o))
          ∙ ap (λ l. onto l (end (last (word_of (graph (ring w)) o)))) e
          ∙ ap (λ a. onto (times n (join (onward x) (before x.0 w))) (end a)) (last_of_walk (graph (ring w)) o ∙ atom_is)

  -- a ring without a letter has no edge
  short_walk : size w ≡ 0 → {x y : (graph (ring w)).Event} (o : Walk (graph (ring w)) x y)
      → word_of (graph (ring w)) o ≡ end ((graph (ring w)).atom x)
  short_walk z (stay x) = refl
  short_walk z (go {x = x} {y = m} r h o) = let (j, b, p, q, l) = laid.letter_of_lem r x.0 m.0 h in absurd (omega arith)

  short_atom : size w ≡ 0 → (x : (graph (ring w)).Event) → (graph (ring w)).atom x ≡ first w
  short_atom z x =
      let (j, h, e) = laid.place_of x.0 (ltb→lt x.0 (length (ring w).atoms) x.1) in
      let k : j ≡ 0 = omega arith in
      event_atom (ring w) w (place true w) laid x j h (sym e) ∙ ap (λ n. first (rest n w)) k

  covered_short : (E : Expr) (x : (graph (ring w)).Event) → size w ≡ 0 → Rel (graph (ring w)) E x x → Covered E (first w) (body nothing w)
  covered_short E x z h =
      let (o, l) = (related_by_words (graph (ring w)) E x x).0 h in
      subst (Covered E (first w)) (sym (short_body w z))
      ((covered_nothing E (first w)).1 ((atom_is_word E (first w)).0 (subst (Lang E) (short_walk z o ∙ ap end (short_atom z x)) l)))

  -- an event that E relates to itself covers the word
  loop_covered : (E : Expr) (x : (graph (ring w)).Event) → Rel (graph (ring w)) E x x → Covered E (first w) (body nothing w)
  loop_covered E x h = ⊎_elim (λ z. covered_short E x z h) (λ k. covered_long E x k h) (eq-zero-or-pos (size w))

  -- the first event, which is the last place too
  first_event : (x : (graph (ring w)).Event) × (x.0 ≡ place true w 0) × (x.0 ≡ place true w (size w))
  first_event =
      let (x, e) = event (ring w) w (place true w) laid 0 (omega arith) in
      (x, e, e ∙ place_first w ∙ sym (place_last w))

  -- from each event to each
  ring_walk : (x y : (graph (ring w)).Event) → Walk (graph (ring w)) x y
  ring_walk x y =
      let (j, h, i) = laid.place_of x.0 (ltb→lt x.0 (length (ring w).atoms) x.1) in
      let (k, l, n) = laid.place_of y.0 (ltb→lt y.0 (length (ring w).atoms) y.1) in
      let (z, e, f) = first_event in
      walk_join (graph (ring w))
      (walk_later (ring w) w (place true w) laid j (size w) h (omega arith) x z (sym i) f)
      (walk_later (ring w) w (place true w) laid 0 k (omega arith) l z y e (sym n))

module _ (q : Query) (e : Tree) (w : Word) (refutes : Refutes (decision_of q true (side q e) (alt (a1 q) (somewhere (a0 q)))) w) where
  ring_plain : Plain q (ring w)
  ring_plain =
      laid_plain q (decision_of q true (side q e) (alt (a1 q) (somewhere (a0 q)))) refl refl e w refutes.0 refutes.1
      (ring w) (place true w) (ring_laid w refutes.2.0)

  ring_no_loop : (x : (graph (ring w)).Event) → Rel (graph (ring w)) (alt (a1 q) (somewhere (a0 q))) x x → ⊥
  ring_no_loop x h = refutes.2.1 (loop_covered w refutes.2.0 (alt (a1 q) (somewhere (a0 q))) x h)

  ring_none : (x y : (graph (ring w)).Event) → Rel (graph (ring w)) (a0 q) x y → ⊥
  ring_none x y h =
      ring_no_loop x (inr (somewhere_between (graph (ring w)) (a0 q) x x y x (stay x) h (ring_walk w refutes.2.0 y x)))

  left_loop : (x : (graph (ring w)).Event) × Related (shut q (ring w)) q e x x
  left_loop =
      let (x, i, j) = first_event w refutes.2.0 in (
        x,
        (related_in_plain q (ring w) ring_plain e x x).1
            (ends_related (ring w) w (place true w) (ring_laid w refutes.2.0) (side q e) refutes.1 x x i j),
      )

-- `claim irreflexive`
pub drawn_irreflexive : (q : Query) (e : Tree) (w : Word) → Refutes (decision q (irreflexive e)) w
    → Counterexample (graph (drawn q true w)) q (irreflexive e)
unfolding decision
drawn_irreflexive q e w r =
    drawn_counterexample q (irreflexive e) true w
    (meets_lines q (ring w) (ring_plain q e w r) (ring_none q e w r) (λ x h. ring_no_loop q e w r x (inl h)) (irreflexive e)
    (λ c. let (x, h) = left_loop q e w r in c x h))
