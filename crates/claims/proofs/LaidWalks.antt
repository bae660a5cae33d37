-- Walks in a word laid out as a graph: from the event of a place there is a walk to the event of each later place, and the one to the last
-- place reads the word from there on. So an expression relates the ends of the word if the word is in its language.
-- Assumes nothing.
use Prim.Native.Nat.{ℕ, zero, suc, ◌+◌, ◌-◌, ◌≤◌}
use native.Mathlib.Omega.{arith}
use mathlib.Core.Path.{◌≡◌, refl, sym, ◌∙◌, ap, subst}
use mathlib.Core.Logic.◌⊎◌.{inl, inr}
use mathlib.Core.Bool.{true}
use lib.Dec.{lt→ltb}
use lib.ListN.{length, get_or}
use Rattle.kat.specs.Expr.{Expr, any, star}
use Rattle.kat.specs.Graph.{Finite, Graph, Rel, once, more, graph}
use Rattle.kat.specs.Word.{Word, end, at, first, size}
use Rattle.kat.specs.Language.{Lang}
use Rattle.kat.specs.Walk.{Walk, stay, go, word_of}
use Rattle.kat.proofs.Closure.{num_path}
use Rattle.kat.proofs.Walks.{related_by_words}
use Rattle.notation.specs.Sides.{somewhere}
use Rattle.claims.proofs.Laid.{rest, rest_alone, LetterAt, Laid}

module _ (G : Graph) where
  any_first : (r : ℕ) (x y z : G.Event) → G.edge r x y → Rel G (star any) y z → Rel G (star any) x z
  any_first r x y z e (inl t) = inl (more (r, refl, e) t)
  any_first r x y z e (inr (p, h)) = inl (once (r, refl, subst (G.edge r x) p e))

  -- a walk is steps of whichever relation
  any_of_walk : {x y : G.Event} → Walk G x y → Rel G (star any) x y
  any_of_walk (stay x) = inr (refl, refl)
  any_of_walk (go {x = x} {y = y} {z = z} r e o) = any_first r x y z e (any_of_walk o)

  pub walk_join : {x y z : G.Event} → Walk G x y → Walk G y z → Walk G x z
  walk_join (stay x) o = o
  walk_join (go r e p) o = go r e (walk_join p o)

  -- what E relates, between two walks
  pub somewhere_between : (E : Expr) (x y z v : G.Event) → Walk G x y → Rel G E y z → Walk G z v → Rel G (somewhere E) x v
  unfolding somewhere
  somewhere_between E x y z v o h p = (z, (y, any_of_walk o, h), any_of_walk p)

module _ (G : Finite) (w : Word) (place : ℕ → ℕ) (p : Laid G w place) where
  pub event_atom : (x : (graph G).Event) (j : ℕ) → j ≤ size w → x.0 ≡ place j → (graph G).atom x ≡ first (rest j w)
  event_atom x j h e = ap (λ n. get_or G.atoms n 0) e ∙ p.atom_at j h

  pub same_event : (x y : (graph G).Event) (j : ℕ) → x.0 ≡ place j → y.0 ≡ place j → x ≡ y
  same_event x y j e f = num_path (length G.atoms) x y (e ∙ sym f)

  pub event : (j : ℕ) → j ≤ size w → (x : (graph G).Event) × (x.0 ≡ place j)
  event j h = ((place j, lt→ltb (place j) (length G.atoms) (p.below j h)), refl)

  -- one letter before a walk; the word is asked for only where C holds
  walk_first : (C : Type 0) (j r : ℕ) (x m y : (graph G).Event) → j ≤ size w → x.0 ≡ place j → m.0 ≡ place (suc j)
      → G.edges r (place j) (place (suc j)) ≡ true → LetterAt w j r
      → ((o : Walk (graph G) m y) × (C → word_of (graph G) o ≡ rest (suc j) w))
      → (o : Walk (graph G) x y) × (C → word_of (graph G) o ≡ rest j w)
  walk_first C j r x m y h ex em s l (o, f) = (
    go r (subst (λ n. G.edges r n m.0 ≡ true) (sym ex) (subst (λ n. G.edges r (place j) n ≡ true) (sym em) s)) o,
    λ c. ap (λ a. at a r (word_of (graph G) o)) (event_atom x j h ex) ∙ ap (at (first (rest j w)) r) (f c) ∙ sym l,
  )

  -- from place j to place k, d letters on
  walk_on : (d j k : ℕ) → d + j ≡ k → k ≤ size w → (x y : (graph G).Event) → x.0 ≡ place j → y.0 ≡ place k
      → (o : Walk (graph G) x y) × (k ≡ size w → word_of (graph G) o ≡ rest j w)
  walk_on zero j k e h x y ex ey =
      let z : j ≡ k = omega arith in
      subst (λ v. (o : Walk (graph G) x v) × (k ≡ size w → word_of (graph G) o ≡ rest j w))
      (same_event x y k (ex ∙ ap place z) ey)
      (stay x, λ l. ap end (event_atom x j (omega arith) ex) ∙ rest_alone w j (z ∙ l))
  walk_on (suc d) j k e h x y ex ey =
      let (r, s, l) = p.edge_at j (omega arith) in
      let (m, em) = event (suc j) (omega arith) in
      walk_first (k ≡ size w) j r x m y (omega arith) ex em s l (walk_on d (suc j) k (omega arith) h m y em ey)

  -- from a place to each later one
  pub walk_later : (j k : ℕ) → j ≤ k → k ≤ size w → (x y : (graph G).Event) → x.0 ≡ place j → y.0 ≡ place k → Walk (graph G) x y
  walk_later j k h b x y ex ey = (walk_on (k - j) j k (omega arith) b x y ex ey).0

  -- the ends of the word are related by each expression whose word it is
  pub ends_related : (E : Expr) → Lang E w → (x y : (graph G).Event) → x.0 ≡ place 0 → y.0 ≡ place (size w) → Rel (graph G) E x y
  ends_related E l x y ex ey =
      let (o, f) = walk_on (size w) 0 (size w) (omega arith) (omega arith) x y ex ey in
      (related_by_words (graph G) E x y).1 (o, subst (Lang E) (sym (f refl)) l)
