-- What the contents of a field make of the graph that is held: an event or an edge more, where each test of the reader passes, and nothing
-- where one does not. The idea: each test on numbers is the definition's, and the test for an edge repeated is the edge's bit.
-- Assumes nothing.
use Prim.Native.Nat.{ℕ, ◌+◌, ◌*◌, ◌≤◌, ◌<◌}
use native.Mathlib.Omega.{arith}
use mathlib.Core.Path.{◌≡◌, refl, sym, ◌∙◌, ap, subst}
use mathlib.Core.Bool.{Bool, true, false, not, and-false}
use mathlib.Core.List.{List, [], ◌∷◌, ◌++◌}
use mathlib.Core.Option.{Option, some, none}
use lib.Dec.{ltb}
use lib.ListN.{length, get_or, set, length-append}
use borrow.Author.Tests.{lt-ltb, le-ltb}
use Rattle.kat.specs.Lists.{is_empty, some as some_of}
use Rattle.kat.proofs.Bools.{and_both, false_not_true}
use Rattle.claims.specs.Query.{bit}
use Rattle.claims.specs.Fields.{provided}
use Rattle.claims.specs.GraphBytes.{Edge, Listed, same_edge, Ranges, with_event, with_edge}
use Rattle.claims.proofs.GraphReading.{more_event, more_edge, event_fits, edge_fits}
use Rattle.bits.specs.Sets.{including}
use Rattle.graph_read.specs.Reading.{listed_words}
use Rattle.graph_read.specs.inner.Steps.{Held, Takes}
use Rattle.graph_read.proofs.ListedWords.{edge_of, edge_bit, event_listed, edge_listed}

takes_none : {o : Option Listed} (n : ℕ) (edged : Bool) (ws : List ℕ) → o ≡ none → Takes o false n edged ws
takes_none n edged ws e = subst (λ o. Takes o false n edged ws) (sym e) tt

takes_some : {o : Option Listed} (H : Listed) (n : ℕ) (edged : Bool) (ws : List ℕ) → o ≡ some H → Held H n edged ws → Takes o true n edged ws
takes_some H n edged ws e h = subst (λ o. Takes o true n edged ws) (sym e) h

-- contents of another length
event_none : (R : Ranges) (G : Listed) (bs : List ℕ) → (length bs ≡ 1 → ⊥) → with_event R G bs ≡ none
unfolding with_event
event_none R G [] n = refl
event_none R G (a ∷ []) n = absurd (n refl)
event_none R G (a ∷ b ∷ bs) n = refl

edge_none : (R : Ranges) (G : Listed) (bs : List ℕ) → (length bs ≡ 3 → ⊥) → with_edge R G bs ≡ none
unfolding with_edge
edge_none R G [] n = refl
edge_none R G (r ∷ []) n = refl
edge_none R G (r ∷ x ∷ []) n = refl
edge_none R G (r ∷ x ∷ y ∷ []) n = absurd (n refl)
edge_none R G (r ∷ x ∷ y ∷ b ∷ bs) n = refl

-- contents of the right length
event_some : (R : Ranges) (G : Listed) (bs : List ℕ) → length bs ≡ 1
    → with_event R G bs ≡ provided (event_fits R G (get_or bs 0 0)) (more_event G (get_or bs 0 0))
unfolding with_event
event_some R G [] e = absurd (omega arith)
event_some R G (a ∷ []) e = refl
event_some R G (a ∷ b ∷ bs) e = absurd (omega arith)

edge_some : (R : Ranges) (G : Listed) (bs : List ℕ) → length bs ≡ 3
    → with_edge R G bs
    ≡ provided (edge_fits R G (edge_of (get_or bs 0 0) (get_or bs 1 0) (get_or bs 2 0))) (more_edge G (edge_of (get_or bs 0 0) (get_or bs 1 0) (get_or bs 2 0)))
unfolding with_edge
edge_some R G [] e = absurd (omega arith)
edge_some R G (r ∷ []) e = absurd (omega arith)
edge_some R G (r ∷ x ∷ []) e = absurd (omega arith)
edge_some R G (r ∷ x ∷ y ∷ []) e = refl
edge_some R G (r ∷ x ∷ y ∷ b ∷ bs) e = absurd (omega arith)

-- an edge more is an edge
some_edge : (l : List Edge) (e : Edge) → not (is_empty (l ++ (e ∷ []))) ≡ true
some_edge [] e = refl
some_edge (f ∷ l) e = refl

is_empty_lem : (b : Bool) → false ≡ not b → b ≡ true
is_empty_lem true e = refl
is_empty_lem false e = e

not_empty : (b : Bool) → true ≡ not b → b ≡ false
not_empty true e = e
not_empty false e = refl

module _ {G : Listed} {n : ℕ} {edged : Bool} {ws : List ℕ} (h : Held G n edged ws) (R : Ranges) (bs : List ℕ) where
  -- an event
  pub event_long : (length bs ≡ 1 → ⊥) → Takes (with_event R G bs) false (n + 1) edged ws
  event_long e = takes_none (n + 1) edged ws (event_none R G bs e)

  module _ (one : length bs ≡ 1) {a : ℕ} (is : a ≡ get_or bs 0 0) where
    event_by : (b : Bool) → event_fits R G a ≡ b → with_event R G bs ≡ provided b (more_event G a)
    event_by b e =
        event_some R G bs one ∙ ap (λ v. provided (event_fits R G v) (more_event G v)) (sym is) ∙ ap (λ v. provided v (more_event G a)) e

    pub event_unknown : R.atoms ≤ a → Takes (with_event R G bs) false (n + 1) edged ws
    event_unknown e = takes_none (n + 1) edged ws (event_by false (rw (le-ltb a R.atoms e)))

    pub event_late : edged ≡ true → Takes (with_event R G bs) false (n + 1) edged ws
    event_late e =
        let f : is_empty G.edges ≡ false = not_empty (is_empty G.edges) (sym e ∙ h.edge) in
        takes_none (n + 1) edged ws (event_by false (rw (f, and-false)))

    pub event_many : 64 ≤ n → Takes (with_event R G bs) false (n + 1) edged ws
    event_many e =
        let f : ltb (length G.atoms) 64 ≡ false = le-ltb (length G.atoms) 64 (omega (arith, h.events)) in
        takes_none (n + 1) edged ws (event_by false (rw (f, and-false)))

    pub event_taken : a < R.atoms → edged ≡ false → n < 64 → Takes (with_event R G bs) true (n + 1) edged (set ws (1024 + n) a)
    event_taken p q l =
        let few : length G.atoms < 64 = omega (arith, h.events) in
        takes_some (more_event G a) (n + 1) edged (set ws (1024 + n) a)
        (event_by true
        (and_both (and_both (lt-ltb a R.atoms p) (is_empty_lem (is_empty G.edges) (sym q ∙ h.edge))) (lt-ltb (length G.atoms) 64 few)))
        (record {
          events = omega (arith, h.events, length-append G.atoms (a ∷ []));
          few = omega arith;
          edge = h.edge;
          listed = ap (λ v. set v (1024 + n) a) h.listed ∙ ap (λ m. set (listed_words G) (1024 + m) a) h.events ∙ event_listed G a few;
        })

  -- an edge
  pub edge_long : (length bs ≡ 3 → ⊥) → Takes (with_edge R G bs) false n true ws
  edge_long e = takes_none n true ws (edge_none R G bs e)

  module _ (three : length bs ≡ 3) {r x y : ℕ} (ri : r ≡ get_or bs 0 0) (xi : x ≡ get_or bs 1 0) (yi : y ≡ get_or bs 2 0) where
    edge_by : (b : Bool) → edge_fits R G (edge_of r x y) ≡ b → with_edge R G bs ≡ provided b (more_edge G (edge_of r x y))
    edge_by b e =
        edge_some R G bs three ∙ ap (λ v. provided (edge_fits R G v) (more_edge G v)) (λ i. edge_of (sym ri i) (sym xi i) (sym yi i))
        ∙ ap (λ v. provided v (more_edge G (edge_of r x y))) e

    pub edge_unknown : R.relations ≤ r → Takes (with_edge R G bs) false n true ws
    edge_unknown e = takes_none n true ws (edge_by false (rw (le-ltb r R.relations e)))

    pub edge_from_none : n ≤ x → Takes (with_edge R G bs) false n true ws
    edge_from_none e =
        let f : ltb x (length G.atoms) ≡ false = le-ltb x (length G.atoms) (omega (arith, h.events)) in
        takes_none n true ws (edge_by false (rw (f, and-false)))

    pub edge_to_none : n ≤ y → Takes (with_edge R G bs) false n true ws
    edge_to_none e =
        let f : ltb y (length G.atoms) ≡ false = le-ltb y (length G.atoms) (omega (arith, h.events)) in
        takes_none n true ws (edge_by false (rw (f, and-false)))

    module _ (small : R.relations ≤ 16) (p : r < R.relations) (q : x < n) (l : y < n) where
      here_bit : bit y (get_or ws (64 * r + x) 0) ≡ some_of (same_edge (edge_of r x y)) G.edges
      here_bit =
          ap (λ v. bit y (get_or v (64 * r + x) 0)) h.listed
          ∙ edge_bit G r x y (omega arith) (omega (arith, h.few)) (omega (arith, h.few))

      pub edge_repeated : bit y (get_or ws (64 * r + x) 0) ≡ true → Takes (with_edge R G bs) false n true ws
      edge_repeated e =
          let f : some_of (same_edge (edge_of r x y)) G.edges ≡ true = sym here_bit ∙ e in
          takes_none n true ws (edge_by false (rw (f, and-false)))

      pub edge_taken : {v : ℕ} → v ≡ including 64 (get_or ws (64 * r + x) 0) y → bit y (get_or ws (64 * r + x) 0) ≡ false
          → Takes (with_edge R G bs) true n true (set ws (64 * r + x) v)
      edge_taken {v} is e =
          takes_some (more_edge G (edge_of r x y)) n true (set ws (64 * r + x) v)
          (edge_by true
          (and_both
          (and_both
          (and_both (lt-ltb r R.relations p) (lt-ltb x (length G.atoms) (omega (arith, h.events))))
          (lt-ltb y (length G.atoms) (omega (arith, h.events))))
          (false_not_true (sym here_bit ∙ e))))
          (record {
            events = h.events;
            few = h.few;
            edge = sym (some_edge G.edges (edge_of r x y));
            listed = ap (set ws (64 * r + x)) is ∙ ap (λ u. set u (64 * r + x) (including 64 (get_or u (64 * r + x) 0) y)) h.listed
                ∙ edge_listed G r x y (omega arith) (omega (arith, h.few)) (omega (arith, h.few));
          })
