-- The plain drawn graph is the word laid out: its events are the places of the word, for a ring claim with the last place at the first
-- event; its edges are the letters of the word, each from its place to the next. A place is named by its number, and `rest j w` is the
-- word from place j on.
-- Assumes nothing.
use Prim.Native.Nat.{ℕ, zero, suc, ◌+◌, ◌≤◌, ◌<◌}
use native.Mathlib.Nat.{zero-add, eq-or-lt_of_le, eq-zero-or-pos}
use native.Mathlib.Omega.{arith}
use mathlib.Core.Path.{◌≡◌, refl, sym, ◌∙◌, ap, subst}
use mathlib.Core.Logic.{⊎_elim}
use mathlib.Core.Bool.{Bool, true, false, cond}
use mathlib.Core.List.{List, [], ◌∷◌}
use lib.Dec.{eqb}
use lib.ListN.{length, get_or}
use borrow.Author.Tests.{eq-eqb, ne_eqb}
use Rattle.kat.specs.Lists.{In, here, there}
use Rattle.kat.specs.Graph.{Finite}
use Rattle.kat.specs.Word.{Word, end, at, first, last, size}
use Rattle.claims.specs.GraphBytes.{Edge, finite}
use Rattle.claims.specs.Drawn.{line_atoms, all_but_last, ring_atoms, line_steps, ring_steps, steps_of}
use Rattle.claims.proofs.GraphReading.{edge_is_listed}

-- the word from place j on
abbrev pub rest : ℕ → Word → Word
rest zero w = w
rest (suc j) (end a) = end a
rest (suc j) (at a r w) = rest j w

pub rest_last : (w : Word) → rest (size w) w ≡ end (last w)
rest_last (end a) = refl
rest_last (at a r w) = rest_last w

-- from the last place on there is one atom
pub rest_alone : (w : Word) (j : ℕ) → j ≡ size w → end (first (rest j w)) ≡ rest j w
rest_alone w j e =
    let h : rest j w ≡ end (last w) = ap (λ n. rest n w) e ∙ rest_last w in
    ap (λ u. end (first u)) h ∙ sym h

-- relation r is the letter after place j
abbrev pub LetterAt : Word → ℕ → ℕ → Type 0
LetterAt w j r = rest j w ≡ at (first (rest j w)) r (rest (suc j) w)

-- the letters of a word as edges, from place k on, where place j is at event f j
abbrev steps : (ℕ → ℕ) → ℕ → Word → List Edge
steps f k (end a) = []
steps f k (at a r w) = record { relation = r; from = k; to = f (suc k) } ∷ steps f (suc k) w

module _ (f : ℕ → ℕ) where
  step_letter : (w : Word) (k : ℕ) {e : Edge} → In e (steps f k w)
      → (j : ℕ) × (j < size w) × (e.from ≡ k + j) × (e.to ≡ f (suc (k + j))) × LetterAt w j e.relation
  step_letter (end a) k i = elim i [ ]
  step_letter (at a r w) k {e} (here h) =
      let z : k ≡ k + 0 = omega arith in (
        0,
        omega arith,
        ap (λ (d : Edge). d.from) h ∙ z,
        ap (λ (d : Edge). d.to) h ∙ ap (λ n. f (suc n)) z,
        ap (λ (d : Edge). at a d.relation w) (sym h),
      )
  step_letter (at a r w) k (there i) =
      let (j, b, x, y, l) = step_letter w (suc k) i in
      let z : suc k + j ≡ k + suc j = omega arith in
      (suc j, omega arith, x ∙ z, y ∙ ap (λ n. f (suc n)) z, l)

  letter_step : (w : Word) (k j : ℕ) → j < size w
      → (r : ℕ) × In (let e : Edge = record { relation = r; from = k + j; to = f (suc (k + j)) } in e) (steps f k w) × LetterAt w j r
  letter_step (end a) k j h = absurd (omega arith)
  letter_step (at a r w) k zero h =
      let z : k + 0 ≡ k = omega arith in
      (r, here (λ i. record { relation = r; from = z i; to = f (suc (z i)) }), refl)
  letter_step (at a r w) k (suc j) h =
      let (s, i, l) = letter_step w (suc k) j (omega arith) in
      let z : suc k + j ≡ k + suc j = omega arith in
      (s, there (subst (λ n. In (let e : Edge = record { relation = s; from = n; to = f (suc n) } in e) (steps f (suc k) w)) z i), l)

-- the event of a place: its number, and in a ring the first event again for the last place
abbrev pub place : Bool → Word → ℕ → ℕ
place false w j = j
place true w j = cond (eqb j (size w)) 0 j

line_steps_lem : (w : Word) (k : ℕ) → line_steps k w ≡ steps (λ j. j) k w
unfolding line_steps
line_steps_lem (end a) k = refl
line_steps_lem (at a r w) k = ap (λ l. record { relation = r; from = k; to = suc k } ∷ l) (line_steps_lem w (suc k))

ring_steps_lem : (n : ℕ) (w : Word) (k : ℕ) → ring_steps n k w ≡ steps (λ j. cond (eqb j n) 0 j) k w
unfolding ring_steps
ring_steps_lem n (end a) k = refl
ring_steps_lem n (at a r w) k =
    ap (λ l. record { relation = r; from = k; to = cond (eqb (suc k) n) 0 (suc k) } ∷ l) (ring_steps_lem n w (suc k))

steps_of_lem : (ring : Bool) (w : Word) → (steps_of ring w).edges ≡ steps (place ring w) 0 w
unfolding steps_of
steps_of_lem false w = line_steps_lem w 0
steps_of_lem true w = ring_steps_lem (size w) w 0

-- a place before the last is at the event of its number
pub place_before : (ring : Bool) (w : Word) (j : ℕ) → j < size w → place ring w j ≡ j
place_before false w j h = refl
place_before true w j h = rw (ne_eqb j (size w) (omega arith))

pub place_last : (w : Word) → place true w (size w) ≡ 0
place_last w = rw (eq-eqb (size w) (size w) refl)

pub line_length : (w : Word) → length (line_atoms w) ≡ suc (size w)
unfolding line_atoms
line_length (end a) = refl
line_length (at a r w) = ap suc (line_length w)

line_atom : (w : Word) (j : ℕ) → j ≤ size w → get_or (line_atoms w) j 0 ≡ first (rest j w)
unfolding line_atoms
line_atom (end a) zero h = refl
line_atom (end a) (suc j) h = absurd (omega arith)
line_atom (at a r w) zero h = refl
line_atom (at a r w) (suc j) h = line_atom w j (omega arith)

pub inner_length : (w : Word) → length (all_but_last w) ≡ size w
unfolding all_but_last
inner_length (end a) = refl
inner_length (at a r w) = ap suc (inner_length w)

inner_atom : (w : Word) (j : ℕ) → j < size w → get_or (all_but_last w) j 0 ≡ first (rest j w)
unfolding all_but_last
inner_atom (end a) j h = absurd (omega arith)
inner_atom (at a r w) zero h = refl
inner_atom (at a r w) (suc j) h = inner_atom w j (omega arith)

-- a ring without a letter has one event, and one with letters as many as letters
ring_short : (w : Word) → size w ≡ 0 → ring_atoms w ≡ first w ∷ []
unfolding ring_atoms
ring_short (end a) h = refl
ring_short (at a r w) h = absurd (omega arith)

ring_long : (w : Word) → 0 < size w → ring_atoms w ≡ all_but_last w
unfolding ring_atoms all_but_last
ring_long (end a) h = absurd (omega arith)
ring_long (at a r w) h = refl

-- the events and edges of the graph are the places and letters of the word
pub record Laid (G : Finite) (w : Word) (place : ℕ → ℕ) : Type 0 where
  pub below : (j : ℕ) → j ≤ size w → place j < length G.atoms
  pub atom_at : (j : ℕ) → j ≤ size w → get_or G.atoms (place j) 0 ≡ first (rest j w)
  pub place_of : (x : ℕ) → x < length G.atoms → (j : ℕ) × (j ≤ size w) × (place j ≡ x)
  pub edge_at : (j : ℕ) → j < size w → (r : ℕ) × (G.edges r (place j) (place (suc j)) ≡ true) × LetterAt w j r
  pub letter_of_lem : (r x y : ℕ) → G.edges r x y ≡ true
      → (j : ℕ) × (j < size w) × (x ≡ place j) × (y ≡ place (suc j)) × LetterAt w j r

module _ (ring : Bool) (w : Word) where
  plain_edge : (j : ℕ) → j < size w
      → (r : ℕ) × ((finite (steps_of ring w)).edges r (place ring w j) (place ring w (suc j)) ≡ true) × LetterAt w j r
  plain_edge j h =
      let (r, i, l) = letter_step (place ring w) w 0 j h in
      (r, (edge_is_listed (steps_of ring w) r (place ring w j) (place ring w (suc j))).1 (at_place r i), l)
    where
      at_place : (r : ℕ) → In (let e : Edge = record { relation = r; from = 0 + j; to = place ring w (suc (0 + j)) } in e) (steps (place ring w) 0 w)
          → In (let e : Edge = record { relation = r; from = place ring w j; to = place ring w (suc j) } in e) (steps_of ring w).edges
      at_place r i =
          let p : 0 + j ≡ place ring w j = zero-add j ∙ sym (place_before ring w j h) in
          let q : place ring w (suc (0 + j)) ≡ place ring w (suc j) = ap (λ n. place ring w (suc n)) (zero-add j) in
          rw (steps_of_lem ring w)
          (subst (λ (e : Edge). In e (steps (place ring w) 0 w)) (λ k. record { relation = r; from = p k; to = q k }) i)

  plain_letter : (r x y : ℕ) → (finite (steps_of ring w)).edges r x y ≡ true
      → (j : ℕ) × (j < size w) × (x ≡ place ring w j) × (y ≡ place ring w (suc j)) × LetterAt w j r
  plain_letter r x y h =
      go (step_letter (place ring w) w 0
      (subst (λ es. In (let e : Edge = record { relation = r; from = x; to = y } in e) es) (steps_of_lem ring w)
      ((edge_is_listed (steps_of ring w) r x y).0 h)))
    where
      go : (j : ℕ) × (j < size w) × (x ≡ 0 + j) × (y ≡ place ring w (suc (0 + j))) × LetterAt w j r
          → (j : ℕ) × (j < size w) × (x ≡ place ring w j) × (y ≡ place ring w (suc j)) × LetterAt w j r
      go (j, b, p, q, l) =
          (j, b, p ∙ zero-add j ∙ sym (place_before ring w j b), q ∙ ap (λ n. place ring w (suc n)) (zero-add j), l)

-- a path claim's graph: a line
line_atoms_lem : (w : Word) → (finite (steps_of false w)).atoms ≡ line_atoms w
unfolding finite steps_of
line_atoms_lem w = refl

line_count : (w : Word) → length (finite (steps_of false w)).atoms ≡ suc (size w)
line_count w = ap length (line_atoms_lem w) ∙ line_length w

pub line_laid : (w : Word) → Laid (finite (steps_of false w)) w (place false w)
line_laid w =
    record {
      below = λ j h. omega (arith, line_count w);
      atom_at = λ j h. ap (λ l. get_or l j 0) (line_atoms_lem w) ∙ line_atom w j h;
      place_of = λ x h. (x, omega (arith, line_count w), refl);
      edge_at = plain_edge false w;
      letter_of_lem = plain_letter false w;
    }

-- a ring claim's graph: a ring
ring_atoms_lem : (w : Word) → (finite (steps_of true w)).atoms ≡ ring_atoms w
unfolding finite steps_of
ring_atoms_lem w = refl

ring_count_short : (w : Word) → size w ≡ 0 → length (finite (steps_of true w)).atoms ≡ 1
ring_count_short w h = ap length (ring_atoms_lem w ∙ ring_short w h)

ring_count_long : (w : Word) → 0 < size w → length (finite (steps_of true w)).atoms ≡ size w
ring_count_long w h = ap length (ring_atoms_lem w ∙ ring_long w h) ∙ inner_length w

ring_count_some : (w : Word) → 0 < length (finite (steps_of true w)).atoms
ring_count_some w =
    ⊎_elim (λ e. omega (arith, ring_count_short w e)) (λ h. omega (arith, ring_count_long w h)) (eq-zero-or-pos (size w))

ring_first : (w : Word) → get_or (ring_atoms w) 0 0 ≡ first w
unfolding ring_atoms
ring_first (end a) = refl
ring_first (at a r w) = refl

ring_below : (w : Word) (j : ℕ) → j ≤ size w → place true w j < length (finite (steps_of true w)).atoms
ring_below w j h =
    ⊎_elim
    (λ e. subst (λ n. n < length (finite (steps_of true w)).atoms) (sym (ap (place true w) e ∙ place_last w)) (ring_count_some w))
    (λ k. subst (λ n. n < length (finite (steps_of true w)).atoms) (sym (place_before true w j k))
    (omega (arith, ring_count_long w (omega arith))))
    (eq-or-lt_of_le h)

ring_atom : (w : Word) → first w ≡ last w → (j : ℕ) → j ≤ size w
    → get_or (finite (steps_of true w)).atoms (place true w j) 0 ≡ first (rest j w)
ring_atom w r j h = ap (λ l. get_or l (place true w j) 0) (ring_atoms_lem w) ∙ ⊎_elim at_last before (eq-or-lt_of_le h)
  where
    at_last : j ≡ size w → get_or (ring_atoms w) (place true w j) 0 ≡ first (rest j w)
    at_last e =
        ap (λ n. get_or (ring_atoms w) n 0) (ap (place true w) e ∙ place_last w) ∙ ring_first w ∙ r
        ∙ sym (ap first (ap (λ n. rest n w) e ∙ rest_last w))

    before : j < size w → get_or (ring_atoms w) (place true w j) 0 ≡ first (rest j w)
    before k =
        ap (λ n. get_or (ring_atoms w) n 0) (place_before true w j k)
        ∙ ap (λ l. get_or l j 0) (ring_long w (omega arith)) ∙ inner_atom w j k

pub place_first : (w : Word) → place true w 0 ≡ 0
place_first w = either (eqb 0 (size w))
  where
    either : (b : Bool) → ◌≡◌ {A = ℕ} (cond b 0 0) 0
    either true = refl
    either false = refl

-- the events of a ring with a letter are the places before the last
pub ring_inside : (w : Word) (x : ℕ) → 0 < size w → x < length (finite (steps_of true w)).atoms → x < size w
ring_inside w x k h = omega (arith, ring_count_long w k)

ring_place : (w : Word) (x : ℕ) → x < length (finite (steps_of true w)).atoms → (j : ℕ) × (j ≤ size w) × (place true w j ≡ x)
ring_place w x h =
    ⊎_elim
    (λ e. let z : 0 ≡ x = omega (arith, ring_count_short w e) in (0, omega arith, place_first w ∙ z))
    (λ k. let b : x < size w = omega (arith, ring_count_long w k) in (x, omega arith, place_before true w x b))
    (eq-zero-or-pos (size w))

pub ring_laid : (w : Word) → first w ≡ last w → Laid (finite (steps_of true w)) w (place true w)
ring_laid w r =
    record {
      below = ring_below w;
      atom_at = ring_atom w r;
      place_of = ring_place w;
      edge_at = plain_edge true w;
      letter_of_lem = plain_letter true w;
    }
