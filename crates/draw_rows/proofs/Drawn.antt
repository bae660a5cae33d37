-- The rows show the drawn graph: for the numbers of a word, row x of relation r has bit y exactly where the graph drawn from the word has the edge
-- of r from x to y, and no row has a bit past the events. The atoms of the events are the numbers at even places.
-- Assumes nothing.
use Prim.Native.Nat.{ℕ, zero, suc, ◌+◌, ◌*◌, ◌/◌, ◌^◌, ◌≤◌, ◌<◌}
use native.Mathlib.Numerals.{add-one}
use native.Mathlib.Omega.{arith}
use mathlib.Core.Path.{◌≡◌, refl, sym, ◌∙◌, ap, ap₂, subst}
use mathlib.Core.Logic.{◌⊎◌, ⊎_elim}
use mathlib.Core.Logic.◌⊎◌.{inl, inr}
use mathlib.Core.Bool.{Bool, true, false, cond, ◌&&◌, ◌||◌, and-true, and-false, or-false}
use mathlib.Core.List.{List, [], ◌∷◌}
use lib.Dec.{eqb, leb}
use lib.ListN.{length, get_or}
use lib.Pow.{pow_pos, pow-lt}
use borrow.Author.Tests.{eq-eqb, ne_eqb, le-ltb, le-leb, lt-leb, leb-false}
use Rattle.kat.specs.Lists.{some}
use Rattle.kat.specs.Closure.{entry, closure}
use Rattle.kat.specs.Word.{Word, end, at, size, numbers}
use Rattle.kat.proofs.Bools.{lt_or_le}
use Rattle.claims.specs.Query.{Query, bit, relations, closed}
use Rattle.claims.specs.GraphBytes.{Edge, same_edge, finite}
use Rattle.claims.specs.GraphWriting.{edge_of}
use Rattle.claims.specs.Drawn.{line_atoms, all_but_last, ring_atoms, line_steps, ring_steps, steps_of, filled, drawn}
use Rattle.claims.proofs.WordBytes.{numbers_length}
use Rattle.claims.proofs.Laid.{line_length, inner_length}
use Rattle.memory.specs.Memory.{words}
use Rattle.memory.proofs.Words.{words_at_lem, words_length, words_ext}
use Rattle.bits.specs.Sets.{including}
use Rattle.bits.proofs.Bit.{bit_none}
use Rattle.bits.proofs.Rows.{bit_including, including_in}
use lib.Bits.{or_zero_l}
use Rattle.rows.specs.Rows.{rounds}
use Rattle.rows.proofs.Rounds.{rounds_closure, rounds_below}
use Rattle.draw_rows.specs.Rows.{event_count, next_event, step_row, step_rows, relation_rows}

-- the number of events, by the length of the word
pub count_line : (w : Word) → event_count false (length (numbers w)) ≡ suc (size w)
unfolding event_count
count_line w = let e = numbers_length w in omega arith

pub count_ring : (w : Word) → 0 < size w → event_count true (length (numbers w)) ≡ size w
unfolding event_count
count_ring w h =
    let e = numbers_length w in
    ap (λ b. cond b 1 (length (numbers w) / 2)) (le-ltb (length (numbers w)) 2 (omega arith)) ∙ omega arith

count_alone : (a : ℕ) → event_count true (length (numbers (end a))) ≡ 1
unfolding event_count
count_alone a = refl

pub event_number : (q : Query) (ring : Bool) (w : Word) → length (drawn q ring w).atoms ≡ event_count ring (length (numbers w))
unfolding drawn filled finite steps_of ring_atoms
event_number q false w = line_length w ∙ sym (count_line w)
event_number q true (end a) = sym (count_alone a)
event_number q true (at a r w) = ap suc (inner_length w) ∙ sym (count_ring (at a r w) (omega arith))

-- the atoms are the numbers at even places
line_atom : (w : Word) (i : ℕ) → i < suc (size w) → get_or (line_atoms w) i 0 ≡ get_or (numbers w) (2 * i) 0
unfolding line_atoms
line_atom (end a) zero h = refl
line_atom (end a) (suc i) h = absurd (omega arith)
line_atom (at a r w) zero h = refl
line_atom (at a r w) (suc i) h =
    let e : suc (suc (2 * i)) ≡ 2 * suc i = omega arith in
    line_atom w i (omega arith) ∙ ap (λ k. get_or (numbers (at a r w)) k 0) e

inner_atom : (w : Word) (i : ℕ) → i < size w → get_or (all_but_last w) i 0 ≡ get_or (numbers w) (2 * i) 0
unfolding all_but_last
inner_atom (end a) i h = absurd (omega arith)
inner_atom (at a r w) zero h = refl
inner_atom (at a r w) (suc i) h =
    let e : suc (suc (2 * i)) ≡ 2 * suc i = omega arith in
    inner_atom w i (omega arith) ∙ ap (λ k. get_or (numbers (at a r w)) k 0) e

event_atom : (q : Query) (ring : Bool) (w : Word) (i : ℕ) → i < event_count ring (length (numbers w))
    → get_or (drawn q ring w).atoms i 0 ≡ get_or (numbers w) (2 * i) 0
unfolding drawn filled finite steps_of ring_atoms all_but_last
event_atom q false w i h = line_atom w i (omega (arith, count_line w))
event_atom q true (end a) zero h = refl
event_atom q true (end a) (suc i) h = absurd (omega (arith, count_alone a))
event_atom q true (at a r w) i h = inner_atom (at a r w) i (omega (arith, count_ring (at a r w) (omega arith)))

pub event_atoms : (q : Query) (ring : Bool) (w : Word)
    → (drawn q ring w).atoms ≡ words (event_count ring (length (numbers w))) (λ i. get_or (numbers w) (2 * i) 0)
event_atoms q ring w =
    words_ext (drawn q ring w).atoms (event_count ring (length (numbers w))) (λ i. get_or (numbers w) (2 * i) 0)
    (event_number q ring w) (event_atom q ring w)

-- the letters of a word as edges, from event k on, where the step from x leads to f (suc x)
steps : (ℕ → ℕ) → ℕ → Word → List Edge
steps f k (end a) = []
steps f k (at a r w) = edge_of r k (f (suc k)) ∷ steps f (suc k) w

line_steps_lem : (w : Word) (k : ℕ) → line_steps k w ≡ steps (λ j. j) k w
unfolding line_steps steps
line_steps_lem (end a) k = refl
line_steps_lem (at a r w) k = ap (λ l. edge_of r k (suc k) ∷ l) (line_steps_lem w (suc k))

ring_steps_lem : (n : ℕ) (w : Word) (k : ℕ) → ring_steps n k w ≡ steps (λ j. cond (eqb j n) 0 j) k w
unfolding ring_steps steps
ring_steps_lem n (end a) k = refl
ring_steps_lem n (at a r w) k = ap (λ l. edge_of r k (cond (eqb (suc k) n) 0 (suc k)) ∷ l) (ring_steps_lem n w (suc k))

-- the step from event x: the relation at place 2 x + 1
abbrev step_at : (ℕ → ℕ) → ℕ → List ℕ → ℕ → ℕ → ℕ → Bool
step_at f k ns r j y =
    cond (leb (length ns) (2 * j + 1)) false (eqb (get_or ns (2 * j + 1) 0) r && eqb y (f (suc (k + j))))

module _ (f : ℕ → ℕ) (r y : ℕ) where
  abbrev has : ℕ → List Edge → Bool
  has x es = some (same_edge (edge_of r x y)) es

  -- no step from before
  steps_later : (w : Word) (k x : ℕ) → x < k → has x (steps f k w) ≡ false
  unfolding steps same_edge
  steps_later (end a) k x h = refl
  steps_later (at a s w) k x h =
      ap (λ b. (eqb r s && b && eqb y (f (suc k))) || has x (steps f (suc k) w)) (ne_eqb x k (λ e. omega arith))
      ∙ ap (λ b. (b && eqb y (f (suc k))) || has x (steps f (suc k) w)) (and-false (eqb r s)) ∙ steps_later w (suc k) x (omega arith)

  turned : (s : ℕ) → eqb r s ≡ eqb s r
  turned s = go (lt_or_le r s) (lt_or_le s r)
    where
      go : (r < s) ⊎ (s ≤ r) → (s < r) ⊎ (r ≤ s) → eqb r s ≡ eqb s r
      go (inl a) b = ne_eqb r s (λ e. omega arith) ∙ sym (ne_eqb s r (λ e. omega arith))
      go (inr a) (inl b) = ne_eqb r s (λ e. omega arith) ∙ sym (ne_eqb s r (λ e. omega arith))
      go (inr a) (inr b) = eq-eqb r s (omega arith) ∙ sym (eq-eqb s r (omega arith))

  step_found : (w : Word) (k j : ℕ) → has (k + j) (steps f k w) ≡ step_at f k (numbers w) r j y
  unfolding steps same_edge
  step_found (end a) k j = sym (ap (λ b. cond b false (eqb (get_or (a ∷ []) (2 * j + 1) 0) r && eqb y (f (suc (k + j))))) (le-leb 1 (2 * j + 1) (omega arith)))
  step_found (at a s w) k zero =
      let z : k + 0 ≡ k = omega arith in
      let l = numbers_length w in
      ap (λ x. has x (edge_of s k (f (suc k)) ∷ steps f (suc k) w)) z
      ∙ ap₂ (λ b c. (eqb r s && b && eqb y (f (suc k))) || c) (eq-eqb k k refl) (steps_later w (suc k) k (omega arith))
      ∙ or-false ((eqb r s && true) && eqb y (f (suc k))) ∙ ap (λ b. b && eqb y (f (suc k))) (and-true (eqb r s))
      ∙ ap₂ (λ b x. b && eqb y (f (suc x))) (turned s) (sym z)
      ∙ sym (ap (λ b. cond b false (eqb s r && eqb y (f (suc (k + 0))))) (lt-leb (length (numbers (at a s w))) 1 (omega arith)))
  step_found (at a s w) k (suc j) =
      let z : k + suc j ≡ suc k + j = omega arith in
      let e : 2 * suc j + 1 ≡ suc (suc (2 * j + 1)) = omega arith in
      ap (λ b. (eqb r s && b && eqb y (f (suc k))) || has (k + suc j) (steps f (suc k) w)) (ne_eqb (k + suc j) k (λ e. omega arith))
      ∙ ap (λ b. (b && eqb y (f (suc k))) || has (k + suc j) (steps f (suc k) w)) (and-false (eqb r s))
      ∙ ap (λ x. has x (steps f (suc k) w)) z ∙ step_found w (suc k) j
      ∙ ap₂ (λ b x. cond b false (eqb (get_or (numbers w) (2 * j + 1) 0) r && eqb y (f (suc x)))) (less e) (sym z)
      ∙ ap (λ i. cond (leb (length (numbers (at a s w))) i) false (eqb (get_or (numbers (at a s w)) i 0) r && eqb y (f (suc (k + suc j))))) (sym e)
    where
      less : 2 * suc j + 1 ≡ suc (suc (2 * j + 1)) → leb (length (numbers w)) (2 * j + 1) ≡ leb (length (numbers (at a s w))) (suc (suc (2 * j + 1)))
      less e = ⊎_elim (λ h. lt-leb (length (numbers w)) (2 * j + 1) h ∙ sym (lt-leb (length (numbers (at a s w))) (suc (suc (2 * j + 1))) (omega arith)))
          (λ h. le-leb (length (numbers w)) (2 * j + 1) h ∙ sym (le-leb (length (numbers (at a s w))) (suc (suc (2 * j + 1))) (omega arith)))
          (lt_or_le (2 * j + 1) (length (numbers w)))

-- a step of the graph is the one bit of its row
module _ (f : ℕ → ℕ) (ns : List ℕ) (n : ℕ) (few : n ≤ 64)
    (next : (x : ℕ) → 2 * x + 1 < length ns → (next_event n x ≡ f (suc x)) × (next_event n x < n)) where
  step_bit : (r x y : ℕ) → bit y (step_row ns n r x) ≡ step_at f 0 ns r x y
  unfolding step_row
  step_bit r x y = ⊎_elim inside past (lt_or_le (2 * x + 1) (length ns))
    where
      here : (b : Bool) → 2 * x + 1 < length ns → bit y (cond b (including 64 0 (next_event n x)) 0) ≡ (b && eqb y (f (suc (0 + x))))
      here true h =
          let (e, l) = next x h in
          let z : x ≡ 0 + x = omega arith in
          bit_including 64 0 (next_event n x) y (omega arith) ∙ ap (λ b. b || eqb y (next_event n x)) (bit_none y)
          ∙ ap (eqb y) (e ∙ ap (λ k. f (suc k)) z)
      here false h = bit_none y

      inside : 2 * x + 1 < length ns → bit y (cond (leb (length ns) (2 * x + 1)) 0 (cond (eqb (get_or ns (2 * x + 1) 0) r) (including 64 0 (next_event n x)) 0))
          ≡ step_at f 0 ns r x y
      inside h =
          ap (λ b. bit y (cond b 0 (cond (eqb (get_or ns (2 * x + 1) 0) r) (including 64 0 (next_event n x)) 0))) (lt-leb (length ns) (2 * x + 1) h)
          ∙ here (eqb (get_or ns (2 * x + 1) 0) r) h
          ∙ sym (ap (λ b. cond b false (eqb (get_or ns (2 * x + 1) 0) r && eqb y (f (suc (0 + x))))) (lt-leb (length ns) (2 * x + 1) h))

      past : length ns ≤ 2 * x + 1 → bit y (cond (leb (length ns) (2 * x + 1)) 0 (cond (eqb (get_or ns (2 * x + 1) 0) r) (including 64 0 (next_event n x)) 0))
          ≡ step_at f 0 ns r x y
      past h =
          ap (λ b. bit y (cond b 0 (cond (eqb (get_or ns (2 * x + 1) 0) r) (including 64 0 (next_event n x)) 0))) (le-leb (length ns) (2 * x + 1) h)
          ∙ bit_none y
          ∙ sym (ap (λ b. cond b false (eqb (get_or ns (2 * x + 1) 0) r && eqb y (f (suc (0 + x))))) (le-leb (length ns) (2 * x + 1) h))

  step_below : (r x : ℕ) → step_row ns n r x < 2 ^ n
  unfolding step_row
  step_below r x = go (leb (length ns) (2 * x + 1)) refl (eqb (get_or ns (2 * x + 1) 0) r)
    where
      go : (b : Bool) → leb (length ns) (2 * x + 1) ≡ b → (c : Bool) → cond b 0 (cond c (including 64 0 (next_event n x)) 0) < 2 ^ n
      go true e c = pow_pos n
      go false e false = pow_pos n
      go false e true =
          let (g, l) = next x (omega (arith, leb-false)) in
          subst (λ m. m < 2 ^ n) (sym (including_in 64 0 (next_event n x) (omega arith) ∙ or_zero_l (2 ^ next_event n x))) (pow-lt l)

-- the next event of a line and of a ring
line_next : (w : Word) (x : ℕ) → 2 * x + 1 < length (numbers w) → (next_event (suc (size w)) x ≡ suc x) × (next_event (suc (size w)) x < suc (size w))
unfolding next_event
line_next w x h =
    let l = numbers_length w in
    let e : next_event (suc (size w)) x ≡ suc x = ap (λ b. cond b 0 (x + 1)) (ne_eqb (x + 1) (suc (size w)) (λ z. omega arith)) ∙ add-one x in
    (e, omega arith)

ring_next : (w : Word) (x : ℕ) → 2 * x + 1 < length (numbers w)
    → (next_event (size w) x ≡ cond (eqb (suc x) (size w)) 0 (suc x)) × (next_event (size w) x < size w)
unfolding next_event
ring_next w x h = (ap (λ k. cond (eqb k (size w)) 0 k) (add-one x), ⊎_elim on last (lt_or_le (x + 1) (size w)))
  where
    on : x + 1 < size w → cond (eqb (x + 1) (size w)) 0 (x + 1) < size w
    on l = subst (λ b. cond b 0 (x + 1) < size w) (sym (ne_eqb (x + 1) (size w) (λ z. omega arith))) l

    last : size w ≤ x + 1 → cond (eqb (x + 1) (size w)) 0 (x + 1) < size w
    last l =
        let k = numbers_length w in
        subst (λ b. cond b 0 (x + 1) < size w) (sym (eq-eqb (x + 1) (size w) (omega arith))) (omega arith)

-- a word of one atom has no step
alone_next : (f : ℕ → ℕ) (n a x : ℕ) → 2 * x + 1 < length (numbers (end a)) → (next_event n x ≡ f (suc x)) × (next_event n x < n)
alone_next f n a x h = absurd (omega arith)

-- the steps of the word are the rows before closing
module _ (w : Word) where
  abbrev events : Bool → ℕ
  events ring = event_count ring (length (numbers w))

  -- where the step from the event before leads
  abbrev to : Bool → ℕ → ℕ
  to false j = j
  to true j = cond (eqb j (size w)) 0 j

  next_to : (ring : Bool) (x : ℕ) → 2 * x + 1 < length (numbers w)
      → (next_event (events ring) x ≡ to ring (suc x)) × (next_event (events ring) x < events ring)
  next_to false x h = subst (λ n. (next_event n x ≡ suc x) × (next_event n x < n)) (sym (count_line w)) (line_next w x h)
  next_to true x h =
      let l = numbers_length w in
      subst (λ n. (next_event n x ≡ cond (eqb (suc x) (size w)) 0 (suc x)) × (next_event n x < n)) (sym (count_ring w (omega arith))) (ring_next w x h)

  steps_to : (ring : Bool) → (steps_of ring w).edges ≡ steps (to ring) 0 w
  unfolding steps_of
  steps_to false = line_steps_lem w 0
  steps_to true = ring_steps_lem (size w) w 0

  module _ (q : Query) (ring : Bool) (few : event_count ring (length (numbers w)) ≤ 64) (r : ℕ) where
    plain_bit : (x y : ℕ) → bit y (step_row (numbers w) (events ring) r x) ≡ (finite (steps_of ring w)).edges r x y
    unfolding finite
    plain_bit x y =
        let z : 0 + x ≡ x = omega arith in
        step_bit (to ring) (numbers w) (events ring) few (next_to ring) r x y
        ∙ sym (step_found (to ring) r y w 0 x) ∙ ap₂ (λ k es. some (same_edge (edge_of r k y)) es) z (sym (steps_to ring))

    plain_row : (x y : ℕ) → x < 64 → bit y (get_or (step_rows (numbers w) (events ring) r) x 0) ≡ (finite (steps_of ring w)).edges r x y
    unfolding step_rows
    plain_row x y h = ap (bit y) (words_at_lem 64 (step_row (numbers w) (events ring) r) x h) ∙ plain_bit x y

    rows_count : length (step_rows (numbers w) (events ring) r) ≡ 64
    unfolding step_rows
    rows_count = words_length 64 (step_row (numbers w) (events ring) r)

    plain_below : (x : ℕ) → x < length (step_rows (numbers w) (events ring) r) → get_or (step_rows (numbers w) (events ring) r) x 0 < 2 ^ events ring
    unfolding step_rows
    plain_below x h =
        subst (λ m. m < 2 ^ events ring) (sym (words_at_lem 64 (step_row (numbers w) (events ring) r) x (omega (arith, rows_count))))
        (step_below (to ring) (numbers w) (events ring) few (next_to ring) r x)

    -- a row has no bit past the events
    pub row_below : (b : Bool) (x : ℕ) → x < 64 → get_or (relation_rows (numbers w) (events ring) r b) x 0 < 2 ^ events ring
    unfolding relation_rows
    row_below false x h = plain_below x (omega (arith, rows_count))
    row_below true x h =
        let t = step_rows (numbers w) (events ring) r in
        rounds_below t (events ring) (events ring) plain_below (omega (arith, rows_count)) (events ring) (omega arith) x (omega (arith, rows_count))

    -- a row has the bits of the edges of the drawn graph
    pub row_bit : (b : Bool) → b ≡ closed q (get_or (relations q) r []) → (x y : ℕ) → x < events ring → y < events ring
        → bit y (get_or (relation_rows (numbers w) (events ring) r b) x 0) ≡ (drawn q ring w).edges r x y
    unfolding relation_rows drawn filled
    row_bit b e x y h k = go b ∙ ap (λ d. elim d [
      | true ↦ entry (closure (length (finite (steps_of ring w)).atoms) ((finite (steps_of ring w)).edges r)) x y
      | false ↦ (finite (steps_of ring w)).edges r x y
    ]) e
      where
        count : events ring ≡ length (finite (steps_of ring w)).atoms
        count = sym (event_number q ring w)

        go : (b : Bool)
            → bit y (get_or (cond b (rounds (step_rows (numbers w) (events ring) r) (events ring) (events ring)) (step_rows (numbers w) (events ring) r)) x 0)
            ≡ elim b [
              | true ↦ entry (closure (length (finite (steps_of ring w)).atoms) ((finite (steps_of ring w)).edges r)) x y
              | false ↦ (finite (steps_of ring w)).edges r x y
            ]
        go false = plain_row x y (omega arith)
        go true =
            rounds_closure (step_rows (numbers w) (events ring) r) (events ring) (omega (arith, rows_count)) ((finite (steps_of ring w)).edges r)
            (λ i j a c. plain_row i j (omega arith)) x y h k
            ∙ ap (λ n. entry (closure n ((finite (steps_of ring w)).edges r)) x y) count
