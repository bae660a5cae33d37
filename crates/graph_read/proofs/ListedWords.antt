-- The memory that lists a graph, as it grows: zeros list the graph without events; an event more is its atom stored behind the others; an edge
-- more is its bit set in its row, and that bit says beforehand whether the edge is listed. The idea: two memories of 1,088 words are equal
-- where each word is, and two rows where each of 64 bits is.
-- Assumes nothing.
use Prim.Native.Nat.{ℕ, zero, suc, ◌+◌, ◌*◌, ◌-◌, ◌/◌, ◌%◌, ◌≤◌, ◌<◌}
use native.Mathlib.Omega.{arith}
use mathlib.Core.Path.{◌≡◌, refl, sym, ◌∙◌, ap, ap₂}
use mathlib.Core.Logic.{⊎_elim}
use mathlib.Core.Bool.{Bool, true, false, cond, ◌&&◌, ◌||◌, or-false, or_assoc}
use mathlib.Core.List.{List, [], ◌∷◌, ◌++◌}
use lib.Dec.{eqb, ltb}
use lib.ListN.{length, get_or, set, length-set}
use lib.Seq.{get_or-set_same, get_or-set_other, get_or-append_seam}
use borrow.Author.Tests.{lt-ltb, le-ltb, eq-eqb, ne_eqb}
use Rattle.kat.specs.Lists.{some as some_of}
use Rattle.kat.proofs.Bools.{lt_or_le}
use Rattle.claims.specs.Query.{bit}
use Rattle.claims.specs.GraphBytes.{Edge, Listed, same_edge, finite}
use Rattle.claims.proofs.GraphReading.{more_event, more_edge}
use Rattle.memory.specs.Memory.{words, zeros}
use Rattle.memory.proofs.Words.{words_length, words_at_lem, words_ext, same_or_not}
use Rattle.memory.proofs.Zeros.{zeros_words}
use Rattle.bits.specs.Sets.{including}
use Rattle.bits.proofs.Rows.{bit_including, including_below}
use Rattle.side_atoms.specs.Atoms.{atoms_of}
use Rattle.side_atoms.proofs.Atoms.{atoms_small, atoms_bit, atoms_ext, atoms_same, atoms_none}
use Rattle.graph_read.specs.Reading.{edges_from, listed_words}

-- the graph without events
abbrev pub nothing : Listed
nothing = record { atoms = []; edges = [] }

abbrev pub edge_of : ℕ → ℕ → ℕ → Edge
edge_of r x y = record { relation = r; from = x; to = y }

-- what stands at a place
abbrev word_of : Listed → ℕ → ℕ
word_of G k = cond (ltb k 1024) (edges_from G (k / 64) (k % 64)) (get_or G.atoms (k - 1024) 0)

module _ (G : Listed) where
  pub listed_length : length (listed_words G) ≡ 1088
  unfolding listed_words
  listed_length = words_length 1088 (word_of G)

  listed_at : (k : ℕ) → k < 1088 → get_or (listed_words G) k 0 ≡ word_of G k
  unfolding listed_words
  listed_at k h = words_at_lem 1088 (word_of G) k h

  -- a memory whose words are those of the graph lists it
  listed_ext : (ws : List ℕ) → length ws ≡ 1088 → ((k : ℕ) → k < 1088 → get_or ws k 0 ≡ word_of G k) → ws ≡ listed_words G
  unfolding listed_words
  listed_ext ws e h = words_ext ws 1088 (word_of G) e h

  row_word : (k : ℕ) → k < 1024 → word_of G k ≡ edges_from G (k / 64) (k % 64)
  row_word k h = rw (lt-ltb k 1024 h)

  atom_word : (k : ℕ) → 1024 ≤ k → word_of G k ≡ get_or G.atoms (k - 1024) 0
  atom_word k h = rw (le-ltb k 1024 h)

  -- the row of an event
  row_at : (r x : ℕ) → r < 16 → x < 64 → get_or (listed_words G) (64 * r + x) 0 ≡ edges_from G r x
  row_at r x p q =
      let d : (64 * r + x) / 64 ≡ r = omega arith in
      let m : (64 * r + x) % 64 ≡ x = omega arith in
      listed_at (64 * r + x) (omega arith) ∙ row_word (64 * r + x) (omega arith) ∙ ap₂ (edges_from G) d m

  row_bit : (r x y : ℕ) → y < 64 → bit y (edges_from G r x) ≡ (finite G).edges r x y
  unfolding edges_from atoms_of
  row_bit r x y h = atoms_bit ((finite G).edges r x) y h

  -- an edge is listed where its bit is set
  pub edge_bit : (r x y : ℕ) → r < 16 → x < 64 → y < 64
      → bit y (get_or (listed_words G) (64 * r + x) 0) ≡ some_of (same_edge (edge_of r x y)) G.edges
  unfolding finite
  edge_bit r x y p q h = ap (bit y) (row_at r x p q) ∙ row_bit r x y h

-- nothing read yet
pub nothing_listed : zeros 1088 ≡ listed_words nothing
unfolding edges_from atoms_of finite
nothing_listed =
    zeros_words 1088 ∙ listed_ext nothing (words 1088 (λ k. 0)) (words_length 1088 (λ k. 0))
    (λ k h. words_at_lem 1088 (λ k. 0) k h ∙ ⊎_elim (λ l. atoms_none ∙ sym (row_word nothing k l)) (λ l. sym (atom_word nothing k l)) (lt_or_le k 1024))

-- a list with one more at its end
one_more_other : (l : List ℕ) (a j : ℕ) → (j ≡ length l → ⊥) → get_or (l ++ (a ∷ [])) j 0 ≡ get_or l j 0
one_more_other [] a zero n = absurd (n refl)
one_more_other [] a (suc j) n = refl
one_more_other (x ∷ l) a zero n = refl
one_more_other (x ∷ l) a (suc j) n = one_more_other l a j (λ e. n (ap suc e))

-- one more event
module _ (G : Listed) (a : ℕ) (few : length G.atoms < 64) where
  abbrev at : ℕ
  at = 1024 + length G.atoms

  here_stored : (k : ℕ) → k ≡ at → get_or (set (listed_words G) at a) k 0 ≡ word_of (more_event G a) k
  here_stored k e =
      let j : k - 1024 ≡ length G.atoms = omega arith in
      ap (λ i. get_or (set (listed_words G) at a) i 0) e ∙ get_or-set_same (listed_words G) at a 0 (omega (arith, listed_length G))
      ∙ sym (atom_word (more_event G a) k (omega arith) ∙ ap (λ i. get_or (G.atoms ++ (a ∷ [])) i 0) j ∙ get_or-append_seam G.atoms a [] 0)

  there_kept : (k : ℕ) → k < 1088 → (k ≡ at → ⊥) → get_or (set (listed_words G) at a) k 0 ≡ word_of (more_event G a) k
  unfolding edges_from finite
  there_kept k h n =
      get_or-set_other (listed_words G) at k a 0 n ∙ listed_at G k h
      ∙ ⊎_elim (λ l. row_word G k l ∙ sym (row_word (more_event G a) k l))
      (λ l. atom_word G k l ∙ sym (atom_word (more_event G a) k l ∙ one_more_other G.atoms a (k - 1024) (λ e. n (omega arith)))) (lt_or_le k 1024)

  pub event_listed : set (listed_words G) at a ≡ listed_words (more_event G a)
  event_listed =
      listed_ext (more_event G a) (set (listed_words G) at a) (length-set (listed_words G) at a ∙ listed_length G)
      (λ k h. ⊎_elim (here_stored k) (there_kept k h) (same_or_not k at))

-- one more edge
some_more : {A : Type 0} (p : A → Bool) (l : List A) (x : A) → some_of p (l ++ (x ∷ [])) ≡ (some_of p l || p x)
some_more p [] x = or-false (p x)
some_more p (y ∷ l) x = ap (λ b. p y || b) (some_more p l x) ∙ sym (or_assoc (p y) (some_of p l) (p x))

module _ (G : Listed) (r x y : ℕ) (p : r < 16) (q : x < 64) (h : y < 64) where
  abbrev e : Edge
  e = edge_of r x y

  abbrev row : ℕ
  row = 64 * r + x

  abbrev more : ℕ
  more = including 64 (get_or (listed_words G) row 0) y

  -- the edges are those before it and itself
  edges_more : (s u v : ℕ) → (finite (more_edge G e)).edges s u v ≡ ((finite G).edges s u v || same_edge (edge_of s u v) e)
  unfolding finite
  edges_more s u v = some_more (same_edge (edge_of s u v)) G.edges e

  same_row : (v : ℕ) → same_edge (edge_of r x v) e ≡ eqb v y
  unfolding same_edge
  same_row v = rw (eq-eqb r r refl, eq-eqb x x refl)

  other_row : (s u v : ℕ) → (s ≡ r → u ≡ x → ⊥) → same_edge (edge_of s u v) e ≡ false
  unfolding same_edge
  other_row s u v n = ⊎_elim (λ a. rw (ne_eqb u x (n a)) (none (eqb s r))) (λ a. rw (ne_eqb s r a)) (same_or_not s r)
    where
      none : (b : Bool) → (b && false && eqb v y) ≡ false
      none true = refl
      none false = refl

  row_more : more ≡ edges_from (more_edge G e) r x
  unfolding edges_from atoms_of
  row_more =
      let z : get_or (listed_words G) row 0 ≡ edges_from G r x = row_at G r x p q in
      ap (λ w. including 64 w y) z
      ∙ atoms_ext ((finite (more_edge G e)).edges r x) (including 64 (edges_from G r x) y)
      (including_below 64 (edges_from G r x) y (atoms_small ((finite G).edges r x)))
      (λ v l.
      bit_including 64 (edges_from G r x) y v h
      ∙ sym (edges_more r x v ∙ ap₂ ◌||◌ (sym (row_bit G r x v l)) (same_row v)))

  row_kept : (s u : ℕ) → (s ≡ r → u ≡ x → ⊥) → edges_from G s u ≡ edges_from (more_edge G e) s u
  unfolding edges_from atoms_of
  row_kept s u n =
      atoms_same ((finite G).edges s u) ((finite (more_edge G e)).edges s u)
      (λ v l. sym (edges_more s u v ∙ ap (λ b. (finite G).edges s u v || b) (other_row s u v n) ∙ or-false ((finite G).edges s u v)))

  bit_stored : (k : ℕ) → k ≡ row → get_or (set (listed_words G) row more) k 0 ≡ word_of (more_edge G e) k
  bit_stored k i =
      let d : k / 64 ≡ r = omega arith in
      let m : k % 64 ≡ x = omega arith in
      ap (λ j. get_or (set (listed_words G) row more) j 0) i ∙ get_or-set_same (listed_words G) row more 0 (omega (arith, listed_length G)) ∙ row_more
      ∙ sym (row_word (more_edge G e) k (omega arith) ∙ ap₂ (edges_from (more_edge G e)) d m)

  others_kept : (k : ℕ) → k < 1088 → (k ≡ row → ⊥) → get_or (set (listed_words G) row more) k 0 ≡ word_of (more_edge G e) k
  others_kept k l n =
      get_or-set_other (listed_words G) row k more 0 n ∙ listed_at G k l
      ∙ ⊎_elim
      (λ t. row_word G k t ∙ row_kept (k / 64) (k % 64) (λ a b. n (omega arith)) ∙ sym (row_word (more_edge G e) k t))
      (λ t. atom_word G k t ∙ sym (atom_word (more_edge G e) k t)) (lt_or_le k 1024)

  pub edge_listed : set (listed_words G) row more ≡ listed_words (more_edge G e)
  edge_listed =
      listed_ext (more_edge G e) (set (listed_words G) row more) (length-set (listed_words G) row more ∙ listed_length G)
      (λ k l. ⊎_elim (bit_stored k) (others_kept k l) (same_or_not k row))
