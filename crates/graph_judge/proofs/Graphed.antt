-- What the words of a graph show: its events, their atoms, and the listed edges of each relation. The words that the reading of a graph leaves
-- show the graph that was read: its edges are between its events, so that no row has a bit past them.
-- Assumes nothing.
use Prim.Native.Nat.{ℕ, ◌+◌, ◌*◌, ◌-◌, ◌/◌, ◌%◌, ◌≤◌, ◌<◌}
use native.Mathlib.Omega.{arith}
use mathlib.Core.Path.{◌≡◌, refl, sym, ◌∙◌, ap, ap₂, subst}
use mathlib.Core.Logic.{⊎_elim}
use mathlib.Core.Bool.{true, cond}
use mathlib.Core.List.{List}
use lib.Dec.{ltb}
use lib.ListN.{length, get_or, drop}
use lib.Seq.{get_or-drop}
use borrow.Author.Tests.{lt-ltb, le-ltb}
use Rattle.kat.specs.Graph.{Finite}
use Rattle.kat.proofs.Bools.{true_not_false, lt_or_le}
use Rattle.claims.specs.Query.{bit}
use Rattle.claims.specs.Refusals.{ok}
use Rattle.claims.specs.GraphBytes.{Listed, Ranges, finite, graph_in}
use Rattle.claims.specs.GraphWriting.{WellListed, edge_of}
use Rattle.claims.proofs.GraphReading.{edge_is_listed, get_d_in, graph_accepted}
use Rattle.memory.specs.Memory.{words}
use Rattle.memory.proofs.Words.{words_at_lem}
use Rattle.bits.proofs.Bit.{bit_above}
use Rattle.side_atoms.specs.Atoms.{atoms_of}
use Rattle.side_atoms.proofs.Atoms.{atoms_bit, atoms_small}
use Rattle.rows.specs.Rows.{blank}
use Rattle.rows.proofs.Shown.{Shows, shows_words}
use Rattle.graph_read.specs.Reading.{edges_from, listed_words}
use Rattle.graph_tables.specs.Listed.{relation_rows}

-- the words show the graph, which has n events
pub record Graphed (G : Finite) (L : List ℕ) (n : ℕ) : Type 0 where
  pub events : length G.atoms ≡ n
  pub few : n ≤ 64
  pub atoms : (x : ℕ) → x < n → get_or (drop 1024 L) x 0 ≡ get_or G.atoms x 0
  pub atoms_few : (x : ℕ) → x < n → get_or G.atoms x 0 < 64
  pub edges : (r : ℕ) → r < 16 → Shows n (relation_rows L r) (G.edges r)

module _ (R : Ranges) (G : Listed) (few_atoms : R.atoms ≤ 64) (w : WellListed R G) where
  edges_set : (r x : ℕ) → edges_from G r x ≡ atoms_of ((finite G).edges r x)
  unfolding edges_from atoms_of
  edges_set r x = refl

  -- an edge is between events
  edge_inside : (r x y : ℕ) → (finite G).edges r x y ≡ true → (x < length G.atoms) × (y < length G.atoms)
  edge_inside r x y e = let i = (edge_is_listed G r x y).0 e in (w.from_event (edge_of r x y) i, w.to_event (edge_of r x y) i)

  edges_bit : (r x y : ℕ) → y < 64 → bit y (edges_from G r x) ≡ (finite G).edges r x y
  edges_bit r x y h = ap (bit y) (edges_set r x) ∙ atoms_bit ((finite G).edges r x) y h

  edges_inside : (r x y : ℕ) → bit y (edges_from G r x) ≡ true → (x < length G.atoms) × (y < length G.atoms)
  edges_inside r x y e =
      ⊎_elim (λ h. edge_inside r x y (sym (edges_bit r x y h) ∙ e))
      (λ h. absurd (true_not_false e (ap (bit y) (edges_set r x) ∙ bit_above 64 y (atoms_of ((finite G).edges r x)) (atoms_small ((finite G).edges r x)) h)))
      (lt_or_le y 64)

  -- a row of a relation
  row_at : (r x : ℕ) → r < 16 → x < 64 → get_or (listed_words G) (64 * r + x) 0 ≡ edges_from G r x
  unfolding listed_words
  row_at r x h k =
      let a : (64 * r + x) / 64 ≡ r = omega arith in
      let b : (64 * r + x) % 64 ≡ x = omega arith in
      words_at_lem 1088 (λ k. cond (ltb k 1024) (edges_from G (k / 64) (k % 64)) (get_or G.atoms (k - 1024) 0)) (64 * r + x) (omega arith)
      ∙ ap (λ c. cond c (edges_from G ((64 * r + x) / 64) ((64 * r + x) % 64)) (get_or G.atoms (64 * r + x - 1024) 0)) (lt-ltb (64 * r + x) 1024 (omega arith))
      ∙ ap₂ (edges_from G) a b

  atom_at : (x : ℕ) → x < 64 → get_or (drop 1024 (listed_words G)) x 0 ≡ get_or G.atoms x 0
  unfolding listed_words
  atom_at x h =
      let a : 1024 + x - 1024 ≡ x = omega arith in
      get_or-drop 1024 (listed_words G) x 0
      ∙ words_at_lem 1088 (λ k. cond (ltb k 1024) (edges_from G (k / 64) (k % 64)) (get_or G.atoms (k - 1024) 0)) (1024 + x) (omega arith)
      ∙ ap (λ c. cond c (edges_from G ((1024 + x) / 64) ((1024 + x) % 64)) (get_or G.atoms (1024 + x - 1024) 0)) (le-ltb (1024 + x) 1024 (omega arith))
      ∙ ap (λ i. get_or G.atoms i 0) a

  listed_graphed : Graphed (finite G) (listed_words G) (length G.atoms)
  unfolding finite relation_rows
  listed_graphed =
      record {
        events = refl;
        few = w.at_most_64;
        atoms = λ x h. atom_at x (omega (arith, w.at_most_64));
        atoms_few = λ x h. omega (arith, w.atoms_known (get_or G.atoms x 0) (get_d_in G.atoms x 0 h));
        edges = λ r h.
            subst (λ t. Shows (length G.atoms) t ((finite G).edges r))
            (sym (ap (λ c. cond c (words 64 (λ x. get_or (listed_words G) (64 * r + x) 0)) blank) (lt-ltb r 16 h)))
            (shows_words (length G.atoms) (λ x. get_or (listed_words G) (64 * r + x) 0) ((finite G).edges r) w.at_most_64
            (λ x y a b. ap (bit y) (row_at r x h (omega (arith, w.at_most_64))) ∙ edges_bit r x y (omega (arith, w.at_most_64)))
            (λ x y a e. edges_inside r x y (sym (ap (bit y) (row_at r x h a)) ∙ e)));
      }

-- the words of a graph that was read
pub read_graphed : (R : Ranges) (bs : List ℕ) (G : Listed) → R.atoms ≤ 64 → graph_in R bs ≡ ok G → Graphed (finite G) (listed_words G) (length G.atoms)
read_graphed R bs G few e = listed_graphed R G few (graph_accepted R bs G e)
