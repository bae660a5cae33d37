-- The bytes that are written are those of the drawn graph: for the numbers of a word, the number of its events and the set of the closed
-- relations. The edges of the listed form, by relation, from and to, are the members of the rows.
-- Assumes nothing.
use Prim.Native.Nat.{ℕ, ◌*◌, ◌-◌, ◌^◌, ◌≤◌, ◌<◌}
use native.Mathlib.Omega.{arith}
use mathlib.Core.Path.{◌≡◌, refl, sym, ◌∙◌, ap, ap₂, subst}
use mathlib.Core.Bool.{Bool, true, false, cond}
use mathlib.Core.List.{List, [], ◌∷◌, ◌++◌, map, flat_map, append_assoc}
use lib.ListN.{length, get_or}
use Rattle.kat.specs.Lists.{In, here, there, upto, filter}
use Rattle.kat.specs.Graph.{Finite}
use Rattle.kat.specs.Word.{Word, numbers}
use Rattle.kat.proofs.Sets.{upto_in}
use Rattle.claims.specs.Query.{Query, bit, relations, closed}
use Rattle.claims.specs.GraphWriting.{joined, event_field, edge_field, edge_of, edges_over, is_edge, graph_bytes, listed_of}
use Rattle.claims.specs.Drawn.{drawn}
use Rattle.memory.specs.Memory.{words}
use Rattle.bits.proofs.Members.{number_filter, number_wide}
use Rattle.draw_rows.specs.Rows.{event_count, drawn_rows}
use Rattle.draw_rows.proofs.Drawn.{event_number, event_atoms, row_below, row_bit}
use Rattle.draw_bytes.specs.Fields.{events_bytes, row_bytes, rows_bytes}
use Rattle.draw_bytes.specs.Bytes.{relation_bytes, edges_bytes, bytes_of}
use Rattle.draw_bytes.proofs.Pieces.{an_edge, a_row}

-- pieces of other pieces
module _ {A : Type 0} where
  joined_append : (f : A → List ℕ) (xs ys : List A) → joined f (xs ++ ys) ≡ joined f xs ++ joined f ys
  joined_append f [] ys = refl
  joined_append f (x ∷ xs) ys = ap (λ l. f x ++ l) (joined_append f xs ys) ∙ sym (append_assoc (f x) (joined f xs) (joined f ys))

  joined_same : (f g : A → List ℕ) (xs : List A) → ((x : A) → In x xs → f x ≡ g x) → joined f xs ≡ joined g xs
  joined_same f g [] h = refl
  joined_same f g (x ∷ xs) h = ap₂ ◌++◌ (h x (here refl)) (joined_same f g xs (λ y i. h y (there i)))

  filter_append : (p : A → Bool) (xs ys : List A) → filter p (xs ++ ys) ≡ filter p xs ++ filter p ys
  filter_append p [] ys = refl
  filter_append p (x ∷ xs) ys = go (p x) (filter_append p xs ys)
    where
      go : (b : Bool) → filter p (xs ++ ys) ≡ filter p xs ++ filter p ys
          → cond b (x ∷ filter p (xs ++ ys)) (filter p (xs ++ ys)) ≡ cond b (x ∷ filter p xs) (filter p xs) ++ filter p ys
      go true e = ap (λ l. x ∷ l) e
      go false e = e

module _ {A B : Type 0} where
  joined_map : (f : B → List ℕ) (g : A → B) (xs : List A) → joined f (map g xs) ≡ joined (λ x. f (g x)) xs
  joined_map f g [] = refl
  joined_map f g (x ∷ xs) = ap (λ l. f (g x) ++ l) (joined_map f g xs)

  joined_picked : (f : B → List ℕ) (p : B → Bool) (g : A → B) (xs : List A)
      → joined f (filter p (map g xs)) ≡ joined (λ x. f (g x)) (filter (λ x. p (g x)) xs)
  joined_picked f p g [] = refl
  joined_picked f p g (x ∷ xs) = go (p (g x)) (joined_picked f p g xs)
    where
      go : (b : Bool) → joined f (filter p (map g xs)) ≡ joined (λ y. f (g y)) (filter (λ y. p (g y)) xs)
          → joined f (cond b (g x ∷ filter p (map g xs)) (filter p (map g xs)))
          ≡ joined (λ y. f (g y)) (cond b (x ∷ filter (λ y. p (g y)) xs) (filter (λ y. p (g y)) xs))
      go true e = ap (λ l. f (g x) ++ l) e
      go false e = e

  joined_rows : (f : B → List ℕ) (p : B → Bool) (rows : A → List B) (xs : List A)
      → joined f (filter p (flat_map rows xs)) ≡ joined (λ x. joined f (filter p (rows x))) xs
  unfolding flat_map
  joined_rows f p rows [] = refl
  joined_rows f p rows (x ∷ xs) =
      ap (joined f) (filter_append p (rows x) (flat_map rows xs)) ∙ joined_append f (filter p (rows x)) (filter p (flat_map rows xs))
      ∙ ap (λ l. joined f (filter p (rows x)) ++ l) (joined_rows f p rows xs)

-- the edges of a graph with n events and nr relations, whose rows these are
module _ (G : Finite) (n nr : ℕ) (few : n ≤ 64) (rows : ℕ → List ℕ)
    (below : (r x : ℕ) → x < 64 → get_or (rows r) x 0 < 2 ^ n)
    (shows : (r x y : ℕ) → r < nr → x < n → y < n → bit y (get_or (rows r) x 0) ≡ G.edges r x y) where
  row_edges : (r x : ℕ) → r < nr → x < n → row_bytes r x (get_or (rows r) x 0) ≡ joined edge_field (filter (is_edge G) (map (edge_of r x) (upto 0 n)))
  unfolding row_bytes
  row_edges r x h k =
      let z : n - 0 ≡ n = omega arith in
      ap (joined (an_edge r x))
      (number_wide 0 n 64 (get_or (rows r) x 0) few (subst (λ m. get_or (rows r) x 0 < 2 ^ m) (sym z) (below r x (omega arith)))
      ∙ number_filter 0 n (get_or (rows r) x 0) (λ y. G.edges r x y)
      (λ y a b. let e : y - 0 ≡ y = omega arith in ap (λ i. bit i (get_or (rows r) x 0)) e ∙ shows r x y h k b))
      ∙ sym (joined_picked edge_field (is_edge G) (edge_of r x) (upto 0 n))

  relation_edges : (r : ℕ) → r < nr
      → rows_bytes r n (rows r) ≡ joined edge_field (filter (is_edge G) (flat_map (λ x. map (edge_of r x) (upto 0 n)) (upto 0 n)))
  unfolding rows_bytes
  relation_edges r h =
      joined_same (a_row r (rows r)) (λ x. joined edge_field (filter (is_edge G) (map (edge_of r x) (upto 0 n)))) (upto 0 n)
      (λ x i. row_edges r x h (upto_in x 0 n i).1)
      ∙ sym (joined_rows edge_field (is_edge G) (λ x. map (edge_of r x) (upto 0 n)) (upto 0 n))

  all_edges : joined (λ r. rows_bytes r n (rows r)) (upto 0 nr) ≡ joined edge_field (filter (is_edge G) (edges_over (upto 0 nr) (upto 0 n)))
  unfolding edges_over
  all_edges =
      joined_same (λ r. rows_bytes r n (rows r))
      (λ r. joined edge_field (filter (is_edge G) (flat_map (λ x. map (edge_of r x) (upto 0 n)) (upto 0 n)))) (upto 0 nr)
      (λ r i. relation_edges r (upto_in r 0 nr i).1)
      ∙ sym (joined_rows edge_field (is_edge G) (λ r. flat_map (λ x. map (edge_of r x) (upto 0 n)) (upto 0 n)) (upto 0 nr))

-- the bytes of the drawn graph
module _ (q : Query) (ring : Bool) (w : Word) (set : ℕ) (few : event_count ring (length (numbers w)) ≤ 64)
    (closes : (r : ℕ) → r < length (relations q) → bit r set ≡ closed q (get_or (relations q) r [])) where
  abbrev events : ℕ
  events = event_count ring (length (numbers w))

  abbrev rows_of : ℕ → List ℕ
  rows_of = drawn_rows (numbers w) events set

  events_drawn : events_bytes (numbers w) events ≡ joined event_field (drawn q ring w).atoms
  unfolding events_bytes words
  events_drawn =
      sym (ap (joined event_field) (event_atoms q ring w) ∙ joined_map event_field (λ i. get_or (numbers w) (2 * i) 0) (upto 0 events))

  edges_drawn : edges_bytes events rows_of (length (relations q)) ≡ joined edge_field (listed_of (drawn q ring w) (length (relations q))).edges
  unfolding edges_bytes relation_bytes listed_of drawn_rows
  edges_drawn =
      all_edges (drawn q ring w) events (length (relations q)) few rows_of
      (λ r x h. row_below w q ring few r (bit r set) x h)
      (λ r x y h k l. row_bit w q ring few r (bit r set) (closes r h) x y k l)
      ∙ ap (λ n. joined edge_field (filter (is_edge (drawn q ring w)) (edges_over (upto 0 (length (relations q))) (upto 0 n)))) (sym (event_number q ring w))

  pub bytes_drawn : bytes_of (numbers w) (event_count ring (length (numbers w))) (drawn_rows (numbers w) (event_count ring (length (numbers w))) set) (length (relations q))
      ≡ graph_bytes (listed_of (drawn q ring w) (length (relations q)))
  unfolding bytes_of listed_of
  bytes_drawn = ap₂ ◌++◌ events_drawn edges_drawn

-- rows that are the same for each relation that is written give the same bytes
pub bytes_same : (bs : List ℕ) (n : ℕ) (rows others : ℕ → List ℕ) (rs : ℕ) → ((r : ℕ) → r < rs → rows r ≡ others r)
    → bytes_of bs n rows rs ≡ bytes_of bs n others rs
unfolding bytes_of edges_bytes relation_bytes
bytes_same bs n rows others rs e =
    ap (λ es. events_bytes bs n ++ es)
    (joined_same (λ r. rows_bytes r n (rows r)) (λ r. rows_bytes r n (others r)) (upto 0 rs) (λ r i. ap (rows_bytes r n) (e r (upto_in r 0 rs i).1)))
