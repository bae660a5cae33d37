-- The events and edges that bytes list, field by field from a place on; and the bytes of a graph list its events and its edges.
-- Assumes nothing.
use Prim.Native.Nat.{ℕ, ◌+◌, ◌*◌, ◌≤◌, ◌<◌}
use native.Mathlib.Omega.{arith}
use native.Mathlib.Numerals.{add-one}
use mathlib.Core.Path.{◌≡◌, refl, sym, ◌∙◌, ap, ap₂}
use mathlib.Core.Logic.{⊎_elim}
use mathlib.Core.Bool.{Bool, true, false, not, cond}
use mathlib.Core.List.{List, [], ◌∷◌, ◌++◌}
use lib.Dec.{eqb}
use lib.ListN.{length, get_or, drop, length-drop}
use lib.Seq.{drop-cons}
use Rattle.kat.specs.Lists.{is_empty}
use Rattle.kat.proofs.Bools.{true_not_false, le_or_lt}
use Rattle.claims.specs.Fields.{field, big_endian}
use Rattle.claims.specs.GraphBytes.{Edge, Listed}
use Rattle.claims.specs.GraphWriting.{joined, event_field, edge_field, edge_of, graph_bytes}
use Rattle.print_line.proofs.Pieces.{pieces_length}
use Rattle.dot.specs.DotText.{atoms_in, edges_in, listed_in, graph_text, dot_text}

-- the four bytes of an event's field
four_bytes : (a : ℕ) → length (event_field a) ≡ 4
unfolding field big_endian
four_bytes a = refl

-- the byte at a place, and those behind it
byte_at : (bs : List ℕ) (i : ℕ) → i < length bs → drop i bs ≡ get_or bs i 0 ∷ drop (i + 1) bs
byte_at bs i h = drop-cons bs i 0 h ∙ ap (λ (j : ℕ). get_or bs i 0 ∷ drop j bs) (sym (add-one i))

three_at : (bs : List ℕ) (i : ℕ) → i + 3 ≤ length bs → drop i bs ≡ get_or bs i 0 ∷ get_or bs (i + 1) 0 ∷ get_or bs (i + 2) 0 ∷ drop (i + 3) bs
three_at bs i h =
    let a : i + 1 + 1 ≡ i + 2 = omega arith in
    let b : i + 2 + 1 ≡ i + 3 = omega arith in
    byte_at bs i (omega arith)
    ∙ ap (λ (cs : List ℕ). get_or bs i 0 ∷ cs)
    (byte_at bs (i + 1) (omega arith) ∙ ap (λ (j : ℕ). get_or bs (i + 1) 0 ∷ drop j bs) a
    ∙ ap (λ (cs : List ℕ). get_or bs (i + 1) 0 ∷ cs) (byte_at bs (i + 2) (omega arith) ∙ ap (λ (j : ℕ). get_or bs (i + 2) 0 ∷ drop j bs) b))

four_at : (bs : List ℕ) (i : ℕ) → i + 4 ≤ length bs
    → drop i bs ≡ get_or bs i 0 ∷ get_or bs (i + 1) 0 ∷ get_or bs (i + 2) 0 ∷ get_or bs (i + 3) 0 ∷ drop (i + 4) bs
four_at bs i h =
    let a : i + 3 + 1 ≡ i + 4 = omega arith in
    three_at bs i (omega arith)
    ∙ ap (λ (cs : List ℕ). get_or bs i 0 ∷ get_or bs (i + 1) 0 ∷ get_or bs (i + 2) 0 ∷ cs)
    (byte_at bs (i + 3) (omega arith) ∙ ap (λ (j : ℕ). get_or bs (i + 3) 0 ∷ drop j bs) a)

six_at : (bs : List ℕ) (i : ℕ) → i + 6 ≤ length bs
    → drop i bs ≡ get_or bs i 0 ∷ get_or bs (i + 1) 0 ∷ get_or bs (i + 2) 0 ∷ get_or bs (i + 3) 0 ∷ get_or bs (i + 4) 0 ∷ get_or bs (i + 5) 0 ∷ drop (i + 6) bs
six_at bs i h =
    let a : i + 4 + 1 ≡ i + 5 = omega arith in
    let b : i + 5 + 1 ≡ i + 6 = omega arith in
    four_at bs i (omega arith)
    ∙ ap (λ (cs : List ℕ). get_or bs i 0 ∷ get_or bs (i + 1) 0 ∷ get_or bs (i + 2) 0 ∷ get_or bs (i + 3) 0 ∷ cs)
    (byte_at bs (i + 4) (omega arith) ∙ ap (λ (j : ℕ). get_or bs (i + 4) 0 ∷ drop j bs) a
    ∙ ap (λ (cs : List ℕ). get_or bs (i + 4) 0 ∷ cs) (byte_at bs (i + 5) (omega arith) ∙ ap (λ (j : ℕ). get_or bs (i + 5) 0 ∷ drop j bs) b))

-- the field of an event stands at the place, by its tag
abbrev pub event_at : List ℕ → ℕ → Bool
event_at bs i = not (is_empty (atoms_in (drop i bs)))

atoms_at : (bs : List ℕ) (i : ℕ) → i + 4 ≤ length bs
    → atoms_in (drop i bs) ≡ cond (eqb (get_or bs i 0) 1) (get_or bs (i + 3) 0 ∷ atoms_in (drop (i + 4) bs)) []
unfolding atoms_in
atoms_at bs i h = ap atoms_in (four_at bs i h)

atoms_few : (cs : List ℕ) → length cs < 4 → atoms_in cs ≡ []
unfolding atoms_in
atoms_few [] h = refl
atoms_few (t ∷ []) h = refl
atoms_few (t ∷ u ∷ []) h = refl
atoms_few (t ∷ u ∷ l ∷ []) h = refl
atoms_few (t ∷ u ∷ l ∷ a ∷ bs) h = absurd (omega arith)

pub event_tag : (bs : List ℕ) (i : ℕ) → i + 4 ≤ length bs → eqb (get_or bs i 0) 1 ≡ event_at bs i
event_tag bs i h = go (eqb (get_or bs i 0) 1) (get_or bs (i + 3) 0) (atoms_in (drop (i + 4) bs)) ∙ sym (ap (λ (xs : List ℕ). not (is_empty xs)) (atoms_at bs i h))
  where
    go : (b : Bool) (a : ℕ) (xs : List ℕ) → b ≡ not (is_empty (cond b (a ∷ xs) []))
    go true a xs = refl
    go false a xs = refl

pub event_cut : (bs : List ℕ) (i : ℕ) → length bs < i + 4 → false ≡ event_at bs i
event_cut bs i h =
    let k : length (drop i bs) < 4 = omega (arith, length-drop i bs) in
    sym (ap (λ (xs : List ℕ). not (is_empty xs)) (atoms_few (drop i bs) k))

-- an event and those behind it, and no event
pub event_within : (bs : List ℕ) (i : ℕ) → event_at bs i ≡ true → i + 4 ≤ length bs
event_within bs i e =
    ⊎_elim (λ h. h) (λ h. absurd (true_not_false e (sym (event_cut bs i h)))) (le_or_lt (i + 4) (length bs))

pub event_more : (bs : List ℕ) (i : ℕ) → event_at bs i ≡ true → atoms_in (drop i bs) ≡ get_or bs (i + 3) 0 ∷ atoms_in (drop (i + 4) bs)
event_more bs i e =
    let h = event_within bs i e in
    atoms_at bs i h ∙ ap (λ (b : Bool). cond b (get_or bs (i + 3) 0 ∷ atoms_in (drop (i + 4) bs)) []) (event_tag bs i h ∙ e)

pub event_none : (bs : List ℕ) (i : ℕ) → event_at bs i ≡ false → atoms_in (drop i bs) ≡ []
event_none bs i = go (atoms_in (drop i bs))
  where
    go : (xs : List ℕ) → not (is_empty xs) ≡ false → xs ≡ []
    go [] e = refl
    go (a ∷ xs) e = absurd (true_not_false refl e)

-- an edge and those behind it, and no edge
pub edge_more : (bs : List ℕ) (i : ℕ) → i + 6 ≤ length bs
    → edges_in (drop i bs) ≡ edge_of (get_or bs (i + 3) 0) (get_or bs (i + 4) 0) (get_or bs (i + 5) 0) ∷ edges_in (drop (i + 6) bs)
unfolding edges_in
edge_more bs i h = ap edges_in (six_at bs i h)

edges_few : (cs : List ℕ) → length cs < 6 → edges_in cs ≡ []
unfolding edges_in
edges_few [] h = refl
edges_few (t ∷ []) h = refl
edges_few (t ∷ u ∷ []) h = refl
edges_few (t ∷ u ∷ l ∷ []) h = refl
edges_few (t ∷ u ∷ l ∷ r ∷ []) h = refl
edges_few (t ∷ u ∷ l ∷ r ∷ x ∷ []) h = refl
edges_few (t ∷ u ∷ l ∷ r ∷ x ∷ y ∷ bs) h = absurd (omega arith)

pub edge_none : (bs : List ℕ) (i : ℕ) → length bs < i + 6 → edges_in (drop i bs) ≡ []
edge_none bs i h = let k : length (drop i bs) < 6 = omega (arith, length-drop i bs) in edges_few (drop i bs) k

-- the bytes of a graph list its events and its edges
no_event : (es : List Edge) → atoms_in (joined edge_field es) ≡ []
unfolding atoms_in field big_endian
no_event [] = refl
no_event (e ∷ es) = refl

atoms_listed_lem : (xs : List ℕ) (es : List Edge) → atoms_in (joined event_field xs ++ joined edge_field es) ≡ xs
unfolding atoms_in field big_endian
atoms_listed_lem [] es = no_event es
atoms_listed_lem (a ∷ xs) es = ap (λ (bs : List ℕ). a ∷ bs) (atoms_listed_lem xs es)

edges_listed : (es : List Edge) → edges_in (joined edge_field es) ≡ es
unfolding edges_in field big_endian
edges_listed [] = refl
edges_listed (e ∷ es) = ap (λ (fs : List Edge). e ∷ fs) (edges_listed es)

behind_events : (xs : List ℕ) (bs : List ℕ) → drop (4 * length xs) (joined event_field xs ++ bs) ≡ bs
behind_events xs bs =
    ap (λ (k : ℕ). drop k (joined event_field xs ++ bs)) (sym (pieces_length event_field 4 four_bytes xs)) ∙ drop_front (joined event_field xs)
  where
    drop_front : (cs : List ℕ) → drop (length cs) (cs ++ bs) ≡ bs
    drop_front [] = refl
    drop_front (c ∷ cs) = drop_front cs

pub graph_listed : (G : Listed) → listed_in (graph_bytes G) ≡ G
unfolding listed_in
graph_listed G =
    let a = atoms_listed_lem G.atoms G.edges in
    let e : edges_in (drop (4 * length (atoms_in (graph_bytes G))) (graph_bytes G)) ≡ G.edges =
    ap (λ (xs : List ℕ). edges_in (drop (4 * length xs) (graph_bytes G))) a
    ∙ ap edges_in (behind_events G.atoms (joined edge_field G.edges)) ∙ edges_listed G.edges in
    ap₂ (λ (xs : List ℕ) (es : List Edge). record { atoms = xs; edges = es }) a e

-- so the text of a graph's bytes is the text of the graph
pub text_of_graph : (query w : List ℕ) (G : Listed) → dot_text query w (graph_bytes G) ≡ graph_text query w G
unfolding dot_text
text_of_graph query w G = ap (graph_text query w) (graph_listed G)
