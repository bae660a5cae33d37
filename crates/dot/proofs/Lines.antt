-- The lines of the text, put one after the other by loops: what is left of them, put into the memory as it is, is all of them put into the memory
-- at the start.
-- Assumes nothing.
use Prim.Native.Nat.{ℕ, ◌+◌, ◌*◌, ◌≤◌, ◌<◌, min}
use native.Mathlib.Numerals.{add-one}
use mathlib.Core.Path.{◌≡◌, refl, sym, ◌∙◌, ap, subst}
use mathlib.Core.Bool.{Bool, true, false, cond}
use mathlib.Core.List.{List, [], ◌∷◌, ◌++◌}
use lib.ListN.{length, get_or, drop}
use Rattle.kat.specs.Lists.{upto, filter}
use Rattle.claims.specs.Bytes.{text}
use Rattle.claims.specs.Query.{bit}
use Rattle.claims.specs.GraphBytes.{Edge}
use Rattle.claims.specs.GraphWriting.{joined, edge_of}
use Rattle.texts.specs.Lines.{name_at}
use Rattle.print_line.specs.Puts.{Puts}
use Rattle.print_line.proofs.Putting.{puts_start, puts_append, puts_bytes}
use Rattle.print_line.proofs.Pieces.{Left, left_begin, left_more, left_end}
use Rattle.dot.specs.DotText.{is_step, test_text, tests_text, event_line, event_lines, style_text, edge_line, edge_lines, atoms_in, edges_in, listed_in, graph_text, dot_text}
use Rattle.dot.proofs.Listing.{event_at, event_more, event_none, edge_more, edge_none}

-- the end of an edge's line, by whether it is a step
pub style_solid : {l m : List ℕ} {at to : ℕ} {step : Bool} → step ≡ true → Puts l at (text "\"];\n") to m → Puts l at (style_text step) to m
unfolding style_text
style_solid e p = puts_bytes (ap style_text (sym e)) p

pub style_dashed : {l m : List ℕ} {at to : ℕ} {step : Bool} → step ≡ false → Puts l at (text "\", style=dashed];\n") to m → Puts l at (style_text step) to m
unfolding style_text
style_dashed e p = puts_bytes (ap style_text (sym e)) p

-- the tests that hold, among all
abbrev pub a_test : List ℕ → ℕ → ℕ → List ℕ
a_test query a i = cond (bit i a) (test_text query i) []

pub test_holds : {l m o : List ℕ} {at x to : ℕ} (query : List ℕ) (a i : ℕ) → bit i a ≡ true → Puts l at (32 ∷ []) x m
    → Puts m x (name_at (text "test") i query) to o → Puts l at (a_test query a i) to o
unfolding test_text
test_holds query a i e p q = puts_bytes (ap (λ (b : Bool). cond b (test_text query i) []) (sym e)) (puts_append p q)

pub test_fails : (l : List ℕ) (at to : ℕ) (query : List ℕ) (a i : ℕ) → bit i a ≡ false → to ≡ min at (length l) → Puts l at (a_test query a i) to l
test_fails l at to query a i e k = puts_bytes (ap (λ (b : Bool). cond b (test_text query i) []) (sym e)) (puts_start l at to k)

pub tests_begin : (l : List ℕ) (at to : ℕ) (query : List ℕ) (a : ℕ) → to ≡ min at (length l)
    → Left l at (tests_text query a) l to (joined (a_test query a) (upto 0 6))
unfolding tests_text
tests_begin l at to query a e =
    subst (λ (bs : List ℕ). Left l at bs l to (joined (a_test query a) (upto 0 6))) (chosen (upto 0 6)) (left_begin l at to (joined (a_test query a) (upto 0 6)) e)
  where
    chosen : (is : List ℕ) → joined (a_test query a) is ≡ joined (test_text query) (filter (λ i. bit i a) is)
    chosen [] = refl
    chosen (i ∷ is) = go (bit i a) (chosen is)
      where
        go : (b : Bool) → joined (a_test query a) is ≡ joined (test_text query) (filter (λ j. bit j a) is)
            → cond b (test_text query i) [] ++ joined (a_test query a) is
            ≡ joined (test_text query) (cond b (i ∷ filter (λ j. bit j a) is) (filter (λ j. bit j a) is))
        go true h = ap (λ (bs : List ℕ). test_text query i ++ bs) h
        go false h = h

-- the line of an event, and no more events
pub events_more : {l m o : List ℕ} {at to next : ℕ} {all : List ℕ} (query g : List ℕ) (e i : ℕ) → event_at g i ≡ true
    → Left l at all m to (event_lines query e (atoms_in (drop i g))) → Puts m to (event_line query e (get_or g (i + 3) 0)) next o
    → Left l at all o next (event_lines query (e + 1) (atoms_in (drop (i + 4) g)))
unfolding event_lines
events_more {l} {m} {o} {at} {to} {next} {all} query g e i h L p =
    let rest : ℕ → List ℕ = λ k. event_lines query k (atoms_in (drop (i + 4) g)) in
    left_more (event_line query e (get_or g (i + 3) 0)) (rest (e + 1))
    (subst (Left l at all m to)
    (ap (event_lines query e) (event_more g i h) ∙ ap (λ (k : ℕ). event_line query e (get_or g (i + 3) 0) ++ rest k) (sym (add-one e))) L) p

pub events_end : {l m : List ℕ} {at to : ℕ} {all : List ℕ} (query g : List ℕ) (e i : ℕ) → event_at g i ≡ false
    → Left l at all m to (event_lines query e (atoms_in (drop i g))) → Puts l at all to m
unfolding event_lines
events_end {l} {m} {at} {to} {all} query g e i h L = left_end (subst (Left l at all m to) (ap (event_lines query e) (event_none g i h)) L)

-- the line of an edge, and no more edges
pub edges_more : {l m o : List ℕ} {at to next : ℕ} {all : List ℕ} {step : Bool} (query w bs : List ℕ) (n i : ℕ) → i + 6 ≤ length bs
    → Left l at all m to (edge_lines query w n (edges_in (drop i bs))) → step ≡ is_step w n (get_or bs (i + 3) 0) (get_or bs (i + 4) 0) (get_or bs (i + 5) 0)
    → Puts m to (edge_line query step (edge_of (get_or bs (i + 3) 0) (get_or bs (i + 4) 0) (get_or bs (i + 5) 0))) next o
    → Left l at all o next (edge_lines query w n (edges_in (drop (i + 6) bs)))
unfolding edge_lines
edges_more {l} {m} {o} {at} {to} {next} {all} {step} query w bs n i h L s p =
    let e : Edge = edge_of (get_or bs (i + 3) 0) (get_or bs (i + 4) 0) (get_or bs (i + 5) 0) in
    left_more (edge_line query (is_step w n e.relation e.from e.to) e) (edge_lines query w n (edges_in (drop (i + 6) bs)))
    (subst (Left l at all m to) (ap (edge_lines query w n) (edge_more bs i h)) L) (puts_bytes (ap (λ (b : Bool). edge_line query b e) s) p)

pub edges_end : {l m : List ℕ} {at to : ℕ} {all : List ℕ} (query w bs : List ℕ) (n i : ℕ) → length bs < i + 6
    → Left l at all m to (edge_lines query w n (edges_in (drop i bs))) → Puts l at all to m
unfolding edge_lines
edges_end {l} {m} {at} {to} {all} query w bs n i h L = left_end (subst (Left l at all m to) (ap (edge_lines query w n) (edge_none bs i h)) L)

-- the whole text
pub text_whole : {l m o p q : List ℕ} {a b c d n : ℕ} {es : List ℕ} (query w g : List ℕ) → n ≡ length (atoms_in g) → es ≡ drop (4 * n) g
    → Puts l 0 (text "digraph counterexample {\n  rankdir=LR;\n  node [shape=box];\n") a m → Puts m a (event_lines query 0 (atoms_in g)) b o
    → Puts o b (edge_lines query w n (edges_in es)) c p → Puts p c (text "}\n") d q → Puts l 0 (dot_text query w g) d q
unfolding dot_text graph_text listed_in
text_whole {l} {m} {o} {p} {q} {a} {b} {c} {d} {n} {es} query w g h k one two three four =
    let lines : edge_lines query w n (edges_in es) ≡ edge_lines query w (length (atoms_in g)) (edges_in (drop (4 * length (atoms_in g)) g)) =
    ap (λ (cs : List ℕ). edge_lines query w n (edges_in cs)) k ∙ ap (λ (j : ℕ). edge_lines query w j (edges_in (drop (4 * j) g))) h in
    puts_append one (puts_append two (puts_append (puts_bytes lines three) four))
