-- The text of a drawn graph for the program `dot`: a line for each event and one for each edge, by the query's own names. (Document 01, "Words",
-- Drawn graph, and "Sheet and graph bytes"; the words of the text are ours.) Bytes that are no graph have a text too: that of the events and
-- edges that they begin with.
-- Assumes nothing.
use Rattle.std.specs.Prelude.{ℕ, suc, ◌+◌, ◌*◌, Bool, false, cond, List, [], ◌∷◌, ◌++◌, eqb, leb, length, get_or, drop}
use Rattle.kat.specs.Lists.{upto, filter}
use Rattle.claims.specs.Bytes.{text}
use Rattle.claims.specs.Query.{bit}
use Rattle.claims.specs.Printed.{decimal}
use Rattle.claims.specs.GraphBytes.{Edge, Listed}
use Rattle.claims.specs.GraphWriting.{joined, edge_of}
use Rattle.texts.specs.Lines.{name_at}

-- in a graph of so many events the edge of relation r is a step of the word, whose numbers are given: the relation behind the event where it
-- begins, to the next event, or from the last to the first ("Words", Drawn graph)
unfoldable pub is_step : List ℕ → ℕ → ℕ → ℕ → ℕ → Bool
is_step w count r from to =
    cond (leb (length w) (2 * from + 1)) false
    (cond (eqb (get_or w (2 * from + 1) 0) r) (cond (eqb (from + 1) count) (eqb to 0) (eqb to (from + 1))) false)

-- a test of the query by its number: its name behind a space ("The query")
unfoldable pub test_text : List ℕ → ℕ → List ℕ
test_text query i = 32 ∷ name_at (text "test") i query

-- the tests that hold by an atom; a query has at most six ("Words")
unfoldable pub tests_text : List ℕ → ℕ → List ℕ
tests_text query a = joined (test_text query) (filter (λ i. bit i a) (upto 0 6))

-- the line of event e with atom a: its number, and the tests that hold of it ("Words", Drawn graph)
unfoldable pub event_line : List ℕ → ℕ → ℕ → List ℕ
event_line query e a =
    text "  " ++ (decimal e ++ (text " [label=\"" ++ (decimal e ++ (tests_text query a ++ text "\"];\n"))))

-- the lines of events with these atoms, numbered from e on ("Words", Drawn graph)
unfoldable pub event_lines : List ℕ → ℕ → List ℕ → List ℕ
event_lines query e [] = []
event_lines query e (a ∷ rest) = event_line query e a ++ event_lines query (suc e) rest

-- the end of the line of an edge: a step of the word is solid, an edge that comes from closing is dashed ("Words", Drawn graph)
unfoldable pub style_text : Bool → List ℕ
style_text step = cond step (text "\"];\n") (text "\", style=dashed];\n")

-- the line of an edge with its relation's name ("Words", Drawn graph)
unfoldable pub edge_line : List ℕ → Bool → Edge → List ℕ
edge_line query step e =
    text "  " ++ (decimal e.from ++ (text " -> " ++ (decimal e.to
    ++ (text " [label=\"" ++ (name_at (text "rel") e.relation query ++ style_text step)))))

-- the lines of edges of a graph of n events that is drawn from the word w ("Words", Drawn graph)
unfoldable pub edge_lines : List ℕ → List ℕ → ℕ → List Edge → List ℕ
edge_lines query w n = joined (λ e. edge_line query (is_step w n e.relation e.from e.to) e)

-- the text of a graph that is drawn from the word w ("Words", Drawn graph)
unfoldable pub graph_text : List ℕ → List ℕ → Listed → List ℕ
graph_text query w G =
    text "digraph counterexample {\n  rankdir=LR;\n  node [shape=box];\n"
    ++ (event_lines query 0 G.atoms ++ (edge_lines query w (length G.atoms) G.edges ++ text "}\n"))

-- the atoms of the events with which the bytes begin, a field of four bytes each ("Sheet and graph bytes")
unfoldable pub atoms_in : List ℕ → List ℕ
atoms_in [] = []
atoms_in (t ∷ []) = []
atoms_in (t ∷ h ∷ []) = []
atoms_in (t ∷ h ∷ l ∷ []) = []
atoms_in (t ∷ h ∷ l ∷ a ∷ bs) = cond (eqb t 1) (a ∷ atoms_in bs) []

-- the edges that the bytes are, a field of six bytes each, up to one that is cut ("Sheet and graph bytes")
unfoldable pub edges_in : List ℕ → List Edge
edges_in [] = []
edges_in (t ∷ []) = []
edges_in (t ∷ h ∷ []) = []
edges_in (t ∷ h ∷ l ∷ []) = []
edges_in (t ∷ h ∷ l ∷ r ∷ []) = []
edges_in (t ∷ h ∷ l ∷ r ∷ x ∷ []) = []
edges_in (t ∷ h ∷ l ∷ r ∷ x ∷ y ∷ bs) = edge_of r x y ∷ edges_in bs

-- the events and edges that the bytes list ("Sheet and graph bytes")
unfoldable pub listed_in : List ℕ → Listed
listed_in bs = record { atoms = atoms_in bs; edges = edges_in (drop (4 * length (atoms_in bs)) bs) }

-- the text of the graph that the bytes list ("Words", Drawn graph)
unfoldable pub dot_text : List ℕ → List ℕ → List ℕ → List ℕ
dot_text query w bs = graph_text query w (listed_in bs)
