-- The judgement of a graph. (Document 01, "Sheet and graph bytes", last paragraph.) It is the first line of `never`, `within`,
-- `closed` or `assume` that the graph breaks, or 0; and whether the claim holds, with the lowest breaking event or pair. Here
-- relations mean the listed edges: a graph is judged by `meant` with single steps, and not by what relations stand for.
-- Assumes nothing.
use Rattle.std.specs.Prelude.{ℕ, suc, Bool, true, false, not, ◌&&◌, ◌||◌, List, [], ◌∷◌, eqb, length, get_or}
use Rattle.kat.specs.Expr.{Expr, step, test, alt, seq, plus}
use Rattle.kat.specs.Lists.{upto, some}
use Rattle.kat.specs.Closure.{Table, table, entry, closure}
use Rattle.kat.specs.Graph.{Finite}
use Rattle.notation.specs.Tree.{Tree, Claim, includes, empty, irreflexive, Line, test_line, rel_line, let_line, never_line, within_line, closed_line, assume_empty, assume_irreflexive, claim_line}
use Rattle.notation.specs.Query.{Query, tests, relations, index_of, holds}
use Rattle.notation.specs.Sides.{meant, single}

module _ (G : Finite) where
  -- the events of the graph, by number ("Sheet and graph bytes")
  unfoldable pub events : List ℕ
  events = upto 0 (length G.atoms)

  -- the pairs of events that E relates; k is the number of relations ("Sheet and graph bytes")
  unfoldable pub pairs_of : ℕ → Expr → Table
  pairs_of k (step s) = table (length G.atoms) (λ x y. some (λ r. s r && G.edges r x y) (upto 0 k))
  pairs_of k (test s) = table (length G.atoms) (λ x y. eqb x y && s (get_or G.atoms x 0))
  pairs_of k (alt e f) =
      let t : Table = pairs_of k e in
      let u : Table = pairs_of k f in
      table (length G.atoms) (λ x y. entry t x y || entry u x y)
  pairs_of k (seq e f) =
      let t : Table = pairs_of k e in
      let u : Table = pairs_of k f in
      table (length G.atoms) (λ x y. some (λ z. entry t x z && entry u z y) events)
  pairs_of k (plus e) =
      let t : Table = pairs_of k e in
      closure (length G.atoms) (entry t)

  -- some pair of events passes the test ("Sheet and graph bytes")
  unfoldable pub some_pair : (ℕ → ℕ → Bool) → Bool
  some_pair f = some (λ x. some (f x) events) events

  module _ (q : Query) where
    -- the pairs of an expression as written, relations by their listed edges ("Sheet and graph bytes")
    unfoldable pub judged : Tree → Table
    judged e = pairs_of (length (relations q)) (meant q (single q) e)

    -- the graph breaks the line ("Sheet and graph bytes")
    unfoldable pub breaks : Line → Bool
    breaks (test_line n) = false
    breaks (rel_line n) = false
    breaks (let_line n e) = false
    breaks (never_line t) = some (λ x. holds (tests q) t (get_or G.atoms x 0)) events
    breaks (within_line n t u) =
        some_pair (λ x y.
        G.edges (index_of n (relations q)) x y
        && not (holds (tests q) t (get_or G.atoms x 0) && holds (tests q) u (get_or G.atoms y 0)))
    breaks (closed_line n) =
        let r : ℕ = index_of n (relations q) in
        some_pair (λ x y. G.edges r x y && some (λ z. G.edges r y z && not (G.edges r x z)) events)
    breaks (assume_empty e) = let t : Table = judged e in some_pair (entry t)
    breaks (assume_irreflexive e) = let t : Table = judged e in some (λ x. entry t x x) events
    breaks (claim_line c) = false

    -- the first of the lines that is broken, the first of them being line n; 0 if none is ("Sheet and graph bytes")
    unfoldable pub first_broken : ℕ → List Line → ℕ
    first_broken n [] = 0
    first_broken n (l ∷ ls) = elim (breaks l) [ true ↦ n | false ↦ first_broken (suc n) ls ]

-- whether the claim holds, or the event or pair that breaks it ("Sheet and graph bytes")
pub data Outcome : Type 0 where
  holds_in : Outcome
  breaks_at : ℕ → Outcome
  breaks_from : ℕ → ℕ → Outcome

-- the lowest event of the list that passes the test ("Sheet and graph bytes")
unfoldable pub lowest_event : (ℕ → Bool) → List ℕ → Outcome
lowest_event f [] = holds_in
lowest_event f (x ∷ xs) = elim (f x) [ true ↦ breaks_at x | false ↦ lowest_event f xs ]

-- the lowest y with which x passes the test ("Sheet and graph bytes")
unfoldable pub lowest_to : (ℕ → ℕ → Bool) → ℕ → List ℕ → Outcome
lowest_to f x [] = holds_in
lowest_to f x (y ∷ ys) = elim (f x y) [ true ↦ breaks_from x y | false ↦ lowest_to f x ys ]

-- the first of two outcomes that breaks ("Sheet and graph bytes")
abbrev pub or_else : Outcome → Outcome → Outcome
or_else holds_in o = o
or_else (breaks_at x) o = breaks_at x
or_else (breaks_from x y) o = breaks_from x y

-- the lowest pair by from, then to, that passes the test ("Sheet and graph bytes")
unfoldable pub lowest_pair : (ℕ → ℕ → Bool) → List ℕ → List ℕ → Outcome
lowest_pair f ys [] = holds_in
lowest_pair f ys (x ∷ xs) = or_else (lowest_to f x ys) (lowest_pair f ys xs)

-- the claim on the graph: `include`: each left pair a right one; `empty`: no pair; `irreflexive`: no event with itself ("Sheet and graph bytes")
unfoldable pub claimed : Finite → Query → Claim → Outcome
claimed G q (includes e f) =
    let t : Table = judged G q e in
    let u : Table = judged G q f in
    lowest_pair (λ x y. entry t x y && not (entry u x y)) (events G) (events G)
claimed G q (empty e) = let t : Table = judged G q e in lowest_pair (entry t) (events G) (events G)
claimed G q (irreflexive e) = let t : Table = judged G q e in lowest_event (λ x. entry t x x) (events G)

-- the first line that is broken, or 0, and what becomes of the claim ("Sheet and graph bytes")
pub record Judgement : Type 0 where
  pub line : ℕ
  pub outcome : Outcome

-- the graph that is judged: here relations mean the listed edges, and nothing is closed ("Sheet and graph bytes")
abbrev pub judged_graph : Query → Finite → Finite
judged_graph q G = G

-- the judgement of a graph ("Sheet and graph bytes")
unfoldable pub judgement : Finite → Query → Claim → Judgement
judgement G q c =
    let H : Finite = judged_graph q G in
    record { line = first_broken H q 1 q; outcome = claimed H q c }
