-- The draw call: its result, and what it leaves in the lent memory, as a function of its input. (Document 01, "Words", Drawn graph, and "Sheet and
-- graph bytes".) The query is read and the sheet is checked as the sheet check does it, refusals 1 to 8, 13 and 14; a sheet that passes as
-- refuted gives the bytes of the graph drawn from its word, where it has at most 64 events and the memory is long enough.
-- Assumes nothing.
use Rattle.std.specs.Prelude.{ℕ, true, false, List, ◌++◌, leb, length, drop}
use Rattle.kat.specs.Graph.{Finite}
use Rattle.kat.specs.Word.{Word}
use Rattle.claims.specs.Query.{relations}
use Rattle.claims.specs.Refusals.{does_not_pass, Result, ok, refused, refuse}
use Rattle.claims.specs.Calls.{Asked, asked}
use Rattle.claims.specs.SheetReading.{Said, says_proved, says_refuted, sheet_in}
use Rattle.claims.specs.Passing.{passes}
use Rattle.claims.specs.Drawn.{drawn}
use Rattle.claims.specs.GraphWriting.{graph_bytes, listed_of}

-- a graph of so many bytes, a graph of so many events, more than 64, a sheet that says proved, or memory shorter than the graph ("Words")
pub data Picture : Type 0 where
  graph_of : ℕ → Picture
  too_large : ℕ → Picture
  said_proved : Picture
  too_short : Picture

-- the result of the call, and what is in the lent memory after it ("Refusals with an example each")
pub record Drew : Type 0 where
  pub result : Result Picture
  pub out : List ℕ

-- a graph of n events with the bytes gs, for lent memory: only a graph that is not too large and fits changes it ("Sheet and graph bytes")
unfoldable pub drew : ℕ → List ℕ → List ℕ → Drew
drew n gs out =
    elim (leb n 64) [
      | false ↦ record { result = ok (too_large n); out = out }
      | true ↦ elim (leb (length gs) (length out)) [
        | false ↦ record { result = ok too_short; out = out }
        | true ↦ record { result = ok (graph_of (length gs)); out = gs ++ drop (length gs) out }
      ]
    ]

-- the graph drawn from a word by what is asked ("Words")
abbrev pub drawn_for : Asked → Word → Finite
drawn_for a w = drawn a.query a.decided.ring w

-- its bytes: the events, and the edges by relation, from and to ("Sheet and graph bytes")
unfoldable pub drawn_bytes : Asked → Word → List ℕ
drawn_bytes a w = graph_bytes (listed_of (drawn_for a w) (length (relations a.query)))

-- what a passing sheet says, drawn ("Sheet and graph bytes")
unfoldable pub draw_said : (a : Asked) → Said a.decided → List ℕ → Drew
draw_said a (says_proved ss) out = record { result = ok said_proved; out = out }
draw_said a (says_refuted w) out = drew (length (drawn_for a w).atoms) (drawn_bytes a w) out

-- the sheet read, 13 for a wrong field, and tested, 14 where it does not pass ("Refusals with an example each")
unfoldable pub draw_sheet : Asked → List ℕ → List ℕ → Drew
draw_sheet a sheet out =
    elim (sheet_in a.decided sheet) [
      | refused r ↦ record { result = refused r; out = out }
      | ok s ↦ elim (passes a.decided s) [
        | false ↦ record { result = refuse does_not_pass 0; out = out }
        | true ↦ draw_said a s out
      ]
    ]

-- the draw call: refusals 1 to 8, 13 and 14 ("Refusals with an example each")
unfoldable pub draw_call : List ℕ → List ℕ → List ℕ → Drew
draw_call text sheet out =
    elim (asked text) [ refused r ↦ record { result = refused r; out = out } | ok a ↦ draw_sheet a sheet out ]
