-- What the words of a graph say: for each relation a row for each event, and then the events' atoms. (Document 01, "Sheet and graph bytes".)
-- Assumes nothing.
use Rattle.std.specs.Prelude.{ℕ, ◌+◌, ◌*◌, cond, List, ltb, get_or, drop}
use Rattle.codes.specs.Codes.{MOST-RELATIONS}
use Rattle.memory.specs.Memory.{words}
use Rattle.rows.specs.Rows.{blank, events_in}
use Rattle.graph_read.specs.Layout.{MOST-EVENTS, ATOMS-AT}

-- the listed edges of relation r
unfoldable pub relation_rows : List ℕ → ℕ → List ℕ
relation_rows L r = cond (ltb r MOST-RELATIONS) (words MOST-EVENTS (λ x. get_or L (MOST-EVENTS * r + x) 0)) blank

-- those of n events whose atom is in the set
unfoldable pub events_with : List ℕ → ℕ → ℕ → ℕ
events_with L n s = events_in (drop ATOMS-AT L) n s
