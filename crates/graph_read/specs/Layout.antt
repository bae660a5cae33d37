-- Where what stands in the memory of a graph, by name. (Document 01, "Sheet and graph bytes".) For each relation the row of each event, bit y of
-- row x being the edge from x to y; and then the atoms of the events. The same numbers have the same names in the code.
-- Assumes nothing.
use Rattle.std.specs.Prelude.{ℕ}

-- the events that a graph may have
abbrev pub MOST-EVENTS : ℕ
MOST-EVENTS = 64

-- where the events' atoms begin, behind the rows of all relations
abbrev pub ATOMS-AT : ℕ
ATOMS-AT = 1024

-- the words of a graph
abbrev pub GRAPH : ℕ
GRAPH = 1088
