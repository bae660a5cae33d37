-- What the reading of a graph answers, and what it leaves in lent memory, for every list of bytes. (Document 01, "Sheet and graph bytes" and
-- refusal 12.) `Layout.antt` has where what stands in the memory.
-- Assumes nothing.
use Rattle.std.specs.Prelude.{ℕ, ◌-◌, ◌/◌, ◌%◌, ◌≡◌, cond, List, ltb, length, get_or, Ok, Err, Result as StdResult}
use Rattle.kat.specs.Lists.{upto, filter}
use Rattle.claims.specs.Fields.{set_number}
use Rattle.claims.specs.Refusals.{graph_field, Result, ok, refused}
use Rattle.claims.specs.GraphBytes.{Listed, finite}
use Rattle.memory.specs.Memory.{words, zeros}
use Rattle.graph_read.specs.Layout.{MOST-EVENTS, ATOMS-AT, GRAPH}

-- the events to which relation r leads from event x, as a set ("Sheet and graph bytes")
unfoldable pub edges_from : Listed → ℕ → ℕ → ℕ
edges_from G r x = set_number 0 (filter (λ y. (finite G).edges r x y) (upto 0 MOST-EVENTS))

-- a row for each event, relation after relation, and then the events' atoms ("Sheet and graph bytes")
unfoldable pub listed_words : Listed → List ℕ
listed_words G = words GRAPH (λ k. cond (ltb k ATOMS-AT) (edges_from G (k / MOST-EVENTS) (k % MOST-EVENTS)) (get_or G.atoms (k - ATOMS-AT) 0))

-- what is left in memory: the graph, or zeros after a refusal
unfoldable pub left_words : Result Listed → List ℕ
left_words (ok G) = listed_words G
left_words (refused r) = zeros GRAPH

-- the answer says what was read: the number of events, or the first wrong field (refusal 12)
abbrev pub Says : Result Listed → StdResult ℕ ℕ → Type 0
Says (ok G) (Ok n) = n ≡ length G.atoms
Says (ok G) (Err k) = ⊥
Says (refused r) (Ok n) = ⊥
Says (refused r) (Err k) = (r.cause ≡ graph_field) × (r.place ≡ k)
