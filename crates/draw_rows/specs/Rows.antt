-- The edges of a drawn graph as sets: a relation is a table of 64 rows, and bit y of row x is the edge from event x to event y. (Document 01,
-- "Words", Drawn graph.) A word is given by its numbers: atom, relation, atom, .., atom, so that the relation of the step from event x
-- stands at place 2 x + 1. Which relations are closed is a set too (`side_relations`).
-- Assumes nothing.
use Rattle.std.specs.Prelude.{ℕ, ◌+◌, ◌*◌, ◌/◌, Bool, cond, List, eqb, ltb, leb, length, get_or}
use Rattle.memory.specs.Memory.{words}
use Rattle.bits.specs.Sets.{including}
use Rattle.claims.specs.Query.{bit}
use Rattle.rows.specs.Rows.{blank, rounds}

-- how many events the graph of a word of so many numbers has, in a line (false) or in a ring (true) ("Words")
unfoldable pub event_count : Bool → ℕ → ℕ
event_count ring size = cond ring (cond (ltb size 2) 1 (size / 2)) (size / 2 + 1)

-- the event after x among n events; after the last comes the first ("Words")
unfoldable pub next_event : ℕ → ℕ → ℕ
next_event n x = cond (eqb (x + 1) n) 0 (x + 1)

-- the step from event x, where it is one of relation r ("Words")
unfoldable pub step_row : List ℕ → ℕ → ℕ → ℕ → ℕ
step_row bs n r x =
    cond (leb (length bs) (2 * x + 1)) 0 (cond (eqb (get_or bs (2 * x + 1) 0) r) (including 64 0 (next_event n x)) 0)

-- the steps of relation r ("Words")
unfoldable pub step_rows : List ℕ → ℕ → ℕ → List ℕ
step_rows bs n r = words 64 (step_row bs n r)

-- the edges of relation r among n events, closed or not ("Words")
unfoldable pub relation_rows : List ℕ → ℕ → ℕ → Bool → List ℕ
relation_rows bs n r closed = cond closed (rounds (step_rows bs n r) n n) (step_rows bs n r)

-- the edges of each relation, where `closed` has the closed relations: what is drawn ("Words")
unfoldable pub drawn_rows : List ℕ → ℕ → ℕ → ℕ → List ℕ
drawn_rows bs n closed r = relation_rows bs n r (bit r closed)

-- the table of a relation in memory; past it a blank one
unfoldable pub table_at : List (List ℕ) → ℕ → List ℕ
table_at ts r = get_or ts r blank
