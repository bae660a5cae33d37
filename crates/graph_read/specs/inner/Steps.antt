-- A graph read so far, as the reader's loop holds it, and what one field more makes of it. (Document 01, "Sheet and graph bytes" and refusal
-- 12.)
-- Assumes nothing.
use Rattle.std.specs.Prelude.{ℕ, ◌≤◌, ◌<◌, ◌≡◌, Bool, true, false, not, List, length, drop, Some, None, Option as StdOption, Ok, Err, Result as StdResult}
use Rattle.std.proofs.Math.Option.{Option, some, none}
use Rattle.kat.specs.Lists.{is_empty}
use Rattle.claims.specs.Fields.{next_field, after_field}
use Rattle.claims.specs.GraphBytes.{Listed}
use Rattle.graph_read.specs.Layout.{MOST-EVENTS}
use Rattle.graph_read.specs.Reading.{listed_words}
use Rattle.graph_read.specs.declared.Turn.{Turn}

-- G is held: it has n events, the memory lists it, and whether it has an edge is noted ("Sheet and graph bytes")
pub record Held (G : Listed) (n : ℕ) (edged : Bool) (ws : List ℕ) : Type 0 where
  pub events : n ≡ length G.atoms
  pub few : n ≤ MOST-EVENTS
  pub edge : edged ≡ not (is_empty G.edges)
  pub listed : ws ≡ listed_words G

-- what the contents of a field make of the graph is held, where they are taken; and they are taken where they make one ("Sheet and graph
-- bytes")
abbrev pub Takes : Option Listed → Bool → ℕ → Bool → List ℕ → Type 0
Takes none true n edged ws = ⊥
Takes none false n edged ws = Unit {0}
Takes (some H) true n edged ws = Held H n edged ws
Takes (some H) false n edged ws = ⊥

-- the same of the field at a place, behind which the next one starts ("Sheet and graph bytes")
abbrev pub Turns : List ℕ → ℕ → Option Listed → List ℕ → StdOption Turn → Type 0
Turns bs at none ws (Some t) = ⊥
Turns bs at none ws None = Unit {0}
Turns bs at (some H) ws (Some t) =
    (at < t.next) × (t.next ≤ length bs) × (after_field (next_field (drop at bs)) ≡ drop t.next bs) × Held H t.events t.edged ws
Turns bs at (some H) ws None = ⊥

-- the memory after a whole reading; after a wrong field it may be anything ("Sheet and graph bytes")
abbrev pub Leaves : StdResult ℕ ℕ → List ℕ → List ℕ → Type 0
Leaves (Ok n) ws left = ws ≡ left
Leaves (Err k) ws left = Unit {0}
