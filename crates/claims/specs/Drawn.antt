-- The drawn graph of a word. (Document 01, "Words", Drawn graph.) Path claim: length + 1 events in a line. Ring claim: as many events
-- as the length, one for length 0, the last step returning to the first event. Atoms and steps as in the word, closed relations
-- then closed.
-- Assumes nothing.
use Rattle.std.specs.Prelude.{ℕ, suc, Bool, true, false, cond, List, [], ◌∷◌, eqb, length, get_or}
use Rattle.kat.specs.Closure.{entry, closure}
use Rattle.kat.specs.Graph.{Finite}
use Rattle.kat.specs.Word.{Word, end, at, size}
use Rattle.notation.specs.Query.{Query, relations, closed}
use Rattle.claims.specs.GraphBytes.{Edge, Listed, finite}

-- the atoms of a line of events ("Words")
unfoldable pub line_atoms : Word → List ℕ
line_atoms (end a) = a ∷ []
line_atoms (at a r w) = a ∷ line_atoms w

-- the atoms of a word without the last ("Words")
unfoldable pub all_but_last : Word → List ℕ
all_but_last (end a) = []
all_but_last (at a r w) = a ∷ all_but_last w

-- as many events as the length, one for length 0 ("Words")
unfoldable pub ring_atoms : Word → List ℕ
ring_atoms (end a) = a ∷ []
ring_atoms (at a r w) = a ∷ all_but_last w

-- the steps of a line of events, from event x on ("Words")
unfoldable pub line_steps : ℕ → Word → List Edge
line_steps x (end a) = []
line_steps x (at a r w) = record { relation = r; from = x; to = suc x } ∷ line_steps (suc x) w

-- the steps of a ring of n events, from event x on ("Words")
unfoldable pub ring_steps : ℕ → ℕ → Word → List Edge
ring_steps n x (end a) = []
ring_steps n x (at a r w) =
    record { relation = r; from = x; to = cond (eqb (suc x) n) 0 (suc x) } ∷ ring_steps n (suc x) w

-- the events and the single steps of a word, in a line or in a ring ("Words")
unfoldable pub steps_of : Bool → Word → Listed
steps_of false w = record { atoms = line_atoms w; edges = line_steps 0 w }
steps_of true w = record { atoms = ring_atoms w; edges = ring_steps (size w) 0 w }

-- closed relations closed ("Words")
unfoldable pub filled : Query → Finite → Finite
filled q G =
    record {
      atoms = G.atoms;
      edges = λ r x y.
          elim (closed q (get_or (relations q) r [])) [
            | true ↦ entry (closure (length G.atoms) (G.edges r)) x y
            | false ↦ G.edges r x y
          ];
    }

-- the drawn graph: the steps of the word, closed relations then closed ("Words")
unfoldable pub drawn : Query → Bool → Word → Finite
drawn q ring w = filled q (finite (steps_of ring w))
