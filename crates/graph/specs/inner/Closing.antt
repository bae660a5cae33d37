-- The words of the graph that is judged, from those of the graph as listed. (Document 01, "Sheet and graph bytes": here relations mean the listed
-- edges; `judged_graph` of `claims` says the same of graphs.)
-- Assumes nothing.
use Rattle.std.specs.Prelude.{ℕ, List}

-- nothing is closed
abbrev pub judged_words : ℕ → List ℕ → List ℕ
judged_words n L = L
