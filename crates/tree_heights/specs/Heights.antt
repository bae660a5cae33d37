-- How many relations an expression needs at once, where it is worked out from the left: a union or a sequence keeps its left side while it
-- works out its right side. (Document 01, "The query": chains group to the left, and brackets are 32 deep.)
-- Assumes nothing.
use Rattle.std.specs.Prelude.{ℕ, suc, ◌≤◌, max, List, [], ◌∷◌}
use Rattle.claims.specs.Tree.{Tree, name, tested, union, sequence, star, plus, opt, Claim, includes, empty, irreflexive, Line, test_line, rel_line, let_line, never_line, within_line, closed_line, assume_empty, assume_irreflexive, claim_line}

-- the relations that are kept at once at the most
unfoldable pub height : Tree → ℕ
height (name n) = 1
height (tested t) = 1
height (union e f) = max (height e) (suc (height f))
height (sequence e f) = max (height e) (suc (height f))
height (star e) = height e
height (plus e) = height e
height (opt e) = height e

-- no expression read from a line is higher: 1, and 2 for each of 32 brackets and for the line itself
abbrev pub HIGHEST : ℕ
HIGHEST = 67

-- the expressions of a line are no higher
abbrev pub LowClaim : Claim → Type 0
LowClaim (includes e f) = (height e ≤ HIGHEST) × (height f ≤ HIGHEST)
LowClaim (empty e) = height e ≤ HIGHEST
LowClaim (irreflexive e) = height e ≤ HIGHEST

abbrev pub LowLine : Line → Type 0
LowLine (test_line n) = Unit {0}
LowLine (rel_line n) = Unit {0}
LowLine (let_line n e) = height e ≤ HIGHEST
LowLine (never_line t) = Unit {0}
LowLine (within_line n t u) = Unit {0}
LowLine (closed_line n) = Unit {0}
LowLine (assume_empty e) = height e ≤ HIGHEST
LowLine (assume_irreflexive e) = height e ≤ HIGHEST
LowLine (claim_line c) = LowClaim c

-- those of all lines
abbrev pub LowLines : List Line → Type 0
LowLines [] = Unit {0}
LowLines (l ∷ ls) = LowLine l × LowLines ls
