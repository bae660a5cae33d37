-- The kinds of lines by their places in the table of line kinds, and what names they declare. (Document 01, "The query".)
-- Assumes nothing.
use Rattle.std.specs.Prelude.{ℕ, Option, Some, None, List, [], ◌∷◌}
use Rattle.codes.specs.Codes.{A-TEST, A-RELATION, A-LET}
use Rattle.read_lines.specs.declared.LineKind.{LineKind}
use Rattle.read_lines.specs.declared.LineKind.TheVariants.{Test, Rel, Let, Never, Within, Closed, Assume, Claim}

-- the place of a kind in the document's table
abbrev pub number_of : LineKind → ℕ
number_of Test = 0
number_of Rel = 1
number_of Let = 2
number_of Never = 3
number_of Within = 4
number_of Closed = 5
number_of Assume = 6
number_of Claim = 7

-- the place of a kind, or the number of kinds where there is none
abbrev pub place_among : Option LineKind → ℕ
place_among None = 8
place_among (Some k) = number_of k

-- the code of the names that a line of the kind declares
abbrev pub declares : LineKind → Option ℕ
declares Test = Some A-TEST
declares Rel = Some A-RELATION
declares Let = Some A-LET
declares Never = None
declares Within = None
declares Closed = None
declares Assume = None
declares Claim = None

-- all kinds, in the document's order
abbrev pub all_kinds : List LineKind
all_kinds = Test ∷ Rel ∷ Let ∷ Never ∷ Within ∷ Closed ∷ Assume ∷ Claim ∷ []
