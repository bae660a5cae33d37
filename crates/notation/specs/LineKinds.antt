-- The kinds of line, the word that begins each, and what a line holds: its name, its conditions, its expression, its statement.
-- (Document 01, "The query".) This is the one table of line words: the reserved words (Tokens) and the readers of lines (Lines) go by
-- it. What a query says (Names, Query) goes by kinds and by what lines hold.
-- Assumes nothing.
use Rattle.std.specs.Prelude.{ℕ, Bool, true, false, List, [], ◌∷◌}
use Rattle.notation.specs.Bytes.{text, same}
use Rattle.notation.specs.Tree.{Name, TestTree, Tree, Claim, empty, irreflexive, Line, test_line, rel_line, let_line, never_line, within_line, closed_line, assume_empty, assume_irreflexive, claim_line}

-- the kinds of line, by their first word ("The query")
pub data LineKind : Type 0 where
  test_kind rel_kind let_kind never_kind within_kind closed_kind assume_kind claim_kind : LineKind

-- the word that begins a line of the kind ("The query")
abbrev pub line_word : LineKind → List ℕ
line_word test_kind = text "test"
line_word rel_kind = text "rel"
line_word let_kind = text "let"
line_word never_kind = text "never"
line_word within_kind = text "within"
line_word closed_kind = text "closed"
line_word assume_kind = text "assume"
line_word claim_kind = text "claim"

-- all kinds of line ("The query")
abbrev pub all_kinds : List LineKind
all_kinds = test_kind ∷ rel_kind ∷ let_kind ∷ never_kind ∷ within_kind ∷ closed_kind ∷ assume_kind ∷ claim_kind ∷ []

-- the kind of a line ("The query")
abbrev pub line_kind : Line → LineKind
line_kind (test_line n) = test_kind
line_kind (rel_line n) = rel_kind
line_kind (let_line n e) = let_kind
line_kind (never_line t) = never_kind
line_kind (within_line n t u) = within_kind
line_kind (closed_line n) = closed_kind
line_kind (assume_empty e) = assume_kind
line_kind (assume_irreflexive e) = assume_kind
line_kind (claim_line c) = claim_kind

-- the name behind a line's word, and no bytes where none stands there ("The query")
abbrev pub line_name : Line → Name
line_name (test_line n) = n
line_name (rel_line n) = n
line_name (let_line n e) = n
line_name (never_line t) = []
line_name (within_line n t u) = n
line_name (closed_line n) = n
line_name (assume_empty e) = []
line_name (assume_irreflexive e) = []
line_name (claim_line c) = []

-- the conditions that a line sets, from left to right ("The query")
abbrev pub line_conditions : Line → List TestTree
line_conditions (test_line n) = []
line_conditions (rel_line n) = []
line_conditions (let_line n e) = []
line_conditions (never_line t) = t ∷ []
line_conditions (within_line n t u) = t ∷ u ∷ []
line_conditions (closed_line n) = []
line_conditions (assume_empty e) = []
line_conditions (assume_irreflexive e) = []
line_conditions (claim_line c) = []

-- the expression that a line's name stands for ("The query")
abbrev pub line_expressions : Line → List Tree
line_expressions (test_line n) = []
line_expressions (rel_line n) = []
line_expressions (let_line n e) = e ∷ []
line_expressions (never_line t) = []
line_expressions (within_line n t u) = []
line_expressions (closed_line n) = []
line_expressions (assume_empty e) = []
line_expressions (assume_irreflexive e) = []
line_expressions (claim_line c) = []

-- what a line assumes or claims ("The query")
abbrev pub line_statements : Line → List Claim
line_statements (test_line n) = []
line_statements (rel_line n) = []
line_statements (let_line n e) = []
line_statements (never_line t) = []
line_statements (within_line n t u) = []
line_statements (closed_line n) = []
line_statements (assume_empty e) = empty e ∷ []
line_statements (assume_irreflexive e) = irreflexive e ∷ []
line_statements (claim_line c) = c ∷ []

-- a line is of the kind ("The query")
abbrev pub is_kind : LineKind → Line → Bool
is_kind k l = same (line_word k) (line_word (line_kind l))

module _ {A : Type 0} where
  -- what a line of the kind gives; a line of another kind gives nothing ("The query")
  abbrev pub if_kind : LineKind → Line → List A → List A
  if_kind k l xs = elim (is_kind k l) [ true ↦ xs | false ↦ [] ]
