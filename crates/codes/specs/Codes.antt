-- A query's syntax as a list of numbers, children before parents: what the reader writes into lent memory and what the tables are made
-- from. Every operator, postfix and `!` is there as written; brackets are not, lets are not expanded, and a name stands as its kind and
-- its number. Numbers are small, so that a word holds one. `src/lib.rt` has the same numbers under the same names, with `_` for `-`.
-- Assumes nothing.
use Rattle.std.specs.Prelude.{ℕ, ◌+◌, ◌-◌, List, [], ◌∷◌, ◌++◌, map, length, get_or}
use Rattle.std.proofs.Math.Option.{Option, some, none}
use Rattle.claims.specs.Tree.{Name, TestTree, test_name, true_test, false_test, either, both, not, Tree, name, tested, union, sequence, star, plus, opt, Claim, includes, empty, irreflexive, Line, test_line, rel_line, let_line, never_line, within_line, closed_line, assume_empty, assume_irreflexive, claim_line}
use Rattle.claims.specs.Names.{Kind, a_test, a_relation, a_let, kind_of}
use Rattle.claims.specs.Query.{Query, Bound, each, index_of, tests, relations, lets}

-- T: `true`, `false`, `|`, `&` and `!`
abbrev pub TRUE : ℕ
TRUE = 1

abbrev pub FALSE : ℕ
FALSE = 2

abbrev pub OR : ℕ
OR = 3

abbrev pub AND : ℕ
AND = 4

abbrev pub NOT : ℕ
NOT = 5

-- E: `[T]`, `|`, `;`, `*`, `+` and `?`
abbrev pub TESTED : ℕ
TESTED = 6

abbrev pub UNION : ℕ
UNION = 7

abbrev pub SEQUENCE : ℕ
SEQUENCE = 8

abbrev pub STAR : ℕ
STAR = 9

abbrev pub PLUS : ℕ
PLUS = 10

abbrev pub OPTIONAL : ℕ
OPTIONAL = 11

-- names: the number of the test, relation or let is added. `ANY`, one step of whichever relation, stands in no query
abbrev pub A-TEST : ℕ
A-TEST = 16

abbrev pub LAST-TEST : ℕ
LAST-TEST = 21

abbrev pub A-RELATION : ℕ
A-RELATION = 32

abbrev pub ANY : ℕ
ANY = 48

abbrev pub A-LET : ℕ
A-LET = 64

abbrev pub LETS-END : ℕ
LETS-END = 96

-- a code from here on ends a line, or the left side of an inclusion
abbrev pub LINE : ℕ
LINE = 128

-- lines: each ends with its kind
abbrev pub TEST-LINE : ℕ
TEST-LINE = 128

abbrev pub REL-LINE : ℕ
REL-LINE = 129

abbrev pub LET-LINE : ℕ
LET-LINE = 130

abbrev pub NEVER-LINE : ℕ
NEVER-LINE = 131

abbrev pub ASSUME-EMPTY : ℕ
ASSUME-EMPTY = 133

abbrev pub ASSUME-IRREFLEXIVE : ℕ
ASSUME-IRREFLEXIVE = 134

-- the claim: the left side of an inclusion ends, and then the kind
abbrev pub INCLUDED : ℕ
INCLUDED = 135

abbrev pub CLAIM-INCLUDE : ℕ
CLAIM-INCLUDE = 136

abbrev pub CLAIM-EMPTY : ℕ
CLAIM-EMPTY = 137

abbrev pub CLAIM-IRREFLEXIVE : ℕ
CLAIM-IRREFLEXIVE = 138

-- lines on a relation, whose number is added
abbrev pub WITHIN-LINE : ℕ
WITHIN-LINE = 144

abbrev pub CLOSED-LINE : ℕ
CLOSED-LINE = 160

-- behind the last `closed` line: its code says which of the 16 relations is closed
abbrev pub CLOSED-END : ℕ
CLOSED-END = 176

-- declarations: at most so many tests, relations and lets ("The query")
abbrev pub MOST-TESTS : ℕ
MOST-TESTS = 6

abbrev pub MOST-RELATIONS : ℕ
MOST-RELATIONS = 16

abbrev pub MOST-LETS : ℕ
MOST-LETS = 32

-- three sets of atoms for each relation: where its step may start, stop and follow itself
abbrev pub RELATION-SETS : ℕ
RELATION-SETS = 48

-- the names of the lets, in order
unfoldable pub let_names : Query → List Name
let_names q = map (λ (b : Bound Tree). b.called) (each lets q)

-- a name that the lines of q declare, by its kind and number; 0 for any other name
unfoldable pub kind_code : Query → Name → Option Kind → ℕ
kind_code q n none = 0
kind_code q n (some a_test) = A-TEST + index_of n (tests q)
kind_code q n (some a_relation) = A-RELATION + index_of n (relations q)
kind_code q n (some a_let) = A-LET + index_of n (let_names q)

unfoldable pub code_of : Query → Name → ℕ
code_of q n = kind_code q n (kind_of q n)

-- a T
unfoldable pub test_codes : Query → TestTree → List ℕ
test_codes q (test_name n) = code_of q n ∷ []
test_codes q true_test = TRUE ∷ []
test_codes q false_test = FALSE ∷ []
test_codes q (either t u) = (test_codes q t ++ test_codes q u) ++ (OR ∷ [])
test_codes q (both t u) = (test_codes q t ++ test_codes q u) ++ (AND ∷ [])
test_codes q (not t) = test_codes q t ++ (NOT ∷ [])

-- an E
unfoldable pub tree_codes : Query → Tree → List ℕ
tree_codes q (name n) = code_of q n ∷ []
tree_codes q (tested t) = test_codes q t ++ (TESTED ∷ [])
tree_codes q (union e f) = (tree_codes q e ++ tree_codes q f) ++ (UNION ∷ [])
tree_codes q (sequence e f) = (tree_codes q e ++ tree_codes q f) ++ (SEQUENCE ∷ [])
tree_codes q (star e) = tree_codes q e ++ (STAR ∷ [])
tree_codes q (plus e) = tree_codes q e ++ (PLUS ∷ [])
tree_codes q (opt e) = tree_codes q e ++ (OPTIONAL ∷ [])

-- a claim
unfoldable pub claim_codes : Query → Claim → List ℕ
claim_codes q (includes e f) = (tree_codes q e ++ (INCLUDED ∷ tree_codes q f)) ++ (CLAIM-INCLUDE ∷ [])
claim_codes q (empty e) = tree_codes q e ++ (CLAIM-EMPTY ∷ [])
claim_codes q (irreflexive e) = tree_codes q e ++ (CLAIM-IRREFLEXIVE ∷ [])

-- a line after the lines of q: what stands in it, and then its kind; each T of a `within` line is one in brackets
unfoldable pub line_codes : Query → Line → List ℕ
line_codes q (test_line n) = TEST-LINE ∷ []
line_codes q (rel_line n) = REL-LINE ∷ []
line_codes q (let_line n e) = tree_codes q e ++ (LET-LINE ∷ [])
line_codes q (never_line t) = test_codes q t ++ (NEVER-LINE ∷ [])
line_codes q (within_line n t u) =
    (test_codes q t ++ (TESTED ∷ [])) ++ ((test_codes q u ++ (TESTED ∷ [])) ++ ((WITHIN-LINE + index_of n (relations q)) ∷ []))
line_codes q (closed_line n) = (CLOSED-LINE + index_of n (relations q)) ∷ []
line_codes q (assume_empty e) = tree_codes q e ++ (ASSUME-EMPTY ∷ [])
line_codes q (assume_irreflexive e) = tree_codes q e ++ (ASSUME-IRREFLEXIVE ∷ [])
line_codes q (claim_line c) = claim_codes q c

-- the lines of r, after those of q
unfoldable pub lines_codes : Query → List Line → List ℕ
lines_codes q [] = []
lines_codes q (l ∷ ls) = line_codes q l ++ lines_codes (q ++ (l ∷ [])) ls

-- a whole query
unfoldable pub query_codes : Query → List ℕ
query_codes q = lines_codes [] q

-- the last code, which tells the kind of the claim; 0 where there is none
unfoldable pub claim_kind : List ℕ → ℕ
claim_kind ks = get_or ks (length ks - 1) 0
