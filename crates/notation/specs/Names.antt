-- Names: which a query declares, and the slips of a line's names, met from left to right. (Document 01, "The query", and refusal 5.)
-- A name is declared before its use; tests, relations and lets share one name space.
-- Assumes nothing.
use Rattle.std.specs.Prelude.{Bool, true, false, List, [], ◌∷◌, ◌++◌}
use Rattle.std.proofs.Math.Option.{Option, some, none}
use Rattle.notation.specs.Bytes.{same}
use Rattle.notation.specs.LineKinds.{test_kind, rel_kind, let_kind, line_name, is_kind}
use Rattle.notation.specs.Tokens.{is_reserved}
use Rattle.notation.specs.Tree.{Name, TestTree, test_name, true_test, false_test, either, both, not, Tree, name, tested, union, sequence, star, plus, opt, Claim, includes, empty, irreflexive, Line, test_line, rel_line, let_line, never_line, within_line, closed_line, assume_empty, assume_irreflexive, claim_line}
use Rattle.notation.specs.Refusals.{Cause, unknown_name, wrong_kind, declared_twice, reserved_name}

-- what a name is declared as ("The query")
pub data Kind : Type 0 where
  a_test a_relation a_let : Kind

-- a place at which a name stands in a line, and what must stand there ("The query")
pub data Use : Type 0 where
  declares uses_test uses_relation uses_either : Name → Use  -- the last: a relation or a let

-- the names of a T, from left to right ("The query")
unfoldable pub test_uses : TestTree → List Use
test_uses (test_name n) = uses_test n ∷ []
test_uses true_test = []
test_uses false_test = []
test_uses (either t u) = test_uses t ++ test_uses u
test_uses (both t u) = test_uses t ++ test_uses u
test_uses (not t) = test_uses t

-- the names of an E, from left to right ("The query")
unfoldable pub tree_uses : Tree → List Use
tree_uses (name n) = uses_either n ∷ []
tree_uses (tested t) = test_uses t
tree_uses (union e f) = tree_uses e ++ tree_uses f
tree_uses (sequence e f) = tree_uses e ++ tree_uses f
tree_uses (star e) = tree_uses e
tree_uses (plus e) = tree_uses e
tree_uses (opt e) = tree_uses e

-- the names of a claim, from left to right ("The query")
unfoldable pub claim_uses : Claim → List Use
claim_uses (includes e f) = tree_uses e ++ tree_uses f
claim_uses (empty e) = tree_uses e
claim_uses (irreflexive e) = tree_uses e

-- the names of a line, from left to right ("The query")
unfoldable pub uses : Line → List Use
uses (test_line n) = declares n ∷ []
uses (rel_line n) = declares n ∷ []
uses (let_line n e) = declares n ∷ tree_uses e
uses (never_line t) = test_uses t
uses (within_line n t u) = uses_relation n ∷ (test_uses t ++ test_uses u)
uses (closed_line n) = uses_relation n ∷ []
uses (assume_empty e) = tree_uses e
uses (assume_irreflexive e) = tree_uses e
uses (claim_line c) = claim_uses c

-- what a line declares its name as, if it declares it ("The query")
abbrev pub declared_as : Line → Option Kind
declared_as l =
    elim (is_kind test_kind l) [
      | true ↦ some a_test
      | false ↦ elim (is_kind rel_kind l) [
        | true ↦ some a_relation
        | false ↦ elim (is_kind let_kind l) [ true ↦ some a_let | false ↦ none ]
      ]
    ]

-- what a line declares the name m as, if it does ("The query")
unfoldable pub declares? : Line → Name → Option Kind
declares? l m =
    elim (declared_as l) [ none ↦ none | some k ↦ elim (same (line_name l) m) [ true ↦ some k | false ↦ none ] ]

-- what the lines declare a name as, if they do ("The query")
unfoldable pub kind_of : List Line → Name → Option Kind
kind_of [] m = none
kind_of (l ∷ ls) m = elim (declares? l m) [ some k ↦ some k | none ↦ kind_of ls m ]

-- the slip of a name, by what it is declared as, where a test is wanted ("The query")
unfoldable pub test_slip : Option Kind → Option Cause
test_slip none = some unknown_name
test_slip (some a_test) = none
test_slip (some a_relation) = some wrong_kind
test_slip (some a_let) = some wrong_kind

-- where a relation is wanted ("The query")
unfoldable pub relation_slip : Option Kind → Option Cause
relation_slip none = some unknown_name
relation_slip (some a_test) = some wrong_kind
relation_slip (some a_relation) = none
relation_slip (some a_let) = some wrong_kind

-- where a relation or a let is wanted ("The query")
unfoldable pub either_slip : Option Kind → Option Cause
either_slip none = some unknown_name
either_slip (some a_test) = some wrong_kind
either_slip (some a_relation) = none
either_slip (some a_let) = none

-- where a name is declared: reserved, or declared before ("The query")
unfoldable pub declaration_slip : Bool → Option Kind → Option Cause
declaration_slip true k = some reserved_name
declaration_slip false none = none
declaration_slip false (some k) = some declared_twice

-- the slip of one name, if it is one ("The query")
unfoldable pub slip : List Line → Use → Option Cause
slip ls (declares n) = declaration_slip (is_reserved n) (kind_of ls n)
slip ls (uses_test n) = test_slip (kind_of ls n)
slip ls (uses_relation n) = relation_slip (kind_of ls n)
slip ls (uses_either n) = either_slip (kind_of ls n)

-- the leftmost slip ("The query")
unfoldable pub first_slip : List Line → List Use → Option Cause
first_slip ls [] = none
first_slip ls (u ∷ us) = elim (slip ls u) [ some c ↦ some c | none ↦ first_slip ls us ]
