-- The trees of a line as written. (Document 01, "The query".) Operators have two operands and group to the left; each name, postfix
-- and `!` is kept, brackets are not. A name is the list of its bytes.
-- Assumes nothing.
use Rattle.std.specs.Prelude.{ℕ, List}

-- a name is the list of its bytes ("The query")
abbrev pub Name : Type 0
Name = List ℕ

-- T ("The query")
pub data TestTree : Type 0 where
  test_name : Name → TestTree
  true_test false_test : TestTree  -- `true`, `false`
  either both : TestTree → TestTree → TestTree  -- `|`, `&`
  not : TestTree → TestTree  -- `!`

-- E ("The query")
pub data Tree : Type 0 where
  name : Name → Tree
  tested : TestTree → Tree  -- `[T]`
  union sequence : Tree → Tree → Tree  -- `|`, `;`
  star plus opt : Tree → Tree  -- `*`, `+`, `?`

-- what is claimed ("The query")
pub data Claim : Type 0 where
  includes : Tree → Tree → Claim
  empty irreflexive : Tree → Claim

-- a line by its kind ("The query")
pub data Line : Type 0 where
  test_line rel_line : Name → Line
  let_line : Name → Tree → Line
  never_line : TestTree → Line
  within_line : Name → TestTree → TestTree → Line
  closed_line : Name → Line
  assume_empty assume_irreflexive : Tree → Line
  claim_line : Claim → Line
