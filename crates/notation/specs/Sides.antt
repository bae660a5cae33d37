-- The two sides of a claim. (Document 01, "Words".) Before anything else each relation is replaced by what it stands for
-- (`Expanded.antt`), and lets are expanded.
-- Assumes nothing.
use Rattle.std.specs.Prelude.{ℕ, Bool, true, false, List, [], ◌∷◌, length}
use Rattle.kat.specs.Expr.{Expr, test, alt, seq, rel, any, none as nowhere, opt as optional, star as starred, plus as repeated}
use Rattle.kat.specs.Tables.{null}
use Rattle.notation.specs.Tree.{Name, Tree, name, tested, union, sequence, star, plus, opt, Claim, includes, empty, irreflexive}
use Rattle.notation.specs.Query.{Query, Bound, lookup, each, names, index_of, tests, relations, holds, atoms, live, assumed_empty, assumed_irreflexive}
use Rattle.notation.specs.Expanded.{Expanded, step_of, test_of, nothing, union_of, sequence_of, star_of, plus_of, opt_of, stands_for}

-- an expression as written, where each name stands for what it is bound to ("Words")
unfoldable pub expand : List Name → List (Bound Expr) → Tree → Expr
expand ts env (name n) = lookup nowhere n env
expand ts env (tested t) = test (holds ts t)
expand ts env (union e f) = alt (expand ts env e) (expand ts env f)
expand ts env (sequence e f) = seq (expand ts env e) (expand ts env f)
expand ts env (star e) = starred (expand ts env e)
expand ts env (plus e) = repeated (expand ts env e)
expand ts env (opt e) = optional (expand ts env e)

-- an expression of the query, where each relation stands for what w says, and lets are expanded ("Words")
unfoldable pub meant : Query → (Name → Expr) → Tree → Expr
meant q w e = expand (tests q) (names q w (expand (tests q))) e

-- the single step of a relation ("Words")
unfoldable pub single : Query → Name → Expr
single q n = rel (index_of n (relations q))

-- an expanded expression over numbered tests and relations ("Words")
unfoldable pub expr_of : Query → Expanded → Expr
expr_of q (step_of n) = single q n
expr_of q (test_of t) = test (holds (tests q) t)
expr_of q nothing = nowhere
expr_of q (union_of e f) = alt (expr_of q e) (expr_of q f)
expr_of q (sequence_of e f) = seq (expr_of q e) (expr_of q f)
expr_of q (star_of e) = starred (expr_of q e)
expr_of q (plus_of e) = repeated (expr_of q e)
expr_of q (opt_of e) = optional (expr_of q e)

-- the expression that a relation stands for ("Words")
unfoldable pub replaced : Query → Name → Expr
replaced q n = expr_of q (stands_for q n)

-- an expression of a side: relations replaced, lets expanded ("Words")
unfoldable pub side : Query → Tree → Expr
side q e = meant q (replaced q) e

-- the union of several expressions ("Words")
abbrev pub union_all : Query → List Tree → Expr
union_all q [] = nowhere
union_all q (e ∷ es) = alt (side q e) (union_all q es)

-- the union of all assumed-empty expressions ("Words")
unfoldable pub a0 : Query → Expr
a0 q = union_all q (each assumed_empty q)

-- the union of the assumed-irreflexive expressions ("Words")
unfoldable pub a1 : Query → Expr
a1 q = union_all q (each assumed_irreflexive q)

-- the set of length-0 words of a1 ("Words")
unfoldable pub zero : Query → Expr
zero q = test (null (a1 q))

-- any*;e;any* ("Words")
unfoldable pub somewhere : Expr → Expr
somewhere e = seq (seq (starred any) e) (starred any)

-- what the search, the sheet and its check are about: all that a claim leaves of a query ("Words")
pub record Decision : Type 0 where
  pub ring : Bool  -- a ring claim, or a path claim
  pub left : Expr
  pub right : Expr
  pub atoms : ℕ  -- how many atoms
  pub live : List ℕ  -- those under no `never`, rising
  pub relations : ℕ  -- how many relations

-- a decision of the query, with its sides ("Words")
abbrev pub decision_of : Query → Bool → Expr → Expr → Decision
decision_of q k l r =
    record { ring = k; left = l; right = r; atoms = atoms q; live = live q; relations = length (relations q) }

-- y | any*;(a0 | zero);any* for a path claim, a1 | any*;a0;any* for a ring claim ("Words")
unfoldable pub decision : Query → Claim → Decision
decision q (includes e f) = decision_of q false (side q e) (alt (side q f) (somewhere (alt (a0 q) (zero q))))
decision q (empty e) = decision_of q false (side q e) (alt nowhere (somewhere (alt (a0 q) (zero q))))
decision q (irreflexive e) = decision_of q true (side q e) (alt (a1 q) (somewhere (a0 q)))
