-- A claim on expressions of a query, decided under some of its lines: its two sides, and its limits, where only the assumptions of the lines that
-- count are made. (Document 01, "Words" and "Standings", Limits.) Where all lines count they are those of `Sides.antt` and `Counting.antt`.
-- Declarations and limits of relations hold whichever lines count. Lines are numbered from 0 here.
-- Assumes nothing.
use Rattle.std.specs.Prelude.{ℕ, suc, Bool, false, true, cond, ◌&&◌, List, [], ◌∷◌, ◌++◌, leb}
use Rattle.kat.specs.Expr.{Expr, test, alt, none as nowhere}
use Rattle.kat.specs.Tables.{null}
use Rattle.notation.specs.Tree.{Tree, Claim, includes, empty, irreflexive, Line}
use Rattle.notation.specs.Query.{Query, assumed_empty, assumed_irreflexive}
use Rattle.notation.specs.Counting.{Size, size_of, with_anys, left_size, right_limit}
use Rattle.notation.specs.Sides.{Decision, decision_of, side, union_all, somewhere}

module _ (counts : ℕ → Bool) where
  -- what f has of the lines that count, of which the first has the number n
  abbrev pub of_lines : (Line → List Tree) → ℕ → Query → List Tree
  of_lines f n [] = []
  of_lines f n (l ∷ q) = cond (counts n) (f l) [] ++ of_lines f (suc n) q

  module _ (q : Query) where
    -- a0 and a1 of the lines that count ("Words")
    unfoldable pub empty_under : Expr
    empty_under = union_all q (of_lines assumed_empty 0 q)

    unfoldable pub irreflexive_under : Expr
    irreflexive_under = union_all q (of_lines assumed_irreflexive 0 q)

    -- y | any*;(a0 | zero);any* for a path claim, a1 | any*;a0;any* for a ring claim ("Words")
    unfoldable pub decision_under : Claim → Decision
    decision_under (includes e f) =
        decision_of q false (side q e) (alt (side q f) (somewhere (alt empty_under (test (null irreflexive_under)))))
    decision_under (empty e) =
        decision_of q false (side q e) (alt nowhere (somewhere (alt empty_under (test (null irreflexive_under)))))
    decision_under (irreflexive e) = decision_of q true (side q e) (alt irreflexive_under (somewhere empty_under))

    -- the right side: y, a0 and zero of a path claim, a1 and a0 of a ring claim, of the lines that count ("Standings")
    unfoldable pub right_under : Claim → Size
    right_under (includes e f) = with_anys 1 (size_of q (f ∷ of_lines assumed_empty 0 q))
    right_under (empty e) = with_anys 2 (size_of q (of_lines assumed_empty 0 q))
    right_under (irreflexive e) = with_anys 0 (size_of q (of_lines assumed_irreflexive 0 q ++ of_lines assumed_empty 0 q))

    -- the occurrences of both sides, 512 leaves a side, and 512 of a1's own; the left side is the claimed expression, whichever lines
    -- count ("Standings")
    unfoldable pub within_under : Claim → Bool
    within_under c =
        (leb (left_size q c).occurrences 64 && leb (left_size q c).leaves 512)
        && (leb (right_under c).occurrences (right_limit c) && leb (right_under c).leaves 512)
        && leb (size_of q (of_lines assumed_irreflexive 0 q)).leaves 512
