-- The reading of a query, for every list of bytes: the query, or the first refusal. (Document 01, "Refusals with an example each", and
-- the paragraph on their order behind the table.) 1 and 2 come first, then the lines from the top; on a line 7, then 3 or 4, then 5
-- by its leftmost name, then 6. A missing claim and then 8 follow.
-- Assumes nothing.
use Rattle.std.specs.Prelude.{ℕ, suc, Bool, true, false, List, [], ◌∷◌, ◌++◌, eqb, leb, length}
use Rattle.std.proofs.Math.Option.{Option, some, none}
use Rattle.notation.specs.Bytes.{RawLine, raw_lines, printable}
use Rattle.notation.specs.Tree.{Claim, Line}
use Rattle.notation.specs.Grammar.{Found, got, wrong, deep}
use Rattle.notation.specs.Lines.{line}
use Rattle.notation.specs.Names.{Kind, a_test, a_relation, a_let, declared_as, uses, first_slip}
use Rattle.notation.specs.Query.{Query, each, tests, relations, lets, claims_of}
use Rattle.notation.specs.Decisions.{decisions, first_over}
use Rattle.notation.specs.Refusals.{too_long, bad_byte, notation, too_deep, too_many, no_claim, after_claim, over_limit, Result, ok, refuse, afterwards}

-- the line of the first byte that is neither printable nor byte 10; n is the line of the first byte ("Refusals with an example each")
unfoldable pub bad_line : ℕ → List ℕ → Option ℕ
bad_line n [] = none
bad_line n (b ∷ bs) =
    elim (eqb b 10) [ true ↦ bad_line (suc n) bs | false ↦ elim (printable b) [ true ↦ bad_line n bs | false ↦ some n ] ]

-- 6 tests, 16 relations and 32 lets at most ("The query")
abbrev pub most_declared : Kind → ℕ
most_declared a_test = 6
most_declared a_relation = 16
most_declared a_let = 32

-- how many names of the kind the lines so far declare ("The query")
abbrev pub declared_so_far : Query → Kind → ℕ
declared_so_far q a_test = length (tests q)
declared_so_far q a_relation = length (relations q)
declared_so_far q a_let = length (each lets q)

-- one declaration too many ("Refusals with an example each")
unfoldable pub crowded : Query → Line → Bool
crowded q l = elim (declared_as l) [ none ↦ false | some k ↦ leb (most_declared k) (declared_so_far q k) ]

-- the claim, which is the last line ("Refusals with an example each")
unfoldable pub claim_of : Query → Option Claim
claim_of q = elim (each claims_of q) [ [] ↦ none | c ∷ cs ↦ some c ]

-- line n after the lines of q, as the notation found it ("Refusals with an example each")
unfoldable pub read_line : Query → ℕ → Found Line → Result Line
read_line q n (got l us) =
    elim (first_slip q (uses l)) [
      | some c ↦ refuse c n
      | none ↦ elim (crowded q l) [ true ↦ refuse too_many n | false ↦ ok l ]
    ]
read_line q n wrong = refuse notation n
read_line q n deep = refuse too_deep n

-- the lines from line n on, after those of q ("Refusals with an example each")
unfoldable pub read_lines : Query → ℕ → List RawLine → Result Query
read_lines q n [] = ok q
read_lines q n (l ∷ ls) =
    elim (claim_of q) [
      | some c ↦ refuse after_claim n
      | none ↦ afterwards (read_line q n (line l)) (λ x. read_lines (q ++ (x ∷ [])) (suc n) ls)
    ]

-- a claim there must be, and then all that is to be decided within the limits; 8 is placed at the first line over them ("Refusals with an example each")
unfoldable pub limited : Query → Result Query
limited q =
    elim (claim_of q) [
      | none ↦ refuse no_claim 0
      | some c ↦ elim (first_over (decisions q)) [ none ↦ ok q | some n ↦ refuse over_limit n ]
    ]

-- the query that the bytes are, or the first refusal: 1, then 2, then the lines, a missing claim, and 8 ("Refusals with an example each")
unfoldable pub read : List ℕ → Result Query
read bs =
    elim (leb (length bs) 4096) [
      | false ↦ refuse too_long 0
      | true ↦ elim (bad_line 1 bs) [
        | some n ↦ refuse bad_byte n
        | none ↦ afterwards (read_lines [] 1 (raw_lines bs)) limited
      ]
    ]
