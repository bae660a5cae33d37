-- Readers of E, by the grammar's definitions: the two chains, round brackets, a test in square ones.
-- Assumes nothing.
use Prim.Native.Nat.{ℕ, suc}
use mathlib.Core.Path.{◌≡◌, refl, sym, ap}
use mathlib.Core.Bool.{true, false}
use mathlib.Core.List.{List, [], ◌∷◌, ◌++◌}
use lib.Dec.{eqb}
use borrow.Author.Tests.{eqb-true}
use Rattle.claims.specs.Bytes.{byte}
use Rattle.claims.specs.Tokens as Notation
use Rattle.claims.specs.Tokens.{Token}
use Rattle.claims.specs.Grammar.{Found, and_then, goes_on, past, before_mark, name_next, test_union, union_of, union_more, sequence_of, sequence_more, postfix_of, factor_of}
use Rattle.claims.specs.Lines.{expression}
use Rattle.claims.specs.Tree.{TestTree, Tree, name, tested, union, sequence}
use Rattle.claims.specs.Names.{test_uses, tree_uses}
use Rattle.claims.specs.Query.{Query}
use Rattle.codes.specs.Codes.{TESTED, UNION, SEQUENCE, test_codes, tree_codes}
use Rattle.std.specs.Prelude.{None, Result}
use Rattle.read_tests.specs.declared.Place.{Place}
use Rattle.read_tests.specs.declared.Fault.{Fault}
use Rattle.read_next.specs.Next.{mark_next}
use Rattle.read_tests.specs.Places.{TreeOutcome, Finds, Is}
use Rattle.read_next.proofs.Next.{mark_missing}
use Rattle.read_tests.proofs.Outcomes.{outcome_of_all}
use Rattle.read_tests.proofs.Chains.{Chain, Chained}
use Rattle.read_tests.proofs.Bracketed.{Bracket}
use Rattle.read_tests.proofs.Rounds.{Rounds, Rounded, round_none}

-- `|`
abbrev pub union_chain : Chain Tree
union_chain =
    record { whole = union_of; operand = sequence_of; more = union_more; join = union; sign = byte "|"; code = UNION; codes = tree_codes; uses = tree_uses }

pub unions : Chained union_chain
unfolding union_of union_more tree_codes tree_uses
unions = record { first = λ n d ts. refl; step = λ n d t ts. refl; codes_join = λ q t u. refl; uses_join = λ t u. refl }

-- `;`
abbrev pub sequence_chain : Chain Tree
sequence_chain =
    record { whole = sequence_of; operand = postfix_of; more = sequence_more; join = sequence; sign = byte ";"; code = SEQUENCE; codes = tree_codes; uses = tree_uses }

pub sequences : Chained sequence_chain
unfolding sequence_of sequence_more tree_codes tree_uses
sequences = record { first = λ n d ts. refl; step = λ n d t ts. refl; codes_join = λ q t u. refl; uses_join = λ t u. refl }

-- round brackets, or what no round bracket begins: a test in square ones, or a name
abbrev pub leaf_of : ℕ → ℕ → List Token → Found Tree
leaf_of n d ts =
    elim (goes_on (byte "[") ts) [
      | true ↦ and_then (test_union n d (past ts)) (λ t us. before_mark (byte "]") (tested t) us)
      | false ↦ name_next name ts
    ]

abbrev pub factor_rounds : Rounds Tree
factor_rounds = record { outer = factor_of; inner = union_of; plain = leaf_of; codes = tree_codes; uses = tree_uses }

pub factors : Rounded factor_rounds
unfolding factor_of
factors = record { step = λ n d ts. refl }

-- square brackets: the round ones that are open stay counted
not_round : (ts : List Token) → goes_on (byte "[") ts ≡ true → goes_on (byte "(") ts ≡ false
not_round [] h = refl
not_round (Notation.word w ∷ ts) h = refl
not_round (Notation.mark c ∷ ts) h = ap (eqb (byte "(")) (sym (eqb-true (byte "[") c h))
not_round (Notation.bad ∷ ts) h = refl

pub square_opens : (d n : ℕ) (ts : List Token) → goes_on (byte "[") ts ≡ true
    → factor_of (suc n) d ts ≡ and_then (test_union n d (past ts)) (λ t us. before_mark (byte "]") (tested t) us)
square_opens d n ts h = rw (factors.step n d ts, not_round ts h, h, leaf_of)

pub square_codes : (q : Query) (t : TestTree) → tree_codes q (tested t) ≡ test_codes q t ++ (TESTED ∷ [])
unfolding tree_codes
square_codes q t = refl

pub square_uses : (t : TestTree) → tree_uses (tested t) ≡ test_uses t
unfolding tree_uses
square_uses t = refl

abbrev pub square_bracket : ℕ → Bracket TestTree Tree
square_bracket d =
    record {
      outer = factor_of;
      inner = test_union;
      depth = d;
      within = d;
      wrap = tested;
      opening = byte "[";
      closing = byte "]";
      extra = TESTED ∷ [];
      inner_codes = test_codes;
      outer_codes = tree_codes;
      inner_uses = test_uses;
      outer_uses = tree_uses;
      opens = square_opens d;
      codes_wrap = square_codes;
      uses_wrap = square_uses;
    }

-- a name
pub factor_named : (d : ℕ) (s names : List ℕ) (n : ℕ) (p : Place) (before after : List ℕ) → mark_next s p.at (byte "(") ≡ None
    → None ≡ mark_next s p.at (byte "[") → (x : Result Place Fault) → TreeOutcome (Is (name_next name)) s names n p before after x
    → TreeOutcome (Finds factor_of d 1) s names n p before after x
factor_named d s names n p before after round asked x o =
    round_none factors d s p (sym round) (Is (name_next name))
    (λ y h f. rw (mark_missing s p.at (byte "[") asked, leaf_of) h) names n before after x o

-- E with no open bracket
pub expression_read : (s names : List ℕ) (n : ℕ) (p : Place) (before after : List ℕ) (x : Result Place Fault)
    → TreeOutcome (Finds union_of 0 4) s names n p before after x → TreeOutcome (Is expression) s names n p before after x
unfolding expression
expression_read s names n p before after x o = outcome_of_all union_of tree_codes tree_uses s names n p before after x o
