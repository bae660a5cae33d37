-- The line kinds of a query. (Document 01, "The query".) A line is in the notation when one of these readers takes all its tokens
-- and byte 10 ends it; its end is one more place at which the notation may not go on.
-- Assumes nothing.
use Rattle.std.specs.Prelude.{ℕ, suc, ◌*◌, Bool, true, false, ◌&&◌, List, [], ◌∷◌, map, length}
use Rattle.notation.specs.Bytes.{RawLine, byte, text}
use Rattle.notation.specs.LineKinds.{LineKind, test_kind, rel_kind, let_kind, never_kind, within_kind, closed_kind, assume_kind, claim_kind, line_word, all_kinds}
use Rattle.notation.specs.Tokens.{Token, word, mark, bad, tokens}
use Rattle.notation.specs.Tree.{Name, TestTree, Tree, includes, empty, irreflexive, Line, test_line, rel_line, let_line, never_line, within_line, closed_line, assume_empty, assume_irreflexive, claim_line}
use Rattle.notation.specs.Grammar.{Found, got, wrong, and_then, goes_on, past, before_mark, says_next, name_next, test_union, union_of}

-- each token is met by at most 8 calls in a row that read none, so more depth changes nothing: `union_depth` and `test_depth` of
-- `proofs/Fuel.antt` ("The query")
unfoldable pub enough : List Token → ℕ
enough ts = 8 * suc (length ts)

-- an E ("The query")
unfoldable pub expression : List Token → Found Tree
expression ts = union_of (enough ts) 0 ts

-- a T ("The query")
unfoldable pub condition : List Token → Found TestTree
condition ts = test_union (enough ts) 0 ts

-- a T in square brackets ("The query")
unfoldable pub bracketed : List Token → Found TestTree
bracketed ts =
    elim (goes_on (byte "[") ts) [
      | true ↦ and_then (condition (past ts)) (λ t us. before_mark (byte "]") t us)
      | false ↦ wrong
    ]

-- the place of a declared name: any word, a reserved one too ("The query")
unfoldable pub declared : List Token → Found Name
declared [] = wrong
declared (word w ∷ ts) = got w ts
declared (mark b ∷ ts) = wrong
declared (bad ∷ ts) = wrong

module _ {A B : Type 0} where
  -- what a reader finds, with its value under f ("The query")
  abbrev pub mapped : (A → B) → Found A → Found B
  mapped f x = and_then x (λ a us. got (f a) us)

-- a word, and the reader of what follows it ("The query")
pub record Choice : Type 0 where
  pub says : List ℕ
  pub reads : List Token → Found Line

-- the reader that the next word chooses, on what stands behind that word ("The query")
unfoldable pub choose : List Choice → List Token → Found Line
choose [] ts = wrong
choose (c ∷ cs) ts = elim (says_next c.says ts) [ true ↦ c.reads (past ts) | false ↦ choose cs ts ]

-- `N = E` ("The query")
unfoldable pub let_reader : List Token → Found Line
let_reader ts =
    and_then (declared ts) (λ n us.
    elim (goes_on (byte "=") us) [ true ↦ mapped (let_line n) (expression (past us)) | false ↦ wrong ])

-- `N [T] [U]` ("The query")
unfoldable pub within_reader : List Token → Found Line
within_reader ts =
    and_then (name_next (λ n. n) ts) (λ n us.
    and_then (bracketed us) (λ t vs.
    mapped (within_line n t) (bracketed vs)))

-- `E in E` ("The query")
unfoldable pub include_reader : List Token → Found Line
include_reader ts =
    and_then (expression ts) (λ e us.
    elim (says_next (text "in") us) [
      | true ↦ mapped (λ f. claim_line (includes e f)) (expression (past us))
      | false ↦ wrong
    ])

-- `empty E` or `irreflexive E` ("The query")
unfoldable pub assumptions : List Choice
assumptions =
    record { says = text "empty"; reads = λ ts. mapped assume_empty (expression ts) }
    ∷ record { says = text "irreflexive"; reads = λ ts. mapped assume_irreflexive (expression ts) }
    ∷ []

-- `include E in E`, `empty E` or `irreflexive E` ("The query")
unfoldable pub claims : List Choice
claims =
    record { says = text "include"; reads = include_reader }
    ∷ record { says = text "empty"; reads = λ ts. mapped (λ e. claim_line (empty e)) (expression ts) }
    ∷ record { says = text "irreflexive"; reads = λ ts. mapped (λ e. claim_line (irreflexive e)) (expression ts) }
    ∷ []

-- what follows the word of a line, by the line's kind ("The query")
abbrev pub line_reader : LineKind → List Token → Found Line
line_reader test_kind = λ ts. mapped test_line (declared ts)
line_reader rel_kind = λ ts. mapped rel_line (declared ts)
line_reader let_kind = let_reader
line_reader never_kind = λ ts. mapped never_line (condition ts)
line_reader within_kind = within_reader
line_reader closed_kind = λ ts. name_next closed_line ts
line_reader assume_kind = choose assumptions
line_reader claim_kind = choose claims

-- lines of a kind: its word, and what follows it ("The query")
abbrev pub line_choice : LineKind → Choice
line_choice k = record { says = line_word k; reads = line_reader k }

-- the eight line words, each with what follows it ("The query")
unfoldable pub line_kinds : List Choice
line_kinds = map line_choice all_kinds

-- no token is left ("The query")
abbrev pub at_end : List Token → Bool
at_end [] = true
at_end (t ∷ ts) = false

-- a line in which one of these readers takes all tokens, and which byte 10 ends ("The query")
unfoldable pub line_by : List Choice → RawLine → Found Line
line_by kinds l =
    and_then (choose kinds (tokens l.bytes)) (λ x us.
    elim (at_end us && l.ended) [ true ↦ got x [] | false ↦ wrong ])

-- a line as the notation reads it ("The query")
unfoldable pub line : RawLine → Found Line
line = line_by line_kinds
