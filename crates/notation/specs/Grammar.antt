-- The grammar of E, of T and of a line, read from the left over tokens. (Document 01, "The query".) A reader ends at the first token
-- with which no line of the notation goes on (`wrong`) or at the 33rd open bracket (`deep`), whichever comes first. The first
-- argument of a reader bounds the depth of calls; `enough` (Lines) is more than any line can use. d counts the open round brackets.
-- Assumes nothing.
use Rattle.std.specs.Prelude.{ℕ, zero, suc, Bool, true, false, List, [], ◌∷◌, eqb}
use Rattle.notation.specs.Bytes.{byte, text, same}
use Rattle.notation.specs.Tokens.{Token, word, mark, bad, is_reserved}
use Rattle.notation.specs.Tree.{Name, TestTree, test_name, true_test, false_test, either, both, not, Tree, name, tested, union, sequence, star, plus, opt}

-- what a reader finds: a value and the tokens after it, or the fault met first ("The query")
pub data Found (A : Type 0) : Type 0 where
  got : A → List Token → Found A
  wrong : Found A  -- not in the notation
  deep : Found A  -- 33rd open bracket

module _ {A B : Type 0} where
  -- the second reader goes on where the first ended ("The query")
  abbrev pub and_then : Found A → (A → List Token → Found B) → Found B
  and_then (got a ts) k = k a ts
  and_then wrong k = wrong
  and_then deep k = deep

-- the line goes on with the mark b ("The query")
abbrev pub goes_on : ℕ → List Token → Bool
goes_on b [] = false
goes_on b (word w ∷ ts) = false
goes_on b (mark c ∷ ts) = eqb b c
goes_on b (bad ∷ ts) = false

-- the tokens behind the first ("The query")
abbrev pub past : List Token → List Token
past [] = []
past (t ∷ ts) = ts

-- the value, if the mark b stands behind it ("The query")
unfoldable pub before_mark : {A : Type 0} → ℕ → A → List Token → Found A
before_mark b a ts = elim (goes_on b ts) [ true ↦ got a (past ts) | false ↦ wrong ]

-- a word that is no reserved one is a name ("The query")
unfoldable pub name_next : {A : Type 0} → (Name → A) → List Token → Found A
name_next f [] = wrong
name_next f (word w ∷ ts) = elim (is_reserved w) [ true ↦ wrong | false ↦ got (f w) ts ]
name_next f (mark b ∷ ts) = wrong
name_next f (bad ∷ ts) = wrong

-- the line goes on with the word w ("The query")
abbrev pub says_next : List ℕ → List Token → Bool
says_next w [] = false
says_next w (word v ∷ ts) = same w v
says_next w (mark b ∷ ts) = false
says_next w (bad ∷ ts) = false

-- a name, `true` or `false` ("The query")
unfoldable pub test_word : List Token → Found TestTree
unfolding name_next
test_word ts =
    elim (says_next (text "true") ts) [
      | true ↦ got true_test (past ts)
      | false ↦ elim (says_next (text "false") ts) [ true ↦ got false_test (past ts) | false ↦ name_next test_name ts ]
    ]

-- T: `|`, then `&`, then prefix `!`, over names, `true`, `false` and round brackets ("The query")
unfoldable mutual
  pub test_union : ℕ → ℕ → List Token → Found TestTree
  test_union zero d ts = wrong
  test_union (suc n) d ts = and_then (test_meet n d ts) (λ t us. test_union_more n d t us)

  pub test_union_more : ℕ → ℕ → TestTree → List Token → Found TestTree
  test_union_more zero d t ts = wrong
  test_union_more (suc n) d t ts =
      elim (goes_on (byte "|") ts) [
        | true ↦ and_then (test_meet n d (past ts)) (λ u us. test_union_more n d (either t u) us)
        | false ↦ got t ts
      ]

  pub test_meet : ℕ → ℕ → List Token → Found TestTree
  test_meet zero d ts = wrong
  test_meet (suc n) d ts = and_then (test_not n d ts) (λ t us. test_meet_more n d t us)

  pub test_meet_more : ℕ → ℕ → TestTree → List Token → Found TestTree
  test_meet_more zero d t ts = wrong
  test_meet_more (suc n) d t ts =
      elim (goes_on (byte "&") ts) [
        | true ↦ and_then (test_not n d (past ts)) (λ u us. test_meet_more n d (both t u) us)
        | false ↦ got t ts
      ]

  pub test_not : ℕ → ℕ → List Token → Found TestTree
  test_not zero d ts = wrong
  test_not (suc n) d ts =
      elim (goes_on (byte "!") ts) [
        | true ↦ and_then (test_not n d (past ts)) (λ t us. got (not t) us)
        | false ↦ test_basic n d ts
      ]

  pub test_basic : ℕ → ℕ → List Token → Found TestTree
  test_basic zero d ts = wrong
  test_basic (suc n) d ts =
      elim (goes_on (byte "(") ts) [
        | true ↦ elim (eqb d 32) [
          | true ↦ deep
          | false ↦ and_then (test_union n (suc d) (past ts)) (λ t us. before_mark (byte ")") t us)
        ]
        | false ↦ test_word ts
      ]

-- E: a union `|` of sequences `;` of factors with any number of postfix `*`, `+`, `?`. A factor is a name, `[T]`, or an E in round
-- brackets ("The query")
unfoldable mutual
  pub union_of : ℕ → ℕ → List Token → Found Tree
  union_of zero d ts = wrong
  union_of (suc n) d ts = and_then (sequence_of n d ts) (λ e us. union_more n d e us)

  pub union_more : ℕ → ℕ → Tree → List Token → Found Tree
  union_more zero d e ts = wrong
  union_more (suc n) d e ts =
      elim (goes_on (byte "|") ts) [
        | true ↦ and_then (sequence_of n d (past ts)) (λ f us. union_more n d (union e f) us)
        | false ↦ got e ts
      ]

  pub sequence_of : ℕ → ℕ → List Token → Found Tree
  sequence_of zero d ts = wrong
  sequence_of (suc n) d ts = and_then (postfix_of n d ts) (λ e us. sequence_more n d e us)

  pub sequence_more : ℕ → ℕ → Tree → List Token → Found Tree
  sequence_more zero d e ts = wrong
  sequence_more (suc n) d e ts =
      elim (goes_on (byte ";") ts) [
        | true ↦ and_then (postfix_of n d (past ts)) (λ f us. sequence_more n d (sequence e f) us)
        | false ↦ got e ts
      ]

  pub postfix_of : ℕ → ℕ → List Token → Found Tree
  postfix_of zero d ts = wrong
  postfix_of (suc n) d ts = and_then (factor_of n d ts) (λ e us. postfix_more n d e us)

  pub postfix_more : ℕ → ℕ → Tree → List Token → Found Tree
  postfix_more zero d e ts = wrong
  postfix_more (suc n) d e ts =
      elim (goes_on (byte "*") ts) [
        | true ↦ postfix_more n d (star e) (past ts)
        | false ↦ elim (goes_on (byte "+") ts) [
          | true ↦ postfix_more n d (plus e) (past ts)
          | false ↦ elim (goes_on (byte "?") ts) [ true ↦ postfix_more n d (opt e) (past ts) | false ↦ got e ts ]
        ]
      ]

  pub factor_of : ℕ → ℕ → List Token → Found Tree
  factor_of zero d ts = wrong
  factor_of (suc n) d ts =
      elim (goes_on (byte "(") ts) [
        | true ↦ elim (eqb d 32) [
          | true ↦ deep
          | false ↦ and_then (union_of n (suc d) (past ts)) (λ e us. before_mark (byte ")") e us)
        ]
        | false ↦ elim (goes_on (byte "[") ts) [
          | true ↦ and_then (test_union n d (past ts)) (λ t us. before_mark (byte "]") (tested t) us)
          | false ↦ name_next name ts
        ]
      ]
