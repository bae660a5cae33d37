-- Names by their keys: the words that are no names, and a table of declared names. (Document 01, "The query".)
-- Assumes nothing.
use Rattle.std.specs.Prelude.{ℕ, zero, suc, ◌+◌, ◌*◌, ◌≤◌, Bool, cond, ◌&&◌, List, [], ◌∷◌, ◌≡◌, eqb, get_or, length, set}
use Rattle.kat.specs.Lists.{some}
use Rattle.claims.specs.Tokens.{reserved_words}
use Rattle.claims.specs.Query.{Query, tests, relations}
use Rattle.read_tokens.specs.declared.Key.{Key}
use Rattle.read_tokens.specs.Scan.{key_of, Spelled}
use Rattle.codes.specs.Codes.{code_of, let_names, MOST-TESTS, MOST-RELATIONS, MOST-LETS}

unfoldable pub same_key : Key → Key → Bool
same_key a b = eqb a.high b.high && eqb a.low b.low

-- some word that is no name has the key
unfoldable pub reserved_key : Key → Bool
reserved_key k = some (λ w. same_key k (key_of w)) reserved_words

-- the key of the nth word that is no name; the key of no bytes behind the last
unfoldable pub word_key : ℕ → Key
word_key n = key_of (get_or reserved_words n [])

-- The code of the first of at most n entries with the key, 0 if there is none. An entry is three numbers: the two of the key, and a
-- code; one that is not there whole is none.
unfoldable pub find_in : ℕ → List ℕ → Key → ℕ
find_in zero names k = 0
find_in (suc n) [] k = 0
find_in (suc n) (h ∷ []) k = 0
find_in (suc n) (h ∷ l ∷ []) k = 0
find_in (suc n) (h ∷ l ∷ c ∷ names) k = cond (same_key (record { high = h; low = l }) k) c (find_in n names k)

-- the table with an entry more, behind n entries
unfoldable pub entered : List ℕ → ℕ → Key → ℕ → List ℕ
entered names n k c = set (set (set names (n * 3) k.high) (n * 3 + 1) k.low) (n * 3 + 2) c

-- the table of names holds the names that the lines of q declare, of which there are no more than a query may have
pub record Knows (names : List ℕ) (n : ℕ) (q : Query) : Type 0 where
  pub codes : (w : List ℕ) → Spelled w → find_in n names (key_of w) ≡ code_of q w
  pub few_tests : length (tests q) ≤ MOST-TESTS
  pub few_relations : length (relations q) ≤ MOST-RELATIONS
  pub few_lets : length (let_names q) ≤ MOST-LETS
