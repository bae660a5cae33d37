-- What each code of a query counts: of an expression a bracketed test, a relation and a let. What an expression counts is the sum of what its
-- codes count, so one walk over the codes of a query counts every let. (Document 01, "Standings", Limits; the codes are those of the crate
-- `codes`.) Occurrences and leaves differ in what a bracketed test counts: 0 or 1.
-- Assumes nothing.
use Rattle.std.specs.Prelude.{ℕ, ◌+◌, ◌*◌, ◌-◌, min, Bool, cond, List, [], ◌∷◌, ◌++◌, eqb, ltb, get_or}
use Rattle.codes.specs.Codes.{TESTED, A-RELATION, ANY, A-LET, LETS-END, LINE, LET-LINE, WITHIN-LINE}

-- 1,000 stands for itself and every number above, and is above every limit
abbrev pub capped : ℕ → ℕ
capped n = min n 1000

-- what a code of an expression counts: `[T]` t, relation r what w gives it, let j what stands at j in ls; every other code nothing
unfoldable pub weight : ℕ → (ℕ → ℕ) → List ℕ → ℕ → ℕ
weight t w ls k =
    cond (ltb k A-RELATION) (cond (eqb k TESTED) t 0)
    (cond (ltb k ANY) (w (k - A-RELATION)) (cond (ltb k A-LET) 0 (cond (ltb k LETS-END) (get_or ls (k - A-LET) 0) 0)))

-- what was counted up to a code: of the expression that is being read, and of each let, in order
pub record Tally : Type 0 where
  pub now : ℕ
  pub lets : List ℕ

-- one code more, which may end a line, and that of a let
unfoldable pub step : ℕ → (ℕ → ℕ) → Tally → ℕ → Tally
step t w d k =
    record {
      now = cond (ltb k LINE) (d.now + weight t w d.lets k) 0;
      lets = cond (eqb k LET-LINE) (d.lets ++ (d.now ∷ [])) d.lets;
    }

unfoldable pub run : ℕ → (ℕ → ℕ) → Tally → List ℕ → Tally
run t w d [] = d
run t w d (k ∷ ks) = run t w (step t w d k) ks

unfoldable pub nothing : Tally
nothing = record { now = 0; lets = [] }

-- what the codes count
unfoldable pub tally : ℕ → (ℕ → ℕ) → List ℕ → Tally
tally t w ks = run t w nothing ks

-- how many codes pass a test
abbrev pub how_many : (ℕ → Bool) → List ℕ → ℕ
how_many test [] = 0
how_many test (k ∷ ks) = cond (test k) 1 0 + how_many test ks

-- how often a code stands in a list
unfoldable pub times : ℕ → List ℕ → ℕ
times k ks = how_many (λ x. eqb x k) ks

-- a relation is one, with two tests for each of its `within` lines, wherever they stand ("Standings")
unfoldable pub relation_count : ℕ → List ℕ → ℕ → ℕ
relation_count t ks r = 1 + times (WITHIN-LINE + r) ks * (2 * t)

-- what each let of the codes counts
unfoldable pub let_counts : ℕ → List ℕ → List ℕ
let_counts t ks = (tally t (relation_count t ks) ks).lets

-- what each code counts in an expression of these codes, where a bracketed test counts t: with 0 occurrences, with 1 leaves ("Standings")
unfoldable pub code_count : ℕ → List ℕ → ℕ → ℕ
code_count t ks k = weight t (relation_count t ks) (let_counts t ks) k
