-- What the codes of a query need beside them: a bracketed test and a `never` the set of the atoms that satisfy the test before them, a let
-- the place where its line starts. (Document 01, "The query" and "Words"; the codes are those of the crate `codes`.)
-- Assumes nothing.
use Rattle.std.specs.Prelude.{ℕ, ◌+◌, ◌-◌, Bool, cond, ◌&&◌, ◌||◌, List, [], ◌∷◌, ◌++◌, eqb, leb, ltb, get_or}
use Rattle.codes.specs.Codes.{TESTED, A-TEST, A-RELATION, A-LET, LETS-END, LINE, LET-LINE, NEVER-LINE}
use Rattle.side_atoms.specs.Tests.{test_set}

-- a code of a T
unfoldable pub of_test : ℕ → Bool
of_test k = ltb k TESTED || (leb A-TEST k && ltb k A-RELATION)

-- what was met up to a code: its place, where its line starts, the codes of a T just before it, and where the lines of the lets start
pub record Scan : Type 0 where
  pub at : ℕ
  pub line : ℕ
  pub pending : List ℕ
  pub starts : List ℕ

-- what the code k needs
unfoldable pub arg_of : Scan → ℕ → ℕ
arg_of s k =
    cond (eqb k TESTED || eqb k NEVER-LINE) (test_set s.pending) (cond (leb A-LET k && ltb k LETS-END) (get_or s.starts (k - A-LET) 0) 0)

-- one code more, which may end a line, and that of a let
unfoldable pub scanned : Scan → ℕ → Scan
scanned s k =
    record {
      at = s.at + 1;
      line = cond (leb LINE k) (s.at + 1) s.line;
      pending = cond (of_test k) (s.pending ++ (k ∷ [])) [];
      starts = cond (eqb k LET-LINE) (s.starts ++ (s.line ∷ [])) s.starts;
    }

unfoldable pub args_from : Scan → List ℕ → List ℕ
args_from s [] = []
args_from s (k ∷ ks) = arg_of s k ∷ args_from (scanned s k) ks

-- before the first code
unfoldable pub unscanned : Scan
unscanned = record { at = 0; line = 0; pending = []; starts = [] }

-- what each code of a list needs
unfoldable pub args_of : List ℕ → List ℕ
args_of ks = args_from unscanned ks

-- a code with what it needs
pub record Item : Type 0 where
  pub code : ℕ
  pub arg : ℕ

-- codes and what they need, side by side
unfoldable pub paired : List ℕ → List ℕ → List Item
paired [] xs = []
paired (k ∷ ks) [] = []
paired (k ∷ ks) (x ∷ xs) = record { code = k; arg = x } ∷ paired ks xs

-- the codes of a query with what they need
unfoldable pub items_of : List ℕ → List Item
items_of ks = paired ks (args_of ks)

-- where the expressions start that end with the code k, in lines that pass a test: a line from its start, and the right side of an inclusion
-- behind `INCLUDED`. Lines are counted from 0 by their ends; an inclusion is in the last.
unfoldable pub starts_from : (ℕ → Bool) → ℕ → ℕ → ℕ → ℕ → List ℕ → List ℕ
starts_from counts k line at start [] = []
starts_from counts k line at start (c ∷ cs) =
    cond (ltb c LINE) (starts_from counts k line (at + 1) start cs)
    (cond (eqb c k && counts line)
    (start ∷ starts_from counts k (line + 1) (at + 1) (at + 1) cs)
    (starts_from counts k (line + 1) (at + 1) (at + 1) cs))

unfoldable pub starts_of : (ℕ → Bool) → ℕ → List ℕ → List ℕ
starts_of counts k cs = starts_from counts k 0 0 0 cs
