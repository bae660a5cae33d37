-- What the functions of this crate promise one another: bytes of a line, and the reading while it goes on.
-- Assumes nothing.
use Rattle.std.specs.Prelude.{ℕ, ◌≡◌, Bool, not, List, ◌++◌, eqb, length, drop}
use Rattle.claims.specs.Query.{Query}
use Rattle.claims.specs.Refusals.{Result, ok, refused}
use Rattle.memory.specs.Memory.{zeros}
use Rattle.codes.specs.Codes.{query_codes, claim_kind}
use Rattle.read_declarations.specs.declared.LineState.{LineState}
use Rattle.read_text.specs.declared.Summary.{Summary}

-- a byte that ends no line
unfoldable pub in_line : ℕ → Bool
in_line b = not (eqb b 10)

-- the array after the lines were read over it: the codes of the query, and behind them what stood there; all zeros after a refusal
abbrev pub Written : Result Query → List ℕ → List ℕ → Type 0
Written (ok q) before out = out ≡ query_codes q ++ drop (length (query_codes q)) before
Written (refused r) before out = out ≡ zeros 4096

-- what the reader's state says after so many lines with these codes
unfoldable pub known : LineState → ℕ → List ℕ → Summary
known st n ks =
    record { codes = st.used; lines = n; tests = st.tests; relations = st.relations; kind = claim_kind ks }
