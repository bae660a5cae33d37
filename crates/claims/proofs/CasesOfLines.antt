-- The printed line of short queries as rows, with its last byte, from the bytes of the query through the search call. (Document 01, "The
-- desk's cases", whose table is `desk_cases/proofs/Cases.antt`.) All of it holds by computation over the definitions.
-- Assumes nothing.
use Prim.Native.Nat.{ℕ}
use Prim.Native.String.{String}
use mathlib.Core.Path.{◌≡◌, refl}
use mathlib.Core.Bool.{Bool}
use mathlib.Core.List.{List, [], ◌∷◌, map}
use Rattle.notation.specs.Bytes.{text}
use Rattle.claims.specs.Printed.{printed}
use Rattle.claims.proofs.Evaluate.{everything}

pub record Case : Type 0 where
  pub allowance : Bool → ℕ
  pub query : String
  pub line : String

-- what the program prints for a case, and what the table says
unfoldable pub prints : Case → List ℕ
prints c = printed c.allowance (text c.query)

abbrev pub says : Case → List ℕ
says c = text c.line

abbrev pub short : List Case
short =
    record { allowance = λ k. 1; query = "claim irreflexive [true]\n"; line = "refuted 0\n" }
    ∷ record { allowance = λ k. 1; query = "rel r\nclaim include r in r\n"; line = "proved 1\n" }
    ∷ record { allowance = λ k. 1; query = "rel a\nrel b\nclaim empty a|b\n"; line = "refusal 10 line 0\n" }
    ∷ record { allowance = λ k. 1; query = ""; line = "refusal 7 line 0\n" }
    ∷ []

pub lines_printed : map prints short ≡ map says short
unfolding prints everything
lines_printed = refl
