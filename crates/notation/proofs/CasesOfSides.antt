-- What the lines of a query make of its claim, as rows: the live atoms, the occurrences of the two sides, and where the left side begins,
-- ends and goes on. (Document 01, "The query" and "Words".) All of it holds by computation over the definitions.
-- Assumes nothing.
use Prim.Native.Nat.{ℕ}
use Prim.Native.String.{String}
use mathlib.Core.Path.{◌≡◌, refl}
use mathlib.Core.Bool.{not}
use mathlib.Core.List.{List, [], ◌∷◌, ◌++◌, map}
use mathlib.Core.Option.{some, none}
use Rattle.kat.specs.Lists.{upto, filter, is_empty}
use Rattle.kat.specs.Tables.{occurrences, after, ends}
use Rattle.notation.specs.Bytes.{text}
use Rattle.notation.specs.Refusals.{ok, refused}
use Rattle.notation.specs.RefusalLine.{spaced, refusal_line}
use Rattle.notation.specs.Query.{Query}
use Rattle.notation.specs.Decisions.{decisions, last_of}
use Rattle.notation.specs.Reading.{read}
use Rattle.notation.specs.Sides.{Decision, decision}
use Rattle.notation.proofs.Evaluate.{everything}

pub record Sided : Type 0 where
  pub query : String
  pub line : String

-- the atoms at which the left side begins with relation 0, may end after its first occurrence, and goes on there with relation 0
abbrev pub left_atoms : Decision → List ℕ
left_atoms D =
    text " begins" ++ (spaced (filter (λ a. not (is_empty (after D.left (0 ∷ []) a 0))) (upto 0 D.atoms))
    ++ (text " ends" ++ (spaced (filter (ends D.left (1 ∷ [])) (upto 0 D.atoms))
    ++ (text " onward" ++ spaced (filter (λ a. not (is_empty (after D.left (1 ∷ []) a 0))) (upto 0 D.atoms))))))

abbrev pub sides_line : Decision → List ℕ
sides_line D =
    text "live" ++ (spaced D.live
    ++ (text " left" ++ (spaced (occurrences D.left ∷ [])
    ++ (text " right" ++ (spaced (occurrences D.right ∷ []) ++ left_atoms D)))))

abbrev pub claim_line : Query → List ℕ
claim_line q = elim (last_of (decisions q)) [ none ↦ [] | some d ↦ sides_line (decision d.over d.claim) ]

unfoldable pub sided : Sided → List ℕ
sided c = elim (read (text c.query)) [ ok q ↦ claim_line q | refused r ↦ refusal_line r ]

abbrev pub expected : Sided → List ℕ
expected c = text c.line

abbrev pub sides : List Sided
sides =
    -- an atom under a `never`; a relation from 𝓛 to R, closed
    record { query = "test R\ntest W\nrel rf\nnever R & W\nwithin rf [W] [R]\nclosed rf\nclaim empty rf\n"; line = "live 0 1 2 left 1 right 2 begins 2 3 ends 1 3 onward 3" }
    -- assumed emptiness and irreflexivity under a path claim, of which the length-0 words alone count, and under a ring claim
    ∷ record { query = "rel r\nrel s\nassume empty r;s\nassume irreflexive r\nclaim empty r+\n"; line = "live 0 left 1 right 4 begins 0 ends 0 onward 0" }
    ∷ record { query = "rel r\nrel s\nassume empty r;s\nassume irreflexive r\nclaim irreflexive r\n"; line = "live 0 left 1 right 5 begins 0 ends 0 onward" }
    -- `|`, `&` and `!` of a T: which atoms they leave
    ∷ record { query = "test A\ntest B\nnever A | B\nclaim empty [true]\n"; line = "live 0 left 0 right 2 begins ends onward" }
    ∷ record { query = "test A\ntest B\nnever A & B\nclaim empty [true]\n"; line = "live 0 1 2 left 0 right 2 begins ends onward" }
    ∷ record { query = "test A\nnever !A\nclaim empty [true]\n"; line = "live 1 left 0 right 2 begins ends onward" }
    -- postfix `*`, `+` and `?` of r, alone and before s: `*` and `?` may be passed over, and after one r `*` and `+` go on with another
    ∷ record { query = "rel r\nclaim empty r*\n"; line = "live 0 left 1 right 2 begins 0 ends 0 onward 0" }
    ∷ record { query = "rel r\nclaim empty r+\n"; line = "live 0 left 1 right 2 begins 0 ends 0 onward 0" }
    ∷ record { query = "rel r\nclaim empty r?\n"; line = "live 0 left 1 right 2 begins 0 ends 0 onward" }
    ∷ record { query = "rel s\nrel r\nclaim empty r*;s\n"; line = "live 0 left 2 right 2 begins 0 ends onward 0" }
    ∷ record { query = "rel s\nrel r\nclaim empty r+;s\n"; line = "live 0 left 2 right 2 begins ends onward 0" }
    ∷ record { query = "rel s\nrel r\nclaim empty r?;s\n"; line = "live 0 left 2 right 2 begins 0 ends onward 0" }
    ∷ []

pub sides_of_claims : map sided sides ≡ map expected sides
unfolding sided everything
sides_of_claims = refl
