-- Verdicts of small claims at an allowance, as rows: where a search can go wrong by itself, before there is a sheet or a printed line.
-- (Document 01, "Standings".) All of it holds by computation over the definitions.
-- Assumes nothing.
use Prim.Native.Nat.{ℕ}
use Prim.Native.String.{String}
use mathlib.Core.Path.{◌≡◌, refl}
use mathlib.Core.List.{List, [], ◌∷◌, ◌++◌, map}
use mathlib.Core.Option.{some, none}
use lib.ListN.{length}
use Rattle.kat.specs.Word.{numbers}
use Rattle.notation.specs.Bytes.{text}
use Rattle.notation.specs.Refusals.{ok, refused}
use Rattle.notation.specs.RefusalLine.{spaced, refusal_line}
use Rattle.notation.specs.Query.{Query}
use Rattle.notation.specs.Decisions.{decisions, last_of}
use Rattle.notation.specs.Reading.{read}
use Rattle.notation.specs.Sides.{decision}
use Rattle.verdicts.specs.Standings.{System, claim_system}
use Rattle.verdicts.specs.Search.{Verdict, proved, refuted, spent, verdict}
use Rattle.verdicts.proofs.Evaluate.{everything}

pub record Sought : Type 0 where
  pub allowance : ℕ
  pub query : String
  pub line : String

abbrev pub verdict_line : (S : System) → Verdict S → List ℕ
verdict_line S (proved ss) = text "proved" ++ spaced (length ss ∷ [])
verdict_line S (refuted w) = text "refuted" ++ spaced (numbers w)
verdict_line S spent = text "spent"

abbrev pub claim_verdict : ℕ → Query → List ℕ
claim_verdict n q =
    elim (last_of (decisions q)) [
      | none ↦ []
      | some d ↦ verdict_line (claim_system (decision d.over d.claim)) (verdict (claim_system (decision d.over d.claim)) n)
    ]

unfoldable pub sought : Sought → List ℕ
sought c = elim (read (text c.query)) [ ok q ↦ claim_verdict c.allowance q | refused r ↦ refusal_line r ]

abbrev pub expected : Sought → List ℕ
expected c = text c.line

abbrev pub small : List Sought
small =
    -- as many standings as the allowance, and one more; the allowance is tested before the refuting word of the same length
    record { allowance = 1; query = "rel r\nclaim include r in r\n"; line = "proved 1" }
    ∷ record { allowance = 1; query = "rel a\nrel b\nclaim include a;b in a;b\n"; line = "spent" }
    ∷ record { allowance = 1; query = "rel a\nrel b\nclaim empty a|b\n"; line = "spent" }
    ∷ record { allowance = 2; query = "rel a\nrel b\nclaim empty a|b\n"; line = "refuted 0 0 0" }
    -- a standing that comes again is one standing; a word of length 0, and of length 2
    ∷ record { allowance = 2; query = "rel r\nclaim include r+ in r+\n"; line = "proved 1" }
    ∷ record { allowance = 2; query = "claim irreflexive [true]\n"; line = "refuted 0" }
    ∷ record { allowance = 2; query = "rel r\nclaim include r;r in r\n"; line = "refuted 0 0 0 0 0" }
    -- rings: the rotation of a word twice round, and of two relations; assumed emptiness over more than one turn; a right word of length 0
    -- in mid-ring
    ∷ record { allowance = 2; query = "rel r\nassume irreflexive r;r\nclaim irreflexive r\n"; line = "proved 1" }
    ∷ record { allowance = 2; query = "rel a\nrel b\nassume irreflexive a;b\nclaim irreflexive b;a\n"; line = "proved 2" }
    ∷ record { allowance = 2; query = "rel r\nassume empty r;r\nclaim irreflexive r\n"; line = "proved 1" }
    ∷ record { allowance = 4; query = "test T\nrel r\nassume irreflexive [T]\nclaim irreflexive r;[T];r\n"; line = "proved 4" }
    ∷ []

pub verdicts_of_claims : map sought small ≡ map expected small
unfolding sought everything
verdicts_of_claims = refl
