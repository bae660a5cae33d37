-- What the functions of this crate promise one another: a code behind what was read, an E with its code, and the limits of a `within` line.
-- Assumes nothing.
use Rattle.std.specs.Prelude.{Result, Ok, Err, ℕ, ◌+◌, ◌<◌, List, [], ◌∷◌, ◌++◌}
use Rattle.std.proofs.lemmas.List.Edits.{sets}
use Rattle.claims.specs.Tokens.{Token as Piece}
use Rattle.claims.specs.Grammar.{Found, and_then}
use Rattle.claims.specs.Lines.{mapped, expression, bracketed}
use Rattle.claims.specs.Names.{Use, test_uses, tree_uses}
use Rattle.claims.specs.Query.{Query, Limit}
use Rattle.codes.specs.Codes.{test_codes, tree_codes, TESTED}
use Rattle.read_tests.specs.declared.Place.{Place}
use Rattle.read_tests.specs.declared.Fault.{Fault}
use Rattle.read_tests.specs.declared.Fault.TheVariants.{Wrong, Deep}
use Rattle.read_bodies.specs.Bodies.{Reads, ending}

-- there is room for a code behind what was read; the place behind it, and the array with it
abbrev pub Fits : Result Place Fault → Type 0
Fits (Ok g) = g.used < 4096
Fits (Err Wrong) = Unit {0}
Fits (Err Deep) = Unit {0}

unfoldable pub one_code : Result Place Fault → Result Place Fault
one_code (Ok g) = Ok (record { at = g.at; used = g.used + 1; slip = g.slip })
one_code (Err Wrong) = Err Wrong
one_code (Err Deep) = Err Deep

unfoldable pub code_stored : ℕ → Result Place Fault → List ℕ → List ℕ
code_stored code (Ok g) out = sets out g.used (code ∷ [])
code_stored code (Err Wrong) out = out
code_stored code (Err Deep) out = out

-- an E with a code behind it
abbrev pub TreeThen : ℕ → List ℕ → List ℕ → ℕ → Place → List ℕ → List ℕ → Result Place Fault → Type 0
TreeThen code s names n p before after r = Reads expression (ending code tree_codes) tree_uses 1 s names n p before after r

-- a T in square brackets
abbrev pub Bracketed : List ℕ → List ℕ → ℕ → Place → List ℕ → List ℕ → Result Place Fault → Type 0
Bracketed s names n p before after r = Reads bracketed (ending TESTED test_codes) test_uses 0 s names n p before after r

-- `[T] [U]`
unfoldable pub limits_reader : List Piece → Found Limit
limits_reader ts = and_then (bracketed ts) (λ t us. mapped (λ u. record { from = t; to = u }) (bracketed us))

abbrev pub limit_codes : Query → Limit → List ℕ
limit_codes q l = ending TESTED test_codes q l.from ++ ending TESTED test_codes q l.to

abbrev pub limit_uses : Limit → List Use
limit_uses l = test_uses l.from ++ test_uses l.to

-- both of them, and then a code
abbrev pub LimitsThen : ℕ → List ℕ → List ℕ → ℕ → Place → List ℕ → List ℕ → Result Place Fault → Type 0
LimitsThen code s names n p before after r = Reads limits_reader (ending code limit_codes) limit_uses 1 s names n p before after r
