-- From one reader's answers to another's: the same tree, codes and place, found by another definition; or no tree, handed on.
-- Assumes nothing.
use Prim.Native.Nat.{ℕ, suc, ◌*◌}
use native.Mathlib.Omega.{arith}
use mathlib.Core.List.{List}
use lib.ListN.{length, drop}
use Rattle.std.specs.Prelude.{Result, Ok, Err}
use Rattle.claims.specs.Tokens.{Token, tokens}
use Rattle.claims.specs.Grammar.{Found, got, wrong, deep}
use Rattle.claims.specs.Lines.{enough}
use Rattle.claims.specs.Names.{Use}
use Rattle.claims.specs.Query.{Query}
use Rattle.read_tests.specs.declared.Place.{Place}
use Rattle.read_tests.specs.declared.Fault.{Fault}
use Rattle.read_tests.specs.declared.Fault.TheVariants.{Wrong, Deep}
use Rattle.read_tests.specs.Places.{ReaderOutcome, Finds, Is}

pub outcome_by : {A : Type 0} (Reads Also : List Token → Found A → Type 0) (codes : Query → A → List ℕ) (uses : A → List Use) (s names : List ℕ)
    (n : ℕ) (p : Place) (before after : List ℕ)
    → ((x : Found A) → Reads (tokens (drop p.at s)) x → Also (tokens (drop p.at s)) x)
    → (y : Result Place Fault) → ReaderOutcome Reads codes uses s names n p before after y → ReaderOutcome Also codes uses s names n p before after y
outcome_by Reads Also codes uses s names n p before after h (Ok r) o =
    record { tree = o.tree; read = h (got o.tree (tokens (drop r.at s))) o.read; moved = o.moved; told = o.told }
outcome_by Reads Also codes uses s names n p before after h (Err Wrong) (o, z) = (h wrong o, z)
outcome_by Reads Also codes uses s names n p before after h (Err Deep) (o, z) = (h deep o, z)

-- with no open bracket: the depth of calls that a line gives is enough
pub outcome_of_all : {A : Type 0} (D : ℕ → ℕ → List Token → Found A) (codes : Query → A → List ℕ) (uses : A → List Use) (s names : List ℕ) (n : ℕ)
    (p : Place) (before after : List ℕ) (y : Result Place Fault) → ReaderOutcome (Finds D 0 4) codes uses s names n p before after y
    → ReaderOutcome (Is (λ ts. D (enough ts) 0 ts)) codes uses s names n p before after y
unfolding enough
outcome_of_all D codes uses s names n p before after y o =
    outcome_by (Finds D 0 4) (Is (λ ts. D (enough ts) 0 ts)) codes uses s names n p before after
    (λ x h. h (8 * suc (length (tokens (drop p.at s)))) (omega arith)) y o

-- a fault is handed on: a reader has it for its answer as soon as a reader that it calls has
pub handed_on : (Called Own : Result Place Fault → Type 0) → (Called (Err Wrong) → Own (Err Wrong)) → (Called (Err Deep) → Own (Err Deep))
    → (e : Fault) → Called (Err e) → Own (Err e)
handed_on Called Own w d Wrong o = w o
handed_on Called Own w d Deep o = d o
