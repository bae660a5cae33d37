-- What stands behind a line word, by the word's place in the table of line kinds: the reader and the sort of line that it has there. Behind the
-- last place nothing is read.
-- Assumes nothing.
use Prim.Native.Nat.{ℕ, zero, suc, ◌≤◌}
use native.Mathlib.Omega.{arith}
use mathlib.Core.Path.{◌≡◌, refl, subst⁻¹}
use mathlib.Core.List.{List, [], ◌∷◌}
use lib.Dec.{eqb}
use lib.ListN.{length}
use Rattle.std.specs.Prelude.{Result, Ok, Err}
use Rattle.claims.specs.Tokens as Notation
use Rattle.claims.specs.Grammar.{Found, wrong}
use Rattle.claims.specs.Tree.{Line}
use Rattle.claims.specs.Lines.{Choice, line_kinds}
use Rattle.memory.specs.Memory.{zeros}
use Rattle.read_tests.specs.declared.Place.{Place}
use Rattle.read_tests.specs.declared.Fault.{Fault}
use Rattle.read_tests.specs.declared.Fault.TheVariants.{Wrong, Deep}
use Rattle.read_bodies.specs.Bodies.{BodyOutcome, Bare}
use Rattle.read_declarations.specs.inner.Kinds.{reads_at, SortOf}

-- a line of one sort is of another, where the one is the other
pub body_sorted : (D : List Notation.Token → Found Line) (K L : Line → Type 0) (s names : List ℕ) (n at used : ℕ) (before after : List ℕ)
    → ((l : Line) → K l → L l) → (r : Result Place Fault) → BodyOutcome D K s names n at used before after r → BodyOutcome D L s names n at used before after r
body_sorted D K L s names n at used before after f (Ok g) (a, b) = (
  a,
  (λ q m. let o = b q m in
      record { line = o.line; sort = f o.line o.sort; read = o.read; slip = o.slip; written = o.written; used = o.used }),
)
body_sorted D K L s names n at used before after f (Err Wrong) o = o
body_sorted D K L s names n at used before after f (Err Deep) o = o

-- the place in the table is known
module _ (s names : List ℕ) (n at used : ℕ) (before after : List ℕ) (r : Result Place Fault) where
  abbrev BodyAt : ℕ → Type 0
  BodyAt i = BodyOutcome (reads_at line_kinds i) (SortOf i s at) s names n at used before after r

  pub body_at : (place i : ℕ) → place ≡ i → BodyAt i → BodyAt place
  body_at place i e h = subst⁻¹ BodyAt e h

-- nothing is read at a place behind the table
reads_beyond : (cs : List Choice) (n : ℕ) (ts : List Notation.Token) → length cs ≤ n → reads_at cs n ts ≡ wrong
unfolding reads_at
reads_beyond [] n ts h = refl
reads_beyond (c ∷ cs) zero ts h = absurd (omega arith)
reads_beyond (c ∷ cs) (suc n) ts h = reads_beyond cs n ts (omega arith)

-- so a word that begins no line
pub none_read : (s names : List ℕ) (n at used : ℕ) (before after : List ℕ) (r : Result Place Fault) → (r ≡ Err Wrong) × (after ≡ zeros 4096)
    → BodyOutcome (reads_at line_kinds 8) (SortOf 8 s at) s names n at used before after r
unfolding line_kinds
none_read s names n at used before after r (e, z) = rw e (z, (λ q m. reads_beyond line_kinds 8 _ (omega arith)))
