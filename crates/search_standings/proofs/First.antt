-- The lowest of a list of atoms, or 64: below 64 it is the first of the list, and otherwise the list is empty, since atoms are below 64. The
-- lowest single atom that refutes is that of the kind of standing.
-- Assumes nothing.
use Prim.Native.Nat.{ℕ, ◌≤◌, ◌<◌}
use native.Mathlib.Omega.{arith}
use mathlib.Core.Path.{◌≡◌, refl}
use mathlib.Core.Bool.{Bool}
use mathlib.Core.List.{List, [], ◌∷◌}
use Rattle.kat.specs.Lists.{In, here, filter}
use Rattle.kat.proofs.Sets.{filter_in}
use Rattle.bits.specs.Sets.{members}
use Rattle.bits.proofs.Members.{number_in}
use Rattle.search_standings.specs.declared.Shape.{Shape}
use Rattle.standings.specs.Steps.{alone_words}
use Rattle.search_standings.specs.First.{first_or, alone_at, first_alone}

pub first_some : (d : ℕ) (as' : List ℕ) → first_or d as' < d → (rest : List ℕ) × (as' ≡ first_or d as' ∷ rest)
first_some d [] h = absurd (omega arith)
first_some d (a ∷ as') h = (as', refl)

pub first_none : (d : ℕ) (as' : List ℕ) → ((a : ℕ) → In a as' → a < d) → d ≤ first_or d as' → as' ≡ []
first_none d [] b h = refl
first_none d (a ∷ as') b h = let l : a < d = b a (here refl) in absurd (omega arith)

-- an atom picked from a set of atoms is below 64
pub picked_below : (f : ℕ → Bool) (live a : ℕ) → In a (filter f (members live)) → a < 64
picked_below f live a i = (number_in 0 64 live a (filter_in f (members live) i).0).1

pub first_alone_lem : (k : Shape) (left right : List ℕ) → first_or 64 (alone_words left right k.live) ≡ first_alone left right k.live
unfolding alone_words first_alone alone_at
first_alone_lem k left right = refl
