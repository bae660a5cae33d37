-- The letters that the search tries: one set of atoms for each relation says with which atoms it is tried. (Document 01, "Standings".)
-- Assumes nothing.
use Rattle.std.specs.Prelude.{ℕ, ◌+◌, ◌*◌, ◌-◌, ◌≤◌, ◌<◌, ◌≡◌, Bool, true, cond, List, [], ◌++◌, eqb, get_or}
use Rattle.std.specs.Int.Bits.{bit_and}
use Rattle.std.specs.Int.Count.{ones, count_trailing_zeros}
use Rattle.kat.specs.Lists.{upto, filter}
use Rattle.claims.specs.Standings.{Letter, letters_at, letters_of}
use Rattle.claims.specs.Query.{bit}
use Rattle.bits.specs.Sets.{members}
use Rattle.search_grow.specs.declared.Spot.{Spot}

-- the letter's atom is in the set of its relation ("Standings")
unfoldable pub tried : List ℕ → Letter → Bool
tried masks l = bit l.atom (get_or masks l.relation 0)

-- the live letters that are tried, in the order of words: atoms rising, and relations rising for each ("Standings")
unfoldable pub letters_in : List ℕ → ℕ → ℕ → List Letter
letters_in masks live relations = filter (tried masks) (letters_of (members live) (upto 0 relations))

-- a letter that is tried
abbrev pub TriedAt : List ℕ → ℕ → ℕ → Type 0
TriedAt masks a r = tried masks (record { atom = a; relation = r }) ≡ true

-- the letters of one atom that are tried, from relation r on
unfoldable pub relations_left : List ℕ → ℕ → ℕ → ℕ → List Letter
relations_left masks relations a r = filter (tried masks) (letters_at (upto r relations) a)

-- the letters of some atoms that are tried, from relation r on with the lowest of them
unfoldable pub letters_left : List ℕ → ℕ → ℕ → ℕ → List Letter
letters_left masks relations atoms r =
    cond (eqb atoms 0) []
    (relations_left masks relations (count_trailing_zeros 64 atoms) r ++ letters_in masks (bit_and atoms (atoms - 1)) relations)

-- a number that falls from letter to letter
unfoldable pub letter_weight : ℕ → ℕ → ℕ
letter_weight atoms r = 17 * ones atoms + (16 - r)

-- the letter that is sought among those that are left from the lowest of some atoms and a relation on: it is tried, those before it are not, and
-- the number falls no less
pub record Sought (masks : List ℕ) (relations rest relation : ℕ) (s : Spot) : Type 0 where
  pub some : s.rest ≡ 0 → ⊥
  pub same : letters_left masks relations rest relation ≡ letters_left masks relations s.rest s.relation
  pub within : s.relation < relations
  pub tried : TriedAt masks (count_trailing_zeros 64 s.rest) s.relation
  pub falls : letter_weight s.rest s.relation ≤ letter_weight rest relation
