-- The order of letters, words and prefixes, and standings in the order of the least shortest prefix that has each. (Document 01,
-- "Standings" and "Sheet and graph bytes".)
-- Assumes nothing.
use Rattle.std.specs.Prelude.{ℕ, ◌<◌, ◌≡◌, ◌⊎◌, List, [], ◌∷◌, map}
use Rattle.kat.specs.Lists.{In}
use Rattle.kat.specs.Ring.{Prefix, nothing, then}
use Rattle.verdicts.specs.Standings.{System, Letter}
use Rattle.verdicts.specs.Verdicts.{relations_in, StandingOf}
use Rattle.verdicts.specs.Search.{Entry}

-- each member stands in R to every member after it
abbrev pub Pairwise : {A : Type 0} → (A → A → Type 0) → List A → Type 0
Pairwise R [] = Unit {0}
Pairwise {A} R (x ∷ xs) = ((y : A) → In y xs → R x y) × Pairwise R xs

abbrev pub Rising : List ℕ → Type 0
Rising l = Pairwise ◌<◌ l

-- l comes first
abbrev pub Sooner : Letter → Letter → Type 0
Sooner l m = (l.atom < m.atom) ⊎ ((l.atom ≡ m.atom) × (l.relation < m.relation))

abbrev pub letter_of : ℕ → ℕ → Letter
letter_of a r = record { atom = a; relation = r }

-- l comes first, of two prefixes of one length
abbrev pub Earlier : Prefix → Prefix → Type 0
Earlier nothing m = ⊥
Earlier (then l a r) nothing = ⊥
Earlier (then l a r) (then m b q) =
    Earlier l m ⊎ ((l ≡ m) × Sooner (letter_of a r) (letter_of b q))

abbrev pub NotLater : Prefix → Prefix → Type 0
NotLater l m = (l ≡ m) ⊎ Earlier l m

-- shorter first, then the order of words
abbrev pub Precedes : Prefix → Prefix → Type 0
Precedes l m = (relations_in l < relations_in m) ⊎ ((relations_in l ≡ relations_in m) × Earlier l m)

-- l is the least of the shortest prefixes that have s
abbrev pub LeastPrefix : (S : System) → Prefix → S.Standing → Type 0
LeastPrefix S l s = StandingOf S l s × ((m : Prefix) → StandingOf S m s → (l ≡ m) ⊎ Precedes l m)

-- the entries have the least prefixes, in order
abbrev pub Ordered : (S : System) → List (Entry S) → Type 0
Ordered S es =
    ((e : Entry S) → In e es → LeastPrefix S e.prefix e.standing) × Pairwise (λ e f. Precedes e.prefix f.prefix) es

-- the standings are listed by their least prefixes
abbrev pub InOrder : (S : System) → List S.Standing → Type 0
InOrder S ss = (es : List (Entry S)) × (ss ≡ map (λ e. e.standing) es) × Ordered S es
