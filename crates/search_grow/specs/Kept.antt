-- The entries of the search and the memory that keeps them. (Document 01, "Standings".) Candidates come one behind the other; the fresh ones
-- are kept, in the order of their least prefix, so that the memory is the list of entries seen. The candidate past the allowance is counted and
-- not kept, and from then on nothing more is said of the memory. Place 0 is the empty prefix, place i + 1 is entry i.
-- Assumes nothing.
use Rattle.std.specs.Prelude.{ℕ, zero, suc, ◌+◌, ◌*◌, ◌/◌, ◌%◌, ◌≤◌, ◌<◌, ◌≡◌, ◌⊎◌, Bool, true, false, List, [], ◌∷◌, ◌++◌, map, length, get_or, drop}
use Rattle.kat.specs.Lists.{upto}
use Rattle.kat.specs.Ring.{Prefix, then}
use Rattle.claims.specs.Standings.{Letter}
use Rattle.claims.specs.Search.{Entry, fresh}
use Rattle.search_standings.specs.declared.Shape.{Shape}
use Rattle.search_standings.specs.Systems.{begin_words, onward_words, word_system}
use Rattle.search_store.specs.Store.{standing_at, Room, prefix_at, Holds}
use Rattle.layout.specs.Layout.{RING-WORDS, MOST-STANDINGS}

-- the two memories, and how many standings were counted
pub record State : Type 0 where
  pub records : List (List ℕ)
  pub words : List ℕ
  pub count : ℕ

-- a state, by its parts
abbrev pub state : List (List ℕ) → List ℕ → ℕ → State
state r w n = record { records = r; words = w; count = n }

-- from one state to a later one: the sizes stay, nothing past the needed memory changes nor anything of the other kind, and the count
-- grows to at most one more than the allowance
pub record Inside (ring : Bool) (cap : ℕ) (s t : State) : Type 0 where
  pub records_length : length t.records ≡ length s.records
  pub words_length : length t.words ≡ length s.words
  pub records_past : drop cap t.records ≡ drop cap s.records
  pub words_past : drop (RING-WORDS * cap) t.words ≡ drop (RING-WORDS * cap) s.words
  pub other_records : ring ≡ true → t.records ≡ s.records
  pub other_words : ring ≡ false → t.words ≡ s.words
  pub low : s.count ≤ t.count
  pub high : t.count ≤ cap + 1

-- there is room for the allowance, and the count is at most one more
pub record Ready (ring : Bool) (cap : ℕ) (s : State) : Type 0 where
  pub allowance : cap ≤ MOST-STANDINGS
  pub room : Room ring s.records s.words cap
  pub counted : s.count ≤ cap + 1

module _ (k : Shape) (left right : List ℕ) where
  -- entries of the search
  abbrev pub Seen : Type 0
  Seen = List (Entry (word_system k left right))

  -- their standings, and their prefixes
  abbrev pub standings : Seen → List (List ℕ)
  standings seen = map (λ e. e.standing) seen

  abbrev pub prefixes : Seen → List Prefix
  prefixes seen = map (λ e. e.prefix) seen

  -- the memory keeps these entries
  abbrev pub Keeps : State → Seen → Type 0
  Keeps s seen = Holds k.ring s.records s.words s.count (standings seen) (prefixes seen)

  -- it does, or there are more of them than the allowance
  abbrev pub Kept : ℕ → State → Seen → Type 0
  Kept cap s seen = ((s.count ≤ cap) × Keeps s seen) ⊎ ((s.count ≡ cap + 1) × (cap < length seen))

  -- the entries after more candidates
  abbrev pub grow : Seen → Seen → Seen
  grow seen cands = seen ++ fresh (word_system k left right) seen cands

  -- the words of the standing one letter behind a place
  unfoldable pub words_behind : List (List ℕ) → ℕ → Letter → List ℕ
  words_behind ss place l =
      elim place [ zero ↦ begin_words k left right l | suc i ↦ onward_words k left right (get_or ss i []) l ]

  -- the same, by what the memory has at the place
  unfoldable pub words_at : List (List ℕ) → List ℕ → ℕ → Letter → List ℕ
  words_at r w place l =
      elim place [ zero ↦ begin_words k left right l | suc i ↦ onward_words k left right (standing_at k.ring r w i) l ]

  -- the candidate one letter behind a place
  unfoldable pub candidate : Seen → ℕ → Letter → Entry (word_system k left right)
  candidate old place l =
      record {
        standing = words_behind (standings old) place l;
        prefix = then (prefix_at (prefixes old) place) l.atom l.relation;
      }

  -- the entry of a standing on its way, by its parent and its letter
  abbrev pub entry_of : Seen → List ℕ → ℕ → ℕ → Entry (word_system k left right)
  entry_of old ws parent letter =
      record { standing = ws; prefix = then (prefix_at (prefixes old) parent) (letter / 16) (letter % 16) }

  -- the candidates behind a place, and behind each of some places
  abbrev pub candidates : Seen → ℕ → List Letter → Seen
  candidates old place ls = map (candidate old place) ls

  unfoldable pub candidates_of : Seen → List Letter → List ℕ → Seen
  candidates_of old ls [] = []
  candidates_of old ls (p ∷ ps) = candidates old p ls ++ candidates_of old ls ps

  -- from one state to a later one the candidates were noted, where the entries so far begin with the old ones
  abbrev pub Adds : ℕ → Seen → State → State → Seen → Type 0
  Adds cap old s t cands = (more : Seen) → Kept cap s (old ++ more) → Kept cap t (grow (old ++ more) cands)

  -- from one state to a later one a standing on its way was noted, with its parent and its letter
  abbrev pub Noted : ℕ → State → State → List ℕ → ℕ → ℕ → Type 0
  Noted cap s t ws parent letter = (old : Seen) → parent ≤ length old → Adds cap old s t (entry_of old ws parent letter ∷ [])

  -- from one state to a later one the candidates behind a place were noted, by these letters
  pub record NotedBehind (cap : ℕ) (s t : State) (place : ℕ) (ls : List Letter) : Type 0 where
    pub adds : (old : Seen) → place ≤ length old → Adds cap old s t (candidates old place ls)

  -- the same for the places from lo to below hi
  pub record NotedFrom (cap : ℕ) (s t : State) (lo hi : ℕ) (ls : List Letter) : Type 0 where
    pub adds : (old : Seen) → hi ≤ length old + 1 → Adds cap old s t (candidates_of old ls (upto lo hi))
