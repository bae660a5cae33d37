-- The memory of standings. (Document 01, "Standings": the working memory.) Of the two memories that are lent only that of the claim's kind is used:
-- records of four words for path claims, P, S, parent, letter; RING-WORDS words a standing for ring claims, those that
-- tell the standing, parent, letter, and four that are unused. A parent is a place: 0 is the empty prefix, i + 1 is standing i. A letter is the number 16 * atom + relation.
-- Assumes nothing.
use Rattle.std.specs.Prelude.{ℕ, suc, ◌+◌, ◌*◌, ◌-◌, ◌/◌, ◌%◌, ◌≤◌, ◌<◌, ◌≡◌, Bool, true, false, Option, Some, None, List, [], ◌∷◌, length, get_or, set}
use Rattle.kat.specs.Ring.{Prefix, nothing, then}
use Rattle.memory.specs.Memory.{words, changed}
use Rattle.search_standings.specs.Systems.{width}
use Rattle.layout.specs.Layout.{RING-WORDS}
use Rattle.search_standings.specs.Layout.{TOLD, PARENT, LETTER}

-- word j of what is kept of standing i
unfoldable pub field_at : Bool → List (List ℕ) → List ℕ → ℕ → ℕ → ℕ
field_at ring r w i j = elim ring [ false ↦ get_or (get_or r i []) j 0 | true ↦ get_or w (RING-WORDS * i + j) 0 ]

-- the words of standing i
unfoldable pub standing_at : Bool → List (List ℕ) → List ℕ → ℕ → List ℕ
standing_at ring r w i = words (width ring) (field_at ring r w i)

-- the place of its parent
unfoldable pub parent_at : Bool → List (List ℕ) → List ℕ → ℕ → ℕ
parent_at ring r w i = field_at ring r w i (width ring)

-- its letter
unfoldable pub letter_at : Bool → List (List ℕ) → List ℕ → ℕ → ℕ
letter_at ring r w i = field_at ring r w i (suc (width ring))

-- the words of a standing on its way, in an array
unfoldable pub standing_in : Bool → List ℕ → List ℕ
standing_in ring s = words (width ring) (λ j. get_or s j 0)

-- the memory of the claim's kind has room for n standings
pub record Room (ring : Bool) (r : List (List ℕ)) (w : List ℕ) (n : ℕ) : Type 0 where
  pub path : ring ≡ false → n ≤ length r
  pub turn : ring ≡ true → RING-WORDS * n ≤ length w

-- the place that is found is that of a standing equal to s among the first n; none is found where none of them is equal
abbrev pub Place : (ℕ → List ℕ) → ℕ → List ℕ → Option ℕ → Type 0
Place at n s (Some p) = (p < n) × (at p ≡ s)
Place at n s None = (i : ℕ) → i < n → at i ≡ s → ⊥

-- the words from base on are those of s
abbrev pub Agree : List ℕ → ℕ → List ℕ → Type 0
Agree w base s = (j : ℕ) → j < TOLD → get_or w (base + j) 0 ≡ get_or s j 0

-- a memory with the words of a standing of another, from base on, put at place `at` and on, of which the first j stand there already
unfoldable pub copied : List ℕ → ℕ → List ℕ → ℕ → ℕ → List ℕ
copied to at from base j = changed (λ k w. get_or from (base + (k - at)) 0) to (at + j) (at + TOLD)

-- the records with standing s put at place n, with its parent and its letter
unfoldable pub records_after : Bool → List (List ℕ) → ℕ → List ℕ → ℕ → ℕ → List (List ℕ)
records_after ring r n s parent letter =
    elim ring [ false ↦ set r n (get_or s 0 0 ∷ get_or s 1 0 ∷ parent ∷ letter ∷ []) | true ↦ r ]

-- the words with standing s put at place n, with its parent and its letter
unfoldable pub words_after : Bool → List ℕ → ℕ → List ℕ → ℕ → ℕ → List ℕ
words_after ring w n s parent letter =
    elim ring [
      | false ↦ w
      | true ↦ set (set (copied w (RING-WORDS * n) s 0 0) (RING-WORDS * n + PARENT) parent) (RING-WORDS * n + LETTER) letter
    ]

-- the prefix of a place: of place 0 the empty one, of place i + 1 that of standing i
unfoldable pub prefix_at : List Prefix → ℕ → Prefix
prefix_at ps place = get_or (nothing ∷ ps) place nothing

-- the memory keeps n standings, with these words, and with prefixes of which each is its parent's with its letter behind
pub record Holds (ring : Bool) (r : List (List ℕ)) (w : List ℕ) (n : ℕ) (ss : List (List ℕ)) (ps : List Prefix) : Type 0 where
  pub standings_count : length ss ≡ n
  pub prefixes_count : length ps ≡ n
  pub standing : (i : ℕ) → i < n → standing_at ring r w i ≡ get_or ss i []
  pub parent : (i : ℕ) → i < n → parent_at ring r w i ≤ i
  pub prefix : (i : ℕ) → i < n
      → get_or ps i nothing ≡ then (prefix_at ps (parent_at ring r w i)) (letter_at ring r w i / 16) (letter_at ring r w i % 16)
