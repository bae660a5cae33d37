-- What a level completes, and what the search answers. (Document 01, "Standings".) A word is given by the place of its prefix and its last atom.
-- Assumes nothing.
use Rattle.std.specs.Prelude.{ℕ, ◌+◌, ◌≤◌, ◌≡◌, List, drop}
use Rattle.kat.specs.Word.{Word, end}
use Rattle.kat.specs.Ring.{onto}
use Rattle.claims.specs.Standings.{Letter}
use Rattle.claims.specs.Search.{proved, refuted, spent}
use Rattle.search_standings.specs.declared.Shape.{Shape}
use Rattle.search_standings.specs.Systems.{word_system}
use Rattle.search_standings.specs.Over.{levels_over, verdict_over}
use Rattle.search_store.specs.Store.{prefix_at}
use Rattle.search_course.specs.declared.Finding.{Finding}
use Rattle.search_course.specs.declared.Finding.TheVariants.{Proved, Refuted, Spent}
use Rattle.search_grow.specs.Kept.{State, state, Seen, standings, prefixes, Keeps, Kept}

module _ (k : Shape) (left right : List ℕ) where
  -- the word of a place's prefix and a last atom
  abbrev pub word_at : Seen k left right → ℕ → ℕ → Word
  word_at seen place a = onto (prefix_at (prefixes k left right seen) place) (end a)

  -- a state in the course of the search: level by level from here on, with the entries from lo on as the last level, gives the verdict
  pub record Running (ls ms : List Letter) (fuel cap : ℕ) (s : State) (lo : ℕ) : Type 0 where
    pub seen : Seen k left right
    pub left_over : ℕ
    pub enough : cap + 2 ≤ left_over + lo
    pub kept : Kept k left right cap s seen
    pub verdict :
        levels_over (word_system k left right) ms left_over cap seen (drop lo seen) ≡ verdict_over (word_system k left right) ls ms fuel cap

  -- the answer is the verdict over the letters ls and ms; where it names standings, the memory keeps them ("Standings")
  abbrev pub Answered : List Letter → List Letter → ℕ → ℕ → List (List ℕ) → List ℕ → Finding → Type 0
  Answered ls ms fuel cap r w (Proved n) =
      (seen : Seen k left right) × (verdict_over (word_system k left right) ls ms fuel cap ≡ proved (standings k left right seen))
      × Keeps k left right (state r w n) seen × (n ≤ cap)
  Answered ls ms fuel cap r w (Refuted place a) =
      (seen : Seen k left right) × (n : ℕ)
      × (verdict_over (word_system k left right) ls ms fuel cap ≡ refuted (word_at seen place a))
      × Keeps k left right (state r w n) seen × (place ≤ n) × (n ≤ cap)
  Answered ls ms fuel cap r w Spent = verdict_over (word_system k left right) ls ms fuel cap ≡ spent
