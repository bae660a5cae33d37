-- Records as rows of four numbers: P, S, the place of the parent, the letter. (Document 01, "Standings".) The memory of a search is reasoned about in
-- rows, beside the words of ring claims.
-- Assumes nothing.
use Rattle.std.specs.Prelude.{ℕ, ◌<◌, ◌≡◌, Option, Some, None, List, [], ◌∷◌, map, get_or}
use Rattle.search_records.specs.declared.Record.{Record}

-- the four numbers of a record
abbrev pub row_of : Record → List ℕ
row_of r = r.p ∷ r.s ∷ r.parent ∷ r.letter ∷ []

-- lent records as rows
abbrev pub rows : List Record → List (List ℕ)
rows rs = map row_of rs

-- the record at place i, or zeros past the end
unfoldable pub record_at : List (List ℕ) → ℕ → Record
record_at r i =
    record {
      p = get_or (get_or r i []) 0 0;
      s = get_or (get_or r i []) 1 0;
      parent = get_or (get_or r i []) 2 0;
      letter = get_or (get_or r i []) 3 0;
    }

-- the place that is found is below n and keeps this P and this S; none is found where no place below n does
abbrev pub FoundIn : List (List ℕ) → ℕ → ℕ → ℕ → Option ℕ → Type 0
FoundIn r n p s (Some i) = (i < n) × ((record_at r i).p ≡ p) × ((record_at r i).s ≡ s)
FoundIn r n p s None = (i : ℕ) → i < n → (record_at r i).p ≡ p → (record_at r i).s ≡ s → ⊥
