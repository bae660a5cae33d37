-- The words that are no names, each by its place among them. (Document 01, "The query".)
-- Assumes nothing.
use Rattle.std.specs.Prelude.{ℕ, List, [], ◌∷◌}
use Rattle.read_names.specs.declared.Keyword.{Keyword}
use Rattle.read_names.specs.declared.Keyword.TheVariants.{Test, Rel, Let, Never, Within, Closed, Assume, Claim, In, Empty, Include, Irreflexive, True, False}

-- the place of a word in the document's list
abbrev pub place_of : Keyword → ℕ
place_of Test = 0
place_of Rel = 1
place_of Let = 2
place_of Never = 3
place_of Within = 4
place_of Closed = 5
place_of Assume = 6
place_of Claim = 7
place_of In = 8
place_of Empty = 9
place_of Include = 10
place_of Irreflexive = 11
place_of True = 12
place_of False = 13

-- all of them, in the document's order
abbrev pub all_words : List Keyword
all_words = Test ∷ Rel ∷ Let ∷ Never ∷ Within ∷ Closed ∷ Assume ∷ Claim ∷ In ∷ Empty ∷ Include ∷ Irreflexive ∷ True ∷ False ∷ []
