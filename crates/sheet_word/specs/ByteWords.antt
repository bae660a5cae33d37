-- The bytes of a sheet's word: atom, relation, atom, .., atom, a byte a number. (Document 01, "Sheet and graph bytes".) `proofs/` shows that
-- they are read as document 01 reads them.
-- Assumes nothing.
use Rattle.std.specs.Prelude.{ℕ, Bool, false, ◌&&◌, List, [], ◌∷◌, ltb}
use Rattle.kat.specs.Word.{Word, end, at}

-- an odd number of bytes, each atom below the number of atoms and each relation below the number of relations ("Sheet and graph bytes")
unfoldable pub word_fits : ℕ → ℕ → List ℕ → Bool
word_fits atoms relations [] = false
word_fits atoms relations (a ∷ []) = ltb a atoms
word_fits atoms relations (a ∷ r ∷ ns) = ltb a atoms && (ltb r relations && word_fits atoms relations ns)

-- the word that so many bytes are; a last atom that is missing is 0 ("Sheet and graph bytes")
unfoldable pub word_read : List ℕ → Word
word_read [] = end 0
word_read (a ∷ []) = end a
word_read (a ∷ r ∷ ns) = at a r (word_read ns)
