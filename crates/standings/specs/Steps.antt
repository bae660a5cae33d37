-- One letter on, for a set of occurrences as a machine word, by the table of a side (`side_tables`'s `side_table`): bit p - 1 for
-- occurrence p. (Document 01, "Standings".)
-- Assumes nothing.
use Rattle.std.specs.Prelude.{ℕ, ◌+◌, ◌-◌, ◌*◌, Bool, cond, not, ◌&&◌, List, [], ◌∷◌, get_or, take, drop}
use Rattle.std.specs.Int.Bits.{bit_and, bit_or}
use Rattle.kat.specs.Lists.{filter}
use Rattle.claims.specs.Query.{bit}
use Rattle.claims.specs.Standings.{Letter}
use Rattle.bits.specs.Sets.{union_rows, meets, members}
use Rattle.side_tables.specs.Layout.{ENDS, LETTERS, NULL, ROW}

-- the occurrences that may come next at atom a, where p was read last (0: nothing yet)
unfoldable pub next_set : List ℕ → ℕ → ℕ → ℕ
next_set t a p = get_or t (ROW * a + p) 0

-- the occurrences that read relation r
unfoldable pub readers : List ℕ → ℕ → ℕ
readers t r = get_or t (LETTERS + r) 0

-- the occurrences at which a word may end at atom a
unfoldable pub enders : List ℕ → ℕ → ℕ
enders t a = get_or t (ENDS + a) 0

-- what may have been read of one letter, where p was read last (0: nothing yet)
unfoldable pub step_from : List ℕ → ℕ → ℕ → ℕ → ℕ
step_from t p a r = bit_and (next_set t a p) (readers t r)

-- what may have been read one letter on, where one of the set s was read last: the union of its rows, cut by the letter
unfoldable pub step_set : List ℕ → ℕ → ℕ → ℕ → ℕ
step_set t s a r = bit_and (union_rows (take 64 (drop (ROW * a + 1) t)) s) (readers t r)

-- one of the set s may be read last at atom a
unfoldable pub ends_set : List ℕ → ℕ → ℕ → Bool
ends_set t s a = meets s (enders t a)

-- the single atom a is a word
unfoldable pub null_at : List ℕ → ℕ → Bool
null_at t a = bit a (get_or t NULL 0)

-- right occurrence q may be read next by the letter, where p was read last (0: nothing yet)
unfoldable pub leads : List ℕ → Letter → ℕ → ℕ → Bool
leads right l p q = bit (q - 1) (step_from right p l.atom l.relation)

-- the union of what w has for those numbers o of the list from which q is read
unfoldable pub joined : List ℕ → Letter → (ℕ → ℕ) → ℕ → List ℕ → ℕ
joined right l w q [] = 0
joined right l w q (o ∷ os) = bit_or (cond (leads right l o q) (w o) 0) (joined right l w q os)

-- the atoms that are refuting words of length 0, rising: left words that are no right words
unfoldable pub alone_words : List ℕ → List ℕ → ℕ → List ℕ
alone_words left right live = filter (λ a. null_at left a && not (null_at right a)) (members live)
