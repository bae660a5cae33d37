-- The table of an expression, as the search and the sheet check read it: 4,241 words. (Document 01, "Standings".) A set of occurrences is a
-- word, bit p - 1 for occurrence p, and a set of atoms one too, bit a for atom a. There are at most 64 occurrences, 64 atoms and 16
-- relations.
-- Assumes nothing.
use Rattle.std.specs.Prelude.{ℕ, suc, ◌/◌, ◌%◌, Bool, List, [], ◌∷◌, ◌++◌}
use Rattle.kat.specs.Expr.{Expr}
use Rattle.kat.specs.Lists.{upto, filter}
use Rattle.kat.specs.Tables.{occurrences, reads, null, next, stop}
use Rattle.claims.specs.Fields.{set_number}
use Rattle.side_atoms.specs.Atoms.{atoms_of}
use Rattle.memory.specs.Memory.{words}
use Rattle.side_tables.specs.Layout.{ENDS, ROW}

-- the set of the occurrences from 1 to n that pass a test
abbrev pub occurrence_set : ℕ → (ℕ → Bool) → ℕ
occurrence_set n f = set_number 1 (filter f (upto 1 (suc n)))

-- at place 65 * a + p the occurrences that may come next at atom a where p was read last, 0 for nothing read ("Standings")
unfoldable pub step_words : Expr → List ℕ
step_words E = words ENDS (λ i. occurrence_set (occurrences E) (λ q. next E (i % ROW) q (i / ROW)))

-- at place a the occurrences that may be last at atom a ("Standings")
unfoldable pub end_words : Expr → List ℕ
end_words E = words 64 (λ a. occurrence_set (occurrences E) (λ p. stop E p a))

-- at place r the occurrences that read relation r ("Standings")
unfoldable pub letter_words : Expr → List ℕ
letter_words E = words 16 (λ r. occurrence_set (occurrences E) (λ q. reads E 0 q r))

-- the table: the steps, the ends, the letters, and the atoms that are words ("Standings")
unfoldable pub side_table : Expr → List ℕ
side_table E = step_words E ++ (end_words E ++ (letter_words E ++ (atoms_of (null E) ∷ [])))
