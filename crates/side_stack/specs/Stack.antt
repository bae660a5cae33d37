-- The parts of an expression that wait while its table is built, the last on top, and how they stand in memory. (Document 01, "Standings".)
-- It is defined for any memory: what is taken where no part waits is the empty part, and a full stack takes nothing more.
-- Assumes nothing.
use Rattle.std.specs.Prelude.{ℕ, zero, suc, ◌+◌, ◌*◌, ◌/◌, ◌%◌, min, true, cond, List, [], ◌∷◌, eqb, ltb, length, get_or}
use Rattle.side_stack.specs.declared.Part.{Part}

-- what is on top
unfoldable pub top_part : List Part → Part
top_part [] = record { low = 0; null = 0; looped = true }
top_part (x ∷ xs) = x

-- what is under it
unfoldable pub under_part : List Part → List Part
under_part [] = []
under_part (x ∷ xs) = xs

-- a part put on top of a stack with room for 544
unfoldable pub push_part : Part → List Part → List Part
push_part x st = cond (ltb (length st) 544) (x ∷ st) st

-- part n, from 0, stands at the places 2 * n + 2 and 2 * n + 3: twice the occurrences before it, with 1 where it is looped, and its set
unfoldable pub part_at : List ℕ → ℕ → Part
part_at ws n =
    let w = get_or ws (2 * n + 2) 0 in
    record { low = w / 2; null = get_or ws (2 * n + 3) 0; looped = eqb (w % 2) 1 }

-- the first n parts in memory as a stack
unfoldable pub parts_in : List ℕ → ℕ → List Part
parts_in ws zero = []
parts_in ws (suc n) = part_at ws n ∷ parts_in ws n

-- at place 0 stands how many occurrences there are, no more than 64, and at place 1 how many parts wait, no more than 544
unfoldable pub used_in : List ℕ → ℕ
used_in ws = min (get_or ws 0 0) 64

unfoldable pub height_in : List ℕ → ℕ
height_in ws = min (get_or ws 1 0) 544

-- the parts that wait in memory
unfoldable pub stack_in : List ℕ → List Part
stack_in ws = parts_in ws (height_in ws)
