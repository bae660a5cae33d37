-- A ring standing as CELLS cells, one letter on, and whether it completes. (Document 01, "Standings".) Cell 0 has the length of the contents of
-- its field, the first atom and Z, each in its bytes; P is cells 1 and 2; row p of M is cell M-AT + p, with bit q for occurrence q; row q of N is
-- cell N-AT + q, with bit p for p. Each row of M goes on by itself; a row of N goes to the rows of the occurrences that may be read next, and row 0,
-- which holds nothing, gives way to the pairs that open.
-- Assumes nothing.
use Rattle.std.specs.Prelude.{ℕ, suc, ◌+◌, ◌*◌, ◌-◌, ◌/◌, ◌%◌, ◌^◌, min, Bool, cond, not, ◌&&◌, ◌||◌, List, [], ◌∷◌, ◌++◌, eqb, ltb, leb, get_or, take, drop}
use Rattle.kat.specs.Lists.{upto, filter, some}
use Rattle.kat.specs.Closure.{Table, entry, closure}
use Rattle.kat.specs.Tables.{occurrences}
use Rattle.claims.specs.Sides.{Decision}
use Rattle.claims.specs.Standings.{Letter, Ring}
use Rattle.claims.specs.Query.{bit}
use Rattle.claims.specs.Fields.{set_number, number_set}
use Rattle.claims.specs.SheetReading.{rows_pass, row_of_m, row_of_n, table_of}
use Rattle.memory.specs.Memory.{words}
use Rattle.standings.specs.Steps.{step_from, step_set, enders, ends_set, null_at, joined}
use Rattle.layout.specs.Layout.{MOST-RIGHT, RING-CONTENTS, WIDTH}
use Rattle.sheet_standings.specs.Layout.{halves, wide, M-AT, N-AT}

-- the first atom and Z, behind the length of the field ("Sheet and graph bytes")
unfoldable pub head_cell : ℕ → ℕ → ℕ
head_cell first z = RING-CONTENTS * 65536 + 256 * first + z

unfoldable pub first_in : List ℕ → ℕ
first_in s = get_or s 0 0 / 256 % 256

unfoldable pub flag_in : List ℕ → ℕ
flag_in s = get_or s 0 0 % 256

-- row p of M, and row q of N ("Standings")
unfoldable pub row_m : List ℕ → ℕ → ℕ
row_m s p = get_or s (M-AT + p) 0

unfoldable pub row_n : List ℕ → ℕ → ℕ
row_n s q = get_or s (N-AT + q) 0

-- the cells of a standing, by its head, P and its rows ("Sheet and graph bytes")
unfoldable pub ring_cells : ℕ → ℕ → (ℕ → ℕ) → (ℕ → ℕ) → List ℕ
ring_cells head P m n = head ∷ (halves P ++ (words WIDTH m ++ words WIDTH n))

-- a set of occurrences up to MOST-RIGHT as a row: occurrence q at bit q instead of q - 1 ("Sheet and graph bytes")
unfoldable pub raised : ℕ → ℕ
raised s = s % 2 ^ MOST-RIGHT * 2

-- 1 for true
abbrev pub flag : Bool → ℕ
flag b = cond b 1 0

-- of a prefix of one relation ("Standings")
unfoldable pub ring_begin : List ℕ → List ℕ → Letter → List ℕ
ring_begin left right l =
    ring_cells (head_cell l.atom (flag (null_at right l.atom))) (step_from left 0 l.atom l.relation)
    (λ p. raised (step_from right p l.atom l.relation)) (λ q. 0)

-- the numbers p such that a member of row p of M may end at atom a: the pairs that open there ("Standings")
unfoldable pub opened : List ℕ → List ℕ → ℕ → ℕ
opened right s a = set_number 0 (filter (λ p. ends_set right (row_m s p / 2) a) (upto 0 WIDTH))

-- what goes on from o into the rows of N: from 0 the pairs that open, from another its row ("Standings")
unfoldable pub sent : List ℕ → List ℕ → ℕ → ℕ → ℕ
sent right s a o = cond (eqb o 0) (opened right s a) (row_n s o)

-- one letter on ("Standings")
unfoldable pub ring_onward : List ℕ → List ℕ → List ℕ → Letter → List ℕ
ring_onward left right s l =
    ring_cells (head_cell (first_in s) (flag (not (eqb (flag_in s) 0) || null_at right l.atom)))
    (step_set left (wide s 1) l.atom l.relation) (λ p. raised (step_set right (row_m s p / 2) l.atom l.relation))
    (λ q. cond (eqb q 0) 0 (joined right l (sent right s l.atom) q (upto 0 WIDTH)))

-- q is in row p of M
unfoldable pub in_m : List ℕ → ℕ → ℕ → Bool
in_m s p q = bit q (row_m s p)

-- some turns from 0, one or more, lead to an occurrence that may end at the first atom; n right occurrences ("Standings")
unfoldable pub turn_ends : List ℕ → ℕ → List ℕ → Table → Bool
turn_ends right n s turns = some (λ q. entry turns 0 q && bit (q - 1) (enders right (first_in s))) (upto 1 (suc n))

-- for some pair (q, p) none or more turns lead from q to p ("Standings")
unfoldable pub pair_turns : ℕ → List ℕ → Table → Bool
pair_turns n s turns =
    some (λ q. some (λ p. bit p (row_n s q) && (eqb q p || entry turns q p)) (upto 0 (suc n))) (upto 1 (suc n))

-- the completed ring is covered; n right occurrences ("Standings")
unfoldable pub ring_covered : List ℕ → ℕ → List ℕ → Bool
ring_covered right n s =
    let turns : Table = closure (suc (min n MOST-RIGHT)) (in_m s) in
    not (eqb (flag_in s) 0) || turn_ends right (min n MOST-RIGHT) s turns || pair_turns (min n MOST-RIGHT) s turns

-- a ring completes with its first atom, if that is live ("Standings")
unfoldable pub ring_finals : List ℕ → List ℕ → ℕ → ℕ → List ℕ → List ℕ
ring_finals left right n live s =
    cond (bit (first_in s) live && ends_set left (wide s 1) (first_in s) && not (ring_covered right n s)) (first_in s ∷ []) []

-- the first atom, Z, P and the rows are as they may be, for l and r occurrences and so many atoms ("Sheet and graph bytes")
unfoldable pub ring_fits : ℕ → ℕ → ℕ → List ℕ → Bool
ring_fits atoms l r s =
    ltb (first_in s) atoms && leb (flag_in s) 1 && ltb (wide s 1) (2 ^ l)
    && rows_pass (row_of_m r) 0 (take WIDTH (drop M-AT s)) && rows_pass (row_of_n r) 0 (take WIDTH (drop N-AT s))

-- the standing that the cells show ("Standings")
abbrev pub ring_shown : Decision → List ℕ → Ring
ring_shown D s =
    record {
      first = first_in s;
      Z = eqb (flag_in s) 1;
      P = number_set 1 (suc (occurrences D.left)) (wide s 1);
      M = table_of (occurrences D.right) (take WIDTH (drop M-AT s));
      N = table_of (occurrences D.right) (take WIDTH (drop N-AT s));
    }
