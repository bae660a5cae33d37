-- A ring standing as words: word 0 is P, bit p - 1 for occurrence p; the words from 1 to MOST-RIGHT are columns: word q has at bit p that q is in
-- row p of M, and at bit WIDTH + p that (q, p) is in N; word FIRST is the first atom, word FLAG is Z. (Document 01, "Standings".) A step of M and of N is
-- one union of columns; a new pair at an atom is the union of the columns of the occurrences that may end there, moved up by the width. A ring
-- claim has at most MOST-RIGHT right occurrences, so a larger n counts for that many.
-- Assumes nothing.
use Rattle.std.specs.Prelude.{ℕ, suc, ◌+◌, ◌*◌, ◌-◌, ◌%◌, ◌^◌, min, Bool, false, cond, not, ◌&&◌, ◌||◌, List, [], ◌∷◌, ◌++◌, get_or, take, drop, eqb}
use Rattle.std.specs.Int.Bits.{bit_or}
use Rattle.kat.specs.Lists.{upto, some}
use Rattle.kat.specs.Closure.{Table, entry, closure}
use Rattle.claims.specs.Standings.{Letter}
use Rattle.claims.specs.Query.{bit}
use Rattle.memory.specs.Memory.{words}
use Rattle.bits.specs.Sets.{union_rows}
use Rattle.standings.specs.Steps.{step_from, step_set, enders, ends_set, null_at, leads, joined}
use Rattle.layout.specs.Layout.{WIDTH, MOST-RIGHT}
use Rattle.search_standings.specs.Layout.{FIRST, FLAG}

-- the words of a standing: P, the columns, the first atom, Z
unfoldable pub ring_words : ℕ → (ℕ → ℕ) → ℕ → ℕ → List ℕ
ring_words P column first Z = P ∷ (words MOST-RIGHT (λ k. column (suc k)) ++ (first ∷ Z ∷ []))

-- column q of a prefix of one relation: the p from 0 to n from which q is read
unfoldable pub begin_column : List ℕ → ℕ → Letter → ℕ → ℕ
begin_column right n l q = joined right l (λ p. 2 ^ p) q (upto 0 (suc (min n MOST-RIGHT)))

-- the rows p of M one of whose members may end at the atom, moved up by the width: the pairs that open there
unfoldable pub opened : List ℕ → List ℕ → ℕ → ℕ
opened right s a = union_rows (take MOST-RIGHT (drop 1 s)) (enders right a) % 2 ^ WIDTH * 2 ^ WIDTH

-- column q one letter on
unfoldable pub onward_column : List ℕ → List ℕ → Letter → ℕ → ℕ
onward_column right s l q =
    bit_or (joined right l (λ o. get_or s o 0) q (upto 1 WIDTH)) (cond (leads right l 0 q) (opened right s l.atom) 0)

-- 1 for true
abbrev pub flag : Bool → ℕ
flag b = cond b 1 0

-- of a prefix of one relation; n right occurrences
unfoldable pub ring_begin : List ℕ → List ℕ → ℕ → Letter → List ℕ
ring_begin left right n l =
    ring_words (step_from left 0 l.atom l.relation) (begin_column right n l) l.atom (flag (null_at right l.atom))

-- of a prefix one relation longer
unfoldable pub ring_onward : List ℕ → List ℕ → List ℕ → Letter → List ℕ
ring_onward left right s l =
    ring_words (step_set left (get_or s 0 0) l.atom l.relation) (onward_column right s l) (get_or s FIRST 0)
    (flag (not (eqb (get_or s FLAG 0) 0) || null_at right l.atom))

-- q is in row p of M
unfoldable pub in_m : List ℕ → ℕ → ℕ → Bool
in_m s p q = cond (eqb q 0) false (bit p (get_or s q 0))

-- (q, p) is in N
unfoldable pub in_n : List ℕ → ℕ → ℕ → Bool
in_n s q p = cond (eqb q 0) false (bit (WIDTH + p) (get_or s q 0))

-- some turns from 0, one or more, lead to an occurrence that may end at the first atom; n right occurrences
unfoldable pub turn_ends : List ℕ → ℕ → List ℕ → Table → Bool
turn_ends right n s turns = some (λ q. entry turns 0 q && bit (q - 1) (enders right (get_or s FIRST 0))) (upto 1 (suc n))

-- for some pair (q, p) none or more turns lead from q to p
unfoldable pub pair_turns : ℕ → List ℕ → Table → Bool
pair_turns n s turns =
    some (λ q. some (λ p. in_n s q p && (eqb q p || entry turns q p)) (upto 0 (suc n))) (upto 1 (suc n))

-- the completed ring is covered, as `covered` of `claims` has it
unfoldable pub ring_covered : List ℕ → ℕ → List ℕ → Bool
ring_covered right n s =
    let turns : Table = closure (suc (min n MOST-RIGHT)) (in_m s) in
    not (eqb (get_or s FLAG 0) 0) || turn_ends right (min n MOST-RIGHT) s turns || pair_turns (min n MOST-RIGHT) s turns

-- a ring completes with its first atom, if that is live
unfoldable pub ring_finals : List ℕ → List ℕ → ℕ → ℕ → List ℕ → List ℕ
ring_finals left right n live s =
    cond (bit (get_or s FIRST 0) live && ends_set left (get_or s 0 0) (get_or s FIRST 0) && not (ring_covered right n s)) (get_or s FIRST 0 ∷ []) []
