-- The table of a side (`SideTable.antt`) in memory, changed in place from part to part of the expression: a new occurrence, two parts in
-- sequence, a part one or more times. (Document 01, "Standings".) Occurrence p has bit p - 1. At place 65 * a + p stand the occurrences that
-- may come next at atom a where p was read last, 0 for nothing read, at 4160 + a those that may be last at atom a, and at 4224 + r those that
-- read relation r. Each change goes atom by atom. It is defined for any memory: a place past its end takes nothing.
-- Assumes nothing.
use Rattle.std.specs.Prelude.{ℕ, ◌+◌, ◌-◌, ◌*◌, ◌^◌, Bool, cond, List, ltb, get_or, set}
use Rattle.std.specs.Int.Bits.{bit_and, bit_or}
use Rattle.kat.specs.Lists.{upto}
use Rattle.claims.specs.Query.{bit}
use Rattle.bits.specs.Sets.{including, all_below, members}
use Rattle.side_atoms.specs.Atoms.{all_atoms}
use Rattle.memory.specs.Memory.{for_each}
use Rattle.side_tables.specs.Layout.{ENDS, LETTERS, ROW}

-- the bits from lo to before hi
unfoldable pub range_set : ℕ → ℕ → ℕ
range_set lo hi = bit_and (all_below 64 hi) (all_atoms - all_below 64 lo)

-- the set f is put into the word at base + k
unfoldable pub put_into : ℕ → ℕ → ℕ → List ℕ → List ℕ
put_into base f k t = set t (base + k) (bit_or (get_or t (base + k) 0) f)

-- at atom a: those of `to` that may be first may also come after those of `from` that may be last
unfoldable pub joined_at : ℕ → ℕ → ℕ → List ℕ → List ℕ
joined_at from to a t =
    for_each (put_into (ROW * a + 1) (bit_and (get_or t (ROW * a) 0) to)) (members (bit_and (get_or t (ENDS + a) 0) from)) t

unfoldable pub joined : ℕ → ℕ → List ℕ → List ℕ
joined from to t = for_each (joined_at from to) (upto 0 64) t

-- s, where the test holds, and else without what is in r
unfoldable pub kept_if : Bool → ℕ → ℕ → ℕ
kept_if b r s = cond b s (bit_and s (all_atoms - r))

-- at atom a: where it is not in x none of `to` is first, and where it is not in y none of `from` is last
unfoldable pub cut_at : ℕ → ℕ → ℕ → ℕ → ℕ → List ℕ → List ℕ
cut_at from to x y a t =
    let u = set t (ROW * a) (kept_if (bit a x) to (get_or t (ROW * a) 0)) in
    set u (ENDS + a) (kept_if (bit a y) from (get_or u (ENDS + a) 0))

unfoldable pub cut : ℕ → ℕ → ℕ → ℕ → List ℕ → List ℕ
cut from to x y t = for_each (cut_at from to x y) (upto 0 64) t

-- the word at a place with bit k in it, where the test holds
unfoldable pub marked_at : ℕ → ℕ → Bool → List ℕ → List ℕ
marked_at i k b t = set t i (cond b (including 64 (get_or t i 0) k) (get_or t i 0))

-- it reads relation r where r is in s
unfoldable pub lettered_at : ℕ → ℕ → ℕ → List ℕ → List ℕ
lettered_at k s r t = marked_at (LETTERS + r) k (bit r s) t

-- the set f is put into the word at base of the steps at atom a
unfoldable pub put_at_atom : ℕ → ℕ → ℕ → List ℕ → List ℕ
put_at_atom base f a t = set t (ROW * a + base) (bit_or (get_or t (ROW * a + base) 0) f)

-- A new occurrence with bit k, where there is such a bit: the atoms at which it may be first, last and follow itself, and the relations that
-- it reads.
unfoldable pub added : ℕ → ℕ → ℕ → ℕ → ℕ → List ℕ → List ℕ
added k f l g s t =
    let own = 2 ^ k in
    cond (ltb k 64)
    (for_each (lettered_at k s) (upto 0 16)
    (for_each (put_at_atom (k + 1) own) (members g) (for_each (put_into ENDS own) (members l) (for_each (put_at_atom 0 own) (members f) t))))
    t

-- Two parts in sequence, of the bits from lo to before mid and from mid to before hi; x and y are the atoms that are words of the left and of
-- the right part.
unfoldable pub sequenced : ℕ → ℕ → ℕ → ℕ → ℕ → List ℕ → List ℕ
sequenced lo mid hi x y t =
    let from = range_set lo mid in
    let to = range_set mid hi in
    cut from to x y (joined from to t)

-- The part of the bits from lo to before hi, one or more times.
unfoldable pub iterated : ℕ → ℕ → List ℕ → List ℕ
iterated lo hi t = joined (range_set lo hi) (range_set lo hi) t
