-- Relations on at most 64 events as tables of 64 rows: bit y of row x is the pair from x to y. (Document 01, "Sheet and graph bytes", last
-- paragraph: `|` is union, `;` composition, `+` transitive closure, and `?` adds each event with itself.) What a table has past the events
-- is kept as it is: nothing, where nothing stood there.
-- Assumes nothing.
use Rattle.std.specs.Prelude.{ℕ, zero, suc, ◌+◌, ◌*◌, ◌-◌, ◌^◌, cond, ◌&&◌, List, [], ◌∷◌, ltb, get_or}
use Rattle.std.specs.Int.Bits.{bit_and, bit_or}
use Rattle.kat.specs.Lists.{upto, filter}
use Rattle.claims.specs.Query.{bit}
use Rattle.claims.specs.Fields.{set_number}
use Rattle.memory.specs.Memory.{words, changed, zeros}
use Rattle.bits.specs.Sets.{including, members, union_rows}

-- no pair
unfoldable pub blank : List ℕ
blank = zeros 64

-- `|`: the pairs of t and those of u
unfoldable pub joined : List ℕ → List ℕ → List ℕ
joined t u = words 64 (λ x. bit_or (get_or t x 0) (get_or u x 0))

-- `;`: a pair of t and then one of u
unfoldable pub composed : List ℕ → List ℕ → List ℕ
composed t u = words 64 (λ x. union_rows u (get_or t x 0))

-- `?`: each of n events with itself, beside t
unfoldable pub reflexive : List ℕ → ℕ → List ℕ
reflexive t n = words 64 (λ x. cond (ltb x n) (including 64 (get_or t x 0) x) (get_or t x 0))

-- the rows below n that have k, joined with c
unfoldable pub joined_where : List ℕ → ℕ → ℕ → ℕ → List ℕ
joined_where t c k n = changed (λ x w. bit_or w (cond (bit k w) c 0)) t 0 n

-- a round through k: the rows below n that have k, joined with row k
unfoldable pub round : List ℕ → ℕ → ℕ → List ℕ
round t k n = joined_where t (get_or t k 0) k n

-- the rounds through the numbers below k, by Warshall
unfoldable pub rounds : List ℕ → ℕ → ℕ → List ℕ
rounds t n zero = t
rounds t n (suc k) = round (rounds t n k) k n

-- the events below n whose atom, the one of its number in the list, is in the set s of atoms
unfoldable pub events_in : List ℕ → ℕ → ℕ → ℕ
events_in atoms n s = set_number 0 (filter (λ x. ltb x n && bit (get_or atoms x 0) s) (upto 0 64))

-- `[T]`: each event of a set with itself
unfoldable pub diagonal : ℕ → List ℕ
diagonal s = words 64 (λ x. cond (bit x s) (2 ^ x) 0)

-- the pairs from x that t has and u lacks
unfoldable pub lacking : List ℕ → List ℕ → ℕ → ℕ
lacking t u x = bit_and (get_or t x 0) (2 ^ 64 - 1 - get_or u x 0)

-- the lowest pair from x, as 64 x + y, of the members y of a set; d where there is none
unfoldable pub pair_from : ℕ → List ℕ → ℕ → ℕ
pair_from x [] d = d
pair_from x (y ∷ ys) d = 64 * x + y

-- no pair: a number past all of them
abbrev pub NOWHERE : ℕ
NOWHERE = 4096

-- the lowest pair, by from, then to, that t has and u lacks, from the events listed
unfoldable pub lowest_from : List ℕ → List ℕ → List ℕ → ℕ
lowest_from t u [] = NOWHERE
lowest_from t u (x ∷ xs) = pair_from x (members (lacking t u x)) (lowest_from t u xs)

-- the same from all of n events
unfoldable pub lowest_pair : List ℕ → List ℕ → ℕ → ℕ
lowest_pair t u n = lowest_from t u (upto 0 n)

-- the lowest of the events listed that t relates to itself
unfoldable pub lowest_of : List ℕ → List ℕ → ℕ
lowest_of t [] = NOWHERE
lowest_of t (x ∷ xs) = cond (bit x (get_or t x 0)) x (lowest_of t xs)

-- the same of all n events
unfoldable pub lowest_loop : List ℕ → ℕ → ℕ
lowest_loop t n = lowest_of t (upto 0 n)
