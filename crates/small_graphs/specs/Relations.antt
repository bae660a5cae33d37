-- Relations on at most 8 events as words, bit 8 * from + to for an edge: one edge more, and the transitive closure.
-- Assumes nothing.
use Rattle.std.specs.Prelude.{ℕ, zero, suc, ◌+◌, ◌*◌, ◌/◌, ◌%◌, ◌^◌, ◌<◌, ◌≡◌, Bool, true, cond, ◌&&◌, ◌||◌, eqb, ltb}
use Rattle.std.specs.Int.Bits.{bit_or}

-- bit k of a word
unfoldable pub bit : ℕ → ℕ → Bool
bit k r = eqb (r / 2 ^ k % 2) 1

-- whether there is an edge from x to y
abbrev pub edge : ℕ → ℕ → ℕ → Bool
edge r x y = bit (8 * x + y) r

-- with the edge from x to y, where both are below 8
unfoldable pub with_edge : ℕ → ℕ → ℕ → ℕ
with_edge r x y = cond (ltb x 8 && ltb y 8) (bit_or r (2 ^ (8 * x + y))) r

-- the edges of r among the 8 events are those that f says: of all 64 bits, so that there is one such word
abbrev pub Edges : ℕ → (ℕ → ℕ → Bool) → Type 0
Edges r f = (x y : ℕ) → x < 8 → y < 8 → edge r x y ≡ f x y

-- by an edge, or over m by two
abbrev pub over : ℕ → (ℕ → ℕ → Bool) → ℕ → ℕ → Bool
over m f x y = f x y || (f x m && f m y)

-- by an edge of r, or through events below n, by Warshall's recursion
abbrev pub through : ℕ → ℕ → ℕ → ℕ → Bool
through zero r = edge r
through (suc m) r = over m (through m r)

-- one or more edges of r in a row, over events below 8
pub data Walk (r : ℕ) : ℕ → ℕ → Type 0 where
  one : {x y : ℕ} → edge r x y ≡ true → Walk r x y
  more : {x z : ℕ} (y : ℕ) → y < 8 → edge r x y ≡ true → Walk r y z → Walk r x z
