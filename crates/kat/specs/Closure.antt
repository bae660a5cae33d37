-- Relations on the numbers below n, as tables, and their transitive closure by Warshall's recursion: through the first k numbers,
-- x leads to y as before, or x leads to k and k to y.
-- Assumes nothing.
use Rattle.std.specs.Prelude.{ℕ, zero, suc, Bool, false, ◌&&◌, ◌||◌, List, [], map, get_or}
use Rattle.kat.specs.Lists.{upto}

-- rows of tests ("Sheet and graph bytes")
abbrev pub Table : Type 0
Table = List (List Bool)

-- the table of a relation ("Sheet and graph bytes")
unfoldable pub table : ℕ → (ℕ → ℕ → Bool) → Table
table n f = map (λ x. map (f x) (upto 0 n)) (upto 0 n)

-- the table relates x to y; false outside it ("Sheet and graph bytes")
unfoldable pub entry : Table → ℕ → ℕ → Bool
entry t x y = get_or (get_or t x []) y false

-- the pairs that are joined directly or through numbers below k ("Sheet and graph bytes")
unfoldable pub through : ℕ → ℕ → Table → Table
through n zero t = t
through n (suc k) t =
    let u : Table = through n k t in
    table n (λ x y. entry u x y || (entry u x k && entry u k y))

-- one or more pairs in a row ("Sheet and graph bytes")
unfoldable pub closure : ℕ → (ℕ → ℕ → Bool) → Table
closure n f = through n n (table n f)
