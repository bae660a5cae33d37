-- Memory of words: what stands at each place, a range of them changed, one change after another, and all of them 0.
-- Assumes nothing.
use Rattle.std.specs.Prelude.{ℕ, Bool, cond, ◌&&◌, List, [], ◌∷◌, map, leb, ltb, length, get_or, replicate}
use Rattle.kat.specs.Lists.{upto}

-- a memory of n words, by what stands at each place
unfoldable pub words : ℕ → (ℕ → ℕ) → List ℕ
words n f = map f (upto 0 n)

-- the number k stands from lo to before hi
unfoldable pub between : ℕ → ℕ → ℕ → Bool
between lo hi k = leb lo k && ltb k hi

-- the words from place lo to before hi, each put through f, and the others as they are
unfoldable pub changed : (ℕ → ℕ → ℕ) → List ℕ → ℕ → ℕ → List ℕ
changed f ws lo hi = words (length ws) (λ k. cond (between lo hi k) (f k (get_or ws k 0)) (get_or ws k 0))

-- the words of `from` in place of those of ws, as many as both have
unfoldable pub copied : List ℕ → List ℕ → List ℕ
copied from ws = changed (λ k w. get_or from k 0) ws 0 (length from)

-- a change for each number listed, one after another
unfoldable pub for_each : (ℕ → List ℕ → List ℕ) → List ℕ → List ℕ → List ℕ
for_each g [] ws = ws
for_each g (n ∷ ns) ws = for_each g ns (g n ws)

-- n zeros
unfoldable pub zeros : ℕ → List ℕ
zeros n = replicate n 0
