-- Bytes put at the start of a slice, and bytes put from a place of it on: what stands around them is as before. (Document 01, "Sheet and
-- graph bytes": the writer puts each field at the start of the unwritten part of the sheet buffer.)
-- Assumes nothing.
use Rattle.std.specs.Prelude.{ℕ, List, ◌++◌, length, take, drop}

-- the bytes at the start, and behind them what stood there ("Sheet and graph bytes")
unfoldable pub written : List ℕ → List ℕ → List ℕ
written bytes xs = bytes ++ drop (length bytes) xs

-- the bytes from a place on ("Sheet and graph bytes")
unfoldable pub over : ℕ → List ℕ → List ℕ → List ℕ
over at bytes xs = take at xs ++ written bytes (drop at xs)
