-- What a row may hold, of M and of N by one test. (Document 01, "Sheet and graph bytes".)
-- Assumes nothing.
use Rattle.std.specs.Prelude.{ℕ, Bool, true, false}
use Rattle.claims.specs.SheetReading.{row_of_m, row_of_n}

-- a row of M (false) or of N (true), with r right occurrences ("Sheet and graph bytes")
abbrev pub row_of : Bool → ℕ → ℕ → ℕ → Bool
row_of false r = row_of_m r
row_of true r = row_of_n r
