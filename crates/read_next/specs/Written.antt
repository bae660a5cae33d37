-- Codes written into the memory for them, which has 4,096 words: a code that does not fit is not written.
-- Assumes nothing.
use Rattle.std.specs.Prelude.{ℕ, ◌+◌, cond, List, leb, replicate}
use Rattle.std.proofs.lemmas.List.Edits.{sets}

-- the first unused place after `count` codes were written from `used` on: where they do not fit, the one before
unfoldable pub used_after : ℕ → ℕ → ℕ
used_after used count = cond (leb (used + count) 4096) (used + count) used

-- the memory after that: where they do not fit, the one before
unfoldable pub written_after : List ℕ → ℕ → ℕ → ℕ → List ℕ
written_after out used count code = cond (leb (used + count) 4096) (sets out used (replicate count code)) out
