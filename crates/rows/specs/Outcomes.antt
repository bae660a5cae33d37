-- What a number that names a pair or an event says of a claim. (Document 01, "Sheet and graph bytes": the lowest breaking event or pair.)
-- Assumes nothing.
use Rattle.std.specs.Prelude.{ℕ, ◌/◌, ◌%◌, cond, ltb}
use Rattle.claims.specs.Judgement.{Outcome, holds_in, breaks_at, breaks_from}
use Rattle.rows.specs.Rows.{NOWHERE}

-- 64 x + y is the pair from x to y
unfoldable pub pair_outcome : ℕ → Outcome
pair_outcome m = cond (ltb m NOWHERE) (breaks_from (m / 64) (m % 64)) holds_in

-- x is the event x
unfoldable pub event_outcome : ℕ → Outcome
event_outcome m = cond (ltb m NOWHERE) (breaks_at m) holds_in
