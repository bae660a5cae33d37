-- Bytes put into memory one after the other, from a place on; what does not fit is not written. (Document 01, "The desk's cases".)
-- Assumes nothing.
use Rattle.std.specs.Prelude.{ℕ, ◌+◌, min, ◌≡◌, List, length}
use Rattle.std.proofs.lemmas.List.Edits.{sets}

-- after the bytes bs were put into `before` from place `at` on, the memory is `after` and the next place is `to`
pub record Puts (before : List ℕ) (at : ℕ) (bs : List ℕ) (to : ℕ) (after : List ℕ) : Type 0 where
  pub memory : after ≡ sets before at bs
  pub next : to ≡ min (at + length bs) (length before)
