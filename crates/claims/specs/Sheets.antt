-- What a sheet says, what the sheet of an answer passes as, how long it is, and what an answer leaves in the buffer. (Document 01, "Sheet
-- and graph bytes", and "Refusals with an example each".)
-- Assumes nothing.
use Rattle.std.specs.Prelude.{ℕ, ◌+◌, ◌*◌, ◌≤◌, ◌≡◌, Bool, List, ◌++◌, length, drop}
use Rattle.kat.specs.Word.{Word, size}
use Rattle.notation.specs.Sides.{Decision}
use Rattle.claims.specs.SheetBytes.{contents_length}
use Rattle.claims.specs.SheetReading.{says_refuted, sheet_in}
use Rattle.notation.specs.Refusals.{ok}
use Rattle.claims.specs.Calls.{Answer, proved_with, refuted_by, searched, Asked, asked, Passed, passed_proved, passed_refuted}

-- what the sheet of an answer says
abbrev pub passed_as : Answer → Passed
passed_as (proved_with c) = passed_proved
passed_as (refuted_by w) = passed_refuted

-- the sheet says refuted, with the word
abbrev pub SaysRefuted : Decision → List ℕ → Word → Type 0
SaysRefuted D bs w = sheet_in D bs ≡ ok (says_refuted w)

-- how many bytes the sheet of an answer has, for a path claim (false) or a ring claim (true)
abbrev pub sheet_length : Answer → Bool → ℕ
sheet_length (proved_with c) ring = 4 + (3 + contents_length ring) * c
sheet_length (refuted_by w) ring = 8 + 2 * size w

-- what an answer leaves of the buffer: the sheet that the search gives with it at the start, and past it what was there before
pub record LeavesOwnSheet (bs : List ℕ) (allowance : ℕ) (ans : Answer) (before after : List ℕ) : Type 0 where
  pub asks : Asked
  pub accepted : asked bs ≡ ok asks
  pub sheet : List ℕ
  pub own : searched asks.decided allowance ≡ ok (record { answer = ans; sheet = sheet })
  pub bytes : length sheet ≡ sheet_length ans asks.decided.ring
  pub fits : length sheet ≤ length before
  pub leaves : after ≡ sheet ++ drop (length sheet) before
