-- Refusals: the causes, kept finer than the numbers, and what is reported of each. (Document 01, "Refusals with an example each".)
-- The place is a line, a field or 0, as the table there says.
-- Assumes nothing.
use Rattle.std.specs.Prelude.{ℕ}

-- why something is refused ("Refusals with an example each")
pub data Cause : Type 0 where
  too_long bad_byte : Cause
  notation too_deep : Cause
  unknown_name wrong_kind declared_twice reserved_name : Cause
  too_many : Cause
  no_claim after_claim : Cause
  over_limit : Cause
  bad_allowance short_memory : Cause
  spent_allowance : Cause
  short_buffer : Cause
  graph_field sheet_field : Cause
  does_not_pass : Cause

-- the number that is reported ("Refusals with an example each")
unfoldable pub number : Cause → ℕ
number too_long = 1
number bad_byte = 2
number notation = 3
number too_deep = 4
number unknown_name = 5
number wrong_kind = 5
number declared_twice = 5
number reserved_name = 5
number too_many = 6
number no_claim = 7
number after_claim = 7
number over_limit = 8
number bad_allowance = 9
number short_memory = 9
number spent_allowance = 10
number short_buffer = 11
number graph_field = 12
number sheet_field = 13
number does_not_pass = 14

-- a refusal gives its number, by its cause, and a place ("Refusals with an example each")
pub record Refusal : Type 0 where
  pub cause : Cause
  pub place : ℕ

-- a value, or the refusal that stands in its stead ("Refusals with an example each")
pub data Result (A : Type 0) : Type 0 where
  ok : A → Result A
  refused : Refusal → Result A

-- the result that is a refusal ("Refusals with an example each")
abbrev pub refuse : {A : Type 0} → Cause → ℕ → Result A
refuse c p = refused (record { cause = c; place = p })

module _ {A B : Type 0} where
  -- what is asked of the value comes after what refused it ("Refusals with an example each")
  abbrev pub afterwards : Result A → (A → Result B) → Result B
  afterwards (ok a) k = k a
  afterwards (refused r) k = refused r
