-- What the sheet check answers, as document 01's values. (Document 01, "Refusals with an example each".)
-- Assumes nothing.
use Rattle.std.specs.Prelude.{◌≡◌}
use Rattle.claims.specs.Refusals.{Result, ok, refused}
use Rattle.claims.specs.Calls.{Passed, passed_proved, passed_refuted}
use Rattle.refusals.specs.Causes.{cause_of}
use Rattle.sheet_checked.specs.declared.Checked.{Checked}
use Rattle.sheet_checked.specs.declared.Checked.TheVariants.{Proved, Refuted, Refused}

-- the answer says the result: what the passing sheet says, or the cause and the place ("Refusals with an example each")
abbrev pub Says : Result Passed → Checked → Type 0
Says (ok passed_proved) Proved = Unit {0}
Says (ok passed_proved) Refuted = ⊥
Says (ok passed_proved) (Refused why p) = ⊥
Says (ok passed_refuted) Proved = ⊥
Says (ok passed_refuted) Refuted = Unit {0}
Says (ok passed_refuted) (Refused why p) = ⊥
Says (refused r) Proved = ⊥
Says (refused r) Refuted = ⊥
Says (refused r) (Refused why p) = (cause_of why ≡ r.cause) × (p ≡ r.place)
