-- The answer to a sheet, from what its part says and where it ends. (Document 01, "Sheet and graph bytes", and refusals 13 and 14.)
-- Assumes nothing.
use Rattle.std.specs.Prelude.{ℕ, Bool, cond, ltb}
use Rattle.refusals.specs.declared.Reason.TheVariants.{SheetField, DoesNotPass}
use Rattle.sheet_checked.specs.declared.Checked.{Checked}
use Rattle.sheet_checked.specs.declared.Checked.TheVariants.{Proved, Refuted, Refused}

-- something behind the part is a wrong field, of this number; then a part that does not pass is refused; else the sheet says what its part says ("Refusals
-- with an example each")
unfoldable pub ended : Bool → Bool → ℕ → ℕ → ℕ → Checked
ended proved passes field next end =
    cond (ltb next end) (Refused SheetField field) (cond passes (cond proved Proved Refuted) (Refused DoesNotPass 0))
