-- An outcome of the search that is kept where the check says the same of a sheet, and is else no answer. (Document 01, "Sheet and graph
-- bytes".)
-- Assumes nothing.
use Rattle.std.specs.Prelude.{Ok, Err}
use Rattle.std.specs.Prelude.{ℕ}
use Rattle.claims.specs.Refusals.{Result, ok, refused}
use Rattle.claims.specs.Calls.{Passed, passed_proved, passed_refuted}
use Rattle.refusals.specs.declared.Reason.TheVariants.{DoesNotPass}
use Rattle.search_outcomes.specs.Outcomes.{Outcome, refused_at}
use Rattle.search_outcomes.specs.declared.Verdict.TheVariants.{Proved, Refuted}
use Rattle.sheet_checked.specs.declared.Checked.{Checked}
use Rattle.sheet_checked.specs.declared.Checked.TheVariants.{Proved as PassesProved, Refuted as PassesRefuted, Refused as Fails}

-- proved, where the check says proved; else refused ("Sheet and graph bytes")
abbrev pub kept_proved : ℕ → ℕ → Checked → Outcome
kept_proved n bytes PassesProved = Ok (Proved n bytes)
kept_proved n bytes PassesRefuted = refused_at DoesNotPass 0
kept_proved n bytes (Fails why p) = refused_at DoesNotPass 0

-- refuted, where the check says refuted; else refused ("Sheet and graph bytes")
abbrev pub kept_refuted : ℕ → ℕ → Checked → Outcome
kept_refuted n bytes PassesProved = refused_at DoesNotPass 0
kept_refuted n bytes PassesRefuted = Ok (Refuted n bytes)
kept_refuted n bytes (Fails why p) = refused_at DoesNotPass 0

-- the outcome by what the sheet passes as; a refusal has no sheet ("Sheet and graph bytes")
abbrev pub kept : Outcome → Result Passed → Outcome
kept (Ok (Proved n bytes)) (ok passed_proved) = Ok (Proved n bytes)
kept (Ok (Proved n bytes)) (ok passed_refuted) = refused_at DoesNotPass 0
kept (Ok (Proved n bytes)) (refused r) = refused_at DoesNotPass 0
kept (Ok (Refuted n bytes)) (ok passed_proved) = refused_at DoesNotPass 0
kept (Ok (Refuted n bytes)) (ok passed_refuted) = Ok (Refuted n bytes)
kept (Ok (Refuted n bytes)) (refused r) = refused_at DoesNotPass 0
kept (Err e) x = Err e
