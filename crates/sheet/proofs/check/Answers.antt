-- `sheet::check` meets its contract: a refusal of the reader is handed on, and the sheet of an accepted query is checked on its decision.
-- Assumes nothing.
use borrow.Author.Rules.{rules}
use Rattle.sheet_checked.proofs.Ended.{refused_says, accepted_says}
use Rattle.sheet.proofs.Evidence.{passes_proved, passes_refuted}
use Rattle.sheet.proofs.check.Goals as goal

pub returns-in-Err : goal.returns-in-Err
returns-in-Err c =
    let r = c.read_sides-asked in
    let says = refused_says _ _ r.result r.ensures.0 _ c.in-Err.is in
    record { says = says; proved = passes_proved _ _ _ says; refuted = passes_refuted _ _ _ says }

pub returns-in-Ok : goal.returns-in-Ok
returns-in-Ok c =
    let a = c in
    let r = a.read_sides-asked in
    let says = accepted_says _ _ r.result r.ensures.0 _ a.in-Ok.is _ _ r.ensures.1 r.ensures.2 _ c.check_decided.ensures in
    record { says = says; proved = passes_proved _ _ _ says; refuted = passes_refuted _ _ _ says }
