-- `reading_line::answer_line` meets its contract. By the case of the answer.
-- Assumes nothing.
use Rattle.reading_line.proofs.Shown.{as_accepted, as_refused}
use Rattle.reading_line.proofs.Short.{answer_accepted, answer_refused}
use borrow.Author.Rules.{rules}
use Rattle.reading_line.proofs.answer_line.Goals as goal

pub returns-in-Ok : goal.returns-in-Ok
returns-in-Ok c =
    let l = c.accepted_line in
    let e = c.in-Ok.is in
    record { puts = as_accepted _ _ e l.ensures.puts; short = answer_accepted _ _ e l.ensures.short }

pub returns-in-Err : goal.returns-in-Err
returns-in-Err c =
    let e = c.in-Err.is in
    record { puts = as_refused _ _ e c.refusal_line.ensures; short = answer_refused _ _ e (search rules) }
