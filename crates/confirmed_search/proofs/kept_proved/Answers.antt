-- `confirmed_search::kept_proved` meets its contract. By the case of the answer.
-- Assumes nothing.
use mathlib.Core.Path.{sym, ap}
use Rattle.confirmed_search.specs.inner.Kept.{kept_proved}
use borrow.Author.Rules.{rules}
use Rattle.confirmed_search.proofs.kept_proved.Goals as goal

pub returns-in-Proved : goal.returns-in-Proved
returns-in-Proved c = ap (kept_proved _ _) (sym c.in-Proved.is)

pub returns-in-Refuted : goal.returns-in-Refuted
returns-in-Refuted c = ap (kept_proved _ _) (sym c.in-Refuted.is)

pub returns-in-Refused : goal.returns-in-Refused
returns-in-Refused c = ap (kept_proved _ _) (sym c.in-Refused.is)
