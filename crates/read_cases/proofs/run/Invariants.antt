-- `read_cases::run` meets its contract. The lent memory keeps its lengths.
-- Assumes nothing.
use mathlib.Core.Path.{◌≡◌}
use lib.ListN.{length}
use borrow.Author.Rules.{rules}
use Rattle.read_cases.proofs.run.Given as goal

abbrev pub invariant-loop : goal.invariant-loop
invariant-loop l = (length l.part ≡ length l.initial.part) × (length l.text ≡ length l.initial.text)
