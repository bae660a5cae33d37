use lib.ListN.{length}
use mathlib.Core.Path.{◌≡◌}
use borrow.Author.Rules.{rules}
use Rattle.judge_cases.proofs.run.Given as goal

-- `judge_cases::run` is safe and ends: the lent memory keeps its lengths.
-- Assumes nothing.
abbrev pub invariant-loop : goal.invariant-loop
invariant-loop l = (length l.input ≡ length l.initial.input) × (length l.text ≡ length l.initial.text) × (length l.buffer ≡ length l.initial.buffer) × (length l.out ≡ length l.initial.out)
