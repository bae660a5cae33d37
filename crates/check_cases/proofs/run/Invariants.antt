-- `check_cases::run` meets its contract. The lent memory keeps its lengths.
-- Assumes nothing.
use mathlib.Core.Path.{◌≡◌}
use lib.ListN.{length}
use borrow.Author.Rules.{rules}
use Rattle.check_cases.proofs.run.Given as goal

abbrev pub invariant-loop : goal.invariant-loop
invariant-loop l =
    (length l.input ≡ length l.initial.input) × (length l.text ≡ length l.initial.text) × (length l.words ≡ length l.initial.words) × (length l.buffer ≡ length l.initial.buffer) × (length l.graph ≡ length l.initial.graph) × (length l.out ≡ length l.initial.out)
