-- `circle_cases::run` is safe and ends: it takes at most so many cases, and the lent memory keeps its lengths.
-- Assumes nothing.
use Prim.Native.Nat.{◌-◌, ◌≤◌}
use mathlib.Core.Path.{◌≡◌}
use lib.ListN.{length}
use borrow.Author.Rules.{rules}
use Rattle.circle_cases.proofs.run.Given as goal

abbrev pub invariant-loop-place : goal.invariant-loop-place
invariant-loop-place l = (length l.input ≡ length l.initial.input) × (length l.text ≡ length l.initial.text) × (length l.words ≡ length l.initial.words) × (length l.buffer ≡ length l.initial.buffer) × (length l.graph ≡ length l.initial.graph) × (length l.counts ≡ length l.initial.counts)
