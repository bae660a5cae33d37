-- `sheet_cover::close` meets its contract. The invariant: the memory is that after the rounds done so far.
-- Assumes nothing.
use mathlib.Core.Path.{◌≡◌}
use Rattle.sheet_cover.specs.inner.Rounds.{rounds}
use Rattle.sheet_cover.proofs.close.Given as goal

abbrev pub invariant-loop-k : goal.invariant-loop-k
invariant-loop-k l = l.t ≡ rounds l.initial.t l.hi l.k
