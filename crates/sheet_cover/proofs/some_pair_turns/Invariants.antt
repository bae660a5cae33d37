-- `sheet_cover::some_pair_turns` meets its contract. The invariant: some row of those left passes exactly where some row does.
-- Assumes nothing.
use Prim.Native.Nat.{suc}
use mathlib.Core.Path.{◌≡◌}
use Rattle.kat.specs.Lists.{upto, some}
use Rattle.sheet_cover.specs.inner.Rounds.{pairs_by}
use Rattle.sheet_cover.proofs.Sought.{sought}
use Rattle.sheet_cover.proofs.some_pair_turns.Given as goal

abbrev pub invariant-loop-q : goal.invariant-loop-q
invariant-loop-q l = some (sought l.t l.s l.m) (upto l.q (suc l.m)) ≡ pairs_by l.t l.s l.m
