-- `sheet_ring::flagged` meets its contract.
-- Assumes nothing.
use native.Mathlib.Omega.{arith}
use mathlib.Core.Path.{sym, ap, ap₂}
use mathlib.Core.Bool.{not, ◌||◌}
use borrow.Author.Tests.{eq-eqb, ne_eqb}
use Rattle.sheet_standings.specs.RingCells.{flag}
use Rattle.sheet_ring.proofs.flagged.Goals as goal

pub returns-then-z-ne0 : goal.returns-then-z-ne0
returns-then-z-ne0 c = (sym (ap (λ b. flag (not b || c.args.null)) (ne_eqb c.args.z 0 c.if-z-ne0.true)), omega arith)

pub returns-then-null : goal.returns-then-null
returns-then-null c =
    (sym (ap₂ (λ b n. flag (not b || n)) (eq-eqb c.args.z 0 c.if-z-ne0.false) c.if-null.true), omega arith)

pub returns-else-null : goal.returns-else-null
returns-else-null c =
    (sym (ap₂ (λ b n. flag (not b || n)) (eq-eqb c.args.z 0 c.if-z-ne0.false) c.if-null.false), omega arith)
