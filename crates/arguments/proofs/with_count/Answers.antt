-- `arguments::with_count` meets its contract. By the case of the count.
-- Assumes nothing.
use mathlib.Core.Path.{sym, ◌∙◌, ap}
use Rattle.arguments.specs.Arguments.{with_count}
use Prim.Native.Nat.{ℕ}
use Rattle.std.specs.Prelude.{Option}
use Rattle.arguments.proofs.with_count.Goals as goal

pub returns-in-Some : goal.returns-in-Some
unfolding with_count
returns-in-Some c = ap (λ (n : Option ℕ). with_count c.args.s n c.args.i) (sym c.in-Some.is)

pub returns-in-None : goal.returns-in-None
unfolding with_count
returns-in-None c = c.wrong_at.ensures ∙ ap (λ (n : Option ℕ). with_count c.args.s n c.args.i) (sym c.in-None.is)
