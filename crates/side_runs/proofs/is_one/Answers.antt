-- `side_runs::is_one` meets its contract.
-- Assumes nothing.
use Prim.Native.Nat.{◌%◌}
use mathlib.Core.Path.{refl, ◌∙◌, ap}
use mathlib.Core.Bool.{not}
use borrow.Author.Tests.{eq-eqb, ne_eqb}
use Rattle.claims.specs.Query.{bit}
use Rattle.side_runs.specs.Program.{counts_from}
use Rattle.side_runs.proofs.is_one.Goals as goal

pub returns-then-code-kind : goal.returns-then-code-kind
unfolding counts_from
returns-then-code-kind c =
    let a = c.args in
    rw (eq-eqb a.code a.kind c.if-code-kind.true) (ap not (c.member.ensures ∙ ap (bit (a.l % 64)) c.word.ensures))

pub returns : goal.returns
returns c = let a = c.args in rw (ne_eqb a.code a.kind c.if-code-kind.false) refl
