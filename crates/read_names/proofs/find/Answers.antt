-- `read_names::find` meets its contract. The invariant: what is found in the entries that are left is what is found in all.
-- Assumes nothing.
use Prim.Native.Nat.{◌≤◌}
use native.Mathlib.Omega.{arith}
use mathlib.Core.Path.{◌≡◌, refl, sym, ◌∙◌}
use lib.ListN.{length, drop}
use borrow.Author.Rules.{rules}
use Rattle.read_names.specs.Keys.{find_in}
use Rattle.read_names.proofs.Tables.{find_none, find_short, find_here, find_next}
use Rattle.read_names.proofs.find.Goals as goal

pub loop-left-init : goal.loop-left-init
loop-left-init c = (omega arith, refl)

pub returns-then-names-at-lt3 : goal.returns-then-names-at-lt3
returns-then-names-at-lt3 c =
    let l = c.loop-left in
    find_short l.left c.args.names.now l.at _ c.if-names-at-lt3.true ∙ l.invariant.1

pub returns-then-same_key : goal.returns-then-same_key
returns-then-same_key c =
    let l = c.loop-left in
    find_here l.left c.args.names.now l.at _ (omega arith) (omega arith)
    (sym c.same_key.ensures ∙ c.if-same_key.true) ∙ l.invariant.1

pub loop-left-preserved : goal.loop-left-preserved
loop-left-preserved c =
    let l = c.loop-left in (
      omega arith,
      find_next l.left c.args.names.now l.at _ (omega arith) (omega arith)
          (sym c.same_key.ensures ∙ c.if-same_key.false) ∙ l.invariant.1,
    )

pub returns : goal.returns
returns c = find_none _ _ _ c.loop-left-test.false ∙ c.loop-left.invariant.1
