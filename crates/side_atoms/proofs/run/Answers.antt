-- `side_atoms::run` meets its contract. The invariant: the codes that are left, run on the stack as it is, give the stack that all
-- of them give on the empty one.
-- Assumes nothing.
use Prim.Native.Nat.{min}
use native.Mathlib.Omega.{arith}
use mathlib.Core.Path.{◌≡◌, refl, sym, ◌∙◌, ap}
use lib.ListN.{length, get_or}
use borrow.Author.Rules.{rules}
use Rattle.side_atoms.specs.Tests.{top, stacked, test_step}
use Rattle.side_atoms.proofs.TestSteps.{run_begin, run_more, run_end}
use Rattle.side_atoms.proofs.run.Goals as goal

pub loop-i-init : goal.loop-i-init
loop-i-init c =
    let a = c.args in
    let e : c.min-end.result ≡ min a.to (length a.codes.now) = search rules in
    (omega arith, refl, e, run_begin _ a.codes.now a.stack.now a.from a.to c.min-end.result e)

pub loop-i-preserved : goal.loop-i-preserved
loop-i-preserved c =
    let t = c.test_step-n in
    let l = c.loop-i in
    let end = c.min-end.result in
    let a = c.args in (
      t.ensures.0,
      t.auto.stack ∙ l.invariant.1,
      l.invariant.2,
      run_more _ a.codes.now l.stack t.new.stack l.i end l.n t.result (get_or a.codes.now l.i 0)
          (omega arith) (omega arith) refl
          (t.ensures.1 ∙ ap (λ w. test_step w (get_or a.codes.now l.i 0) (stacked l.stack l.n)) l.invariant.1)
          ∙ l.invariant.3,
    )

pub shape_of-stack : goal.shape_of-stack
shape_of-stack c = c.loop-i.invariant.1

pub returns : goal.returns
returns c =
    let l = c.loop-i in
    let a = c.args in
    c.peek.ensures ∙ ap top (sym (run_end _ a.codes.now (stacked l.stack l.n) l.i c.min-end.result (omega arith)) ∙ l.invariant.3)
