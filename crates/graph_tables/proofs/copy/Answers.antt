-- `graph_tables::copy` meets its contract. The invariant: what is left of the rows, filled in the memory as it is, is all of them filled in the
-- memory at the start.
-- Assumes nothing.
use Prim.Native.Nat.{◌+◌}
use native.Mathlib.Omega.{arith}
use mathlib.Core.Path.{refl, sym, ◌∙◌, ap}
use lib.ListN.{get_or, length-set}
use Rattle.memory.specs.Memory.{changed}
use Rattle.memory.proofs.Words.{fill_begin, fill_more, fill_end}
use Rattle.graph_tables.proofs.copy.Goals as goal

pub loop-x-init : goal.loop-x-init
loop-x-init c =
    let a = c.args in
    (refl, fill_begin (λ k. get_or a.listed.now (a.base + k) 0) a.out.now)

pub loop-x-preserved : goal.loop-x-preserved
loop-x-preserved c =
    let l = c.loop-x in
    let a = c.args in (
      length-set l.out l.x c.word.result ∙ l.invariant.0,
      ap (changed (λ k w. get_or a.listed.now (a.base + k) 0) _ _) (length-set l.out l.x c.word.result)
          ∙ fill_more (λ k. get_or a.listed.now (a.base + k) 0) l.out _ l.x c.word.result (omega arith) (omega arith) c.word.ensures
          ∙ l.invariant.1,
    )

pub returns : goal.returns
returns c =
    let l = c.loop-x in
    let a = c.args in
    sym (fill_end (λ k. get_or a.listed.now (a.base + k) 0) l.out _ l.x (omega arith)) ∙ l.invariant.1
