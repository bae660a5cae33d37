-- `graph_judge::run` meets its contract. The invariant: the state keeps its bounds, and what is left of the codes, performed on the judge now, is all
-- of them performed on the judge at the start.
-- Assumes nothing.
use native.Mathlib.Omega.{arith}
use Rattle.graph_judge.proofs.Running.{goes_begin, goes_more, goes_end}
use Rattle.graph_judge.proofs.run.Goals as goal

pub loop-i-init : goal.loop-i-init
loop-i-init c =
    let a = c.args in
    goes_begin a.listed.now a.codes.now a.args.now a.mem.now a.s (omega arith) (omega arith)

pub perform-t-requires : goal.perform-t-requires
perform-t-requires c =
    let g = c.loop-i.invariant in
    (g.bounds.few_waiting, omega (arith, g.bounds.few_lines, g.place))

pub loop-i-preserved : goal.loop-i-preserved
loop-i-preserved c =
    let l = c.loop-i in
    let a = c.args in
    goes_more a.listed.now a.codes.now a.args.now a.mem.now a.s l.mem l.t l.i _ _ l.invariant c.perform-t.auto.mem (omega arith)
    (omega arith) c.perform-t.ensures

pub shape_of-mem : goal.shape_of-mem
shape_of-mem c = c.loop-i.invariant.size

pub returns : goal.returns
returns c =
    let l = c.loop-i in
    let a = c.args in
    goes_end a.listed.now a.codes.now a.args.now a.mem.now a.s l.mem l.t l.i l.invariant (omega arith)
