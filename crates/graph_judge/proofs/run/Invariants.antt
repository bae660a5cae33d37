-- `graph_judge::run` meets its contract. The invariant: the state keeps its bounds, and what is left of the codes, performed on the judge now, is all
-- of them performed on the judge at the start.
-- Assumes nothing.
use Rattle.graph_judge.proofs.Running.{Goes}
use Rattle.graph_judge.proofs.run.Given as goal

abbrev pub invariant-loop-i : goal.invariant-loop-i
invariant-loop-i l = Goes l.listed l.codes l.args l.initial.mem l.initial.t l.mem l.t l.i
