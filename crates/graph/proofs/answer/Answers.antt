-- `graph::answer` meets its contract: nothing found, an event, or a pair.
-- Assumes nothing.
use native.Mathlib.Omega.{arith}
use Rattle.graph.proofs.Answered.{says_holds, says_at, says_from}
use Rattle.graph.proofs.answer.Goals as goal

pub returns-then-found-ge-NOWHERE : goal.returns-then-found-ge-NOWHERE
returns-then-found-ge-NOWHERE c = says_holds c.args.ring c.args.line c.args.found c.if-found-ge-NOWHERE.true

pub returns-then-ring : goal.returns-then-ring
returns-then-ring c = says_at c.args.ring c.args.line c.args.found (omega arith) c.if-ring.true

pub returns : goal.returns
returns c = says_from c.args.ring c.args.line c.args.found (omega arith) c.if-ring.false
