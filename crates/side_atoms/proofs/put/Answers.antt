-- `side_atoms::put` meets its contract: below the room the set is stored at the height, and a full stack stays as it is.
-- Assumes nothing.
use native.Mathlib.Omega.{arith}
use lib.ListN.{length-set}
use Rattle.side_atoms.proofs.Stack.{push_stored, push_full}
use Rattle.side_atoms.proofs.put.Goals as goal

pub returns-then-n-stack : goal.returns-then-n-stack
returns-then-n-stack c =
    let a = c.args in
    (simp length-set (omega arith), push_stored a.stack.now a.n a.v c.if-n-stack.true)

pub returns-else-n-stack : goal.returns-else-n-stack
returns-else-n-stack c = (omega arith, push_full _ _ _ c.if-n-stack.false)
