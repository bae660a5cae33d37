-- `side_parts::repeat` meets its contract: a looped part stays as it is.
-- Assumes nothing.
use Rattle.side_parts.proofs.MachineInMemory.{again_made, again_kept, not_looped, is_looped}
use borrow.Author.Rules.{rules}
use Rattle.side_parts.proofs.repeat.Goals as goal

pub returns-then-not-a : goal.returns-then-not-a
returns-then-not-a c =
    again_made c.args.table.now _ c.args.parts.now _ _ _ c.top-a.ensures.0 (not_looped _ c.if-not-a.true) c.used-hi.ensures c.iterate.ensures
    c.replace.ensures.0 c.replace.ensures.1

pub returns-else-not-a : goal.returns-else-not-a
returns-else-not-a c = again_kept c.args.table.now c.args.parts.now _ c.top-a.ensures.0 (is_looped _ c.if-not-a.false)
