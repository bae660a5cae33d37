-- `side_parts::add_fresh` meets its contract.
-- Assumes nothing.
use Rattle.side_parts.proofs.MachineInMemory.{fresh_made}
use Rattle.side_stack.specs.Stack.{used_in}
use native.Mathlib.Omega.{arith}
use borrow.Author.Rules.{rules}
use Rattle.side_parts.proofs.add_fresh.Goals as goal

pub push-requires : goal.push-requires
unfolding used_in
push-requires c = omega (arith, c.used-low.ensures)

pub returns : goal.returns
returns c =
    fresh_made c.args.table.now _ c.args.parts.now _ c.args.f c.args.l c.args.g c.args.s _ _ c.used-low.ensures
    c.new_occurrence.ensures c.push.ensures.0 c.push.ensures.1 c.one_more.ensures.0 c.one_more.ensures.1
