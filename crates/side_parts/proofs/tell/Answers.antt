-- `side_parts::tell` meets its contract.
-- Assumes nothing.
use Rattle.side_parts.specs.Machine.{machine_in, told_table}
use Rattle.side_stack.specs.declared.Part.{Part}
use Rattle.side_tables.specs.Layout.{NULL}
use lib.ListN.{set}
use mathlib.Core.Path.{◌∙◌, ap}
use borrow.Author.Rules.{rules}
use Rattle.side_parts.proofs.tell.Goals as goal

pub returns : goal.returns
unfolding machine_in told_table
returns c = c.store.ensures ∙ ap (λ (p : Part). set c.args.table.now NULL p.null) c.top-a.ensures.0
