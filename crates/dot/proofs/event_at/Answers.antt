-- `dot::event_at` meets its contract. By the tag, where there are four bytes.
-- Assumes nothing.
use native.Mathlib.Omega.{arith}
use Rattle.dot.proofs.Listing.{event_tag, event_cut}
use Rattle.dot.proofs.event_at.Goals as goal

pub returns-then-graph-lt4 : goal.returns-then-graph-lt4
returns-then-graph-lt4 c = event_cut c.args.graph.now c.args.at (omega arith)

pub returns-then-graph-at : goal.returns-then-graph-at
returns-then-graph-at c = event_cut c.args.graph.now c.args.at (omega arith)

pub returns : goal.returns
returns c = event_tag c.args.graph.now _ (omega arith)
