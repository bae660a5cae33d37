-- `dot::events` meets its contract. The events counted and those that are left are all.
-- Assumes nothing.
use native.Mathlib.Omega.{arith}
use mathlib.Core.Path.{sym, ◌∙◌, ap}
use lib.ListN.{length}
use Rattle.dot.proofs.Listing.{event_within, event_more, event_none}
use Rattle.dot.proofs.events.Goals as goal

pub loop-at-init : goal.loop-at-init
loop-at-init c = (omega arith, omega arith, omega arith)

pub overflow_add-at : goal.overflow_add-at
overflow_add-at c =
    let h = event_within _ c.loop-at.at (sym c.event_at.ensures ∙ c.loop-at-test.true) in omega arith

pub overflow_add-n : goal.overflow_add-n
overflow_add-n c =
    let h = event_within _ c.loop-at.at (sym c.event_at.ensures ∙ c.loop-at-test.true) in omega arith

pub loop-at-smaller : goal.loop-at-smaller
loop-at-smaller c =
    let h = event_within _ c.loop-at.at (sym c.event_at.ensures ∙ c.loop-at-test.true) in omega arith

pub loop-at-preserved : goal.loop-at-preserved
loop-at-preserved c =
    let e = sym c.event_at.ensures ∙ c.loop-at-test.true in
    let h = event_within _ c.loop-at.at e in
    let k = ap length (event_more _ c.loop-at.at e) in
    (omega arith, omega arith, omega arith)

pub returns : goal.returns
returns c =
    let k = ap length (event_none _ c.loop-at.at (sym c.event_at.ensures ∙ c.loop-at-test.false)) in
    (omega arith, omega arith)
