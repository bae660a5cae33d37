-- `graph_read::add_fields` meets its contract. The invariant: what the fields before place `at` make is held, and what is left to read is the
-- whole reading. The measure is how many bytes are left.
-- Assumes nothing.
use native.Mathlib.Omega.{arith}
use Rattle.graph_read.proofs.SoFar.{so_far_none, so_far_end, so_far_wrong, so_far_on}
use Rattle.graph_read.proofs.add_fields.Goals as goal

pub loop-at-init : goal.loop-at-init
loop-at-init c =
    let a = c.args in
    so_far_none (record { atoms = a.atoms; relations = a.relations }) a.bytes.now a.listed.now c.requires.1

pub add_field-requires : goal.add_field-requires
add_field-requires c = (c.requires.0, c.loop-at.invariant.held.few)

pub returns-in_default : goal.returns-in_default
returns-in_default c =
    let l = c.loop-at in
    let f = c.add_field in record { says = so_far_wrong l.invariant (omega arith) f.new.listed c.in_default.is (f.ensures l.invariant.graph l.invariant.held); leaves = tt }

pub overflow_add-k : goal.overflow_add-k
overflow_add-k c =
    let l = c.loop-at in
    omega (arith, l.invariant.count)

pub loop-at-smaller : goal.loop-at-smaller
loop-at-smaller c =
    let l = c.loop-at in
    let f = c.add_field in
    let s =
    so_far_on l.invariant (omega arith) f.new.listed c.in-Some.is (f.ensures l.invariant.graph l.invariant.held) in
    omega (arith, s.1, s.0.inside)

pub loop-at-preserved : goal.loop-at-preserved
loop-at-preserved c =
    let l = c.loop-at in
    let f = c.add_field in
    let s =
    so_far_on l.invariant (omega arith) f.new.listed c.in-Some.is (f.ensures l.invariant.graph l.invariant.held) in
    s.0

pub returns : goal.returns
returns c = record { says = (so_far_end c.loop-at.invariant (omega arith)).0; leaves = (so_far_end c.loop-at.invariant (omega arith)).1 }
