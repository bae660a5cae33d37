-- `side_relations::atom_count` meets its contract: each power is computed, and from 6 tests on there are 64 atoms or more.
-- Assumes nothing.
use Prim.Native.Nat.{◌^◌, min}
use native.Mathlib.Omega.{arith}
use mathlib.Core.Path.{sym, ap}
use Rattle.side_relations.proofs.Narrowed.{many_atoms}
use Rattle.side_relations.proofs.atom_count.Goals as goal

pub returns-in-0 : goal.returns-in-0
returns-in-0 c = sym (ap (λ t. min (2 ^ t) 64) c.in-0.is)

pub returns-in-1 : goal.returns-in-1
returns-in-1 c = sym (ap (λ t. min (2 ^ t) 64) c.in-1.is)

pub returns-in-2 : goal.returns-in-2
returns-in-2 c = sym (ap (λ t. min (2 ^ t) 64) c.in-2.is)

pub returns-in-3 : goal.returns-in-3
returns-in-3 c = sym (ap (λ t. min (2 ^ t) 64) c.in-3.is)

pub returns-in-4 : goal.returns-in-4
returns-in-4 c = sym (ap (λ t. min (2 ^ t) 64) c.in-4.is)

pub returns-in-5 : goal.returns-in-5
returns-in-5 c = sym (ap (λ t. min (2 ^ t) 64) c.in-5.is)

pub returns-in_default : goal.returns-in_default
returns-in_default c = let ((((((u, a), b), d), e), f), g) = c.in_default.in_default-own.rest in many_atoms c.args.tests (omega arith)
