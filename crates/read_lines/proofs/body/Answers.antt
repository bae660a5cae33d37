-- `read_lines::body` meets its contract: in each arm the place in the table of line kinds is known, and the body of that kind is what stands there.
-- Assumes nothing.
use Rattle.claims.specs.Tree.{test_line, rel_line, assume_empty, assume_irreflexive}
use Rattle.claims.specs.Lines.{mapped, declared, let_reader, assumptions, line_kinds}
use mathlib.Core.Bool.{false}
use Rattle.read_bodies.specs.Bodies.{Declares, DeclaresLet, one_side}
use Rattle.read_bodies.proofs.Bodies.{test_declares, relation_declares, never_passed}
use Rattle.read_bodies.proofs.Sides.{assumes_empty, assumes_irreflexive}
use Rattle.read_declarations.specs.inner.Kinds.{reads_at, SortOf}
use Rattle.read_declarations.proofs.Declaring.{test_names_lem, relation_names_lem, next_declared, next_let}
use mathlib.Core.Path.{ap}
use Rattle.read_lines.specs.Kinds.{number_of}
use Rattle.read_lines.proofs.Sorts.{body_sorted, body_at}
use Rattle.read_lines.proofs.body.Goals as goal

pub returns-in-Test : goal.returns-in-Test
unfolding line_kinds reads_at
returns-in-Test c =
    let a = c.args in
    body_at _ _ _ _ _ _ _ c.declaration.result _ 0 (ap number_of c.in-Test.is) (body_sorted (λ ts. mapped test_line (declared ts)) (Declares test_line a.s.now a.at) (SortOf 0 a.s.now a.at) _ _ _ _ _ _ _ (next_declared test_line 16 test_names_lem a.s.now a.at) c.declaration.result (c.declaration.ensures test_line test_declares))

pub returns-in-Rel : goal.returns-in-Rel
unfolding line_kinds reads_at
returns-in-Rel c =
    let a = c.args in
    body_at _ _ _ _ _ _ _ c.declaration-in-Rel.result _ 1 (ap number_of c.in-Rel.is) (body_sorted (λ ts. mapped rel_line (declared ts)) (Declares rel_line a.s.now a.at) (SortOf 1 a.s.now a.at) _ _ _ _ _ _ _ (next_declared rel_line 32 relation_names_lem a.s.now a.at) c.declaration-in-Rel.result (c.declaration-in-Rel.ensures rel_line relation_declares))

pub returns-in-Let : goal.returns-in-Let
unfolding line_kinds reads_at
returns-in-Let c =
    let a = c.args in
    body_at _ _ _ _ _ _ _ c.let_body.result _ 2 (ap number_of c.in-Let.is) (body_sorted let_reader (DeclaresLet a.s.now a.at) (SortOf 2 a.s.now a.at) _ _ _ _ _ _ _ (next_let a.s.now a.at) c.let_body.result c.let_body.ensures)

pub returns-in-Never : goal.returns-in-Never
unfolding line_kinds reads_at
returns-in-Never c =
    let a = c.args in
    body_at _ _ _ _ _ _ _ c.condition_then.result _ 3 (ap number_of c.in-Never.is) (never_passed _ _ _ _ _ _ _ c.condition_then.result c.condition_then.ensures)

pub returns-in-Within : goal.returns-in-Within
unfolding line_kinds reads_at
returns-in-Within c =
    let a = c.args in
    body_at _ _ _ _ _ _ _ c.within_body.result _ 4 (ap number_of c.in-Within.is) c.within_body.ensures

pub returns-in-Closed : goal.returns-in-Closed
unfolding line_kinds reads_at
returns-in-Closed c =
    let a = c.args in
    body_at _ _ _ _ _ _ _ c.closed_body.result _ 5 (ap number_of c.in-Closed.is) c.closed_body.ensures

pub returns-in-Assume : goal.returns-in-Assume
unfolding line_kinds reads_at assumptions one_side
returns-in-Assume c =
    let a = c.args in
    body_at _ _ _ _ _ _ _ c.one_side.result _ 6 (ap number_of c.in-Assume.is) (c.one_side.ensures assume_empty assume_irreflexive false assumes_empty assumes_irreflexive)

pub returns-in-Claim : goal.returns-in-Claim
unfolding line_kinds reads_at
returns-in-Claim c =
    let a = c.args in
    body_at _ _ _ _ _ _ _ c.claim_body.result _ 7 (ap number_of c.in-Claim.is) c.claim_body.ensures
