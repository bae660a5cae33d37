-- `read_bodies::claim_body` meets its contract: `include` begins an inclusion, and every other word one side.
-- Assumes nothing.
use Rattle.read_bodies.proofs.Sides.{body_via, claims_empty, claims_irreflexive, claim_include, claim_side}
use Rattle.read_bodies.proofs.NextWords.{keyword_stands, keyword_missing}
use Rattle.read_bodies.specs.Bodies.{Bare, one_side}
use mathlib.Core.Bool.{true}
use Rattle.claims.specs.Tree.{empty, irreflexive, claim_line}
use Rattle.claims.specs.Lines.{choose, include_reader, claims}
use native.Mathlib.Omega.{arith}
use Rattle.read_bodies.proofs.claim_body.Goals as goal

pub two_sides-requires : goal.two_sides-requires
two_sides-requires c =
    let w = keyword_stands _ _ 10 (omega arith) _ c.key.ensures _ c.in-Some.ensures in
    omega (arith, w.after, w.within, c.requires)

pub returns-in-Some : goal.returns-in-Some
returns-in-Some c =
    let w = keyword_stands _ _ 10 (omega arith) _ c.key.ensures _ c.in-Some.ensures in
    body_via (choose claims) include_reader (Bare true) _ _ _ c.args.at _ c.args.used _ _ (claim_include _ _ _ w) (omega (arith, w.after)) c.two_sides.result c.two_sides.ensures

pub returns : goal.returns
returns c =
    body_via (choose claims) (choose (one_side (λ e. claim_line (empty e)) (λ e. claim_line (irreflexive e)))) (Bare true) _ _ _ c.args.at c.args.at c.args.used _ _
    (claim_side c.args.s.now c.args.at (keyword_missing _ _ 10 (omega arith) _ c.key.ensures c.in_default.ensures)) (omega arith)
    c.one_side.result (c.one_side.ensures (λ e. claim_line (empty e)) (λ e. claim_line (irreflexive e)) true claims_empty claims_irreflexive)
