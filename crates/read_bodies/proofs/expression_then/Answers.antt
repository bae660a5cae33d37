-- `read_bodies::expression_then` meets its contract: the E that was read, with a code behind it.
-- Assumes nothing.
use Rattle.claims.specs.Lines.{expression}
use Rattle.claims.specs.Names.{tree_uses}
use Rattle.codes.specs.Codes.{tree_codes}
use Rattle.read_bodies.proofs.Parts.{code_fits, tree_read, code_read}
use Rattle.read_bodies.proofs.expression_then.Goals as goal

pub code_behind-requires : goal.code_behind-requires
code_behind-requires c =
    let a = c.args in
    let r = c.expression-r in
    code_fits a.s.now a.p.at a.p.used _ r.result (tree_read expression tree_codes tree_uses _ _ _ _ _ _ r.result r.ensures).0 c.requires

pub returns : goal.returns
returns c =
    let r = c.expression-r in
    code_read expression tree_codes tree_uses _ _ _ _ _ _ r.result (tree_read expression tree_codes tree_uses _ _ _ _ _ _ r.result r.ensures) _ _ _ c.code_behind.ensures
