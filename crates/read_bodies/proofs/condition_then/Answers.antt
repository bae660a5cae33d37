-- `read_bodies::condition_then` meets its contract: the T that was read, with a code behind it.
-- Assumes nothing.
use Rattle.claims.specs.Lines.{condition}
use Rattle.claims.specs.Names.{test_uses}
use Rattle.codes.specs.Codes.{test_codes}
use Rattle.read_bodies.proofs.Parts.{code_fits, tree_read, code_read}
use Rattle.read_bodies.proofs.condition_then.Goals as goal

pub code_behind-requires : goal.code_behind-requires
code_behind-requires c =
    let a = c.args in
    let r = c.condition-r in
    code_fits a.s.now a.p.at a.p.used _ r.result (tree_read condition test_codes test_uses _ _ _ _ _ _ r.result r.ensures).0 c.requires

pub returns : goal.returns
returns c =
    let r = c.condition-r in
    code_read condition test_codes test_uses _ _ _ _ _ _ r.result (tree_read condition test_codes test_uses _ _ _ _ _ _ r.result r.ensures) _ _ _ c.code_behind.ensures
