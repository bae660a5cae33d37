-- `case_checks::changed` meets its contract: the byte that was changed is put back.
-- Assumes nothing.
use Rattle.case_checks.proofs.Restored.{put_back}
use borrow.Author.Rules.{rules}
use Rattle.case_checks.proofs.changed.Goals as goal

pub returns : goal.returns
returns c =
    let a = c.args in
    put_back a.buffer.now a.at a.b
