-- `read_declarations::plain` meets its contract: the check of the line says whether it is taken.
-- Assumes nothing.
use Rattle.read_declarations.specs.inner.Kinds.{plain_read}
use mathlib.Core.Path.{ap}
use Rattle.std.proofs.lemmas.Result.{err_from_is_err_and}
use Rattle.read_declarations.proofs.plain.Goals as goal

pub returns : goal.returns
unfolding plain_read
returns c = ap (plain_read c.args.st c.args.claim) c.in_ok-used.ensures

pub returns-in_err-used : goal.returns-in_err-used
unfolding plain_read
returns-in_err-used c =
    let p = err_from_is_err_and c.from_residual.result c.from_residual.ensures.1 in
    rw (p.1, p.2) (ap (plain_read c.args.st c.args.claim) c.in_err-used.ensures)
