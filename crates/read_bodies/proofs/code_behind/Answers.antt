-- `read_bodies::code_behind` meets its contract: the code stands behind what was read, and an answer that is no tree is passed on.
-- Assumes nothing.
use Rattle.std.specs.Prelude.{◌≡◌, Ok, Err}
use Rattle.std.proofs.Common.{subst}
use Rattle.read_bodies.specs.inner.Parts.{Fits}
use Rattle.read_bodies.proofs.Parts.{code_left, code_written}
use Rattle.std.proofs.lemmas.Result.{err_from_is_err_and}
use Rattle.read_bodies.proofs.code_behind.Goals as goal

pub returns-in_err-g : goal.returns-in_err-g
returns-in_err-g c =
    let p = err_from_is_err_and c.from_residual.result c.from_residual.ensures.1 in
    let w : c.args.r ≡ Err c.in_err-g.field-0.0 = c.in_err-g.was in
    rw (p.1, p.2, w) (code_left c.in_err-g.field-0.0 _ _)

pub returns : goal.returns
returns c =
    let w : c.args.r ≡ Ok c.in_ok-g.g = c.in_ok-g.was in
    let h : Fits (Ok c.in_ok-g.g) = subst Fits w c.requires in
    rw w (code_written c.in_ok-g.g h _ _ _ _ c.write-used.ensures)
