-- `read_bodies::limits` meets its contract: two bracketed T, one behind the other, and a code behind both.
-- Assumes nothing.
use Rattle.read_bodies.specs.inner.Parts.{limits_reader, limit_codes, limit_uses}
use Rattle.read_bodies.proofs.Parts.{code_fits, code_read, limits_failed, limits_read}
use native.Mathlib.Omega.{arith}
use Rattle.std.proofs.lemmas.Result.{err_from_is_err_and}
use Rattle.read_bodies.proofs.limits.Goals as goal

pub returns-in_err-g : goal.returns-in_err-g
returns-in_err-g c =
    let a = c.args in
    let p = err_from_is_err_and c.from_residual.result c.from_residual.ensures.1 in
    rw (p.1, p.2) (limits_failed a.s.now a.names.now a.n a.p a.out.now c.bracketed.new.out c.in_err-g.field-0.0 c.in_err-g.ensures a.code)

pub bracketed-u-requires : goal.bracketed-u-requires
bracketed-u-requires c = omega (arith, c.in_ok-g.ensures.0.room, c.requires)

pub code_behind-requires : goal.code_behind-requires
code_behind-requires c =
    let u = c.bracketed-u in
    let a = c.args in
    code_fits a.s.now a.p.at a.p.used _ u.result (limits_read _ _ _ _ _ _ _ c.in_ok-g.ensures _ u.result u.ensures).0 c.requires

pub returns : goal.returns
returns c =
    let u = c.bracketed-u in
    code_read limits_reader limit_codes limit_uses _ _ _ _ _ _ u.result (limits_read _ _ _ _ _ _ _ c.in_ok-g.ensures _ u.result u.ensures) _ _ _ c.code_behind.ensures
