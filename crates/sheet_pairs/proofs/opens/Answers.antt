-- `sheet_pairs::opens` meets its contract.
-- Assumes nothing.
use Prim.Native.Nat.{◌^◌}
use native.Mathlib.Omega.{arith}
use mathlib.Core.Path.{refl, sym, ◌∙◌, ap}
use mathlib.Core.Bool.{cond}
use Rattle.bits.proofs.Rows.{shifted_one, meets_true, meets_false}
use Rattle.sheet_pairs.proofs.opens.Goals as goal

pub returns-then-row-e-ne0 : goal.returns-then-row-e-ne0
returns-then-row-e-ne0 c =
    let a = c.args in
    shifted_one 64 a.p (omega arith) ∙ sym (ap (λ b. cond b (2 ^ a.p) 0) (meets_true _ _ a.e refl c.if-row-e-ne0.true))

pub returns-else-row-e-ne0 : goal.returns-else-row-e-ne0
returns-else-row-e-ne0 c =
    let a = c.args in
    sym (ap (λ b. cond b (2 ^ a.p) 0) (meets_false _ _ a.e refl c.if-row-e-ne0.false))
