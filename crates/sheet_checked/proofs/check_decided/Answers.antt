-- `sheet_checked::check_decided` meets its contract: the answer to the part is that to the sheet.
-- Assumes nothing.
use mathlib.Core.Path.{refl}
use Prim.Native.Nat.{◌≤◌}
use native.Mathlib.Omega.{arith}
use Rattle.sheet_checked.proofs.Ended.{proved_says, refuted_says, wrong_says}
use Rattle.sheet_checked.proofs.check_decided.Goals as goal

pub overflow_add-n : goal.overflow_add-n
overflow_add-n c =
    let h = rw c.in-Ok-Proved.field-0-is at c.in-Ok-Proved.ensures in
    let few : c.in-Ok-Proved.n ≤ 4097 = h.few in
    omega arith

pub overflow_add-n-in-Ok-Refuted : goal.overflow_add-n-in-Ok-Refuted
overflow_add-n-in-Ok-Refuted c =
    let h = rw c.in-Ok-Refuted.field-0-is at c.in-Ok-Refuted.ensures in
    let few : c.in-Ok-Refuted.n ≤ 4097 = h.few in
    omega arith

pub overflow_add-result : goal.overflow_add-result
overflow_add-result c = let few : c.in-Err.before ≤ 4097 = c.in-Err.ensures.few in omega arith

pub returns-in-Ok-Proved : goal.returns-in-Ok-Proved
returns-in-Ok-Proved c =
    let h = rw c.in-Ok-Proved.field-0-is at c.in-Ok-Proved.ensures in
    λ D d. proved_says D _ _ (h.tested D d) _ _ _ refl _ c.answer.ensures

pub returns-in-Ok-Refuted : goal.returns-in-Ok-Refuted
returns-in-Ok-Refuted c =
    let h = rw c.in-Ok-Refuted.field-0-is at c.in-Ok-Refuted.ensures in
    λ D d. refuted_says D _ _ (h.tested D d) _ _ _ refl _ c.answer-in-Ok-Refuted.ensures

pub returns-in-Err : goal.returns-in-Err
returns-in-Err c = λ D d. wrong_says D _ _ (c.in-Err.ensures.tested D d) _ refl
