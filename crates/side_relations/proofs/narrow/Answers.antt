-- `side_relations::narrow` meets its contract: each way is one of the definition's.
-- Assumes nothing.
use native.Mathlib.Omega.{arith}
use mathlib.Core.Path.{refl, ◌∙◌, ap}
use lib.Bits.{bit_and}
use lib.ListN.{get_or, length-set}
use lib.Seq.{get_or-set_other}
use Rattle.side_relations.proofs.Narrowed.{narrow_below, narrow_above, narrow_line}
use Rattle.side_relations.proofs.narrow.Goals as goal

pub returns-then-code-lt-WITHIN_LINE : goal.returns-then-code-lt-WITHIN_LINE
returns-then-code-lt-WITHIN_LINE c = let a = c.args in narrow_below a.code a.x a.y a.limits.now c.if-code-lt-WITHIN_LINE.true

pub returns-then-code-ge-CLOSED_LINE : goal.returns-then-code-ge-CLOSED_LINE
returns-then-code-ge-CLOSED_LINE c = let a = c.args in narrow_above a.code a.x a.y a.limits.now c.if-code-ge-CLOSED_LINE.true

pub bounds-limits-r-3 : goal.bounds-limits-r-3
bounds-limits-r-3 c = simp length-set (omega arith)

pub bounds-limits-r-4 : goal.bounds-limits-r-4
bounds-limits-r-4 c = simp length-set (omega arith)

pub shape_of-limits : goal.shape_of-limits
shape_of-limits c = simp length-set

pub returns : goal.returns
returns c =
    let a = c.args in
    narrow_line a.code a.x a.y a.limits.now (omega arith) (omega arith) _ _ _ _ refl (omega arith) refl
    (ap (λ w. bit_and w a.y) (get_or-set_other a.limits.now _ _ _ 0 (λ e. omega arith) ∙ ap (λ j. get_or a.limits.now j 0) (omega arith)))
