-- `bits::marked` meets its contract.
-- Assumes nothing.
use mathlib.Core.Path.{sym, ◌∙◌, ap}
use mathlib.Core.Bool.{cond}
use Rattle.bits.specs.Sets.{including}
use borrow.Author.Rules.{rules}
use Rattle.bits.proofs.marked.Goals as goal

pub returns-then-on : goal.returns-then-on
returns-then-on c =
    let a = c.args in
    c.with.ensures ∙ sym (ap (λ b. cond b (including 64 a.w a.p) a.w) c.if-on.true)

pub returns-else-on : goal.returns-else-on
returns-else-on c =
    let a = c.args in
    sym (ap (λ b. cond b (including 64 a.w a.p) a.w) c.if-on.false)
