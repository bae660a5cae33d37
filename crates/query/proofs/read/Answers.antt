-- `query::read` meets its contract: each way out is what document 01's reading says.
-- Assumes nothing.
use Rattle.query.proofs.Outcomes.{refused_way, over_way, within_way}
use Rattle.memory.specs.Memory.{zeros}
use mathlib.Core.Path.{◌∙◌, ap}
use mathlib.Core.Bool.{not}
use Rattle.std.proofs.lemmas.Result.{err_from_is_err_and}
use borrow.Author.Rules.{rules}
use Rattle.query.proofs.read.Goals as goal

pub returns-then-not-within : goal.returns-then-not-within
returns-then-not-within c =
    over_way _ c.read.result _ c.read.ensures.0 c.read.ensures.1 _ c.in_ok-known.was (search rules) _ c.within.ensures (ap not c.if-not-within.true) _ _ _ c.clear-then-not-within.ensures
    (c.clear.ensures ∙ ap zeros c.clear-arg-1.given.0.1) (c.clear-2.ensures ∙ ap zeros c.clear-arg-2-1.given.0.1)

pub build-b-requires : goal.build-b-requires
build-b-requires c = (c.clear.ensures ∙ ap zeros c.clear-arg-1.given.0.1, c.clear-2.ensures ∙ ap zeros c.clear-arg-2-1.given.0.1)

pub returns-in_err-known : goal.returns-in_err-known
returns-in_err-known c =
    let p = err_from_is_err_and c.from_residual.result c.from_residual.ensures.1 in
    rw (p.1, p.2)
    (refused_way _ c.read.result _ c.read.ensures.0 c.read.ensures.1 _ c.in_err-known.was _ _
    (c.clear.ensures ∙ ap zeros c.clear-arg-1.given.0.1) (c.clear-2.ensures ∙ ap zeros c.clear-arg-2-1.given.0.1))

pub returns : goal.returns
returns c =
    within_way _ c.read.result _ c.read.ensures.0 c.read.ensures.1 _ c.in_ok-known.was (search rules) _ c.within.ensures (ap not c.if-not-within.false) _ _ _ _
    c.build-b.ensures c.facts_by.ensures
