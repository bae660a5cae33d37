-- `read_declarations::declare` meets its contract: the line is refused for what its check says or as one too many, or the name is entered.
-- Assumes nothing.
use Rattle.std.specs.Prelude.{Ok, Err}
use Rattle.std.proofs.Common.{refl}
use Rattle.read_declarations.proofs.Declaring.{answer_faulty, answer_crowd, answer_taken}
use Rattle.std.proofs.lemmas.Result.{err_from_is_err_and}
use Rattle.read_declarations.proofs.declare.Goals as goal

pub returns-then-most_of-n : goal.returns-then-most_of-n
returns-then-most_of-n c = answer_crowd _ _ _ _ _ (Ok c.in_ok-used.used) c.in_ok-used.ensures _ refl _ _ c.most_of.ensures.0 c.count_of-n.ensures c.if-most_of-n.true

pub returns : goal.returns
returns c =
    answer_taken _ _ _ _ _ (Ok c.in_ok-used.used) c.in_ok-used.ensures _ refl _ _ c.most_of.ensures.0 c.count_of-n.ensures c.if-most_of-n.false _ c.one_more.ensures _ c.word_at.ensures _ c.enter.ensures

pub returns-in_err-used : goal.returns-in_err-used
returns-in_err-used c =
    let p = err_from_is_err_and c.from_residual.result c.from_residual.ensures.1 in
    rw (p.1, p.2) (answer_faulty _ _ _ _ _ (Err c.in_err-used.field-0.0) c.in_err-used.ensures c.in_err-used.field-0.0 refl)
