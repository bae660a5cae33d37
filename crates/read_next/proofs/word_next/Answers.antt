-- `read_next::word_next` meets its contract, by the kind of the token that is found.
-- Assumes nothing.
use mathlib.Core.Path.{sym, ap, ◌∙◌}
use mathlib.Core.Bool.{cond}
use Rattle.std.specs.Prelude.{Some, None}
use Rattle.read_next.proofs.Next.{word_none, word_tested}
use borrow.Enum.Refused.{opened as unsealed}
use Rattle.read_next.proofs.word_next.Goals as goal

pub returns-in_default : goal.returns-in_default
returns-in_default c = word_none _ _ _ c.token_at-t.ensures (unsealed c.in_default.in_default-own.keys2)

pub returns-then-same_key : goal.returns-then-same_key
returns-then-same_key c =
    sym (ap (λ x. cond x (Some c.in-Word.next) None) c.if-same_key.true) ∙ word_tested _ _ _
    c.token_at-t.ensures c.in-Word.is c.same_key.ensures

pub returns-else-same_key : goal.returns-else-same_key
returns-else-same_key c =
    sym (ap (λ x. cond x (Some c.in-Word.next) None) c.if-same_key.false) ∙ word_tested _ _ _
    c.token_at-t.ensures c.in-Word.is c.same_key.ensures
