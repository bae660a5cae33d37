-- `read_next::mark_next` meets its contract, by the byte that stands there and the kind of the token that is found.
-- Assumes nothing.
use mathlib.Core.Path.{◌∙◌}
use Rattle.read_next.proofs.Next.{mark_elsewhere, mark_none, mark_here, mark_differs}
use borrow.Enum.Refused.{opened as unsealed}
use Rattle.read_next.proofs.mark_next.Goals as goal

pub returns-then-first_byte-b : goal.returns-then-first_byte-b
returns-then-first_byte-b c = mark_elsewhere _ _ _ (λ e. c.if-first_byte-b.true (c.first_byte.ensures ∙ e))

pub returns-in_default : goal.returns-in_default
returns-in_default c = mark_none _ _ _ c.token_at-t.ensures (unsealed c.in_default.in_default-own.keys2)

pub returns-then-b-c : goal.returns-then-b-c
returns-then-b-c c = mark_here _ _ _ c.token_at-t.ensures c.in-Mark.is c.if-b-c.true

pub returns-else-b-c : goal.returns-else-b-c
returns-else-b-c c = mark_differs _ _ _ c.token_at-t.ensures c.in-Mark.is c.if-b-c.false
