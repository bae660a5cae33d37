-- `read_bodies::closed_body` meets its contract: a relation's name.
-- Assumes nothing.
use Rattle.read_bodies.proofs.Bodies.{closed_reserved, closed_got}
use Rattle.read_bodies.proofs.NextWords.{no_word, token_found, name_missing}
use Rattle.claims.specs.Tree.{closed_line}
use mathlib.Core.List.{[]}
use native.Mathlib.Omega.{arith}
use Rattle.read_next.proofs.Stores.{written_room}
use borrow.Enum.Refused.{opened as unsealed}
use Rattle.read_bodies.proofs.closed_body.Goals as goal

pub returns-in_default : goal.returns-in_default
returns-in_default c =
    let w = c.fail.ensures in
    rw w.0 (w.1, λ q m. name_missing _ _ _ c.token_at-t.ensures (no_word c.token_at-t.result (unsealed c.in_default.in_default-own.keys2)) closed_line)

pub returns-then-reserved : goal.returns-then-reserved
returns-then-reserved c =
    let w = c.fail-then-reserved.ensures in
    rw w.0 (w.1, λ q m. closed_reserved _ [] 0 _ 0 _ _ (token_found _ _ _ _ c.token_at-t.ensures c.in-Word.is) _ c.reserved.ensures c.if-reserved.true)

pub returns : goal.returns
returns c =
    closed_got _ _ _ _ _ _ _ (token_found _ _ _ _ c.token_at-t.ensures c.in-Word.is) _ c.reserved.ensures c.if-reserved.false _ _ _
    c.find-c.ensures c.slip_of.ensures c.relation_number.ensures.0 _ _ _ (written_room _ _ _ _ _ _ c.write-end.ensures (omega arith))
