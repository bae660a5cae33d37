-- `read_bodies::declaration` meets its contract: the word that stands next is declared, whichever it is; where none stands, nothing is.
-- Assumes nothing.
use Rattle.claims.specs.Lines.{mapped}
use mathlib.Core.Path.{ap}
use native.Mathlib.Omega.{arith}
use Rattle.read_next.proofs.Stores.{written_room}
use Rattle.read_bodies.proofs.Bodies.{declaration_got}
use Rattle.read_bodies.proofs.NextWords.{no_word, token_found, declared_missing}
use borrow.Enum.Refused.{opened as unsealed}
use Rattle.read_bodies.proofs.declaration.Goals as goal

pub returns-in_default : goal.returns-in_default
returns-in_default c =
    λ kind d.
    let w = c.fail.ensures in
    rw w.0 (w.1, λ q m. ap (mapped kind) (declared_missing _ _ _ c.token_at-t.ensures (no_word c.token_at-t.result (unsealed c.in_default.in_default-own.keys2))))

pub returns : goal.returns
returns c =
    λ kind d.
    declaration_got kind _ d _ _ _ _ _ _ _ _ c.token_at-t.ensures c.in-Word.is (token_found _ _ _ _ c.token_at-t.ensures c.in-Word.is) _ _ _ _ c.declaration_slip-slip.ensures (written_room _ _ _ _ _ _ c.write-end.ensures (omega arith))
