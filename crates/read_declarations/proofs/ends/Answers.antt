-- `read_declarations::ends` meets its contract: the line ends where no token is found and byte 10 stands.
-- Assumes nothing.
use Rattle.read_declarations.proofs.LineEnds.{end_stands, end_missing}
use borrow.Enum.Refused.{opened as unsealed}
use Rattle.read_declarations.proofs.ends.Goals as goal

pub returns-in_default : goal.returns-in_default
returns-in_default c = end_missing _ _ _ _ c.token_at-t.ensures (unsealed c.in_default.in_default-own.keys2)

pub returns : goal.returns
returns c = end_stands _ _ _ _ c.token_at-t.ensures c.in-End.is
