-- `read_declarations::one_more` meets its contract. No sum wraps, since no more is declared than may be.
-- Assumes nothing.
use Rattle.read_declarations.proofs.Declaring.{one_more_is}
use Rattle.read_declarations.proofs.one_more.Goals as goal

pub returns : goal.returns
returns c = one_more_is _ _ _ _ _ _ c.one_if.ensures.0 c.one_if-2.ensures.0 c.one_if-3.ensures.0
