-- `search_shape::enough` meets its contract, by the kind of the claim.
-- Assumes nothing.
use Rattle.search_shape.proofs.Rooms.{room_of_ring, room_of_path}
use lib.Dec.{leb}
use mathlib.Core.Path.{◌∙◌, ap}
use borrow.Author.Rules.{rules}
use Rattle.search_shape.proofs.enough.Goals as goal

pub returns-then-ring : goal.returns-then-ring
returns-then-ring c = λ r e. room_of_ring _ _ r _ c.if-ring.true

pub returns : goal.returns
returns c = λ r e. ap (leb _) e ∙ room_of_path _ _ r _ c.if-ring.false
