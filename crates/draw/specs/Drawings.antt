-- What the draw call answers, as the values of its definition. (Document 01, "Refusals with an example each".)
-- Assumes nothing.
use Rattle.std.specs.Prelude.{ℕ, ◌≡◌, List}
use Rattle.claims.specs.Refusals.{Result, ok, refuse}
use Rattle.refusals.specs.Causes.{cause_of}
use Rattle.draw.specs.declared.Drawing.{Drawing}
use Rattle.draw.specs.declared.Drawing.TheVariants.{Graph, TooLarge, Proved, Short, Refused}
use Rattle.draw.specs.DrawCall.{Picture, graph_of, too_large, said_proved, too_short, Drew}

-- the result that an answer says: so many bytes, so many events, or the cause and the place ("Refusals with an example each")
unfoldable pub result_of : Drawing → Result Picture
result_of (Graph n) = ok (graph_of n)
result_of (TooLarge n) = ok (too_large n)
result_of Proved = ok said_proved
result_of Short = ok too_short
result_of (Refused why p) = refuse (cause_of why) p

-- the call gives what is drawn: its answer says the result, and the lent memory is as it is then ("Refusals with an example each")
pub record Draws (d : Drew) (r : Drawing) (after : List ℕ) : Type 0 where
  pub says : result_of r ≡ d.result
  pub leaves : after ≡ d.out
