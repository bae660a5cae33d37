-- `sheet_alike::ring_ends_alike` meets its contract: by the kind of the claim.
-- Assumes nothing.
use mathlib.Core.Path.{◌∙◌, sym, ap}
use mathlib.Core.Bool.{true, cond}
use Rattle.standings.specs.Alike.{ends_alike}
use Rattle.sheet_alike.proofs.ring_ends_alike.Goals as goal

pub returns-then-ring : goal.returns-then-ring
returns-then-ring c =
    let a = c.args in
    c.ends_alike.ensures ∙ sym (ap (λ b. cond b (ends_alike a.table.now a.a a.b) true) c.if-ring.true)
