-- `search_ring::wipe` meets its contract: the part that is cleared has 34 words.
-- Assumes nothing.
use native.Mathlib.Omega.{arith}
use mathlib.Core.Path.{◌≡◌, ◌∙◌, ap}
use mathlib.Core.List.{◌++◌}
use lib.ListN.{length, take, drop, length-take}
use Rattle.memory.specs.Memory.{zeros}
use Rattle.search_ring.proofs.wipe.Goals as goal

pub returns : goal.returns
returns c =
    let to = c.args.to.now in
    let e : length (take 34 to) ≡ 34 = length-take 34 to ∙ omega arith in
    ap (λ z. z ++ drop 34 to) (c.clear.ensures ∙ ap zeros e)
