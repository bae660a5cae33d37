-- `read_next::write` meets its contract: the words from `used` on are filled with the code, where there is room for all.
-- Assumes nothing.
use Rattle.read_next.proofs.Stores.{not_written, all_written, filled}
use native.Mathlib.Omega.{arith}
use mathlib.Core.Path.{refl}
use Rattle.read_next.proofs.write.Goals as goal

pub returns-then-used-gt4096 : goal.returns-then-used-gt4096
returns-then-used-gt4096 c = not_written _ _ _ _ (omega arith)

pub returns-then-used-count : goal.returns-then-used-count
returns-then-used-count c = not_written _ _ _ _ (omega arith)

pub returns : goal.returns
returns c =
    all_written _ _ _ _ _ _ refl (filled _ _ _ _ _ (omega (arith, c.told-out)) (c.fill.ensures.after (λ y e. e))) (omega arith)
