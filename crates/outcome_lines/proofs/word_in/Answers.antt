-- `outcome_lines::word_in` meets its contract. The part is the word, or all that there is.
-- Assumes nothing.
use Prim.Native.Nat.{◌+◌, ◌*◌}
use native.Mathlib.Omega.{arith}
use mathlib.Core.Path.{ap}
use lib.ListN.{take}
use Rattle.outcome_lines.proofs.WordInSheet.{rest_all, part_size, part_cut, part_none}
use borrow.Author.Rules.{rules}
use Rattle.outcome_lines.proofs.word_in.Goals as goal

pub slice_bounds-result-end : goal.slice_bounds-result-end
slice_bounds-result-end c = part_size c.args.sheet.now c.args.n c.if-n-most-2.true

pub returns-then-n-most-2 : goal.returns-then-n-most-2
returns-then-n-most-2 c = ap (take (2 * c.args.n + 1)) (rest_all c.args.sheet.now)

pub returns-else-n-most-2 : goal.returns-else-n-most-2
returns-else-n-most-2 c = part_cut c.args.sheet.now c.args.n (let h = c.if-n-most-2.false in omega arith)

pub returns-else-n-most : goal.returns-else-n-most
returns-else-n-most c = part_cut c.args.sheet.now c.args.n (let h = c.if-n-most.false in omega arith)

pub returns : goal.returns
returns c = part_none c.args.sheet.now c.args.n c.if-sheet-ge-WORD_AT.false
