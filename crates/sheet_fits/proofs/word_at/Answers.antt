-- `sheet_fits::word_at` meets its contract: two cells below 2 ^ 32 are a word.
-- Assumes nothing.
use Rattle.sheet_fits.proofs.Tests.{wide_is}
use Rattle.sheet_fits.proofs.word_at.Goals as goal

pub returns : goal.returns
returns c = wide_is c.args.s.now c.args.i
