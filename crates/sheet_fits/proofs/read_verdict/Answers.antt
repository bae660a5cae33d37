-- `sheet_fits::read_verdict` meets its contract: contents of another length or byte are none.
-- Assumes nothing.
use native.Mathlib.Omega.{arith}
use Rattle.sheet_fits.proofs.Verdicts.{verdict_size, verdict_proved, verdict_refuted, verdict_neither}
use Rattle.sheet_fits.proofs.read_verdict.Goals as goal

pub returns-in-1 : goal.returns-in-1
returns-in-1 c = verdict_proved c.args.contents.now (omega arith) (omega arith)

pub returns-in-2 : goal.returns-in-2
returns-in-2 c = verdict_refuted c.args.contents.now (omega arith) (omega arith)

pub returns-in_default : goal.returns-in_default
returns-in_default c = verdict_size c.args.contents.now (omega arith)

pub returns-in_default-2 : goal.returns-in_default-2
returns-in_default-2 c = verdict_neither c.args.contents.now (omega arith) (omega arith) (omega arith)

pub returns-in_default-3 : goal.returns-in_default-3
returns-in_default-3 c = verdict_size c.args.contents.now (omega arith)
