-- `read_names::first_slip` meets its contract. A slip that is there is kept.
-- Assumes nothing.
use mathlib.Core.Path.{ap, sym}
use Rattle.read_names.specs.Slips.{first_of}
use Rattle.read_names.proofs.FirstSlips.{first_other}
use borrow.Author.Rules.{rules}
use borrow.Enum.Refused.{opened as unsealed}
use Rattle.read_names.proofs.first_slip.Goals as goal

pub returns-in-Clean : goal.returns-in-Clean
returns-in-Clean c = ap (λ a. first_of a c.args.new) (sym c.in-Clean.is)

pub returns-in_default : goal.returns-in_default
returns-in_default c = first_other _ _ (unsealed c.in_default.in_default-own.keys2)
