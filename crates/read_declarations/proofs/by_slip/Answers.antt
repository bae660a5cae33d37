-- `read_declarations::by_slip` meets its contract: each arm gives what the definition gives.
-- Assumes nothing.
use mathlib.Core.Path.{ap, sym}
use Rattle.read_declarations.specs.inner.Kinds.{by_slip}
use Rattle.read_declarations.proofs.by_slip.Goals as goal

pub returns-in-Clean : goal.returns-in-Clean
unfolding by_slip
returns-in-Clean c = ap (by_slip c.args.used) (sym c.in-Clean.is)

pub returns-in-Unknown : goal.returns-in-Unknown
unfolding by_slip
returns-in-Unknown c = ap (by_slip c.args.used) (sym c.in-Unknown.is)

pub returns-in-OtherKind : goal.returns-in-OtherKind
unfolding by_slip
returns-in-OtherKind c = ap (by_slip c.args.used) (sym c.in-OtherKind.is)

pub returns-in-Twice : goal.returns-in-Twice
unfolding by_slip
returns-in-Twice c = ap (by_slip c.args.used) (sym c.in-Twice.is)

pub returns-in-Reserved : goal.returns-in-Reserved
unfolding by_slip
returns-in-Reserved c = ap (by_slip c.args.used) (sym c.in-Reserved.is)
