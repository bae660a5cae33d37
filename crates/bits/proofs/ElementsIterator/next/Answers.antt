-- `bits::Elements::next` gives the lowest member of the set that is left, and leaves the others: the count of ones falls each time.
-- Assumes nothing.
use Rattle.std.proofs.Common.{◌≡◌, ◌∙◌, ap, [], arith, rules}
use Rattle.claims.specs.Fields.{number_set}
use Rattle.bits.specs.Walk.{members_left}
use Rattle.bits.proofs.Lowest.{Lowest, lowest}
use Rattle.bits.proofs.Members.{number_none}
use Rattle.bits.proofs.ElementsIterator.next.Goals as goal

pub returns-then-self-eq0-clause-steps : goal.returns-then-self-eq0-clause-steps
returns-then-self-eq0-clause-steps c =
    let none : members_left c.args.self.now ≡ [] = ap (number_set 0 64) c.if-self-eq0.true ∙ number_none 0 64 in (none, none)

pub returns-clause-steps : goal.returns-clause-steps
returns-clause-steps c = (lowest 64 c.args.self.now.left (search rules) c.if-self-eq0.false).members

pub returns-clause-goes : goal.returns-clause-goes
returns-clause-goes c =
    let fewer = (lowest 64 c.args.self.now.left (search rules) c.if-self-eq0.false).count in
    record { on = λ _. (tt, tt, omega (arith, fewer)); keeps = tt; rests = λ _. tt }
