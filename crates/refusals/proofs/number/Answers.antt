-- `refusals::number` gives the document's number of each reason: in each arm the reason is known, and its number computes.
-- Assumes nothing.
use mathlib.Core.Path.{◌≡◌, sym, ap}
use Rattle.claims.specs.Refusals.{number}
use Rattle.refusals.specs.Causes.{cause_of}
use Rattle.refusals.specs.declared.Reason.{Reason}
use Rattle.refusals.specs.declared.Reason.TheVariants.{TooLong, BadByte, Notation, TooDeep, UnknownName, WrongKind, DeclaredTwice, ReservedName, TooMany, NoClaim, AfterClaim, OverLimit, BadAllowance, ShortMemory, SpentAllowance, ShortBuffer, GraphField, SheetField, DoesNotPass}
use borrow.Author.Rules.{rules}
use Rattle.refusals.proofs.number.Goals as goal

-- the number of a reason that is known
known : (why r : Reason) → why ≡ r → number (cause_of r) ≡ number (cause_of why)
known why r e = ap (λ w. number (cause_of w)) (sym e)

pub returns-in-TooLong : goal.returns-in-TooLong
unfolding number cause_of
returns-in-TooLong c = known _ TooLong c.in-TooLong.is

pub returns-in-BadByte : goal.returns-in-BadByte
unfolding number cause_of
returns-in-BadByte c = known _ BadByte c.in-BadByte.is

pub returns-in-Notation : goal.returns-in-Notation
unfolding number cause_of
returns-in-Notation c = known _ Notation c.in-Notation.is

pub returns-in-TooDeep : goal.returns-in-TooDeep
unfolding number cause_of
returns-in-TooDeep c = known _ TooDeep c.in-TooDeep.is

pub returns-in-UnknownName : goal.returns-in-UnknownName
unfolding number cause_of
returns-in-UnknownName c = known _ UnknownName c.in-UnknownName.is

pub returns-in-WrongKind : goal.returns-in-WrongKind
unfolding number cause_of
returns-in-WrongKind c = known _ WrongKind c.in-WrongKind.is

pub returns-in-DeclaredTwice : goal.returns-in-DeclaredTwice
unfolding number cause_of
returns-in-DeclaredTwice c = known _ DeclaredTwice c.in-DeclaredTwice.is

pub returns-in-ReservedName : goal.returns-in-ReservedName
unfolding number cause_of
returns-in-ReservedName c = known _ ReservedName c.in-ReservedName.is

pub returns-in-TooMany : goal.returns-in-TooMany
unfolding number cause_of
returns-in-TooMany c = known _ TooMany c.in-TooMany.is

pub returns-in-NoClaim : goal.returns-in-NoClaim
unfolding number cause_of
returns-in-NoClaim c = known _ NoClaim c.in-NoClaim.is

pub returns-in-AfterClaim : goal.returns-in-AfterClaim
unfolding number cause_of
returns-in-AfterClaim c = known _ AfterClaim c.in-AfterClaim.is

pub returns-in-OverLimit : goal.returns-in-OverLimit
unfolding number cause_of
returns-in-OverLimit c = known _ OverLimit c.in-OverLimit.is

pub returns-in-BadAllowance : goal.returns-in-BadAllowance
unfolding number cause_of
returns-in-BadAllowance c = known _ BadAllowance c.in-BadAllowance.is

pub returns-in-ShortMemory : goal.returns-in-ShortMemory
unfolding number cause_of
returns-in-ShortMemory c = known _ ShortMemory c.in-ShortMemory.is

pub returns-in-SpentAllowance : goal.returns-in-SpentAllowance
unfolding number cause_of
returns-in-SpentAllowance c = known _ SpentAllowance c.in-SpentAllowance.is

pub returns-in-ShortBuffer : goal.returns-in-ShortBuffer
unfolding number cause_of
returns-in-ShortBuffer c = known _ ShortBuffer c.in-ShortBuffer.is

pub returns-in-GraphField : goal.returns-in-GraphField
unfolding number cause_of
returns-in-GraphField c = known _ GraphField c.in-GraphField.is

pub returns-in-SheetField : goal.returns-in-SheetField
unfolding number cause_of
returns-in-SheetField c = known _ SheetField c.in-SheetField.is

pub returns-in-DoesNotPass : goal.returns-in-DoesNotPass
unfolding number cause_of
returns-in-DoesNotPass c = known _ DoesNotPass c.in-DoesNotPass.is
