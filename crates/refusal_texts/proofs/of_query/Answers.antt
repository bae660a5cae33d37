-- `refusal_texts::of_query` meets its contract. In each arm the cause is known.
-- Assumes nothing.
use mathlib.Core.Path.{◌≡◌, sym, ap}
use Rattle.refusals.specs.declared.Reason.{Reason}
use Rattle.refusals.specs.declared.Reason.TheVariants.{TooLong, BadByte, Notation, TooDeep, UnknownName, WrongKind, DeclaredTwice, ReservedName, TooMany, NoClaim, AfterClaim, OverLimit, BadAllowance, ShortMemory, SpentAllowance, ShortBuffer, GraphField, SheetField, DoesNotPass}
use Rattle.refusal_texts.specs.CauseText.{of_query}
use Rattle.refusal_texts.proofs.of_query.Goals as goal

-- what is said of a cause that is known
known : (why r : Reason) → why ≡ r → of_query r ≡ of_query why
known why r e = ap of_query (sym e)

pub returns-in-TooLong : goal.returns-in-TooLong
unfolding of_query
returns-in-TooLong c = known _ TooLong c.in-TooLong.is

pub returns-in-BadByte : goal.returns-in-BadByte
unfolding of_query
returns-in-BadByte c = known _ BadByte c.in-BadByte.is

pub returns-in-Notation : goal.returns-in-Notation
unfolding of_query
returns-in-Notation c = known _ Notation c.in-Notation.is

pub returns-in-TooDeep : goal.returns-in-TooDeep
unfolding of_query
returns-in-TooDeep c = known _ TooDeep c.in-TooDeep.is

pub returns-in-UnknownName : goal.returns-in-UnknownName
unfolding of_query
returns-in-UnknownName c = known _ UnknownName c.in-UnknownName.is

pub returns-in-WrongKind : goal.returns-in-WrongKind
unfolding of_query
returns-in-WrongKind c = known _ WrongKind c.in-WrongKind.is

pub returns-in-DeclaredTwice : goal.returns-in-DeclaredTwice
unfolding of_query
returns-in-DeclaredTwice c = known _ DeclaredTwice c.in-DeclaredTwice.is

pub returns-in-ReservedName : goal.returns-in-ReservedName
unfolding of_query
returns-in-ReservedName c = known _ ReservedName c.in-ReservedName.is

pub returns-in-TooMany : goal.returns-in-TooMany
unfolding of_query
returns-in-TooMany c = known _ TooMany c.in-TooMany.is

pub returns-in-NoClaim : goal.returns-in-NoClaim
unfolding of_query
returns-in-NoClaim c = known _ NoClaim c.in-NoClaim.is

pub returns-in-AfterClaim : goal.returns-in-AfterClaim
unfolding of_query
returns-in-AfterClaim c = known _ AfterClaim c.in-AfterClaim.is

pub returns-in-OverLimit : goal.returns-in-OverLimit
unfolding of_query
returns-in-OverLimit c = known _ OverLimit c.in-OverLimit.is

pub returns-in-BadAllowance : goal.returns-in-BadAllowance
unfolding of_query
returns-in-BadAllowance c = known _ BadAllowance c.in-BadAllowance.is

pub returns-in-ShortMemory : goal.returns-in-ShortMemory
unfolding of_query
returns-in-ShortMemory c = known _ ShortMemory c.in-ShortMemory.is

pub returns-in-SpentAllowance : goal.returns-in-SpentAllowance
unfolding of_query
returns-in-SpentAllowance c = known _ SpentAllowance c.in-SpentAllowance.is

pub returns-in-ShortBuffer : goal.returns-in-ShortBuffer
unfolding of_query
returns-in-ShortBuffer c = known _ ShortBuffer c.in-ShortBuffer.is

pub returns-in-GraphField : goal.returns-in-GraphField
unfolding of_query
returns-in-GraphField c = known _ GraphField c.in-GraphField.is

pub returns-in-SheetField : goal.returns-in-SheetField
unfolding of_query
returns-in-SheetField c = known _ SheetField c.in-SheetField.is

pub returns-in-DoesNotPass : goal.returns-in-DoesNotPass
unfolding of_query
returns-in-DoesNotPass c = known _ DoesNotPass c.in-DoesNotPass.is
