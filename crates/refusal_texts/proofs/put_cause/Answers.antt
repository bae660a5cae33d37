-- `refusal_texts::put_cause` meets its contract. In each arm the cause is known.
-- Assumes nothing.
use Rattle.refusals.specs.declared.Reason.TheVariants.{TooLong, BadByte, Notation, TooDeep, UnknownName, WrongKind, DeclaredTwice, ReservedName, TooMany, NoClaim, AfterClaim, OverLimit, BadAllowance, ShortMemory, SpentAllowance, ShortBuffer, GraphField, SheetField, DoesNotPass}
use Rattle.refusal_texts.specs.CauseText.{cause_text}
use Rattle.refusal_texts.proofs.Known.{cause_known}
use Rattle.refusal_texts.proofs.put_cause.Goals as goal

pub returns-in-TooLong : goal.returns-in-TooLong
unfolding cause_text
returns-in-TooLong c = cause_known _ TooLong c.in-TooLong.is c.put_text.ensures

pub returns-in-BadByte : goal.returns-in-BadByte
unfolding cause_text
returns-in-BadByte c = cause_known _ BadByte c.in-BadByte.is c.put_text-in-BadByte.ensures

pub returns-in-Notation : goal.returns-in-Notation
unfolding cause_text
returns-in-Notation c = cause_known _ Notation c.in-Notation.is c.put_text-in-Notation.ensures

pub returns-in-TooDeep : goal.returns-in-TooDeep
unfolding cause_text
returns-in-TooDeep c = cause_known _ TooDeep c.in-TooDeep.is c.put_text-in-TooDeep.ensures

pub returns-in-UnknownName : goal.returns-in-UnknownName
unfolding cause_text
returns-in-UnknownName c = cause_known _ UnknownName c.in-UnknownName.is c.put_text-in-UnknownName.ensures

pub returns-in-WrongKind : goal.returns-in-WrongKind
unfolding cause_text
returns-in-WrongKind c = cause_known _ WrongKind c.in-WrongKind.is c.put_text-in-WrongKind.ensures

pub returns-in-DeclaredTwice : goal.returns-in-DeclaredTwice
unfolding cause_text
returns-in-DeclaredTwice c = cause_known _ DeclaredTwice c.in-DeclaredTwice.is c.put_text-in-DeclaredTwice.ensures

pub returns-in-ReservedName : goal.returns-in-ReservedName
unfolding cause_text
returns-in-ReservedName c = cause_known _ ReservedName c.in-ReservedName.is c.put_text-in-ReservedName.ensures

pub returns-in-TooMany : goal.returns-in-TooMany
unfolding cause_text
returns-in-TooMany c = cause_known _ TooMany c.in-TooMany.is c.put_text-in-TooMany.ensures

pub returns-in-NoClaim : goal.returns-in-NoClaim
unfolding cause_text
returns-in-NoClaim c = cause_known _ NoClaim c.in-NoClaim.is c.put_text-in-NoClaim.ensures

pub returns-in-AfterClaim : goal.returns-in-AfterClaim
unfolding cause_text
returns-in-AfterClaim c = cause_known _ AfterClaim c.in-AfterClaim.is c.put_text-in-AfterClaim.ensures

pub returns-in-OverLimit : goal.returns-in-OverLimit
unfolding cause_text
returns-in-OverLimit c = cause_known _ OverLimit c.in-OverLimit.is c.put_text-in-OverLimit.ensures

pub returns-in-BadAllowance : goal.returns-in-BadAllowance
unfolding cause_text
returns-in-BadAllowance c = cause_known _ BadAllowance c.in-BadAllowance.is c.put_text-in-BadAllowance.ensures

pub returns-in-ShortMemory : goal.returns-in-ShortMemory
unfolding cause_text
returns-in-ShortMemory c = cause_known _ ShortMemory c.in-ShortMemory.is c.put_text-in-ShortMemory.ensures

pub returns-in-SpentAllowance : goal.returns-in-SpentAllowance
unfolding cause_text
returns-in-SpentAllowance c = cause_known _ SpentAllowance c.in-SpentAllowance.is c.put_text-in-SpentAllowance.ensures

pub returns-in-ShortBuffer : goal.returns-in-ShortBuffer
unfolding cause_text
returns-in-ShortBuffer c = cause_known _ ShortBuffer c.in-ShortBuffer.is c.put_text-in-ShortBuffer.ensures

pub returns-in-GraphField : goal.returns-in-GraphField
unfolding cause_text
returns-in-GraphField c = cause_known _ GraphField c.in-GraphField.is c.put_text-in-GraphField.ensures

pub returns-in-SheetField : goal.returns-in-SheetField
unfolding cause_text
returns-in-SheetField c = cause_known _ SheetField c.in-SheetField.is c.put_text-in-SheetField.ensures

pub returns-in-DoesNotPass : goal.returns-in-DoesNotPass
unfolding cause_text
returns-in-DoesNotPass c = cause_known _ DoesNotPass c.in-DoesNotPass.is c.put_text-in-DoesNotPass.ensures
