-- The document's cause of each reason that the code gives. (Document 01, "Refusals with an example each".)
-- Assumes nothing.
use Rattle.claims.specs.Refusals.{Cause, too_long, bad_byte, notation, too_deep, unknown_name, wrong_kind, declared_twice, reserved_name, too_many, no_claim, after_claim, over_limit, bad_allowance, short_memory, spent_allowance, short_buffer, graph_field, sheet_field, does_not_pass}
use Rattle.refusals.specs.declared.Reason.{Reason}
use Rattle.refusals.specs.declared.Reason.TheVariants.{TooLong, BadByte, Notation, TooDeep, UnknownName, WrongKind, DeclaredTwice, ReservedName, TooMany, NoClaim, AfterClaim, OverLimit, BadAllowance, ShortMemory, SpentAllowance, ShortBuffer, GraphField, SheetField, DoesNotPass}

-- the document's cause of a reason
unfoldable pub cause_of : Reason → Cause
cause_of TooLong = too_long
cause_of BadByte = bad_byte
cause_of Notation = notation
cause_of TooDeep = too_deep
cause_of UnknownName = unknown_name
cause_of WrongKind = wrong_kind
cause_of DeclaredTwice = declared_twice
cause_of ReservedName = reserved_name
cause_of TooMany = too_many
cause_of NoClaim = no_claim
cause_of AfterClaim = after_claim
cause_of OverLimit = over_limit
cause_of BadAllowance = bad_allowance
cause_of ShortMemory = short_memory
cause_of SpentAllowance = spent_allowance
cause_of ShortBuffer = short_buffer
cause_of GraphField = graph_field
cause_of SheetField = sheet_field
cause_of DoesNotPass = does_not_pass
