-- The words of each cause of a refusal, and whether its place is a line of the query. (Document 01, "Refusals with an example each", has the
-- causes; the words are ours.)
-- Assumes nothing.
use Rattle.std.specs.Prelude.{ℕ, Bool, true, false, List}
use Rattle.claims.specs.Bytes.{text}
use Rattle.refusals.specs.declared.Reason.{Reason}
use Rattle.refusals.specs.declared.Reason.TheVariants.{TooLong, BadByte, Notation, TooDeep, UnknownName, WrongKind, DeclaredTwice, ReservedName, TooMany, NoClaim, AfterClaim, OverLimit, BadAllowance, ShortMemory, SpentAllowance, ShortBuffer, GraphField, SheetField, DoesNotPass}

-- the words of a cause ("Refusals with an example each")
unfoldable pub cause_text : Reason → List ℕ
cause_text TooLong = text "the query has more than 4,096 bytes"
cause_text BadByte = text "a byte is neither printable ASCII nor the end of a line"
cause_text Notation = text "this is not a line of the notation"
cause_text TooDeep = text "more than 32 round brackets are open at once"
cause_text UnknownName = text "a name is used that no line above declares"
cause_text WrongKind = text "a name is used as something else than it was declared as"
cause_text DeclaredTwice = text "a name is declared a second time"
cause_text ReservedName = text "a word of the notation is declared as a name"
cause_text TooMany = text "one declaration too many: at most 6 tests, 16 relations, 32 lets"
cause_text NoClaim = text "the query has no claim"
cause_text AfterClaim = text "a line stands behind the claim, which has to be the last"
cause_text OverLimit = text "a side of the claim has too many occurrences or leaves"
cause_text BadAllowance = text "the allowance is not from 1 to 4,096"
cause_text ShortMemory = text "the memory is short of the allowance"
cause_text SpentAllowance = text "the allowance is spent before a verdict is found"
cause_text ShortBuffer = text "the sheet buffer is too short for the sheet"
cause_text GraphField = text "this field of the graph is cut, or its tag, length or value is wrong"
cause_text SheetField = text "this field of the sheet is cut, or its tag, length or value is wrong"
cause_text DoesNotPass = text "the sheet is well formed, but it does not pass for this query"

-- the place of a refusal of this cause is a line of the query ("Refusals with an example each")
unfoldable pub of_query : Reason → Bool
of_query TooLong = true
of_query BadByte = true
of_query Notation = true
of_query TooDeep = true
of_query UnknownName = true
of_query WrongKind = true
of_query DeclaredTwice = true
of_query ReservedName = true
of_query TooMany = true
of_query NoClaim = true
of_query AfterClaim = true
of_query OverLimit = true
of_query BadAllowance = false
of_query ShortMemory = false
of_query SpentAllowance = false
of_query ShortBuffer = false
of_query GraphField = false
of_query SheetField = false
of_query DoesNotPass = false
