-- Two reasons with one cause are one reason: each cause has its own.
-- Assumes nothing.
use mathlib.Core.Path.{◌≡◌, refl, sym, ◌∙◌, ap}
use Rattle.claims.specs.Refusals.{Cause, too_long, bad_byte, notation, too_deep, unknown_name, wrong_kind, declared_twice, reserved_name, too_many, no_claim, after_claim, over_limit, bad_allowance, short_memory, spent_allowance, short_buffer, graph_field, sheet_field, does_not_pass}
use Rattle.refusals.specs.Causes.{cause_of}
use Rattle.refusals.specs.declared.Reason.{Reason}
use Rattle.refusals.specs.declared.Reason.TheVariants.{TooLong, BadByte, Notation, TooDeep, UnknownName, WrongKind, DeclaredTwice, ReservedName, TooMany, NoClaim, AfterClaim, OverLimit, BadAllowance, ShortMemory, SpentAllowance, ShortBuffer, GraphField, SheetField, DoesNotPass}

-- the reason of a cause
reason_of : Cause → Reason
reason_of too_long = TooLong
reason_of bad_byte = BadByte
reason_of notation = Notation
reason_of too_deep = TooDeep
reason_of unknown_name = UnknownName
reason_of wrong_kind = WrongKind
reason_of declared_twice = DeclaredTwice
reason_of reserved_name = ReservedName
reason_of too_many = TooMany
reason_of no_claim = NoClaim
reason_of after_claim = AfterClaim
reason_of over_limit = OverLimit
reason_of bad_allowance = BadAllowance
reason_of short_memory = ShortMemory
reason_of spent_allowance = SpentAllowance
reason_of short_buffer = ShortBuffer
reason_of graph_field = GraphField
reason_of sheet_field = SheetField
reason_of does_not_pass = DoesNotPass

reason_back : (c : Reason) → reason_of (cause_of c) ≡ c
unfolding reason_of cause_of
reason_back TooLong = refl
reason_back BadByte = refl
reason_back Notation = refl
reason_back TooDeep = refl
reason_back UnknownName = refl
reason_back WrongKind = refl
reason_back DeclaredTwice = refl
reason_back ReservedName = refl
reason_back TooMany = refl
reason_back NoClaim = refl
reason_back AfterClaim = refl
reason_back OverLimit = refl
reason_back BadAllowance = refl
reason_back ShortMemory = refl
reason_back SpentAllowance = refl
reason_back ShortBuffer = refl
reason_back GraphField = refl
reason_back SheetField = refl
reason_back DoesNotPass = refl

pub one_reason : (c d : Reason) → cause_of c ≡ cause_of d → c ≡ d
one_reason c d e = sym (reason_back c) ∙ ap reason_of e ∙ reason_back d
