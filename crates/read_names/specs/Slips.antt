-- The slip of a name, and the first of several. (Document 01, "Refusals with an example each", number 5.) A slip is remembered while a line
-- is read, since a fault of the notation further on in the line comes first.
-- Assumes nothing.
use Rattle.std.specs.Prelude.{ℕ, ◌-◌, cond, List, eqb, ltb}
use Rattle.std.proofs.Math.Option.{Option, some, none}
use Rattle.claims.specs.Refusals.{Cause, too_long, bad_byte, notation, too_deep, unknown_name, wrong_kind, declared_twice, reserved_name, too_many, no_claim, after_claim, over_limit, bad_allowance, short_memory, spent_allowance, short_buffer, graph_field, sheet_field, does_not_pass}
use Rattle.codes.specs.Codes.{A-RELATION, A-LET}
use Rattle.read_tokens.specs.declared.Key.{Key}
use Rattle.read_names.specs.declared.Slip.{Slip}
use Rattle.read_names.specs.declared.Slip.TheVariants.{Clean, Unknown, OtherKind, Twice, Reserved}
use Rattle.read_names.specs.Keys.{reserved_key, find_in}

-- the slip of a name that is declared, by its key
unfoldable pub declared_slip : ℕ → List ℕ → Key → Slip
declared_slip n names k = cond (reserved_key k) Reserved (cond (eqb (find_in n names k) 0) Clean Twice)

-- the number of a relation, by its code
unfoldable pub relation_number : ℕ → ℕ
relation_number c = cond (ltb c A-RELATION) 0 (cond (ltb c A-LET) (c - A-RELATION) 0)

-- the slip of a name by its cause; no name has a cause but the first four
abbrev pub cause_slip : Cause → Slip
cause_slip unknown_name = Unknown
cause_slip wrong_kind = OtherKind
cause_slip declared_twice = Twice
cause_slip reserved_name = Reserved
cause_slip too_long = Reserved
cause_slip bad_byte = Reserved
cause_slip notation = Reserved
cause_slip too_deep = Reserved
cause_slip too_many = Reserved
cause_slip no_claim = Reserved
cause_slip after_claim = Reserved
cause_slip over_limit = Reserved
cause_slip bad_allowance = Reserved
cause_slip short_memory = Reserved
cause_slip spent_allowance = Reserved
cause_slip short_buffer = Reserved
cause_slip graph_field = Reserved
cause_slip sheet_field = Reserved
cause_slip does_not_pass = Reserved

-- the same of a name that may have none
abbrev pub slip_by : Option Cause → Slip
slip_by none = Clean
slip_by (some c) = cause_slip c

-- the first of two slips
abbrev pub first_of : Slip → Slip → Slip
first_of Clean b = b
first_of Unknown b = Unknown
first_of OtherKind b = OtherKind
first_of Twice b = Twice
first_of Reserved b = Reserved

-- the slip of a name with the code c where one with a code from `low` to below `high` is wanted
unfoldable pub slip_of_code : ℕ → ℕ → ℕ → Slip
slip_of_code low high c = cond (eqb c 0) Unknown (cond (ltb c low) OtherKind (cond (ltb c high) Clean OtherKind))
