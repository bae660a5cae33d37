-- The first of two slips, and that each cause is a slip.
-- Assumes nothing.
use Prim.Native.Nat.{ℕ}
use native.Mathlib.Omega.{arith}
use mathlib.Core.Path.{◌≡◌, refl, ap}
use mathlib.Core.List.{[], ◌∷◌}
use denote.Enum.Declared.{tag_of}
use types.Run.{OneOf, miss}
use Rattle.claims.specs.Refusals.{Cause, too_long, bad_byte, notation, too_deep, unknown_name, wrong_kind, declared_twice, reserved_name, too_many, no_claim, after_claim, over_limit, bad_allowance, short_memory, spent_allowance, short_buffer, graph_field, sheet_field, does_not_pass}
use Rattle.read_names.specs.Slips.{cause_slip, first_of}
use Rattle.read_names.specs.declared.Slip.{Slip}
use Rattle.read_names.specs.declared.Slip.TheVariants.{Clean, Unknown, OtherKind, Twice, Reserved}
use Rattle.read_names.specs.contracts.Slip.{the_type}

-- how many slips these are
abbrev slip_count : Slip → ℕ
slip_count Clean = 0
slip_count Unknown = 1
slip_count OtherKind = 1
slip_count Twice = 1
slip_count Reserved = 1

-- a cause is a slip
cause_counts : (c : Cause) → slip_count (cause_slip c) ≡ 1
cause_counts too_long = refl
cause_counts bad_byte = refl
cause_counts notation = refl
cause_counts too_deep = refl
cause_counts unknown_name = refl
cause_counts wrong_kind = refl
cause_counts declared_twice = refl
cause_counts reserved_name = refl
cause_counts too_many = refl
cause_counts no_claim = refl
cause_counts after_claim = refl
cause_counts over_limit = refl
cause_counts bad_allowance = refl
cause_counts short_memory = refl
cause_counts spent_allowance = refl
cause_counts short_buffer = refl
cause_counts graph_field = refl
cause_counts sheet_field = refl
cause_counts does_not_pass = refl

pub cause_slips : (c : Cause) → cause_slip c ≡ Clean → ⊥
cause_slips c e = omega (arith, cause_counts c, ap slip_count e)

pub unknown_slips : Unknown ≡ Clean → ⊥
unknown_slips e = omega (arith, ap slip_count e)

pub kind_slips : OtherKind ≡ Clean → ⊥
kind_slips e = omega (arith, ap slip_count e)

-- the first of two slips
pub first_none : (a : Slip) → a ≡ first_of a Clean
first_none Clean = refl
first_none Unknown = refl
first_none OtherKind = refl
first_none Twice = refl
first_none Reserved = refl

pub first_assoc : (a b c : Slip) → first_of (first_of a b) c ≡ first_of a (first_of b c)
first_assoc Clean b c = refl
first_assoc Unknown b c = refl
first_assoc OtherKind b c = refl
first_assoc Twice b c = refl
first_assoc Reserved b c = refl

pub first_kept : (a b : Slip) → (a ≡ Clean → ⊥) → a ≡ first_of a b
first_kept Clean b h = absurd (h refl)
first_kept Unknown b h = refl
first_kept OtherKind b h = refl
first_kept Twice b h = refl
first_kept Reserved b h = refl

pub first_cause : (c : Cause) (b : Slip) → cause_slip c ≡ first_of (cause_slip c) b
first_cause c b = first_kept (cause_slip c) b (cause_slips c)

-- by the number of the variant
pub first_other : (a b : Slip) → OneOf (1 ∷ 2 ∷ 3 ∷ 4 ∷ []) (tag_of the_type a) → a ≡ first_of a b
first_other Clean b k = absurd (miss (1 ∷ 2 ∷ 3 ∷ 4 ∷ []) 0 tt k)
first_other Unknown b k = refl
first_other OtherKind b k = refl
first_other Twice b k = refl
first_other Reserved b k = refl
