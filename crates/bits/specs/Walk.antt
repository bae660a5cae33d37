-- What a walk of a set has still to give. (Document 01, "The form for each place".)
-- Assumes nothing.
use Rattle.std.specs.Prelude.{ℕ, List}
use Rattle.bits.specs.Sets.{members}
use Rattle.bits.specs.declared.Elements.{Elements}

-- the members that are left, rising
abbrev pub members_left : Elements → List ℕ
members_left m = members m.left
