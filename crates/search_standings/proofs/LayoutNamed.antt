-- The places of a standing's parts are behind the columns, one behind the other: whoever changes the width changes them.
-- Assumes nothing.
use Prim.Native.Nat.{suc}
use mathlib.Core.Path.{◌≡◌, refl}
use Rattle.layout.specs.Layout.{WIDTH}
use Rattle.search_standings.specs.Layout.{FIRST, FLAG, TOLD, PARENT, LETTER}

-- the first atom, Z, the parent and the letter, from the width on
pub places_named : (FIRST ≡ WIDTH) × (FLAG ≡ suc FIRST) × (TOLD ≡ suc FLAG) × (PARENT ≡ TOLD) × (LETTER ≡ suc PARENT)
places_named = (refl, refl, refl, refl, refl)
