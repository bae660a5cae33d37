-- One turn of the loop over the fields: what is known between two fields is what `step` asks, and what it makes of the field is the loop's.
-- Assumes nothing.
use Prim.Native.Nat.{ℕ, ◌<◌}
use mathlib.Core.Path.{◌≡◌, subst}
use mathlib.Core.List.{List}
use Rattle.std.specs.Prelude.{Result as Answer, Ok, Err}
use Rattle.query.specs.declared.Facts.{Facts}
use Rattle.sheet_fields.specs.declared.PartRead.{PartRead}
use Rattle.sheet_fields.specs.declared.Awaited.{Awaited}
use Rattle.sheet_fields.specs.declared.Turn.{Turn}
use Rattle.sheet_fields.specs.declared.Turn.TheVariants.{On, Over}
use Rattle.sheet_fields.specs.inner.Between.{fields_left, Answered, Between, Goes}

module _ (f : Facts) (bs : List ℕ) (first : ℕ) (heads chain : List ℕ) (a : Awaited) (r : Answer Turn ℕ)
    (goes : Goes f bs first heads chain (fields_left a) r) where
  pub turn_on : (next : Awaited) (end : ℕ) → r ≡ Ok (On next end)
      → Between f bs first heads chain next end × (fields_left next < fields_left a)
  turn_on next end e = subst (Goes f bs first heads chain (fields_left a)) e goes

  pub turn_over : (part : PartRead) → r ≡ Ok (Over part) → Answered f bs first heads chain (Ok part)
  turn_over part e = subst (Goes f bs first heads chain (fields_left a)) e goes

  pub turn_wrong : (i : ℕ) → r ≡ Err i → Answered f bs first heads chain (Err i)
  turn_wrong i e = subst (Goes f bs first heads chain (fields_left a)) e goes
