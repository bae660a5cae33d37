-- Lent records as rows: a record at a place, one that is put, what a lookup has found, and the first of them zero.
-- Assumes nothing.
use Prim.Native.Nat.{ℕ, zero, suc, ◌≤◌}
use native.Mathlib.Omega.{arith}
use mathlib.Core.Path.{◌≡◌, refl, sym, ◌∙◌, ap}
use mathlib.Core.Bool.{Bool, true, false, cond}
use mathlib.Core.List.{List, [], ◌∷◌, map}
use lib.ListN.{length, get_or, set, length-map}
use Rattle.std.specs.Prelude.{Option, Some, None}
use Rattle.claims.specs.Calls.{cleared}
use Rattle.search_records.specs.declared.Record.{Record}
use Rattle.search_records.specs.Records.{blank, Found}
use Rattle.search_records.specs.Rows.{row_of, rows, record_at, FoundIn}
use Rattle.search_records.proofs.Cleared.{map_cleared}

pub rows_length : (rs : List Record) → length (rows rs) ≡ length rs
rows_length rs = length-map rs row_of

-- the record at a place
pub rows_at : (rs : List Record) (i : ℕ) → get_or rs i blank ≡ record_at (rows rs) i
unfolding record_at
rows_at [] i = refl
rows_at (r ∷ rs) zero = refl
rows_at (r ∷ rs) (suc i) = rows_at rs i

-- one that is put
rows_set : (rs : List Record) (i : ℕ) (r : Record) → rows (set rs i r) ≡ set (rows rs) i (row_of r)
rows_set [] i r = refl
rows_set (x ∷ rs) zero r = refl
rows_set (x ∷ rs) (suc i) r = ap (λ l. row_of x ∷ l) (rows_set rs i r)

pub rows_kept : (rs : List Record) (put : Bool) (i : ℕ) (r : Record)
    → rows (cond put (set rs i r) rs) ≡ cond put (set (rows rs) i (row_of r)) (rows rs)
rows_kept rs true i r = rows_set rs i r
rows_kept rs false i r = refl

-- what a lookup has found
pub rows_found : (rs : List Record) (n p s : ℕ) (x : Option ℕ) → Found rs n p s x → FoundIn (rows rs) n p s x
rows_found rs n p s (Some i) f =
    (f.0, ap (λ (r : Record). r.p) (sym (rows_at rs i)) ∙ f.1.0, ap (λ (r : Record). r.s) (sym (rows_at rs i)) ∙ f.1.1)
rows_found rs n p s None f =
    λ i l a b. f i l (ap (λ (r : Record). r.p) (rows_at rs i) ∙ a, ap (λ (r : Record). r.s) (rows_at rs i) ∙ b)

-- the first of them zero
pub rows_cleared : (rs : List Record) (n : ℕ) → n ≤ length rs → rows (cleared blank n rs) ≡ cleared (0 ∷ 0 ∷ 0 ∷ 0 ∷ []) n (rows rs)
rows_cleared rs n h = map_cleared row_of blank n rs h
