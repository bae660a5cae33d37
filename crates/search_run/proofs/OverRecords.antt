-- The run of the search and its ways out over lent records: what each call asks holds, and together they give what document 01's search does with the
-- lent memory.
-- Assumes nothing.
use Prim.Native.Nat.{ℕ, ◌*◌, ◌≤◌}
use mathlib.Core.Path.{◌≡◌, refl, sym, ◌∙◌, ap, subst, subst₂}
use mathlib.Core.Bool.{Bool, true, false, not, cond}
use mathlib.Core.List.{List, [], ◌∷◌, map}
use lib.ListN.{length}
use Rattle.claims.specs.Sides.{Decision}
use Rattle.claims.specs.Calls.{Asked, Slot, Lent, search_asked, searched, finish, cleared}
use Rattle.refusals.specs.declared.Reason.TheVariants.{ShortMemory}
use Rattle.query.specs.declared.Facts.{Facts}
use Rattle.query.specs.Decided.{Decided}
use Rattle.search_standings.specs.declared.Shape.{Shape}
use Rattle.search_alike.specs.Masks.{masks_of}
use Rattle.search_grow.specs.Kept.{state, Ready}
use Rattle.search_records.specs.declared.Record.{Record}
use Rattle.search_records.specs.Records.{blank}
use Rattle.search_records.specs.Rows.{rows}
use Rattle.search_records.proofs.Rows.{rows_length, rows_cleared}
use Rattle.search_course.specs.declared.Finding.{Finding as Found}
use Rattle.search_outcomes.specs.Outcomes.{Outcome, refused_at, slot_of, lent_of, Gives}
use Rattle.search_shape.specs.inner.Memory.{row_slot, lent_rows, room_for}
use Rattle.search_shape.specs.inner.Tried.{shape_of, first_masks}
use Rattle.search_outcomes.specs.inner.Found.{found_in, Reports}
use Rattle.search_run.proofs.OneRun.{Found-by, run_records, run_done}
use Rattle.search_run.proofs.Ways.{short_gives, enough_ready, searched_gives}

-- lent records are document 01's, and so are their rows
slots_same : (rs : List Record) → map row_slot (rows rs) ≡ map slot_of rs
unfolding row_slot slot_of
slots_same [] = refl
slots_same (r ∷ rs) = ap (λ (l : List Slot). record { P = r.p; S = r.s; parent = r.parent; letter = r.letter } ∷ l) (slots_same rs)

lent_same : (rs : List Record) (w b : List ℕ) → lent_rows (rows rs) w b ≡ lent_of rs w b
unfolding lent_rows lent_of
lent_same rs w b = ap (λ (l : List Slot). record { records = l; words = w; buffer = b }) (slots_same rs)

-- one run
module _ (f : Facts) (left right first later : List ℕ) (cap : ℕ) (rs₀ : List Record) (w₀ : List ℕ)
    (ready : Ready f.ring cap (state (rows rs₀) w₀ 0))
    (tried : (first ≡ first_masks f left right) × (later ≡ masks_of (shape_of f) f.left left right)) (k : Shape) (e : k ≡ shape_of f) (x : Found)
    (rs₁ : List Record) (w₁ : List ℕ) (found : Found-by k left right first later cap (rows rs₀) w₀ (rows rs₁) w₁ x) where
  pub clear_asks : (n : ℕ) → n ≡ cond f.ring 0 cap → n ≤ length rs₁
  clear_asks n h =
      subst (λ m. n ≤ m) (rows_length rs₁)
      (run_records f left right first later cap (rows rs₀) w₀ ready tried k e x (rows rs₁) w₁ found n h)

  pub ran : (b₀ b₁ : List ℕ) (o : Outcome) → Reports (found_in f.ring (rows rs₁) w₁ x) b₀ o b₁ → (n m : ℕ) → n ≡ cond f.ring 0 cap
      → m ≡ cond f.ring (40 * cap) 0 → (rs₂ : List Record) (w₂ : List ℕ) → rs₂ ≡ cleared blank n rs₁ → w₂ ≡ cleared 0 m w₁
      → (D : Decision) → Decided f left right D → Gives (searched D cap) (finish D cap (lent_of rs₀ w₀ b₀) (searched D cap)) o (lent_of rs₂ w₂ b₁)
  ran b₀ b₁ o told n m a b rs₂ w₂ c d D decided =
      subst₂ (λ s t. Gives (searched D cap) (finish D cap s (searched D cap)) o t) (lent_same rs₀ w₀ b₀) (lent_same rs₂ w₂ b₁)
      (run_done f left right first later cap (rows rs₀) w₀ ready tried k e x (rows rs₁) w₁ found b₀ b₁ o told n m a b (rows rs₂) w₂
      (ap rows c ∙ rows_cleared rs₁ n (clear_asks n a)) d D decided)

-- the ways out
module _ (f : Facts) (left right : List ℕ) (cap : ℕ) (rs : List Record) (w b : List ℕ) (some : cap ≡ 0 → ⊥) (few : cap ≤ 4096) (slots : ℕ)
    (counted : slots ≡ length rs) (room : Bool) (tested : (r : List (List ℕ)) → slots ≡ length r → room ≡ room_for f.ring cap r w) where
  in_rows : room ≡ room_for f.ring cap (rows rs) w
  in_rows = tested (rows rs) (counted ∙ sym (rows_length rs))

  pub short_way : not room ≡ true → (a : Asked) → Decided f left right a.decided
      → Gives (searched a.decided cap) (search_asked a cap (lent_of rs w b)) (refused_at ShortMemory 0) (lent_of rs w b)
  short_way t a d =
      subst (λ m. Gives (searched a.decided cap) (search_asked a cap m) (refused_at ShortMemory 0) m) (lent_same rs w b)
      (short_gives f left right cap (rows rs) w b some few room in_rows t a d)

  pub run_asks : not room ≡ false → Ready f.ring cap (state (rows rs) w 0)
  run_asks t = enough_ready f.ring cap (rows rs) w few room in_rows t

  pub searched_way : not room ≡ false → (o : Outcome) (m : Lent)
      → ((D : Decision) → Decided f left right D → Gives (searched D cap) (finish D cap (lent_of rs w b) (searched D cap)) o m)
      → (a : Asked) → Decided f left right a.decided → Gives (searched a.decided cap) (search_asked a cap (lent_of rs w b)) o m
  searched_way t o m h a d =
      subst (λ s. Gives (searched a.decided cap) (search_asked a cap s) o m) (lent_same rs w b)
      (searched_gives f left right cap (rows rs) w b some few room in_rows t o m
      (λ D e. subst (λ s. Gives (searched D cap) (finish D cap s (searched D cap)) o m) (sym (lent_same rs w b)) (h D e)) a d)
