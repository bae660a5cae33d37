-- One run of the search, from the letters that are tried to the cleared memory: what each part asks holds, and together they give what document 01's
-- search does.
-- Assumes nothing.
use Prim.Native.Nat.{ℕ, suc, ◌*◌, ◌≤◌}
use mathlib.Core.Path.{◌≡◌, sym, subst}
use mathlib.Core.Bool.{cond}
use mathlib.Core.List.{List, [], ◌∷◌}
use lib.ListN.{length}
use Rattle.claims.specs.Sides.{Decision}
use Rattle.claims.specs.Calls.{searched, finish, cleared}
use Rattle.query.specs.declared.Facts.{Facts}
use Rattle.query.specs.Decided.{Decided}
use Rattle.search_standings.specs.declared.Shape.{Shape}
use Rattle.search_alike.specs.Masks.{masks_of}
use Rattle.search_grow.specs.Masks.{letters_in}
use Rattle.search_grow.specs.Kept.{state, Inside, Ready}
use Rattle.search_course.specs.declared.Finding.{Finding as Found}
use Rattle.search_course.specs.Answers.{Answered}
use Rattle.search_outcomes.specs.Outcomes.{Outcome, Gives}
use Rattle.search_shape.specs.inner.Memory.{lent_rows}
use Rattle.search_shape.specs.inner.Tried.{shape_of, first_masks, first_letters, later_letters}
use Rattle.search_outcomes.specs.inner.Found.{Reportable, found_in, Reports}
use Rattle.search_run.proofs.Levels.{finds}
use Rattle.search_run.proofs.Finished.{room_kept, reportable, run_gives, cleared_by, records_there, words_there}

-- the levels can be searched
pub levels_ready : (f : Facts) (k : Shape) → k ≡ shape_of f → (cap : ℕ) (r : List (List ℕ)) (w : List ℕ) → Ready f.ring cap (state r w 0)
    → f.relations ≤ 16 → Ready k.ring cap (state r w 0) × (k.relations ≤ 16)
levels_ready f k e cap r w ready few = subst (λ s. Ready s.ring cap (state r w 0) × (s.relations ≤ 16)) (sym e) (ready, few)

-- what the levels say of a shape
abbrev pub Found-by : Shape → List ℕ → List ℕ → List ℕ → List ℕ → ℕ → List (List ℕ) → List ℕ → List (List ℕ) → List ℕ → Found → Type 0
Found-by k left right first later cap r₀ w₀ r₁ w₁ x =
    Inside k.ring cap (state r₀ w₀ 0) (state r₁ w₁ 0)
    × Answered k left right (letters_in first k.live k.relations) (letters_in later k.live k.relations) (suc (suc cap)) cap r₁ w₁ x

module _ (f : Facts) (left right first later : List ℕ) (cap : ℕ) (r₀ : List (List ℕ)) (w₀ : List ℕ) (ready : Ready f.ring cap (state r₀ w₀ 0))
    (tried : (first ≡ first_masks f left right) × (later ≡ masks_of (shape_of f) f.left left right)) (k : Shape) (e : k ≡ shape_of f) (x : Found)
    (r₁ : List (List ℕ)) (w₁ : List ℕ) (found : Found-by k left right first later cap r₀ w₀ r₁ w₁ x) where
  by_facts : Found-by (shape_of f) left right first later cap r₀ w₀ r₁ w₁ x
  by_facts = subst (λ s. Found-by s left right first later cap r₀ w₀ r₁ w₁ x) e found

  answered : Answered (shape_of f) left right (first_letters f left right) (later_letters f left right) (suc (suc cap)) cap r₁ w₁ x
  answered = finds f left right first later cap r₁ w₁ x tried.0 tried.1 by_facts.1

  -- it can be reported
  pub run_reportable : Reportable f.ring r₁ w₁ x
  run_reportable = reportable f left right cap r₀ r₁ w₀ w₁ x ready by_facts.0 answered

  -- and the needed memory is there to be cleared
  pub run_records : (n : ℕ) → n ≡ cond f.ring 0 cap → n ≤ length r₁
  run_records n h = records_there f.ring cap r₁ w₁ n (room_kept f.ring cap r₀ r₁ w₀ w₁ ready by_facts.0) h

  pub run_words : (n : ℕ) → n ≡ cond f.ring (40 * cap) 0 → n ≤ length w₁
  run_words n h = words_there f.ring cap r₁ w₁ n (room_kept f.ring cap r₀ r₁ w₀ w₁ ready by_facts.0) h

  -- which is what the search does
  pub run_done : (b₀ b₁ : List ℕ) (o : Outcome) → Reports (found_in f.ring r₁ w₁ x) b₀ o b₁ → (n m : ℕ) → n ≡ cond f.ring 0 cap
      → m ≡ cond f.ring (40 * cap) 0 → (r₂ : List (List ℕ)) (w₂ : List ℕ) → r₂ ≡ cleared (0 ∷ 0 ∷ 0 ∷ 0 ∷ []) n r₁ → w₂ ≡ cleared 0 m w₁
      → (D : Decision) → Decided f left right D → Gives (searched D cap) (finish D cap (lent_rows r₀ w₀ b₀) (searched D cap)) o (lent_rows r₂ w₂ b₁)
  run_done b₀ b₁ o told n m a b r₂ w₂ c d =
      run_gives f left right cap r₀ r₁ w₀ w₁ x ready by_facts.0 answered r₂ w₂ b₀ b₁ o told
      (cleared_by f.ring cap r₁ r₂ w₁ w₂ n m a b c d)
