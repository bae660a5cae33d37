-- A standing by its record, or from the words of a ring claim, is the standing in the memory that has this record at its place; and so are
-- its parent and its letter.
-- Assumes nothing.
use Prim.Native.Nat.{ℕ}
use mathlib.Core.Path.{◌≡◌, ◌∙◌, ap, ap₂}
use mathlib.Core.Bool.{Bool, false}
use mathlib.Core.List.{List, [], ◌∷◌}
use lib.ListN.{take}
use Rattle.search_standings.specs.Systems.{width}
use Rattle.search_records.specs.declared.Record.{Record}
use Rattle.search_records.specs.Rows.{record_at}
use Rattle.search_store.specs.Store.{standing_at, parent_at, letter_at}
use Rattle.search_store.proofs.Standing.{load_path, parent_path, letter_path}

module _ (ring : Bool) (from : Record) (w : List ℕ) (i : ℕ) (e : ring ≡ false) (r : List (List ℕ)) (here : from ≡ record_at r i) where
  pub standing_recorded : (to : List ℕ) → take 2 to ≡ from.p ∷ from.s ∷ [] → take (width ring) to ≡ standing_at ring r w i
  unfolding record_at
  standing_recorded to h =
      load_path ring r w i to e (h ∙ ap₂ (λ a b. a ∷ b ∷ []) (ap (λ (x : Record). x.p) here) (ap (λ (x : Record). x.s) here))

  pub parent_recorded : from.parent ≡ parent_at ring r w i
  unfolding record_at
  parent_recorded = ap (λ (x : Record). x.parent) here ∙ parent_path ring r w i e

  pub letter_recorded : from.letter ≡ letter_at ring r w i
  unfolding record_at
  letter_recorded = ap (λ (x : Record). x.letter) here ∙ letter_path ring r w i e
