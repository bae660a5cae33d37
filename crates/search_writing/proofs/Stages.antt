-- What holds of a sheet that goes on, what the turn requires, and how many turns are left.
-- Assumes nothing.
use Prim.Native.Nat.{ℕ, ◌+◌, ◌*◌, ◌-◌, ◌≤◌, ◌<◌}
use native.Mathlib.Omega.{arith}
use mathlib.Core.Path.{◌≡◌, ap, subst}
use mathlib.Core.Bool.{Bool, true, cond}
use mathlib.Core.List.{List}
use lib.ListN.{length}
use Rattle.search_contents.specs.FieldWords.{field_length}
use Rattle.search_sheet.proofs.Steps.{fields_count}
use Rattle.search_writing.specs.declared.Writing.{Writing}
use Rattle.search_writing.specs.Left.{FieldsLeft, LettersLeft, ProofStage, ProofStands, WordStage, WordStands, proof_turns, word_turns}

module _ (ring : Bool) (r : List (List ℕ)) (w b₀ : List ℕ) (x : Writing) (going : x.going ≡ true) where
  pub fields_stage : (n : ℕ) (b : List ℕ) → ProofStands ring r w b₀ n x b → FieldsLeft ring r w b₀ n x.at x.to b
  fields_stage n b h = subst (λ g. ProofStage ring r w b₀ n g x b) going h

  pub letters_stage : (place last : ℕ) (word b : List ℕ) → WordStands ring r w b₀ place last x word b
      → LettersLeft ring r w b₀ place last x.at x.to word b
  letters_stage place last word b h = subst (λ g. WordStage ring r w b₀ place last g x word b) going h

-- what each turn requires
module _ {ring : Bool} {r : List (List ℕ)} {w b₀ b : List ℕ} where
  pub field_asks : {n i to : ℕ} → FieldsLeft ring r w b₀ n i to b
      → (ring ≡ true → 40 * n ≤ length w) × (i < n) × (to + field_length ring ≤ length b)
  field_asks {n} {i} h = (h.room.turn, h.below, omega (arith, h.free, fields_count ring r w i n h.below))

  pub letter_asks : {place last i to : ℕ} {word : List ℕ} → LettersLeft ring r w b₀ place last i to word b
      → (ring ≡ true → 40 * (i + 1) ≤ length w) × (2 ≤ to) × (to ≤ length word)
  letter_asks h = ((λ e. omega (arith, h.room.turn e, h.below)), omega (arith, h.free), h.inside)

-- the turns that are left
module _ (x : Writing) (going : x.going ≡ true) where
  pub fields_turns : (n : ℕ) → proof_turns n x ≡ n - x.at
  fields_turns n = ap (λ g. cond g (n - x.at) 0) going

  pub letters_turns : word_turns x ≡ x.at + 1
  letters_turns = ap (λ g. cond g (x.at + 1) 0) going
