-- What holds while a sheet is written, by what was found.
-- Assumes nothing.
use Prim.Native.Nat.{ℕ, ◌≤◌, ◌<◌}
use native.Mathlib.Omega.{arith}
use mathlib.Core.Path.{◌≡◌, refl, sym, ◌∙◌, ap, subst, subst⁻¹}
use mathlib.Core.Bool.{Bool, true, false}
use mathlib.Core.List.{List}
use Rattle.search_store.specs.Store.{Room}
use Rattle.search_sheet.specs.SheetWords.{Falling}
use Rattle.search_writing.specs.declared.Writing.{Writing}
use Rattle.search_writing.specs.Left.{at_end, ProofStands, WordStands, proof_turns, word_turns}
use Rattle.search_course.specs.declared.Finding.{Finding as Found}
use Rattle.search_course.specs.declared.Finding.TheVariants.{Proved, Refuted, Spent}
use Rattle.search_outcomes.specs.inner.Found.{Reportable}
use Rattle.search_outcomes.specs.inner.Stands.{Stands, turns}

module _ (ring : Bool) (r : List (List ℕ)) (w : List ℕ) (y : Found) where
  -- what the memory has
  pub proved_reportable : (n : ℕ) → y ≡ Proved n → Reportable ring r w y → Room ring r w n × (n ≤ 4096)
  proved_reportable n e h = subst (Reportable ring r w) e h

  pub refuted_reportable : (place a : ℕ) → y ≡ Refuted place a → Reportable ring r w y
      → Room ring r w place × Falling ring r w place × (place ≤ 4096)
  refuted_reportable place a e h = subst (Reportable ring r w) e h

  module _ (b₀ : List ℕ) (x : Writing) (word b : List ℕ) where
    -- at the beginning
    pub proved_begun : (n : ℕ) → y ≡ Proved n → ProofStands ring r w b₀ n x b → Stands ring r w b₀ y x word b
    proved_begun n e h = subst⁻¹ (λ q. Stands ring r w b₀ q x word b) e h

    pub refuted_begun : (place a : ℕ) → y ≡ Refuted place a → WordStands ring r w b₀ place a x word b → Stands ring r w b₀ y x word b
    refuted_begun place a e h = subst⁻¹ (λ q. Stands ring r w b₀ q x word b) e h

    -- in a turn
    pub proved_stands : (n : ℕ) → y ≡ Proved n → Stands ring r w b₀ y x word b → ProofStands ring r w b₀ n x b
    proved_stands n e h = subst (λ q. Stands ring r w b₀ q x word b) e h

    pub refuted_stands : (place a : ℕ) → y ≡ Refuted place a → Stands ring r w b₀ y x word b → WordStands ring r w b₀ place a x word b
    refuted_stands place a e h = subst (λ q. Stands ring r w b₀ q x word b) e h

    pub spent_stands : y ≡ Spent → x.going ≡ true → Stands ring r w b₀ y x word b → ⊥
    spent_stands e g h =
        let (f, i) = subst (λ q. Stands ring r w b₀ q x word b) e h in
        let z : true ≡ false = sym g ∙ ap (λ (v : Writing). v.going) f in
        let o : ◌≡◌ {A = ℕ} 0 1 = cc in
        omega arith

    -- after a turn that began at x'
    pub proved_next : (n : ℕ) → y ≡ Proved n → (x' : Writing) → ProofStands ring r w b₀ n x b × (proof_turns n x < proof_turns n x')
        → Stands ring r w b₀ y x word b × (turns y x < turns y x')
    proved_next n e x' h = subst⁻¹ (λ q. Stands ring r w b₀ q x word b × (turns q x < turns q x')) e h

    pub refuted_next : (place a : ℕ) → y ≡ Refuted place a → (x' : Writing)
        → WordStands ring r w b₀ place a x word b × (word_turns x < word_turns x') → Stands ring r w b₀ y x word b × (turns y x < turns y x')
    refuted_next place a e x' h = subst⁻¹ (λ q. Stands ring r w b₀ q x word b × (turns q x < turns q x')) e h

  pub spent_begun : (x : Writing) (word b : List ℕ) → y ≡ Spent → x ≡ at_end false 0 0 → Stands ring r w b y x word b
  spent_begun x word b e f = subst⁻¹ (λ q. Stands ring r w b q x word b) e (f, refl)
