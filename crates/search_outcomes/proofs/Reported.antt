-- What is reported: 11 where the buffer is shorter than the sheet, and else the answer with the sheet written; a spent allowance has no sheet.
-- Assumes nothing.
use Rattle.std.specs.Prelude.{Ok}
use Prim.Native.Nat.{ℕ, ◌≤◌, ◌<◌}
use native.Mathlib.Omega.{arith}
use mathlib.Core.Path.{◌≡◌, refl, sym, ◌∙◌, ap, subst, subst⁻¹}
use mathlib.Core.Bool.{Bool, true, false}
use mathlib.Core.List.{List, ◌++◌}
use lib.ListN.{length, drop}
use borrow.Author.Tests.{le-leb, lt-leb}
use Rattle.kat.specs.Word.{end}
use Rattle.claims.specs.Verdicts.{relations_in}
use Rattle.claims.specs.Refusals.{short_buffer, ok, refuse}
use Rattle.claims.specs.Calls.{Given}
use Rattle.claims.proofs.Prefixes.{size_onto}
use Rattle.refusals.specs.Causes.{cause_of}
use Rattle.refusals.specs.declared.Reason.TheVariants.{ShortBuffer, SpentAllowance}
use Rattle.search_contents.specs.Written.{written}
use Rattle.search_sheet.specs.SheetWords.{prefix_in, proved_sheet, refuted_sheet}
use Rattle.search_writing.specs.declared.Writing.{Writing}
use Rattle.search_writing.specs.Left.{Ended, ProofStage, ProofStands, WordStage, WordStands}
use Rattle.search_course.specs.declared.Finding.{Finding as Found}
use Rattle.search_course.specs.declared.Finding.TheVariants.{Proved as FoundProof, Refuted as FoundWord, Spent}
use Rattle.search_outcomes.specs.declared.Verdict.TheVariants.{Proved, Refuted}
use Rattle.search_outcomes.specs.Outcomes.{Outcome, refused_at, Says, Sized}
use Rattle.search_outcomes.specs.inner.Found.{proved_in, refuted_in, found_in, told, put, Reports}
use Rattle.search_outcomes.specs.inner.Stands.{Stands}

-- 11: nothing is written
short : (g : Given) (b : List ℕ) → length b < length g.sheet → Reports (ok g) b (refused_at ShortBuffer 0) b
unfolding told put cause_of
short g b h =
    subst⁻¹
    (λ x. Says (elim x [ false ↦ refuse short_buffer 0 | true ↦ ok g.answer ]) (refused_at ShortBuffer 0)
    × (b ≡ elim x [ false ↦ b | true ↦ g.sheet ++ drop (length g.sheet) b ]) × Unit {0})
    (lt-leb (length g.sheet) (length b) h) ((refl, refl), refl, tt)

-- the answer, with its sheet at the start of the buffer
full : (g : Given) (b : List ℕ) (o : Outcome) → length g.sheet ≤ length b → Says (ok g.answer) o → Sized o (ok g)
    → Reports (ok g) b o (written g.sheet b)
unfolding told put written
full g b o h s z =
    subst⁻¹
    (λ x. Says (elim x [ false ↦ refuse short_buffer 0 | true ↦ ok g.answer ]) o
    × (g.sheet ++ drop (length g.sheet) b ≡ elim x [ false ↦ b | true ↦ g.sheet ++ drop (length g.sheet) b ]) × Sized o (ok g))
    (le-leb (length g.sheet) (length b) h) (s, refl, z)

-- at the end, by what was found
module _ (ring : Bool) (r : List (List ℕ)) (w b₀ word b : List ℕ) (x : Writing) (ended : x.going ≡ false) where
  proof_ended : (n : ℕ) (s : Bool) → x.short ≡ s → ProofStands ring r w b₀ n x b → Ended (proved_sheet ring r w n) b₀ s x.to b
  proof_ended n s e h =
      subst (λ q. Ended (proved_sheet ring r w n) b₀ q x.to b) e (subst (λ g. ProofStage ring r w b₀ n g x b) ended h)

  word_ended : (place a : ℕ) (s : Bool) → x.short ≡ s → WordStands ring r w b₀ place a x word b
      → (x.count ≡ relations_in (prefix_in ring r w place)) × Ended (refuted_sheet ring r w place a) b₀ s x.to b
  word_ended place a s e h =
      subst (λ q. (x.count ≡ relations_in (prefix_in ring r w place)) × Ended (refuted_sheet ring r w place a) b₀ q x.to b) e
      (subst (λ g. WordStage ring r w b₀ place a g x word b) ended h)

  pub tell_short : x.short ≡ true → (y : Found) → Stands ring r w b₀ y x word b → Reports (found_in ring r w y) b₀ (refused_at ShortBuffer 0) b
  unfolding found_in proved_in refuted_in
  tell_short s (FoundProof n) h =
      let (l, e) = proof_ended n true s h in
      subst⁻¹ (Reports (proved_in ring r w n) b₀ (refused_at ShortBuffer 0)) e (short _ b₀ l)
  tell_short s (FoundWord place a) h =
      let (c, (l, e)) = word_ended place a true s h in
      subst⁻¹ (Reports (refuted_in ring r w place a) b₀ (refused_at ShortBuffer 0)) e (short _ b₀ l)
  tell_short s Spent (e, f) =
      let z : true ≡ false = sym s ∙ ap (λ (v : Writing). v.short) e in
      let o : ◌≡◌ {A = ℕ} 0 1 = cc in
      absurd (omega arith)

  pub tell_proved : x.short ≡ false → (y : Found) (n : ℕ) → y ≡ FoundProof n → Stands ring r w b₀ y x word b
      → Reports (found_in ring r w y) b₀ (Ok (Proved n x.to)) b
  unfolding found_in proved_in
  tell_proved s y n e h =
      let (l, f, z) = proof_ended n false s (subst (λ q. Stands ring r w b₀ q x word b) e h) in
      subst⁻¹ (λ q. Reports (found_in ring r w q) b₀ (Ok (Proved n x.to)) b) e
      (subst⁻¹ (Reports (proved_in ring r w n) b₀ (Ok (Proved n x.to))) f (full _ b₀ (Ok (Proved n x.to)) l refl z))

  pub tell_refuted : x.short ≡ false → (y : Found) (place a : ℕ) → y ≡ FoundWord place a → Stands ring r w b₀ y x word b
      → Reports (found_in ring r w y) b₀ (Ok (Refuted x.count x.to)) b
  unfolding found_in refuted_in
  tell_refuted s y place a e h =
      let (c, (l, f, z)) = word_ended place a false s (subst (λ q. Stands ring r w b₀ q x word b) e h) in
      subst⁻¹ (λ q. Reports (found_in ring r w q) b₀ (Ok (Refuted x.count x.to)) b) e
      (subst⁻¹ (Reports (refuted_in ring r w place a) b₀ (Ok (Refuted x.count x.to))) f
      (full _ b₀ (Ok (Refuted x.count x.to)) l (c ∙ omega (arith, size_onto (prefix_in ring r w place) (end a))) z))

  pub tell_spent : (y : Found) → y ≡ Spent → Stands ring r w b₀ y x word b → Reports (found_in ring r w y) b₀ (refused_at SpentAllowance 0) b
  unfolding found_in told put cause_of
  tell_spent y e h =
      let (f, g) = subst (λ q. Stands ring r w b₀ q x word b) e h in
      subst⁻¹ (λ q. Reports (found_in ring r w q) b₀ (refused_at SpentAllowance 0) b) e ((refl, refl), g, tt)
