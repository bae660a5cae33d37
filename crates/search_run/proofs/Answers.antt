-- The answer of the search on a decision within the limits, by the verdict on words; and by what the levels find and leave in memory.
-- Assumes nothing.
use Prim.Native.Nat.{ℕ, ◌≤◌}
use native.Mathlib.Omega.{arith}
use mathlib.Core.Path.{◌≡◌, refl, sym, ◌∙◌, ap, ap₂, subst⁻¹}
use mathlib.Core.Bool.{Bool, true, false}
use mathlib.Core.List.{List}
use lib.ListN.{length-map}
use Rattle.kat.specs.Word.{Word, numbers}
use Rattle.kat.specs.Tables.{occurrences}
use Rattle.kat.proofs.Sets.{member_in}
use Rattle.claims.specs.Words.{Guarded}
use Rattle.claims.specs.Sides.{Decision}
use Rattle.claims.specs.Standings.{System, path_system, ring_system}
use Rattle.claims.specs.Search.{Verdict, proved, refuted, spent, verdict}
use Rattle.claims.specs.SheetBytes.{sheet_bytes, path_bytes, ring_bytes}
use Rattle.claims.specs.SheetWriting.{RisingWithin, AllBytes}
use Rattle.claims.specs.Refusals.{ok}
use Rattle.claims.specs.Calls.{proved_with, refuted_by, answer_of, searched}
use Rattle.claims.proofs.Lawful.{path_lawful, ring_lawful}
use Rattle.claims.proofs.WordBytes.{guarded_in_range}
use Rattle.claims.proofs.SheetOfBytes.{numbers_bytes}
use Rattle.claims.proofs.Verdict.{refuted_is_least}
use Rattle.side_tables.specs.SideTable.{side_table}
use Rattle.query.specs.declared.Facts.{Facts}
use Rattle.query.specs.Answer.{facts_of}
use Rattle.search_standings.specs.Systems.{word_system}
use Rattle.search_standings.specs.Over.{shown}
use Rattle.search_standings.proofs.PathShown.{path_of}
use Rattle.search_standings.proofs.RingShown.{ring_shown}
use Rattle.search_contents.specs.FieldWords.{contents_words}
use Rattle.search_sheet.proofs.SheetShown.{path_sheet, ring_sheet}
use Rattle.query.specs.Decided.{Decided}
use Rattle.search_shape.specs.inner.Tried.{shape_of, words_verdict}
use Rattle.search_run.proofs.ByWords.{within_below, within_wider, within_rising, path_by_words, path_words_good, ring_by_words, ring_words_good}

-- where the sheets are the same, the answers are
module _ (S W : System) (show : W.Standing → S.Standing) (contents : S.Standing → List ℕ) (of_words : W.Standing → List ℕ) where
  answer_shown : (v : Verdict W) → sheet_bytes W of_words v ≡ sheet_bytes S contents (shown show v)
      → answer_of S contents (shown show v) ≡ answer_of W of_words v
  unfolding answer_of
  answer_shown (proved ss) e =
      ap₂ (λ n bs. ok (record { answer = proved_with n; sheet = bs })) (length-map ss show) (sym e)
  answer_shown (refuted w) e = ap (λ bs. ok (record { answer = refuted_by w; sheet = bs })) (sym e)
  answer_shown spent e = refl

-- the numbers of a guarded word of a decision within the limits are bytes
guarded_bytes : (S : System) (D : Decision) → D.atoms ≤ 64 → D.relations ≤ 16 → RisingWithin 0 D.atoms S.live → S.relations ≤ D.relations
    → (w : Word) → Guarded S.live S.relations w → AllBytes (numbers w)
guarded_bytes S D few_atoms few_relations_lem rising r w g =
    numbers_bytes D w (omega arith) (omega arith)
    (guarded_in_range S D (λ a h. within_below 0 D.atoms S.live rising a (member_in a S.live h)) r w g)

-- what the verdict on words says of a decision
pub record OnWords (f : Facts) (left right : List ℕ) (D : Decision) (allowance : ℕ) : Type 0 where
  pub answer : searched D allowance ≡ answer_of (word_system (shape_of f) left right) (contents_words f.ring) (words_verdict f left right allowance)
  pub word_bytes : (w : Word) → words_verdict f left right allowance ≡ refuted w → AllBytes (numbers w)

module _ (n : ℕ) (D : Decision) (few_left : occurrences D.left ≤ 64) (few_right : occurrences D.right ≤ 64)
    (few_right_of_rings : D.ring ≡ true → occurrences D.right ≤ 31) (few_relations_lem : D.relations ≤ 16)
    (few_atoms : D.atoms ≤ 64) (rises : RisingWithin 0 D.atoms D.live) (allowance : ℕ) where
  within : RisingWithin 0 64 D.live
  within = within_wider 0 D.atoms 64 D.live few_atoms rises

  abbrev f : Facts
  f = facts_of n D

  abbrev left : List ℕ
  left = side_table D.left

  abbrev right : List ℕ
  right = side_table D.right

  abbrev v : Verdict (word_system (shape_of f) left right)
  v = words_verdict f left right allowance

  searched_path : D.ring ≡ false → searched D allowance ≡ answer_of (path_system D) path_bytes (verdict (path_system D) allowance)
  unfolding searched
  searched_path e =
      ap (λ b. elim b [
        | false ↦ answer_of (path_system D) path_bytes (verdict (path_system D) allowance)
        | true ↦ answer_of (ring_system D) ring_bytes (verdict (ring_system D) allowance)
      ]) e

  searched_ring : D.ring ≡ true → searched D allowance ≡ answer_of (ring_system D) ring_bytes (verdict (ring_system D) allowance)
  unfolding searched
  searched_ring e =
      ap (λ b. elim b [
        | false ↦ answer_of (path_system D) path_bytes (verdict (path_system D) allowance)
        | true ↦ answer_of (ring_system D) ring_bytes (verdict (ring_system D) allowance)
      ]) e

  path_on_words : D.ring ≡ false → OnWords f left right D allowance
  unfolding facts_of
  path_on_words e =
      let shows = path_by_words n D few_left few_right few_right_of_rings few_relations_lem within e allowance in
      record {
        answer = searched_path e ∙ ap (answer_of (path_system D) path_bytes) shows
            ∙ answer_shown (path_system D) (word_system (shape_of f) left right) (path_of D) path_bytes (contents_words false) v
            (path_sheet (shape_of f) left right D v (path_words_good n D few_left few_right few_right_of_rings few_relations_lem within e allowance))
            ∙ ap (λ b. answer_of (word_system (shape_of f) left right) (contents_words b) v) (sym e);
        word_bytes = λ w h. guarded_bytes (path_system D) D few_atoms few_relations_lem rises (omega arith) w
            (refuted_is_least (path_system D) (path_lawful D (within_rising 0 64 D.live within)) allowance w (shows ∙ ap (shown (path_of D)) h)).0;
      }

  ring_on_words : D.ring ≡ true → OnWords f left right D allowance
  unfolding facts_of
  ring_on_words e =
      let shows = ring_by_words n D few_left few_right few_right_of_rings few_relations_lem within e allowance in
      record {
        answer = searched_ring e ∙ ap (answer_of (ring_system D) ring_bytes) shows
            ∙ answer_shown (ring_system D) (word_system (shape_of f) left right) (ring_shown (occurrences D.left) (occurrences D.right)) ring_bytes
            (contents_words true) v
            (ring_sheet (shape_of f) left right D (few_right_of_rings e) v
            (ring_words_good n D few_left few_right few_right_of_rings few_relations_lem within e allowance))
            ∙ ap (λ b. answer_of (word_system (shape_of f) left right) (contents_words b) v) (sym e);
        word_bytes = λ w h. guarded_bytes (ring_system D) D few_atoms few_relations_lem rises (omega arith) w
            (refuted_is_least (ring_system D) (ring_lawful D (within_rising 0 64 D.live within)) allowance w
            (shows ∙ ap (shown (ring_shown (occurrences D.left) (occurrences D.right))) h)).0;
      }

  facts_on_words : OnWords f left right D allowance
  facts_on_words = go D.ring refl
    where
      go : (b : Bool) → D.ring ≡ b → OnWords f left right D allowance
      go false e = path_on_words e
      go true e = ring_on_words e

-- for facts and tables that are those of the decision
pub decided_on_words : {f : Facts} {left right : List ℕ} {D : Decision} → Decided f left right D → (allowance : ℕ) → OnWords f left right D allowance
decided_on_words {f} {left} {right} {D} d allowance =
    subst⁻¹ (λ g. OnWords g left right D allowance) d.facts
    (subst⁻¹ (λ l. OnWords (facts_of f.codes D) l right D allowance) d.left_table_lem
    (subst⁻¹ (λ r. OnWords (facts_of f.codes D) (side_table D.left) r D allowance) d.right_table_lem
    (facts_on_words f.codes D d.few_left d.few_right d.few_right_of_rings d.few_relations_lem d.few_atoms d.live_rising allowance)))
