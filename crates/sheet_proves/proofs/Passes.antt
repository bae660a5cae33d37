-- What the sheet check says of a proved sheet is what the definition says: for the facts and tables of a decision, cells that a sheet may
-- list prove exactly where the standings that they show pass. (Document 01, "Sheet and graph bytes".) Cells show standings (`sheet_standings`),
-- and letters that the masks leave out need not be tried (`claims`).
-- Assumes nothing.
use mathlib.Core.Path.{◌≡◌, refl, sym, ◌∙◌, ap, ap₂}
use mathlib.Core.Bool.{Bool, true, false, ◌&&◌, ◌||◌}
use mathlib.Core.List.{List, map}
use Prim.Native.Nat.{ℕ}
use Rattle.kat.specs.Lists.{In, every, is_empty}
use Rattle.kat.specs.Tables.{occurrences}
use Rattle.kat.proofs.Sets.{filter_same}
use Rattle.claims.specs.Fields.{set_number}
use Rattle.claims.specs.Sides.{Decision}
use Rattle.claims.specs.Standings.{System, Letter, letters, system_of, claim_system, path_system, ring_system}
use Rattle.claims.specs.Alike.{path_letter, ring_letter}
use Rattle.claims.specs.Passing.{listed, proving, passes}
use Rattle.claims.specs.SheetReading.{says_proved}
use Rattle.claims.specs.Thin.{thin_proving}
use Rattle.claims.proofs.Letters.{Fits, letters_in_lem}
use Rattle.claims.proofs.AlikePath.{kept_path_proves}
use Rattle.claims.proofs.AlikeRing.{kept_ring_proves}
use Rattle.query.specs.declared.Facts.{Facts}
use Rattle.query.specs.Answer.{facts_of}
use Rattle.query.specs.Decided.{Decided}
use Rattle.standings.proofs.LettersOf.{LettersOf}
use Rattle.sheet_standings.specs.CellSystem.{cells_show}
use Rattle.sheet_standings.specs.Good.{GoodCells}
use Rattle.sheet_standings.proofs.PassingShown.{thin_proving_shown}
use Rattle.sheet_standings.proofs.ByKind.{cells_show_lem}
use Rattle.sheet_alike.specs.Masks.{masks_of, tried}
use Rattle.sheet_alike.proofs.Decided.{live_within, live_rises, by_decided}
use Rattle.sheet_alike.proofs.Letters.{tried_path, tried_ring}
use Rattle.sheet_proves.specs.Proves.{cells_of, first_tried, later_tried, proves_cells}

-- tests that agree on the letters
module _ (S : System) (first first' later later' : Letter → Bool)
    (h : (l : Letter) → Fits S l → first l ≡ first' l) (k : (l : Letter) → Fits S l → later l ≡ later' l) where
  thin_same : (ss : List S.Standing) → thin_proving S first later ss ≡ thin_proving S first' later' ss
  unfolding thin_proving
  thin_same ss =
      ap₂
      (λ ls ms. is_empty S.alone && every (λ l. listed S ss (S.begin l)) ls && every (λ s. every (λ l. listed S ss (S.onward s l)) ms) ss
      && every (λ s. is_empty (S.finals s)) ss)
      (filter_same first first' (letters S) (λ l i. h l (letters_in_lem S l i)))
      (filter_same later later' (letters S) (λ l i. k l (letters_in_lem S l i)))

module _ {f : Facts} {left right : List ℕ} {D : Decision} (d : Decided f left right D) where
  ring_same : f.ring ≡ D.ring
  unfolding facts_of
  ring_same = ap (λ g. g.ring) d.facts

  -- the letters tried are enough
  enough : (b : Bool) → D.ring ≡ b → (ss : List (system_of b D).Standing)
      → thin_proving (system_of b D) (first_tried f left right) (later_tried f left right) ss ≡ proving (system_of b D) ss
  unfolding first_tried later_tried
  enough false e ss =
      thin_same (path_system D) (first_tried f left right) (path_letter D) (later_tried f left right) (path_letter D)
      (λ l h. ap (λ c. c || tried (masks_of f left right) l) (ring_same ∙ e) ∙ tried_path d e l h) (λ l h. tried_path d e l h) ss
      ∙ kept_path_proves D (live_rises d) ss
  enough true e ss =
      thin_same (ring_system D) (first_tried f left right) (λ l. true) (later_tried f left right) (ring_letter D)
      (λ l h. ap (λ c. c || tried (masks_of f left right) l) (ring_same ∙ e)) (λ l h. tried_ring d e l h) ss
      ∙ kept_ring_proves D (live_rises d) ss

  own : LettersOf (set_number 0 D.live) D.relations D
  own = record { live_set_lem = refl; live_rising = live_within d; relation_count_lem = refl; few_relations_lem = d.few_relations_lem }

  module _ (css : List (List ℕ)) (goods : (s : List ℕ) → In s css → GoodCells D.ring D s) where
    -- cells prove where the standings that they show do, over the same letters
    shown : (first later : Letter → Bool)
        → thin_proving (claim_system D) first later (map (cells_show D.ring D) css) ≡ thin_proving (cells_of f left right) first later css
    unfolding facts_of
    shown first later =
        by_decided d
        (λ g s t. thin_proving (claim_system D) first later (map (cells_show D.ring D) css) ≡ thin_proving (cells_of g s t) first later css)
        (thin_proving_shown
        (cells_show_lem own d.few_atoms d.live_rising d.few_left d.few_right d.few_right_of_rings (occurrences D.right) refl) css goods first later)

    -- the standings listed prove exactly where a sheet that says so passes ("Sheet and graph bytes")
    pub proves_passes : proves_cells f left right css ≡ passes D (says_proved (map (cells_show D.ring D) css))
    unfolding proves_cells passes
    proves_passes =
        sym (shown (first_tried f left right) (later_tried f left right)) ∙ enough D.ring refl (map (cells_show D.ring D) css)
