-- The sheet that is written from a memory that keeps the entries of the search is the sheet of the verdict on words: the fields of its
-- standings, or the word of a place. (Document 01, "Sheet and graph bytes".)
-- Assumes nothing.
use Prim.Native.Nat.{ℕ, suc, ◌+◌, ◌-◌, ◌≤◌, ◌<◌}
use native.Mathlib.Omega.{arith}
use mathlib.Core.Path.{◌≡◌, refl, ◌∙◌, ap, ap₂}
use mathlib.Core.List.{List, [], ◌∷◌, ◌++◌}
use lib.ListN.{length, get_or}
use Rattle.kat.specs.Lists.{counted}
use Rattle.kat.specs.Word.{end, numbers}
use Rattle.kat.specs.Ring.{Prefix, onto}
use Rattle.claims.specs.Fields.{big_endian, field}
use Rattle.claims.specs.Search.{proved, refuted}
use Rattle.claims.specs.SheetBytes.{standing_fields, sheet_bytes}
use Rattle.claims.specs.SheetWriting.{AllBytes}
use Rattle.search_standings.specs.declared.Shape.{Shape}
use Rattle.search_standings.specs.Systems.{word_system}
use Rattle.search_store.specs.Store.{standing_at, prefix_at, Holds}
use Rattle.search_contents.specs.FieldWords.{contents_words, field_words}
use Rattle.search_sheet.specs.SheetWords.{prefix_bytes, word_sheet, word_bytes, fields_from, proved_sheet, refuted_sheet}
use Rattle.search_sheet.proofs.PrefixIn.{prefix_kept}
use Rattle.search_sheet.proofs.WordNumbers.{word_numbers}

module _ (k : Shape) (left right : List ℕ) (r : List (List ℕ)) (w : List ℕ) where
  -- the fields of the standings from place i on
  fields_kept : (ss : List (List ℕ)) (i : ℕ) → ((j : ℕ) → j < length ss → standing_at k.ring r w (i + j) ≡ get_or ss j [])
      → fields_from k.ring r w (counted i (length ss)) ≡ standing_fields (word_system k left right) (contents_words k.ring) ss
  unfolding fields_from standing_fields field_words
  fields_kept [] i h = refl
  fields_kept (s ∷ ss) i h =
      let z : i ≡ i + 0 = omega arith in
      ap₂ (λ t bs. field 3 (contents_words k.ring t) ++ bs) (ap (standing_at k.ring r w) z ∙ h 0 (omega arith))
      (fields_kept ss (suc i) (λ j l. ap (standing_at k.ring r w) (omega arith) ∙ h (suc j) (omega arith)))

  module _ (n : ℕ) (ss : List (List ℕ)) (ps : List Prefix) (h : Holds k.ring r w n ss ps) where
    -- the sheet of the standings kept ("Sheet and graph bytes")
    pub proved_sheet_lem : proved_sheet k.ring r w n ≡ sheet_bytes (word_system k left right) (contents_words k.ring) (proved ss)
    unfolding proved_sheet sheet_bytes
    proved_sheet_lem =
        let z : n - 0 ≡ length ss = omega (arith, h.standings_count) in
        ap (λ bs. field 1 (1 ∷ []) ++ bs)
        (ap (λ m. fields_from k.ring r w (counted 0 m)) z
        ∙ fields_kept ss 0 (λ j l. ap (standing_at k.ring r w) (omega arith) ∙ h.standing j (omega (arith, h.standings_count))))

    -- the sheet of the word of a place ("Sheet and graph bytes")
    pub refuted_sheet_lem : (place last : ℕ) → place ≤ n → AllBytes (numbers (onto (prefix_at ps place) (end last)))
        → refuted_sheet k.ring r w place last
        ≡ sheet_bytes (word_system k left right) (contents_words k.ring) (refuted (onto (prefix_at ps place) (end last)))
    unfolding refuted_sheet word_sheet sheet_bytes word_bytes
    refuted_sheet_lem place last l b =
        ap (λ p. field 1 (2 ∷ []) ++ field 2 (prefix_bytes p ++ big_endian 1 last)) (prefix_kept h place l)
        ∙ ap (λ ns. field 1 (2 ∷ []) ++ field 2 ns) (word_numbers (prefix_at ps place) last b)
