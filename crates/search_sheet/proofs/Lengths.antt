-- How many bytes the sheet of a proved claim and that of a refuted one have. (Document 01, "Sheet and graph bytes".)
-- Assumes nothing.
use Prim.Native.Nat.{ℕ, zero, suc, ◌+◌, ◌*◌, ◌-◌}
use native.Mathlib.Nat.{mul-suc}
use native.Mathlib.Omega.{arith}
use mathlib.Core.Path.{◌≡◌, ◌∙◌, ap}
use mathlib.Core.Bool.{Bool}
use mathlib.Core.List.{List, [], ◌∷◌}
use lib.ListN.{length, length-append}
use Rattle.kat.specs.Lists.{counted, upto}
use Rattle.claims.specs.Fields.{field}
use Rattle.claims.proofs.Bytes.{field_length_lem}
use Rattle.search_store.specs.Store.{standing_at}
use Rattle.search_contents.specs.FieldWords.{field_words, field_length}
use Rattle.search_contents.proofs.Fields.{field_count}
use Rattle.search_sheet.specs.SheetWords.{word_sheet, fields_from, proved_sheet}

module _ (ring : Bool) (r : List (List ℕ)) (w : List ℕ) where
  fields_length : (i n : ℕ) → length (fields_from ring r w (counted i n)) ≡ field_length ring * n
  unfolding fields_from
  fields_length i zero = omega arith
  fields_length i (suc n) =
      length-append (field_words ring (standing_at ring r w i)) (fields_from ring r w (counted (suc i) n))
      ∙ omega (arith, field_count ring (standing_at ring r w i), fields_length (suc i) n, mul-suc (field_length ring) n)

  pub proved_sheet_length : (n : ℕ) → length (proved_sheet ring r w n) ≡ 4 + field_length ring * n
  unfolding proved_sheet
  proved_sheet_length n =
      let z : n - 0 ≡ n = omega arith in
      omega (
        arith,
        length-append (field 1 (1 ∷ [])) (fields_from ring r w (upto 0 n)),
        field_length_lem 1 (1 ∷ []),
        fields_length 0 (n - 0) ∙ ap (λ m. field_length ring * m) z,
      )

pub word_sheet_length : (numbers : List ℕ) → length (word_sheet numbers) ≡ 7 + length numbers
unfolding word_sheet
word_sheet_length numbers =
    omega (arith, length-append (field 1 (2 ∷ [])) (field 2 numbers), field_length_lem 1 (2 ∷ []), field_length_lem 2 numbers)
