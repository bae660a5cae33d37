-- The sheet of a verdict on words is the sheet of the verdict on the standings that they show, where all standings listed are good words: for
-- any two kinds of standings, and so for path claims and for ring claims. (Document 01, "Sheet and graph bytes".)
-- Assumes nothing.
use Prim.Native.Nat.{ℕ, ◌^◌, ◌≤◌, ◌<◌}
use mathlib.Core.Path.{◌≡◌, refl, sym, ap, ap₂, subst}
use mathlib.Core.Bool.{true, false}
use mathlib.Core.List.{List, [], ◌∷◌, ◌++◌, map}
use lib.ListN.{get_or}
use Rattle.kat.specs.Lists.{In, here, there}
use Rattle.kat.specs.Tables.{occurrences}
use Rattle.claims.specs.Fields.{field}
use Rattle.claims.specs.Sides.{Decision}
use Rattle.claims.specs.Standings.{System, path_system, ring_system}
use Rattle.claims.specs.Search.{Verdict, proved, refuted, spent}
use Rattle.claims.specs.SheetBytes.{path_bytes, ring_bytes, standing_fields, sheet_bytes}
use Rattle.search_standings.specs.declared.Shape.{Shape}
use Rattle.search_standings.specs.Systems.{word_system}
use Rattle.search_standings.specs.Over.{shown}
use Rattle.search_standings.proofs.GoodStandings.{AllListedGood}
use Rattle.search_standings.proofs.PathShown.{TwoWords, path_of}
use Rattle.search_standings.proofs.RingShown.{ring_shown, GoodRing}
use Rattle.search_contents.specs.FieldWords.{contents_words}
use Rattle.search_contents.proofs.FieldShown.{path_contents, ring_contents}

module _ (S W : System) (show : W.Standing → S.Standing) (Good : W.Standing → Type 0)
    (contents : S.Standing → List ℕ) (of_words : W.Standing → List ℕ)
    (same : (s : W.Standing) → Good s → of_words s ≡ contents (show s)) where
  fields_shown : (ss : List W.Standing) → ((s : W.Standing) → In s ss → Good s)
      → standing_fields W of_words ss ≡ standing_fields S contents (map show ss)
  unfolding standing_fields
  fields_shown [] g = refl
  fields_shown (s ∷ ss) g = ap₂ (λ c bs. field 3 c ++ bs) (same s (g s (here refl))) (fields_shown ss (λ t i. g t (there i)))

  -- the sheet of any verdict ("Sheet and graph bytes")
  pub sheet_shown : (v : Verdict W) → AllListedGood W Good v → sheet_bytes W of_words v ≡ sheet_bytes S contents (shown show v)
  unfolding sheet_bytes
  sheet_shown (proved ss) g = ap (λ bs. field 1 (1 ∷ []) ++ bs) (fields_shown ss g)
  sheet_shown (refuted w) g = refl
  sheet_shown spent g = refl

module _ (k : Shape) (left right : List ℕ) (D : Decision) where
  -- of a path claim ("Sheet and graph bytes")
  pub path_sheet : (v : Verdict (word_system k left right))
      → AllListedGood (word_system k left right) (TwoWords (occurrences D.left) (occurrences D.right)) v
      → sheet_bytes (word_system k left right) (contents_words false) v ≡ sheet_bytes (path_system D) path_bytes (shown (path_of D) v)
  path_sheet =
      sheet_shown (path_system D) (word_system k left right) (path_of D) (TwoWords (occurrences D.left) (occurrences D.right)) path_bytes
      (contents_words false) (λ s g. path_contents (occurrences D.left) (occurrences D.right) s
      (subst (λ t. get_or t 0 0 < 2 ^ occurrences D.left) (sym g.both) g.fst_small)
      (subst (λ t. get_or t 1 0 < 2 ^ occurrences D.right) (sym g.both) g.snd_small))

  -- of a ring claim ("Sheet and graph bytes")
  pub ring_sheet : occurrences D.right ≤ 31 → (v : Verdict (word_system k left right))
      → AllListedGood (word_system k left right) (GoodRing (occurrences D.left) (occurrences D.right)) v
      → sheet_bytes (word_system k left right) (contents_words true) v
      ≡ sheet_bytes (ring_system D) ring_bytes (shown (ring_shown (occurrences D.left) (occurrences D.right)) v)
  ring_sheet few =
      sheet_shown (ring_system D) (word_system k left right) (ring_shown (occurrences D.left) (occurrences D.right))
      (GoodRing (occurrences D.left) (occurrences D.right)) ring_bytes (contents_words true)
      (λ s g. ring_contents (occurrences D.left) (occurrences D.right) few s g)
