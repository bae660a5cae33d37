-- The verdict over the letters that pass tests of `claims` is the verdict over the lists of these letters; so the verdict over the letters
-- that are kept is the verdict. (Document 01, "Standings".)
-- Assumes nothing.
use Prim.Native.Nat.{ℕ, zero, suc}
use mathlib.Core.Path.{◌≡◌, refl, sym, ◌∙◌, ap}
use mathlib.Core.Bool.{Bool, true, false}
use mathlib.Core.List.{List, [], ◌∷◌, ◌++◌}
use mathlib.Core.Option.{some, none}
use lib.Dec.{ltb}
use lib.ListN.{length}
use Rattle.kat.specs.Lists.{filter}
use Rattle.kat.specs.Word.{end}
use Rattle.claims.specs.Sides.{Decision}
use Rattle.claims.specs.Standings.{System, Letter, letters, path_system, ring_system}
use Rattle.claims.specs.Search.{Entry, refuted, spent, first_level, lengthened, fresh, completed, verdict}
use Rattle.claims.specs.Thin.{thin_next_level, thin_levels, thin_verdict}
use Rattle.claims.specs.Alike.{path_letter, ring_letter}
use Rattle.claims.specs.Orders.{Rising}
use Rattle.claims.proofs.AlikePath.{kept_path_verdict}
use Rattle.claims.proofs.AlikeRing.{kept_ring_verdict}
use Rattle.search_standings.specs.Over.{next_level_over, levels_over, verdict_over}
use Rattle.search_alike.proofs.Letters.{filter_all}

-- first says which letters are tried at level 1, later which are tried at the other levels
module _ (S : System) (first later : Letter → Bool) where
  next_level_thin : (es : List (Entry S)) → next_level_over S (filter later (letters S)) es ≡ thin_next_level S first (λ e. later) es
  unfolding next_level_over thin_next_level
  next_level_thin [] = refl
  next_level_thin (e ∷ es) = ap (λ fs. lengthened S e (filter later (letters S)) ++ fs) (next_level_thin es)

  levels_thin : (f allowance : ℕ) (seen new : List (Entry S))
      → levels_over S (filter later (letters S)) f allowance seen new ≡ thin_levels S first (λ e. later) f allowance seen new
  unfolding levels_over thin_levels
  levels_thin zero allowance seen new = refl
  levels_thin (suc f) allowance seen [] = refl
  levels_thin (suc f) allowance seen (e ∷ es) =
      let more : List (Entry S) = fresh S seen (thin_next_level S first (λ x. later) (e ∷ es)) in
      ap (λ v. elim (ltb allowance (length seen)) [
        | true ↦ spent
        | false ↦ elim (completed S (e ∷ es)) [ some w ↦ refuted w | none ↦ v ]
      ])
      (ap (λ fs. levels_over S (filter later (letters S)) f allowance (seen ++ fresh S seen fs) (fresh S seen fs)) (next_level_thin (e ∷ es))
      ∙ levels_thin f allowance (seen ++ more) more)

  -- the verdict over lists of letters is that over tests of letters
  pub verdict_over_thin : (allowance : ℕ)
      → verdict_over S (filter first (letters S)) (filter later (letters S)) (suc (suc allowance)) allowance
      ≡ thin_verdict S first (λ e. later) allowance
  unfolding verdict_over thin_verdict
  verdict_over_thin allowance =
      let new : List (Entry S) = fresh S [] (first_level S (filter first (letters S))) in
      ap (λ v. elim S.alone [ a ∷ as' ↦ refuted (end a) | [] ↦ v ]) (levels_thin (suc (suc allowance)) allowance new new)

module _ (D : Decision) (rising : Rising D.live) where
  -- a path claim: the kept letters at each level
  pub path_verdict_over_kept : (allowance : ℕ)
      → verdict_over (path_system D) (filter (path_letter D) (letters (path_system D))) (filter (path_letter D) (letters (path_system D)))
      (suc (suc allowance)) allowance
      ≡ verdict (path_system D) allowance
  path_verdict_over_kept allowance =
      verdict_over_thin (path_system D) (path_letter D) (path_letter D) allowance ∙ kept_path_verdict D rising allowance

  -- a ring claim: all letters at level 1, and the kept ones later
  pub ring_verdict_over_kept : (allowance : ℕ)
      → verdict_over (ring_system D) (letters (ring_system D)) (filter (ring_letter D) (letters (ring_system D))) (suc (suc allowance)) allowance
      ≡ verdict (ring_system D) allowance
  ring_verdict_over_kept allowance =
      ap (λ ls. verdict_over (ring_system D) ls (filter (ring_letter D) (letters (ring_system D))) (suc (suc allowance)) allowance)
      (sym (filter_all (λ l. true) (letters (ring_system D)) (λ l i. refl)))
      ∙ verdict_over_thin (ring_system D) (λ l. true) (ring_letter D) allowance ∙ kept_ring_verdict D rising allowance
