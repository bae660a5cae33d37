-- The verdict over chosen letters is, with all letters, the verdict of `claims`; and what each of its cases gives.
-- Assumes nothing.
use Prim.Native.Nat.{ℕ, zero, suc}
use mathlib.Core.Path.{◌≡◌, refl, ◌∙◌, ap}
use mathlib.Core.Bool.{Bool, true, false}
use mathlib.Core.List.{List, [], ◌∷◌, ◌++◌, map}
use mathlib.Core.Option.{Option, some, none}
use lib.Dec.{ltb}
use lib.ListN.{length}
use Rattle.kat.specs.Word.{Word, end}
use Rattle.claims.specs.Standings.{System, Letter, letters}
use Rattle.claims.specs.Search.{Entry, Verdict, proved, refuted, spent, first_level, lengthened, next_level, fresh, completed, levels, verdict_within, verdict}
use Rattle.search_standings.specs.Over.{next_level_over, levels_over, verdict_over}

module _ (S : System) where
  -- the cases of a level
  module _ (ls : List Letter) (f allowance : ℕ) (seen : List (Entry S)) where
    pub over_spent : (new : List (Entry S)) → ltb allowance (length seen) ≡ true → levels_over S ls (suc f) allowance seen new ≡ spent
    unfolding levels_over
    over_spent new h = rw (h, levels_over)

    pub over_refuted : (new : List (Entry S)) (w : Word) → ltb allowance (length seen) ≡ false → completed S new ≡ some w
        → levels_over S ls (suc f) allowance seen new ≡ refuted w
    unfolding levels_over
    over_refuted new w h k = rw (h, k, levels_over)

    pub over_proved : ltb allowance (length seen) ≡ false
        → levels_over S ls (suc f) allowance seen [] ≡ proved (map (λ e. e.standing) seen)
    unfolding levels_over completed
    over_proved h = rw (h, levels_over)

    pub over_more : (e : Entry S) (es : List (Entry S)) → ltb allowance (length seen) ≡ false → completed S (e ∷ es) ≡ none
        → levels_over S ls (suc f) allowance seen (e ∷ es)
        ≡ levels_over S ls f allowance (seen ++ fresh S seen (next_level_over S ls (e ∷ es))) (fresh S seen (next_level_over S ls (e ∷ es)))
    unfolding levels_over
    over_more e es h k = rw (h, k, levels_over)

  -- all letters
  next_level_all : (es : List (Entry S)) → next_level_over S (letters S) es ≡ next_level S es
  unfolding next_level_over next_level
  next_level_all [] = refl
  next_level_all (e ∷ es) = ap (λ fs. lengthened S e (letters S) ++ fs) (next_level_all es)

  pub levels_all : (f allowance : ℕ) (seen new : List (Entry S)) → levels_over S (letters S) f allowance seen new ≡ levels S f allowance seen new
  unfolding levels_over levels
  levels_all zero allowance seen new = refl
  levels_all (suc f) allowance seen new =
      cases (ltb allowance (length seen)) (completed S new) new
      (λ es. ap (λ fs. levels_over S (letters S) f allowance (seen ++ fresh S seen fs) (fresh S seen fs)) (next_level_all es)
      ∙ levels_all f allowance (seen ++ fresh S seen (next_level S es)) (fresh S seen (next_level S es)))
    where
      cases : (b : Bool) (c : Option Word) (n : List (Entry S))
          → ((es : List (Entry S))
          → levels_over S (letters S) f allowance (seen ++ fresh S seen (next_level_over S (letters S) es)) (fresh S seen (next_level_over S (letters S) es))
          ≡ levels S f allowance (seen ++ fresh S seen (next_level S es)) (fresh S seen (next_level S es)))
          → ◌≡◌ {A = Verdict S}
          (elim b [
            | true ↦ spent
            | false ↦ elim c [
              | some w ↦ refuted w
              | none ↦ elim n [
                | [] ↦ proved (map (λ e. e.standing) seen)
                | e ∷ es ↦ levels_over S (letters S) f allowance (seen ++ fresh S seen (next_level_over S (letters S) (e ∷ es)))
                    (fresh S seen (next_level_over S (letters S) (e ∷ es)))
              ]
            ]
          ])
          (elim b [
            | true ↦ spent
            | false ↦ elim c [
              | some w ↦ refuted w
              | none ↦ elim n [
                | [] ↦ proved (map (λ e. e.standing) seen)
                | e ∷ es ↦ levels S f allowance (seen ++ fresh S seen (next_level S (e ∷ es))) (fresh S seen (next_level S (e ∷ es)))
              ]
            ]
          ])
      cases true c n h = refl
      cases false (some w) n h = refl
      cases false none [] h = refl
      cases false none (e ∷ es) h = h (e ∷ es)

  pub verdict_all : (allowance : ℕ) → verdict_over S (letters S) (letters S) (suc (suc allowance)) allowance ≡ verdict S allowance
  unfolding verdict_over verdict verdict_within
  verdict_all allowance = go S.alone
    where
      go : (as' : List ℕ)
          → ◌≡◌ {A = Verdict S}
          (elim as' [
            | a ∷ bs ↦ refuted (end a)
            | [] ↦ levels_over S (letters S) (suc (suc allowance)) allowance (fresh S [] (first_level S (letters S))) (fresh S [] (first_level S (letters S)))
          ])
          (elim as' [
            | a ∷ bs ↦ refuted (end a)
            | [] ↦ levels S (suc (suc allowance)) allowance (fresh S [] (first_level S (letters S))) (fresh S [] (first_level S (letters S)))
          ])
      go [] = levels_all (suc (suc allowance)) allowance (fresh S [] (first_level S (letters S))) (fresh S [] (first_level S (letters S)))
      go (a ∷ bs) = refl
