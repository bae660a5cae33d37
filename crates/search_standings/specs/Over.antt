-- The verdict, level by level, over chosen letters: level 1 takes the letters of one list and the later levels those of another. (Document
-- 01, "Standings".) With all letters in both lists it is the verdict of `claims`; the search leaves out letters that lead nowhere new.
-- Assumes nothing.
use Rattle.std.specs.Prelude.{ℕ, zero, suc, true, false, List, [], ◌∷◌, ◌++◌, map, ltb, length}
use Rattle.std.proofs.Math.Option.{some, none}
use Rattle.kat.specs.Word.{end}
use Rattle.claims.specs.Standings.{System, Letter}
use Rattle.claims.specs.Search.{Entry, Verdict, proved, refuted, spent, first_level, lengthened, fresh, completed}

module _ (S : System) where
  -- the next level, of what stands in this one, over the letters ls
  unfoldable pub next_level_over : List Letter → List (Entry S) → List (Entry S)
  next_level_over ls [] = []
  next_level_over ls (e ∷ es) = lengthened S e ls ++ next_level_over ls es

  -- level n and on, n at least 1: at most f levels, seen are the standings of levels 1 to n, new those that are fresh in level n
  unfoldable pub levels_over : List Letter → ℕ → ℕ → List (Entry S) → List (Entry S) → Verdict S
  levels_over ls zero allowance seen new = spent
  levels_over ls (suc f) allowance seen new =
      elim (ltb allowance (length seen)) [
        | true ↦ spent
        | false ↦ elim (completed S new) [
          | some w ↦ refuted w
          | none ↦ elim new [
            | [] ↦ proved (map (λ e. e.standing) seen)
            | e ∷ es ↦ let more : List (Entry S) = fresh S seen (next_level_over ls (e ∷ es)) in levels_over ls f allowance (seen ++ more) more
          ]
        ]
      ]

  -- level 0 has no standing; then level 1 over the letters ls, and the others over the letters ms, at most f levels in all
  unfoldable pub verdict_over : List Letter → List Letter → ℕ → ℕ → Verdict S
  verdict_over ls ms f allowance =
      elim S.alone [
        | a ∷ as' ↦ refuted (end a)
        | [] ↦ let new : List (Entry S) = fresh S [] (first_level S ls) in levels_over ms f allowance new new
      ]

-- a verdict on standings of one kind, as one on the standings of another kind that they show
abbrev pub shown : {S W : System} → (W.Standing → S.Standing) → Verdict W → Verdict S
shown show (proved ss) = proved (map show ss)
shown show (refuted w) = refuted w
shown show spent = spent
