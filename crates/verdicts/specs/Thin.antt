-- The search and the check of a proved sheet over fewer letters: those that pass a test. (Document 01, "Standings" and "Sheet and graph
-- bytes".) They are what runs; `proofs/ThinVerdict.antt` shows them equal to `verdict` and `proving` where the tests leave out only
-- letters that lead nowhere, or where a sooner letter leads. So nothing that is promised rests on them.
-- Assumes nothing.
use Rattle.std.specs.Prelude.{ℕ, zero, suc, Bool, true, false, ◌&&◌, List, [], ◌∷◌, ◌++◌, map, ltb, length}
use Rattle.std.proofs.Math.Option.{some, none}
use Rattle.kat.specs.Lists.{filter, every, is_empty}
use Rattle.kat.specs.Word.{end}
use Rattle.verdicts.specs.Standings.{System, Letter, letters}
use Rattle.verdicts.specs.Search.{Entry, Verdict, proved, refuted, spent, first_level, lengthened, fresh, completed}
use Rattle.verdicts.specs.Passing.{listed}

-- first says which letters are tried at level 1, later which are tried after an entry
module _ (S : System) (first : Letter → Bool) (later : Entry S → Letter → Bool) where
  -- the next level, of what stands in this one, with the letters that pass ("Standings")
  unfoldable pub thin_next_level : List (Entry S) → List (Entry S)
  thin_next_level [] = []
  thin_next_level (e ∷ es) = lengthened S e (filter (later e) (letters S)) ++ thin_next_level es

  -- level n and on, as `levels`, with the letters that pass ("Standings")
  unfoldable pub thin_levels : ℕ → ℕ → List (Entry S) → List (Entry S) → Verdict S
  thin_levels zero allowance seen new = spent
  thin_levels (suc f) allowance seen new =
      elim (ltb allowance (length seen)) [
        | true ↦ spent
        | false ↦ elim (completed S new) [
          | some w ↦ refuted w
          | none ↦ elim new [
            | [] ↦ proved (map (λ e. e.standing) seen)
            | e ∷ es ↦ let more : List (Entry S) = fresh S seen (thin_next_level (e ∷ es)) in thin_levels f allowance (seen ++ more) more
          ]
        ]
      ]

  -- level 0 has no standing; then level by level, with the letters that pass ("Standings")
  unfoldable pub thin_verdict : ℕ → Verdict S
  thin_verdict allowance =
      elim S.alone [
        | a ∷ as' ↦ refuted (end a)
        | [] ↦ let new : List (Entry S) = fresh S [] (first_level S (filter first (letters S))) in
            thin_levels (suc (suc allowance)) allowance new new
      ]

-- first says which letters are tried at level 1, later which are tried after a listed standing
module _ (S : System) (first later : Letter → Bool) where
  -- the standings listed prove, as `proving`, with the letters that pass ("Sheet and graph bytes")
  unfoldable pub thin_proving : List S.Standing → Bool
  thin_proving ss =
      is_empty S.alone
      && every (λ l. listed S ss (S.begin l)) (filter first (letters S))
      && every (λ s. every (λ l. listed S ss (S.onward s l)) (filter later (letters S))) ss
      && every (λ s. is_empty (S.finals s)) ss
