-- The verdict, level by level. (Document 01, "Standings".) Level n holds the standings of prefixes of n relations. Taking the fresh
-- standings of a level in their order, and the letters in theirs, gives each standing with its least shortest prefix.
-- Assumes nothing.
use Rattle.std.specs.Prelude.{ℕ, zero, suc, Bool, true, false, not, ◌&&◌, List, [], ◌∷◌, ◌++◌, map, ltb, length}
use Rattle.std.proofs.Math.Option.{Option, some, none}
use Rattle.kat.specs.Lists.{some as some_of}
use Rattle.kat.specs.Word.{Word, end}
use Rattle.kat.specs.Ring.{Prefix, nothing, then, onto}
use Rattle.verdicts.specs.Standings.{System, Letter, letters}

module _ (S : System) where
  -- a standing with a prefix that has it ("Standings")
  pub record Entry : Type 0 where
    pub standing : S.Standing
    pub prefix : Prefix

-- proved with its standings, refuted with the first word, or allowance spent ("Standings")
pub data Verdict (S : System) : Type 0 where
  proved : List S.Standing → Verdict S
  refuted : Word → Verdict S
  spent : Verdict S

module _ (S : System) where
  -- the prefixes of one relation ("Standings")
  unfoldable pub first_level : List Letter → List (Entry S)
  first_level [] = []
  first_level (l ∷ ls) =
      record { standing = S.begin l; prefix = then nothing l.atom l.relation } ∷ first_level ls

  -- one relation more, for each letter ("Standings")
  unfoldable pub lengthened : Entry S → List Letter → List (Entry S)
  lengthened e [] = []
  lengthened e (l ∷ ls) =
      record { standing = S.onward e.standing l; prefix = then e.prefix l.atom l.relation } ∷ lengthened e ls

  -- the next level, of what stands in this one ("Standings")
  unfoldable pub next_level : List (Entry S) → List (Entry S)
  next_level [] = []
  next_level (e ∷ es) = lengthened e (letters S) ++ next_level es

  -- the standing is among those seen ("Standings")
  unfoldable pub seen_in : List (Entry S) → S.Standing → Bool
  seen_in seen s = some_of (λ e. S.equal s e.standing) seen

  -- those that have a standing which was not seen, each once ("Standings")
  unfoldable pub fresh : List (Entry S) → List (Entry S) → List (Entry S)
  fresh seen [] = []
  fresh seen (e ∷ es) =
      elim (S.possible e.standing && not (seen_in seen e.standing)) [
        | true ↦ e ∷ fresh (e ∷ seen) es
        | false ↦ fresh seen es
      ]

  -- the first refuting word that a level completes ("Standings")
  unfoldable pub completed : List (Entry S) → Option Word
  completed [] = none
  completed (e ∷ es) = elim (S.finals e.standing) [ [] ↦ completed es | a ∷ as' ↦ some (onto e.prefix (end a)) ]

  -- level n and on, n at least 1: seen are the standings of levels 1 to n, new those that are fresh in level n ("Standings")
  unfoldable pub levels : ℕ → ℕ → List (Entry S) → List (Entry S) → Verdict S
  levels zero allowance seen new = spent
  levels (suc f) allowance seen new =
      elim (ltb allowance (length seen)) [
        | true ↦ spent
        | false ↦ elim (completed new) [
          | some w ↦ refuted w
          | none ↦ elim new [
            | [] ↦ proved (map (λ e. e.standing) seen)
            | e ∷ es ↦ let more : List (Entry S) = fresh seen (next_level (e ∷ es)) in levels f allowance (seen ++ more) more
          ]
        ]
      ]

  -- level 0 has no standing; then level by level, at most so many levels ("Standings")
  unfoldable pub verdict_within : ℕ → ℕ → Verdict S
  verdict_within most allowance =
      elim S.alone [
        | a ∷ as' ↦ refuted (end a)
        | [] ↦ let new : List (Entry S) = fresh [] (first_level (letters S)) in levels most allowance new new
      ]

  -- each level but the last adds a standing, so that two levels more than the allowance are enough: `more_levels` of `proofs/` shows that
  -- any greater number gives the same ("Standings")
  unfoldable pub verdict : ℕ → Verdict S
  verdict allowance = verdict_within (suc (suc allowance)) allowance
