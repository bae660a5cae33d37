-- What a sheet says, and which sheets pass. (Document 01, "Sheet and graph bytes".) Refuted: its word is a refuting word, shortest or not. Proved: no
-- length-0 word refutes, every level-1 standing is listed, every standing one step after a listed one is listed, and no listed
-- one completes a refuting word. Steps and completion go by a standing's own fields.
-- Assumes nothing.
use Rattle.std.specs.Prelude.{Bool, not, ◌&&◌, ◌||◌, List}
use Rattle.kat.specs.Lists.{some, every, member, is_empty}
use Rattle.kat.specs.Word.{Word, end, at}
use Rattle.notation.specs.Sides.{Decision}
use Rattle.verdicts.specs.Standings.{System, letters, claim_system}

module _ (S : System) where
  -- the rest of a word completes a refuting word, after a prefix with the standing s ("Sheet and graph bytes")
  unfoldable pub completes : S.Standing → Word → Bool
  completes s (end a) = member a (S.finals s)
  completes s (at a r w) = member a S.live && completes (S.onward s (record { atom = a; relation = r })) w

  -- the word is a refuting word, by standings ("Sheet and graph bytes")
  unfoldable pub refuting : Word → Bool
  refuting (end a) = member a S.alone
  refuting (at a r w) = member a S.live && completes (S.begin (record { atom = a; relation = r })) w

  -- the standing is listed; where no left occurrence is possible there is none to list ("Sheet and graph bytes")
  unfoldable pub listed : List S.Standing → S.Standing → Bool
  listed ss s = not (S.possible s) || some (S.equal s) ss

  -- the standings listed prove: no length-0 word refutes, level 1 and every step from one of them is listed, none completes ("Sheet and graph bytes")
  unfoldable pub proving : List S.Standing → Bool
  proving ss =
      is_empty S.alone
      && every (λ l. listed ss (S.begin l)) (letters S)
      && every (λ s. every (λ l. listed ss (S.onward s l)) (letters S)) ss
      && every (λ s. is_empty (S.finals s)) ss

-- what a part of a sheet says: proved with the standings listed, or refuted with a word ("Sheet and graph bytes")
pub data Said (D : Decision) : Type 0 where
  says_proved : List (claim_system D).Standing → Said D
  says_refuted : Word → Said D

-- what a sheet says passes ("Sheet and graph bytes")
unfoldable pub passes : (D : Decision) → Said D → Bool
passes D (says_proved ss) = proving (claim_system D) ss
passes D (says_refuted w) = refuting (claim_system D) w
