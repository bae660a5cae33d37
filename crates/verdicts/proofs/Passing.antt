-- A sheet that passes as proved proves: whatever standings it lists, no word of the query refutes. The idea: along a word, the
-- standing after each prefix is listed or no left occurrence is possible after it, and neither completes a refuting word. What a
-- proved sheet has to have, letter by letter, is `ClosedByLetters`; `Closed` of `specs/` says it in plain words.
-- Assumes nothing.
use mathlib.Core.Path.{◌≡◌, refl, sym, ap, subst}
use mathlib.Core.Logic.{◌⊎◌, ⊎_elim}
use mathlib.Core.Logic.◌⊎◌.{inl, inr}
use mathlib.Core.Bool.{Bool, true, false, not, ◌&&◌, true≢false}
use mathlib.Core.List.{List, [], ◌∷◌}
use Rattle.kat.specs.Lists.{some, every, is_empty, In}
use Rattle.kat.specs.Word.{Word, end, at}
use Rattle.kat.proofs.Sets.{some_in, in_some, every_in, in_every}
use Rattle.kat.proofs.Bools.{or_cases, or_left, or_right, and_left, and_right, and_both, not_true_false, false_not_true}
use Rattle.verdicts.specs.Standings.{System, Letter, letters}
use Rattle.verdicts.specs.Passing.{completes, refuting, listed, proving}
use Rattle.notation.specs.Words.{Guarded}
use Rattle.verdicts.specs.Lawful.{Lawful}
use Rattle.verdicts.proofs.Letters.{Fits, in_letters, letters_in_lem}
use Rattle.verdicts.specs.Orders.{letter_of}

module _ (S : System) (laws : Lawful S) (ss : List S.Standing) where
  -- s is listed, or nothing is possible there
  abbrev pub Listed : S.Standing → Type 0
  Listed s = (S.possible s ≡ false) ⊎ In s ss

  pub listed_cases : (s : S.Standing) → listed S ss s ≡ true → Listed s
  unfolding listed
  listed_cases s e =
      ⊎_elim (λ h. inl (not_true_false (S.possible s) h))
      (λ h. let (t, i, q) = some_in (S.equal s) ss h in inr (subst (λ u. In u ss) (sym (laws.equal_sound s t q)) i))
      (or_cases (not (S.possible s)) (some (S.equal s) ss) e)

  pub cases_listed : (s : S.Standing) → Listed s → listed S ss s ≡ true
  unfolding listed
  cases_listed s (inl h) = or_left (some (S.equal s) ss) (false_not_true h)
  cases_listed s (inr i) = or_right (not (S.possible s)) (in_some (S.equal s) i (laws.equal_self s))

empty_is_nil : {A : Type 0} (l : List A) → is_empty l ≡ true → l ≡ []
empty_is_nil [] e = refl
empty_is_nil (x ∷ xs) e = absurd (true≢false (sym e))

-- what a proved sheet that passes has, letter by letter
pub record ClosedByLetters (S : System) (laws : Lawful S) (ss : List S.Standing) : Type 0 where
  pub none_alone : S.alone ≡ []
  pub begins : (l : Letter) → Fits S l → Listed S laws ss (S.begin l)
  pub goes_on : (s : S.Standing) (l : Letter) → In s ss → Fits S l → Listed S laws ss (S.onward s l)
  pub completes_none : (s : S.Standing) → In s ss → S.finals s ≡ []

module _ (S : System) (laws : Lawful S) (ss : List S.Standing) where
  pub passes_closed : proving S ss ≡ true → ClosedByLetters S laws ss
  unfolding proving
  passes_closed e =
      let first : Bool = every (λ l. listed S ss (S.begin l)) (letters S) in
      let steps : Bool = every (λ s. every (λ l. listed S ss (S.onward s l)) (letters S)) ss in
      let ends : Bool = every (λ s. is_empty (S.finals s)) ss in
      let e₂ : (is_empty S.alone && first && steps) ≡ true = and_left (is_empty S.alone && first && steps) ends e in
      let e₁ : (is_empty S.alone && first) ≡ true = and_left (is_empty S.alone && first) steps e₂ in
      record {
        none_alone = empty_is_nil S.alone (and_left (is_empty S.alone) first e₁);
        begins = λ l h.
            listed_cases S laws ss (S.begin l)
            (every_in (λ m. listed S ss (S.begin m)) (and_right (is_empty S.alone) first e₁) (in_letters S l h));
        goes_on = λ s l i h.
            listed_cases S laws ss (S.onward s l)
            (every_in (λ m. listed S ss (S.onward s m))
            (every_in (λ t. every (λ m. listed S ss (S.onward t m)) (letters S)) (and_right (is_empty S.alone && first) steps e₂) i)
            (in_letters S l h));
        completes_none = λ s i.
            empty_is_nil (S.finals s)
            (every_in (λ t. is_empty (S.finals t)) (and_right (is_empty S.alone && first && steps) ends e) i);
      }

  pub closed_passes : ClosedByLetters S laws ss → proving S ss ≡ true
  unfolding proving
  closed_passes c =
      and_both (and_both (and_both (ap is_empty c.none_alone)
      (in_every (λ l. listed S ss (S.begin l)) (letters S) (λ l i. cases_listed S laws ss (S.begin l) (c.begins l (letters_in_lem S l i)))))
      (in_every (λ s. every (λ l. listed S ss (S.onward s l)) (letters S)) ss
      (λ s i. in_every (λ l. listed S ss (S.onward s l)) (letters S)
      (λ l j. cases_listed S laws ss (S.onward s l) (c.goes_on s l i (letters_in_lem S l j))))))
      (in_every (λ s. is_empty (S.finals s)) ss (λ s i. ap is_empty (c.completes_none s i)))

  module _ (c : ClosedByLetters S laws ss) where
    listed_finals : (s : S.Standing) → Listed S laws ss s → S.finals s ≡ []
    listed_finals s (inl d) = laws.dead_ends s d
    listed_finals s (inr i) = c.completes_none s i

    listed_onward : (s : S.Standing) (l : Letter) → Listed S laws ss s → Fits S l → Listed S laws ss (S.onward s l)
    listed_onward s l (inl d) h = inl (laws.dead_stays s l d)
    listed_onward s l (inr i) h = c.goes_on s l i h

    completed_none : (s : S.Standing) (w : Word) → Listed S laws ss s → Guarded S.live S.relations w → completes S s w ≡ false
    unfolding completes
    completed_none s (end a) h g = rw (listed_finals s h) refl
    completed_none s (at a r w) h (k, q, g) =
        rw k (completed_none (S.onward s (letter_of a r)) w (listed_onward s (letter_of a r) h (k, q)) g)

    closed_refutes_none : (v : Word) → Guarded S.live S.relations v → refuting S v ≡ false
    unfolding refuting
    closed_refutes_none (end a) g = rw c.none_alone refl
    closed_refutes_none (at a r w) (k, q, g) =
        rw k (completed_none (S.begin (letter_of a r)) w (c.begins (letter_of a r) (k, q)) g)

  -- a proved sheet that passes: no word refutes
  pub passing_proved_refutes_none : proving S ss ≡ true → (v : Word) → Guarded S.live S.relations v → refuting S v ≡ false
  passing_proved_refutes_none e v g = closed_refutes_none (passes_closed e) v g
