-- What a verdict says, in plain words about words and prefixes. (Document 01, "Standings".) The search of `Search.antt` goes level by
-- level; these are the statements that its answers are shown to mean, for every kind of standing.
-- Assumes nothing.
use Rattle.std.specs.Prelude.{ℕ, zero, suc, ◌≤◌, ◌<◌, ◌≡◌, true, false, List, [], ◌∷◌, ◌⊎◌, ◌↔◌, length}
use Rattle.kat.specs.Lists.{member, In}
use Rattle.kat.specs.Word.{Word, size, numbers}
use Rattle.kat.specs.Ring.{Prefix, nothing, then}
use Rattle.notation.specs.Words.{Guarded}
use Rattle.verdicts.specs.Standings.{System}
use Rattle.verdicts.specs.Passing.{refuting}

-- how many relations a prefix has ("Standings")
abbrev pub relations_in : Prefix → ℕ
relations_in nothing = zero
relations_in (then l a r) = suc (relations_in l)

-- no member stands twice in the list ("Standings")
abbrev pub Distinct : {A : Type 0} → List A → Type 0
Distinct [] = Unit {0}
Distinct (x ∷ xs) = (In x xs → ⊥) × Distinct xs

-- lists of numbers, the first no later than the second in the order of words ("Standings")
abbrev pub NotAfter : List ℕ → List ℕ → Type 0
NotAfter [] ys = Unit {0}
NotAfter (x ∷ xs) [] = ⊥
NotAfter (x ∷ xs) (y ∷ ys) = (x < y) ⊎ ((x ≡ y) × NotAfter xs ys)

module _ (S : System) where
  -- s is the standing of the prefix l: each of its atoms is live and each of its relations declared ("Standings")
  pub data StandingOf : Prefix → S.Standing → Type 0 where
    begun : {a r : ℕ} → member a S.live ≡ true → r < S.relations
        → StandingOf (then nothing a r) (S.begin (record { atom = a; relation = r }))
    grown : {l : Prefix} {s : S.Standing} {a r : ℕ} → StandingOf l s → member a S.live ≡ true → r < S.relations
        → StandingOf (then l a r) (S.onward s (record { atom = a; relation = r }))

  -- level n holds s: it is the standing of a prefix of n relations, after which a left occurrence is possible ("Standings")
  abbrev pub Holds : ℕ → S.Standing → Type 0
  Holds n s = (l : Prefix) × StandingOf l s × (relations_in l ≡ n) × (S.possible s ≡ true)

  -- s stands in one of the levels 1 to n ("Standings")
  abbrev pub Within : ℕ → S.Standing → Type 0
  Within n s = (m : ℕ) × (m ≤ n) × Holds m s

  -- no word shorter than n refutes ("Standings")
  abbrev pub NoneShorter : ℕ → Type 0
  NoneShorter n = (v : Word) → Guarded S.live S.relations v → size v < n → refuting S v ≡ false

  -- levels 1 to n hold at most, or more than, so many distinct standings ("Standings")
  abbrev pub AtMost : ℕ → ℕ → Type 0
  AtMost n c = (ss : List S.Standing) → Distinct ss → ((s : S.Standing) → In s ss → Within n s) → length ss ≤ c

  -- levels 1 to n hold more than c distinct standings ("Standings")
  abbrev pub MoreThan : ℕ → ℕ → Type 0
  MoreThan n c = (ss : List S.Standing) × Distinct ss × ((s : S.Standing) → In s ss → Within n s) × (c < length ss)

  -- level m holds a standing that no earlier level holds ("Standings")
  abbrev pub FreshAt : ℕ → Type 0
  FreshAt m = (s : S.Standing) × Holds m s × ((k : ℕ) → k < m → Holds k s → ⊥)

  -- proved: no word of any length refutes, and the list has each standing of a prefix once, within the allowance ("Standings")
  abbrev pub ProvedBy : ℕ → List S.Standing → Type 0
  ProvedBy allowance ss =
      ((v : Word) → Guarded S.live S.relations v → refuting S v ≡ false)
      × Distinct ss
      × ((s : S.Standing) → In s ss ↔ ((n : ℕ) × Holds n s))
      × (length ss ≤ allowance)

  -- refuted: the word refutes, no shorter one does, none of its length that comes first does, and the levels up to it keep to the
  -- allowance ("Standings")
  abbrev pub RefutedBy : ℕ → Word → Type 0
  RefutedBy allowance w =
      Guarded S.live S.relations w
      × (refuting S w ≡ true)
      × NoneShorter (size w)
      × ((v : Word) → Guarded S.live S.relations v → size v ≡ size w → refuting S v ≡ true → NotAfter (numbers w) (numbers v))
      × AtMost (size w) allowance

  -- spent: at some n levels 1 to n hold more than the allowance, no word shorter than n refutes, and every level from 1 to n - 1 has
  -- a fresh standing ("Standings")
  abbrev pub SpentAt : ℕ → ℕ → Type 0
  SpentAt allowance n =
      MoreThan n allowance
      × NoneShorter n
      × ((m : ℕ) → 1 ≤ m → m < n → FreshAt m)

-- one of the three statements
abbrev pub Answered : System → ℕ → Type 0
Answered S allowance =
    ((ss : List S.Standing) × ProvedBy S allowance ss)
    ⊎ (((w : Word) × RefutedBy S allowance w) ⊎ ((n : ℕ) × SpentAt S allowance n))

-- one of them holds, and no two
pub record ExactlyOne (S : System) (allowance : ℕ) : Type 0 where
  pub one : Answered S allowance
  pub not_proved_and_refuted : (ss : List S.Standing) (w : Word) → ProvedBy S allowance ss → RefutedBy S allowance w → ⊥
  pub not_proved_and_spent : (ss : List S.Standing) (n : ℕ) → ProvedBy S allowance ss → SpentAt S allowance n → ⊥
  pub not_refuted_and_spent : (w : Word) (n : ℕ) → RefutedBy S allowance w → SpentAt S allowance n → ⊥
