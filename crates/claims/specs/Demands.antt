-- What an answer of the search says, by the languages alone. (Document 01, "Standings".)
-- Assumes nothing.
use Rattle.std.specs.Prelude.{ℕ, ◌≤◌, ◌<◌, ◌≡◌, ◌⊎◌, ◌↔◌, List, length}
use Rattle.kat.specs.Lists.{In}
use Rattle.kat.specs.Word.{Word, size, numbers}
use Rattle.notation.specs.Sides.{Decision}
use Rattle.verdicts.specs.Standings.{System}
use Rattle.notation.specs.Words.{Refutes}
use Rattle.verdicts.specs.Verdicts.{Distinct, NotAfter, Holds, AtMost, MoreThan, FreshAt}
use Rattle.notation.specs.Refusals.{spent_allowance, Result, ok, refused, refuse}
use Rattle.claims.specs.Calls.{Answer, proved_with, refuted_by, Given}

-- proved, with the count c
pub record MeansProved (D : Decision) (S : System) (allowance c : ℕ) : Type 0 where
  pub none_refutes : (w : Word) → Refutes D w → ⊥
  pub standings : List S.Standing
  pub distinct : Distinct standings
  pub all : (s : S.Standing) → In s standings ↔ ((n : ℕ) × Holds S n s)
  pub count : length standings ≡ c
  pub allowed : c ≤ allowance

-- refuted, with the word w: it refutes, no shorter one does, none of its length comes first, and the levels up to it keep to the allowance
pub record MeansRefuted (D : Decision) (S : System) (allowance : ℕ) (w : Word) : Type 0 where
  pub refutes : Refutes D w
  pub none_shorter : (v : Word) → Refutes D v → size v < size w → ⊥
  pub none_before : (v : Word) → Refutes D v → size v ≡ size w → NotAfter (numbers w) (numbers v)
  pub allowed : AtMost S (size w) allowance

-- spent, at level n
pub record MeansSpent (D : Decision) (S : System) (allowance n : ℕ) : Type 0 where
  pub more : MoreThan S n allowance
  pub none_shorter : (v : Word) → Refutes D v → size v < n → ⊥
  pub fresh : (m : ℕ) → 1 ≤ m → m < n → FreshAt S m

-- what an answer means
abbrev pub AnswerMeans : Decision → System → ℕ → Answer → Type 0
AnswerMeans D S allowance (proved_with c) = MeansProved D S allowance c
AnswerMeans D S allowance (refuted_by w) = MeansRefuted D S allowance w

-- of the three meanings one holds, and no two
pub record OneMeaning (D : Decision) (S : System) (allowance : ℕ) : Type 0 where
  pub one : ((c : ℕ) × MeansProved D S allowance c)
      ⊎ (((w : Word) × MeansRefuted D S allowance w) ⊎ ((n : ℕ) × MeansSpent D S allowance n))
  pub not_proved_and_refuted : (c : ℕ) (w : Word) → MeansProved D S allowance c → MeansRefuted D S allowance w → ⊥
  pub not_proved_and_spent : (c n : ℕ) → MeansProved D S allowance c → MeansSpent D S allowance n → ⊥
  pub not_refuted_and_spent : (w : Word) (n : ℕ) → MeansRefuted D S allowance w → MeansSpent D S allowance n → ⊥

-- the result is the one that the meanings fix: the answer exactly when it holds of the words, refusal 10 exactly when the allowance is spent
pub record FixedByWords (D : Decision) (S : System) (allowance : ℕ) (r : Result Answer) : Type 0 where
  pub exactly_one : OneMeaning D S allowance
  pub proved : (c : ℕ) → (r ≡ ok (proved_with c)) ↔ MeansProved D S allowance c
  pub refuted : (w : Word) → (r ≡ ok (refuted_by w)) ↔ MeansRefuted D S allowance w
  pub spent : (r ≡ refuse spent_allowance 0) ↔ ((n : ℕ) × MeansSpent D S allowance n)

-- the answer of a search, without its sheet
abbrev pub answer_alone : Result Given → Result Answer
answer_alone (ok g) = ok g.answer
answer_alone (refused r) = refused r
