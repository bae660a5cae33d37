-- Rings by turns: what it means that a prefix leads once or more round, that an atom of it is a word, and that a part after and a part
-- before an atom strictly inside meet there. (Document 01, "Standings".) `covered_by_turns` of `proofs/` joins them to `Covered`.
-- Assumes nothing.
use Rattle.std.specs.Prelude.{ℕ, zero, suc, ◌≡◌, ◌⊎◌, true}
use Rattle.kat.specs.Expr.{Expr}
use Rattle.kat.specs.Graph.{Plus}
use Rattle.kat.specs.Ring.{Prefix, nothing, then, join, start}
use Rattle.kat.specs.Tables.{stop, null}
use Rattle.kat.specs.Way.{Way}

-- the prefix has a relation
abbrev pub NonEmpty : Prefix → Type 0
NonEmpty nothing = ⊥
NonEmpty (then l a r) = Unit {0}

module _ (E : Expr) (l : Prefix) where
  -- from p, n turns lead to q
  abbrev pub Turns : ℕ → ℕ → ℕ → Type 0
  Turns zero p q = p ≡ q
  Turns (suc n) p q = (o : ℕ) × Turns n p o × Way E o l q

  -- one turn
  abbrev pub Turn : ℕ → ℕ → Type 0
  Turn p q = Way E p l q

  -- none or more turns
  abbrev pub Round : ℕ → ℕ → Type 0
  Round p q = (p ≡ q) ⊎ Plus Turn p q

module _ (E : Expr) (b : ℕ) (l : Prefix) where
  -- an atom before one of the relations is a word
  abbrev pub AtomIsWord : Type 0
  AtomIsWord = (u : Prefix) × (v : Prefix) × (l ≡ join u v) × NonEmpty v × (null E (start b v) ≡ true)

  -- one or more turns from the first atom
  abbrev pub FromStart : Type 0
  FromStart = (q : ℕ) × Plus (Turn E l) 0 q × (stop E q (start b l) ≡ true)

  -- at an atom strictly inside, q is reached from 0 by the part after it, and from p the part before it reaches an occurrence that may
  -- end there
  abbrev pub Pair : ℕ → ℕ → Type 0
  Pair q p =
      (u : Prefix) × (v : Prefix) × (l ≡ join u v) × NonEmpty u × NonEmpty v
      × Way E 0 v q × ((o : ℕ) × Way E p u o × (stop E o (start b v) ≡ true))

  abbrev pub FromInside : Type 0
  FromInside = (q : ℕ) × (p : ℕ) × Pair q p × Round E l q p
