-- A chain of operands with one operator between them, as a loop reads it: it waits for an operand, with what stands left of it, or with
-- nothing yet. Union and meet of tests, union and sequence of expressions are such chains.
-- Assumes nothing.
use Prim.Native.Nat.{ℕ, zero, suc, ◌+◌, ◌*◌, ◌-◌, ◌≤◌}
use native.Mathlib.Omega.{arith}
use mathlib.Core.Path.{◌≡◌, refl, sym}
use mathlib.Core.Bool.{true, false}
use mathlib.Core.List.{List, [], ◌∷◌, ◌++◌, append-nil}
use mathlib.Core.Option.{Option, some, none}
use lib.ListN.{length, drop, replicate}
use Rattle.claims.specs.Tokens.{Token, tokens}
use Rattle.claims.specs.Grammar.{Found, got, and_then, goes_on, past}
use Rattle.claims.specs.Names.{Use}
use Rattle.claims.specs.Query.{Query}
use Rattle.read_tests.specs.declared.Place.{Place}
use Rattle.read_tests.specs.Places.{Told}
use Rattle.read_names.specs.Keys.{Knows}
use Rattle.read_tests.proofs.Told.{told_nothing}

pub record Chain (A : Type 0) : Type 0 where
  pub whole : ℕ → ℕ → List Token → Found A
  pub operand : ℕ → ℕ → List Token → Found A
  pub more : ℕ → ℕ → A → List Token → Found A
  pub join : A → A → A
  pub sign : ℕ
  pub code : ℕ
  pub codes : Query → A → List ℕ
  pub uses : A → List Use

-- the grammar reads an operand, and then an operator and an operand again and again; the operator's code stands behind its operands'
pub record Chained {A : Type 0} (C : Chain A) : Type 0 where
  pub first : (n d : ℕ) (ts : List Token) → C.whole (suc n) d ts ≡ and_then (C.operand n d ts) (λ t us. C.more n d t us)
  pub step : (n d : ℕ) (t : A) (ts : List Token)
      → C.more (suc n) d t ts
      ≡ elim (goes_on C.sign ts) [
        | true ↦ and_then (C.operand n d (past ts)) (λ u us. C.more n d (C.join t u) us)
        | false ↦ got t ts
      ]
  pub codes_join : (q : Query) (t u : A) → C.codes q (C.join t u) ≡ (C.codes q t ++ C.codes q u) ++ (C.code ∷ [])
  pub uses_join : (t u : A) → C.uses (C.join t u) ≡ C.uses t ++ C.uses u

module _ {A : Type 0} {C : Chain A} (L : Chained C) (n d : ℕ) (t : A) (ts : List Token) where
  pub goes_further : goes_on C.sign ts ≡ true
      → C.more (suc n) d t ts ≡ and_then (C.operand n d (past ts)) (λ u us. C.more n d (C.join t u) us)
  goes_further h = rw (L.step n d t ts, h)

  pub ends_here : goes_on C.sign ts ≡ false → C.more (suc n) d t ts ≡ got t ts
  ends_here h = rw (L.step n d t ts, h)

module _ {A : Type 0} (C : Chain A) where
  -- an operand, with what stands left of it
  abbrev pub joined : Option A → A → A
  joined none u = u
  joined (some t) u = C.join t u

  abbrev pub left_codes : Query → Option A → List ℕ
  left_codes q none = []
  left_codes q (some t) = C.codes q t

  abbrev pub left_uses : Option A → List Use
  left_uses none = []
  left_uses (some t) = C.uses t

  -- how many operators are still to be written behind the operand
  abbrev pub owed : Option A → ℕ
  owed none = 0
  owed (some t) = 1

  module _ (L : Chained C) where
    pub joined_codes : (q : Query) (o : Option A) (u : A) → (left_codes q o ++ C.codes q u) ++ replicate (owed o) C.code ≡ C.codes q (joined o u)
    joined_codes q none u = append-nil (C.codes q u)
    joined_codes q (some t) u = sym (L.codes_join q t u)

    pub joined_uses : (o : Option A) (u : A) → left_uses o ++ C.uses u ≡ C.uses (joined o u)
    joined_uses none u = refl
    joined_uses (some t) u = sym (L.uses_join t u)

-- The loop waits for an operand at `place`, with `more` operators to be written behind it. The grammar, with depth of calls enough, has
-- come as far.
pub record Waiting {A : Type 0} (C : Chain A) (d k : ℕ) (s names : List ℕ) (n : ℕ) (p : Place) (before : List ℕ) (place : Place) (more : ℕ)
    (now : List ℕ) : Type 0 where
  pub laws : Chained C
  pub left : Option A
  pub owes : more ≡ owed C left
  pub reads : (f : ℕ) → 8 * length (tokens (drop p.at s)) + suc k ≤ f
      → (g : ℕ) × (8 * length (tokens (drop place.at s)) + k ≤ g)
      × (C.whole f d (tokens (drop p.at s))
      ≡ and_then (C.operand g d (tokens (drop place.at s))) (λ u us. C.more g d (joined C left u) us))
  pub told : (q : Query) → Knows names n q → Told q p before now place (left_codes C q left) (left_uses C left)
  pub onward : p.at ≤ place.at
  pub room : place.used + more + (length s - place.at) ≤ p.used + (length s - p.at)
  pub fewer : length (tokens (drop place.at s)) ≤ length (tokens (drop p.at s))

module _ {A : Type 0} (C : Chain A) (d k : ℕ) (s names : List ℕ) (n : ℕ) (p : Place) (before : List ℕ) where
  pub chain_start : Chained C → Waiting C d k s names n p before p 0 before
  chain_start L =
      record {
        laws = L;
        left = none;
        owes = refl;
        reads = start;
        told = λ q known. told_nothing q p before;
        onward = omega arith;
        room = omega arith;
        fewer = omega arith;
      }
    where
      start : (f : ℕ) → 8 * length (tokens (drop p.at s)) + suc k ≤ f
          → (g : ℕ) × (8 * length (tokens (drop p.at s)) + k ≤ g)
          × (C.whole f d (tokens (drop p.at s)) ≡ and_then (C.operand g d (tokens (drop p.at s))) (λ u us. C.more g d u us))
      start zero h = absurd (omega arith)
      start (suc g) h = (g, omega arith, L.first g d (tokens (drop p.at s)))
