-- An index over the standings that a part of a sheet lists, to ask whether one is listed. (Document 01, "Sheet and graph bytes".) Each
-- standing falls into a slot, by a hash of its cells. For each slot the index has the last standing that fell into it, and for each
-- standing the one before it in its slot. The place of a standing is 1 and its number, counted from 0, and 0 is none. The slots have the same name
-- in the code.
-- Assumes nothing.
use Rattle.std.specs.Prelude.{ℕ, zero, suc, ◌+◌, ◌*◌, ◌/◌, ◌%◌, ◌≤◌, ◌<◌, ◌≡◌, Bool, cond, Option, Some, None, List, [], ◌∷◌, eqb, length, get_or}
use Rattle.layout.specs.Layout.{MOST-STANDINGS}

-- the slots of the index
abbrev pub SLOTS : ℕ
SLOTS = 8192

-- the place of the last number below n that passes ("Sheet and graph bytes")
unfoldable pub last_where : (ℕ → Bool) → ℕ → ℕ
last_where p zero = 0
last_where p (suc n) = cond (p n) (suc n) (last_where p n)

-- the number that a place has, and none of the place 0 ("Sheet and graph bytes")
abbrev pub numbered : ℕ → Option ℕ
numbered zero = None
numbered (suc i) = Some i

-- a hash with one cell more; it is below 2 to the 32 ("Sheet and graph bytes")
unfoldable pub mixed : ℕ → ℕ → ℕ
mixed h c = (h + c % 4294967296) * 2146121005 / 1048576 % 4294967296

-- a hash with all of the cells ("Sheet and graph bytes")
unfoldable pub hash_from : ℕ → List ℕ → ℕ
hash_from h [] = h
hash_from h (c ∷ cs) = hash_from (mixed h c) cs

-- the slot of a standing, by its cells ("Sheet and graph bytes")
unfoldable pub slot_of : List ℕ → ℕ
slot_of cells = hash_from 0 cells % SLOTS

-- standing i falls into slot h ("Sheet and graph bytes")
unfoldable pub falls_into : (ℕ → List ℕ) → ℕ → ℕ → Bool
falls_into listed h i = eqb (slot_of (listed i)) h

-- the index of the first n standings: for each slot the place of the last that fell into it, for each standing that of the one before it
-- there, and 0 behind them ("Sheet and graph bytes")
pub record Indexed (heads chain : List ℕ) (listed : ℕ → List ℕ) (n : ℕ) : Type 0 where
  pub slots : length heads ≡ SLOTS
  pub room : length chain ≡ MOST-STANDINGS
  pub head : (h : ℕ) → h < SLOTS → get_or heads h 0 ≡ last_where (falls_into listed h) n
  pub link : (i : ℕ) → i < n → get_or chain i 0 ≡ last_where (falls_into listed (slot_of (listed i))) i
  pub unused : (i : ℕ) → n ≤ i → i < MOST-STANDINGS → get_or chain i 0 ≡ 0
