-- The functions on lists of numbers that the definitions of this crate and of those above it use. A finite set of numbers is the
-- list of its members in rising order, so two sets are equal exactly when their lists are.
-- Assumes nothing.
use Rattle.std.specs.Prelude.{ℕ, zero, suc, ◌-◌, ◌≡◌, Bool, true, false, cond, ◌&&◌, ◌||◌, List, [], ◌∷◌, eqb}

-- the n numbers from i on
abbrev pub counted : ℕ → ℕ → List ℕ
counted i zero = []
counted i (suc n) = i ∷ counted (suc i) n

-- the numbers from i to below e, rising
abbrev pub upto : ℕ → ℕ → List ℕ
upto i e = counted i (e - i)

-- x stands in the list
pub data In {A : Type 0} (x : A) : List A → Type 0 where
  here : {y : A} {l : List A} → x ≡ y → In x (y ∷ l)
  there : {y : A} {l : List A} → In x l → In x (y ∷ l)

-- the test whether a number stands in the list
abbrev pub member : ℕ → List ℕ → Bool
member a [] = false
member a (b ∷ bs) = eqb a b || member a bs

module _ {A : Type 0} where
  -- nothing stands in the list
  abbrev pub is_empty : List A → Bool
  is_empty [] = true
  is_empty (x ∷ xs) = false

  -- those members that pass the test, in their order
  abbrev pub filter : (A → Bool) → List A → List A
  filter p [] = []
  filter p (x ∷ xs) = cond (p x) (x ∷ filter p xs) (filter p xs)

  -- some member passes the test
  abbrev pub some : (A → Bool) → List A → Bool
  some p [] = false
  some p (x ∷ xs) = p x || some p xs

  -- every member passes the test
  abbrev pub every : (A → Bool) → List A → Bool
  every p [] = true
  every p (x ∷ xs) = p x && every p xs
