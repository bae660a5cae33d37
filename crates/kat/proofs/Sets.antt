-- Sets as rising lists: who is a member of a range, of a filtered list, of a mapped one, and what `some` and `every` say of members.
-- Membership is the test `member a l ≡ true` for numbers and `In x l` for any type.
-- Assumes nothing.
use Prim.Native.Nat.{ℕ, zero, suc, ◌+◌, ◌-◌, ◌≤◌, ◌<◌}
use native.Mathlib.Nat.{eq-or-lt_of_le}
use native.Mathlib.Omega.{arith}
use mathlib.Core.Path.{◌≡◌, refl, sym, ◌∙◌, ap, subst}
use mathlib.Core.Logic.{◌⊎◌, ⊎_elim}
use mathlib.Core.Logic.◌⊎◌.{inl, inr}
use mathlib.Core.Bool.{Bool, true, false, cond, true≢false}
use mathlib.Core.List.{List, [], ◌∷◌, ◌++◌, map}
use lib.Dec.{eqb}
use lib.ListN.{length, get_or}
use borrow.Author.Tests.{eqb-true, eq-eqb}
use Rattle.kat.specs.Lists.{In, here, there, counted, upto, member, filter, some, every}
use Rattle.kat.proofs.Bools.{or_cases, or_left, or_right, and_left, and_right, and_both}

-- numbers: the test and the membership are the same
pub member_in : (a : ℕ) (l : List ℕ) → member a l ≡ true → In a l
member_in a [] e = absurd (true≢false (sym e))
member_in a (b ∷ bs) e =
    ⊎_elim (λ h. here (eqb-true a b h)) (λ h. there (member_in a bs h)) (or_cases (eqb a b) (member a bs) e)

pub in_member : (a : ℕ) {l : List ℕ} → In a l → member a l ≡ true
in_member a (here {y = b} {l = bs} e) = or_left (member a bs) (eq-eqb a b e)
in_member a (there {y = b} h) = or_right (eqb a b) (in_member a h)

module _ {A : Type 0} where
  pub some_in : (p : A → Bool) (l : List A) → some p l ≡ true → (x : A) × In x l × (p x ≡ true)
  some_in p [] e = absurd (true≢false (sym e))
  some_in p (y ∷ ys) e = go (or_cases (p y) (some p ys) e) (some_in p ys)
    where
      go : (p y ≡ true) ⊎ (some p ys ≡ true) → (some p ys ≡ true → (x : A) × In x ys × (p x ≡ true))
          → (x : A) × In x (y ∷ ys) × (p x ≡ true)
      go (inl h) k = (y, here refl, h)
      go (inr h) k = let (x, i, q) = k h in (x, there i, q)

  pub in_some : (p : A → Bool) {x : A} {l : List A} → In x l → p x ≡ true → some p l ≡ true
  in_some p (here {y = y} {l = ys} e) h = or_left (some p ys) (subst (λ z. p z ≡ true) e h)
  in_some p (there {y = y} i) h = or_right (p y) (in_some p i h)

  pub every_in : (p : A → Bool) {x : A} {l : List A} → every p l ≡ true → In x l → p x ≡ true
  every_in p {x} {l = y ∷ ys} e (here q) = subst (λ z. p z ≡ true) (sym q) (and_left (p y) (every p ys) e)
  every_in p {x} {l = y ∷ ys} e (there i) = every_in p (and_right (p y) (every p ys) e) i
  every_in p {x = x} {l = []} e x6 = elim x6 [ ]

  pub in_every : (p : A → Bool) (l : List A) → ((x : A) → In x l → p x ≡ true) → every p l ≡ true
  in_every p [] h = refl
  in_every p (y ∷ ys) h = and_both (h y (here refl)) (in_every p ys (λ x i. h x (there i)))

  pub filter_in : (p : A → Bool) {x : A} (l : List A) → In x (filter p l) → In x l × (p x ≡ true)
  filter_in p {x} [] i = elim i [ ]
  filter_in p {x} (y ∷ ys) i = go (p y) refl i (filter_in p ys)
    where
      go : (b : Bool) → p y ≡ b → In x (cond b (y ∷ filter p ys) (filter p ys))
          → (In x (filter p ys) → In x ys × (p x ≡ true)) → In x (y ∷ ys) × (p x ≡ true)
      go true e (here q) k = (here q, subst (λ z. p z ≡ true) (sym q) e)
      go true e (there j) k = let (m, h) = k j in (there m, h)
      go false e j k = let (m, h) = k j in (there m, h)

  pub in_filter : (p : A → Bool) {x : A} {l : List A} → In x l → p x ≡ true → In x (filter p l)
  in_filter p (here {y = y} {l = ys} e) h = rw (subst (λ z. p z ≡ true) e h) (here e)
  in_filter p {x} (there {y = y} {l = ys} i) h = go (p y) (in_filter p i h)
    where
      go : (b : Bool) → In x (filter p ys) → In x (cond b (y ∷ filter p ys) (filter p ys))
      go true j = there j
      go false j = j

  -- tests that agree on the list
  pub filter_same : (p q : A → Bool) (l : List A) → ((x : A) → In x l → p x ≡ q x) → filter p l ≡ filter q l
  filter_same p q [] h = refl
  filter_same p q (x ∷ xs) h = rw (h x (here refl), filter_same p q xs (λ y i. h y (there i)))

  pub some_same : (p q : A → Bool) (l : List A) → ((x : A) → In x l → p x ≡ q x) → some p l ≡ some q l
  some_same p q [] h = refl
  some_same p q (x ∷ xs) h = rw (h x (here refl), some_same p q xs (λ y i. h y (there i)))

  -- a test that nothing passes
  pub some_none : (p : A → Bool) (l : List A) → ((x : A) → p x ≡ false) → some p l ≡ false
  some_none p [] h = refl
  some_none p (x ∷ xs) h = rw (h x) (some_none p xs h)

  pub filter_none : (p : A → Bool) (l : List A) → ((x : A) → p x ≡ false) → filter p l ≡ []
  filter_none p [] h = refl
  filter_none p (x ∷ xs) h = rw (h x) (filter_none p xs h)

  pub in_append_left : {x : A} {l : List A} (m : List A) → In x l → In x (l ++ m)
  in_append_left m (here e) = here e
  in_append_left m (there i) = there (in_append_left m i)

  pub in_append_right : {x : A} (l : List A) {m : List A} → In x m → In x (l ++ m)
  in_append_right [] i = i
  in_append_right (y ∷ ys) i = there (in_append_right ys i)

  pub in_append : {x : A} (l : List A) {m : List A} → In x (l ++ m) → In x l ⊎ In x m
  in_append [] i = inr i
  in_append (y ∷ ys) (here e) = inl (here e)
  in_append (y ∷ ys) (there i) = ⊎_elim (λ h. inl (there h)) (λ h. inr h) (in_append ys i)

module _ {A B : Type 0} where
  pub in_map : (f : A → B) {x : A} {l : List A} → In x l → In (f x) (map f l)
  in_map f (here e) = here (ap f e)
  in_map f (there i) = there (in_map f i)

  pub map_in : (f : A → B) {y : B} (l : List A) → In y (map f l) → (x : A) × In x l × (y ≡ f x)
  map_in f [] i = elim i [ ]
  map_in f (x ∷ xs) (here e) = (x, here refl, e)
  map_in f (x ∷ xs) (there i) = let (z, j, e) = map_in f xs i in (z, there j, e)

  -- functions that agree on the list
  pub map_same : (f g : A → B) (l : List A) → ((x : A) → In x l → f x ≡ g x) → map f l ≡ map g l
  map_same f g [] h = refl
  map_same f g (x ∷ xs) h = rw (h x (here refl), map_same f g xs (λ y i. h y (there i)))

-- ranges
pub in_counted : (a i n : ℕ) → i ≤ a → a < i + n → In a (counted i n)
in_counted a i zero h k = absurd (omega arith)
in_counted a i (suc n) h k =
    ⊎_elim (λ e. here (sym e)) (λ e. there (in_counted a (suc i) n e (omega arith))) (eq-or-lt_of_le h)

pub counted_in_lem : (a i n : ℕ) → In a (counted i n) → (i ≤ a) × (a < i + n)
counted_in_lem a i zero h = elim h [ ]
counted_in_lem a i (suc n) (here e) = (omega arith, omega arith)
counted_in_lem a i (suc n) (there h) = let (p, q) = counted_in_lem a (suc i) n h in (omega arith, omega arith)

pub in_upto : (a i e : ℕ) → i ≤ a → a < e → In a (upto i e)
in_upto a i e h k = in_counted a i (e - i) h (omega arith)

pub upto_in : (a i e : ℕ) → In a (upto i e) → (i ≤ a) × (a < e)
upto_in a i e h = let (p, q) = counted_in_lem a i (e - i) h in (p, omega arith)

pub counted_length : (i n : ℕ) → length (counted i n) ≡ n
counted_length i zero = refl
counted_length i (suc n) = ap suc (counted_length (suc i) n)

pub upto_length : (n : ℕ) → length (upto 0 n) ≡ n
upto_length n = counted_length 0 (n - 0) ∙ omega arith

-- the place j of a mapped range, and beyond its end
module _ {A : Type 0} (g : ℕ → A) (d : A) where
  at_counted : (i n j : ℕ) → j < n → get_or (map g (counted i n)) j d ≡ g (i + j)
  at_counted i zero j h = absurd (omega arith)
  at_counted i (suc n) zero h = ap g (omega arith)
  at_counted i (suc n) (suc j) h = at_counted (suc i) n j (omega arith) ∙ ap g (omega arith)

  past_counted : (i n j : ℕ) → n ≤ j → get_or (map g (counted i n)) j d ≡ d
  past_counted i zero j h = refl
  past_counted i (suc n) zero h = absurd (omega arith)
  past_counted i (suc n) (suc j) h = past_counted (suc i) n j (omega arith)

  pub at_upto : (n j : ℕ) → j < n → get_or (map g (upto 0 n)) j d ≡ g j
  at_upto n j h = at_counted 0 (n - 0) j (omega arith) ∙ ap g (omega arith)

  pub past_upto : (n j : ℕ) → n ≤ j → get_or (map g (upto 0 n)) j d ≡ d
  past_upto n j h = past_counted 0 (n - 0) j (omega arith)
