-- Candidates left out without loss. A list of candidates is thinned where some of them are left out, each with a standing that is not
-- possible or that one before it has; the one before may itself have been left out. Such a candidate is never fresh, and it is listed
-- where those before it are, so neither the search nor the check of a sheet tells the two lists apart. A sorted list is thinned by a
-- test where each member that fails has a standing that is not possible or that of a sooner member.
-- Assumes nothing.
use mathlib.Core.Path.{◌≡◌, refl, sym, ◌∙◌, ap, subst}
use mathlib.Core.Logic.{◌⊎◌}
use mathlib.Core.Logic.◌⊎◌.{inl, inr}
use mathlib.Core.Bool.{Bool, true, false, not, cond, ◌&&◌}
use mathlib.Core.List.{List, [], ◌∷◌, ◌++◌, map}
use Rattle.kat.specs.Lists.{In, here, there, filter, every}
use Rattle.kat.proofs.Bools.{true_not_false, and_both, false_not_true}
use Rattle.verdicts.specs.Standings.{System}
use Rattle.verdicts.specs.Search.{Entry, seen_in, fresh}
use Rattle.verdicts.specs.Passing.{listed}
use Rattle.verdicts.specs.Lawful.{Lawful}
use Rattle.verdicts.specs.Orders.{Pairwise}
use Rattle.verdicts.proofs.Fresh.{standings, seen_in_lem, in_seen, keeps, kept, dropped}

module _ (S : System) where
  -- a standing that is not possible, or one of those passed
  abbrev pub Spare : List S.Standing → S.Standing → Type 0
  Spare passed s = (S.possible s ≡ false) ⊎ In s passed

  -- the second list is the first with some members left out; passed are the standings of all members before
  pub data Thinned {A : Type 0} (f : A → S.Standing) : List S.Standing → List A → List A → Type 0 where
    none : {passed : List S.Standing} → Thinned f passed [] []
    keep : {passed : List S.Standing} {x : A} {xs ys : List A} → Thinned f (f x ∷ passed) xs ys
        → Thinned f passed (x ∷ xs) (x ∷ ys)
    leave : {passed : List S.Standing} {x : A} {xs ys : List A} → Spare passed (f x) → Thinned f (f x ∷ passed) xs ys
        → Thinned f passed (x ∷ xs) ys

  more_spare : {passed more : List S.Standing} {s : S.Standing} → ((t : S.Standing) → In t passed → In t more)
      → Spare passed s → Spare more s
  more_spare h (inl e) = inl e
  more_spare {s = s} h (inr i) = inr (h s i)

  wider : {passed more : List S.Standing} (s : S.Standing) → ((t : S.Standing) → In t passed → In t more)
      → (t : S.Standing) → In t (s ∷ passed) → In t (s ∷ more)
  wider s h t (here e) = here e
  wider s h t (there i) = there (h t i)

  module _ {A : Type 0} (f : A → S.Standing) where
    -- more may have passed
    pub thinned_more : {passed more : List S.Standing} {xs ys : List A} → ((t : S.Standing) → In t passed → In t more)
        → Thinned f passed xs ys → Thinned f more xs ys
    thinned_more h none = none
    thinned_more h (keep {x = x} t) = keep (thinned_more (wider (f x) h) t)
    thinned_more h (leave {x = x} n t) = leave (more_spare h n) (thinned_more (wider (f x) h) t)

    -- one list after another
    pub thinned_append : {passed : List S.Standing} {xs ys us vs : List A} → Thinned f passed xs ys → Thinned f [] us vs
        → Thinned f passed (xs ++ us) (ys ++ vs)
    thinned_append none u = thinned_more (λ t i. elim i [ ]) u
    thinned_append (keep t) u = keep (thinned_append t u)
    thinned_append (leave n t) u = leave n (thinned_append t u)

  -- the images of both lists
  pub thinned_map : {A B : Type 0} (f : A → S.Standing) (g : B → S.Standing) (m : A → B) → ((x : A) → g (m x) ≡ f x)
      → {passed : List S.Standing} {xs ys : List A} → Thinned f passed xs ys → Thinned g passed (map m xs) (map m ys)
  thinned_map f g m h none = none
  thinned_map f g m h {passed} (keep {x = x} {xs = xs} {ys = ys} t) =
      keep (subst (λ s. Thinned g (s ∷ passed) (map m xs) (map m ys)) (sym (h x)) (thinned_map f g m h t))
  thinned_map f g m h {passed} (leave {x = x} {xs = xs} {ys = ys} n t) =
      leave (subst (Spare passed) (sym (h x)) n)
      (subst (λ s. Thinned g (s ∷ passed) (map m xs) (map m ys)) (sym (h x)) (thinned_map f g m h t))

  -- a sorted list, thinned by a test
  module _ {A : Type 0} (R : A → A → Type 0) (apart : (x y : A) → R x y → R y x → ⊥) (f : A → S.Standing) (t : A → Bool) where
    -- the standing of x is not possible, or one of those passed, or that of a sooner member
    abbrev pub Led : List S.Standing → List A → A → Type 0
    Led passed xs x = Spare passed (f x) ⊎ ((y : A) × In y xs × R y x × (f y ≡ f x))

    led_by_none : {passed : List S.Standing} (x : A) (xs : List A) → Pairwise R (x ∷ xs) → Led passed (x ∷ xs) x
        → Spare passed (f x)
    led_by_none x xs p (inl n) = n
    led_by_none x xs p (inr (y, here e, h, q)) = absurd (apart y x h (subst (λ z. R z y) e (subst (λ z. R y z) (sym e) h)))
    led_by_none x xs p (inr (y, there i, h, q)) = absurd (apart x y (p.0 y i) h)

    led_behind : {passed : List S.Standing} (x z : A) (xs : List A) → Led passed (x ∷ xs) z → Led (f x ∷ passed) xs z
    led_behind x z xs (inl (inl e)) = inl (inl e)
    led_behind x z xs (inl (inr i)) = inl (inr (there i))
    led_behind x z xs (inr (y, here e, h, q)) = inl (inr (here (sym q ∙ ap f e)))
    led_behind x z xs (inr (y, there i, h, q)) = inr (y, i, h, q)

    pub filter_thinned : {passed : List S.Standing} (xs : List A) → Pairwise R xs
        → ((x : A) → In x xs → t x ≡ false → Led passed xs x) → Thinned f passed xs (filter t xs)
    filter_thinned [] p h = none
    filter_thinned {passed} (x ∷ xs) p h =
        go (t x) refl (filter_thinned {passed = f x ∷ passed} xs p.1 (λ z i e. led_behind x z xs (h z (there i) e)))
      where
        go : (b : Bool) → t x ≡ b → Thinned f (f x ∷ passed) xs (filter t xs)
            → Thinned f passed (x ∷ xs) (cond b (x ∷ filter t xs) (filter t xs))
        go true e r = keep r
        go false e r = leave (led_by_none x xs p (h x (here refl) e)) r

module _ (S : System) (laws : Lawful S) where
  -- what passed and is possible was seen
  abbrev Known : List (Entry S) → List S.Standing → Type 0
  Known seen passed = (s : S.Standing) → In s passed → S.possible s ≡ true → In s (standings S seen)

  known_kept : (seen : List (Entry S)) {passed : List S.Standing} (e : Entry S) → Known seen passed
      → Known (e ∷ seen) (e.standing ∷ passed)
  known_kept seen e k s (here q) o = here q
  known_kept seen e k s (there i) o = there (k s i o)

  known_dropped : (seen : List (Entry S)) {passed : List S.Standing} (e : Entry S) → keeps S laws seen e ≡ false → Known seen passed
      → Known seen (e.standing ∷ passed)
  known_dropped seen e h k s (here q) o = seen_in_lem S laws seen s (go (seen_in S seen s) refl)
    where
      go : (b : Bool) → seen_in S seen s ≡ b → b ≡ true
      go true c = refl
      go false c =
          absurd (true_not_false (and_both o (false_not_true c)) (subst (λ t. (S.possible t && not (seen_in S seen t)) ≡ false) (sym q) h))
  known_dropped seen e h k s (there i) o = k s i o

  spare_dropped : (seen : List (Entry S)) {passed : List S.Standing} (e : Entry S) → Known seen passed → Spare S passed e.standing
      → keeps S laws seen e ≡ false
  spare_dropped seen e k (inl h) = rw h refl
  spare_dropped seen e k (inr i) = go (S.possible e.standing) refl
    where
      go : (b : Bool) → S.possible e.standing ≡ b → (b && not (seen_in S seen e.standing)) ≡ false
      go true o = rw (in_seen S laws seen e.standing (k e.standing i o)) refl
      go false o = refl

  -- the fresh of a thinned list
  pub fresh_thinned : (seen : List (Entry S)) {passed : List S.Standing} {es fs : List (Entry S)} → Known seen passed
      → Thinned S (λ e. e.standing) passed es fs → fresh S seen es ≡ fresh S seen fs
  fresh_thinned seen k none = refl
  fresh_thinned seen k (keep {x = e} {xs = es} {ys = fs} t) =
      go (keeps S laws seen e) refl (fresh_thinned (e ∷ seen) (known_kept seen e k) t)
      (λ h. fresh_thinned seen (known_dropped seen e h k) t)
    where
      go : (b : Bool) → keeps S laws seen e ≡ b → fresh S (e ∷ seen) es ≡ fresh S (e ∷ seen) fs
          → (keeps S laws seen e ≡ false → fresh S seen es ≡ fresh S seen fs) → fresh S seen (e ∷ es) ≡ fresh S seen (e ∷ fs)
      go true h p q = kept S laws seen e es h ∙ ap (λ xs. e ∷ xs) p ∙ sym (kept S laws seen e fs h)
      go false h p q = dropped S laws seen e es h ∙ q h ∙ sym (dropped S laws seen e fs h)
  fresh_thinned seen k (leave {x = e} {xs = es} n t) =
      let h : keeps S laws seen e ≡ false = spare_dropped seen e k n in
      dropped S laws seen e es h ∙ fresh_thinned seen (known_dropped seen e h k) t

module _ (S : System) (p : S.Standing → Bool) (h : (s : S.Standing) → S.possible s ≡ false → p s ≡ true) where
  spare_passes : {passed : List S.Standing} (s : S.Standing) → ((t : S.Standing) → In t passed → p t ≡ true) → Spare S passed s
      → p s ≡ true
  spare_passes s k (inl n) = h s n
  spare_passes s k (inr i) = k s i

  passes_more : {passed : List S.Standing} (s : S.Standing) → ((t : S.Standing) → In t passed → p t ≡ true) → p s ≡ true
      → (t : S.Standing) → In t (s ∷ passed) → p t ≡ true
  passes_more s k e t (here q) = subst (λ u. p u ≡ true) (sym q) e
  passes_more s k e t (there i) = k t i

  -- a test that every standing passes which is not possible: every member of a thinned list passes it where every member of the list does
  pub every_thinned : {A : Type 0} (f : A → S.Standing) {passed : List S.Standing} {xs ys : List A}
      → ((t : S.Standing) → In t passed → p t ≡ true) → Thinned S f passed xs ys
      → every (λ x. p (f x)) xs ≡ every (λ x. p (f x)) ys
  every_thinned f k none = refl
  every_thinned {A} f k (keep {x = x} {xs = xs} {ys = ys} t) =
      go (p (f x)) refl (λ e. every_thinned f (passes_more (f x) k e) t)
    where
      go : (b : Bool) → p (f x) ≡ b → (p (f x) ≡ true → every (λ y. p (f y)) xs ≡ every (λ y. p (f y)) ys)
          → (b && every (λ y. p (f y)) xs) ≡ (b && every (λ y. p (f y)) ys)
      go true e q = q e
      go false e q = refl
  every_thinned f k (leave {x = x} {xs = xs} n t) =
      let e : p (f x) ≡ true = spare_passes (f x) k n in
      rw e (every_thinned f (passes_more (f x) k e) t)

-- a thinned list is listed where the whole list is
module _ (S : System) (ss : List S.Standing) where
  spare_listed : (s : S.Standing) → S.possible s ≡ false → listed S ss s ≡ true
  unfolding listed
  spare_listed s e = rw e refl

  pub listed_thinned : {A : Type 0} (f : A → S.Standing) {xs ys : List A} → Thinned S f [] xs ys
      → every (λ x. listed S ss (f x)) xs ≡ every (λ x. listed S ss (f x)) ys
  listed_thinned f t = every_thinned S (listed S ss) spare_listed f (λ s i. elim i [ ]) t
