-- The tests at the end of a line say whether the graph breaks it: a `within` line by what goes from T to U, a `closed` one by two edges in a
-- row, and the others by a pair, an event with itself, or an event.
-- Assumes nothing.
use Prim.Native.Nat.{ℕ, ◌≤◌, ◌<◌}
use native.Mathlib.Omega.{arith}
use mathlib.Core.Path.{◌≡◌, refl, sym, ◌∙◌, ap, subst}
use mathlib.Core.Bool.{Bool, true, false, not, ◌&&◌, and-true}
use mathlib.Core.List.{List}
use lib.Dec.{eqb, ltb}
use lib.ListN.{length}
use borrow.Author.Tests.{eqb-true, eq-eqb}
use Rattle.kat.specs.Lists.{upto, some}
use Rattle.kat.specs.Graph.{Finite}
use Rattle.kat.proofs.Bools.{and_left, and_right, and_both, bool_ext}
use Rattle.kat.proofs.Sets.{some_in, in_some, some_same, in_upto, upto_in}
use Rattle.claims.specs.Judgement.{events, some_pair}
use Rattle.rows.specs.Rows.{blank, composed, NOWHERE, lowest_pair}
use Rattle.rows.proofs.Shown.{eqb_turned, Shows, shows_same, shows_blank, shows_composed}
use Rattle.rows.proofs.Lowest.{some_pair_apart}

and_assoc : (a b c : Bool) → ((a && b) && c) ≡ (a && (b && c))
and_assoc true b c = refl
and_assoc false b c = refl

swapped : (a b c : Bool) → (a && (b && c)) ≡ (b && (a && c))
swapped true b c = refl
swapped false true c = refl
swapped false false c = refl

within : (e t u : Bool) → (e && not ((t && e) && u)) ≡ (e && not (t && u))
within true true u = refl
within true false u = refl
within false t u = refl

-- one of the numbers below k
pub some_one : (r k : ℕ) (p : ℕ → Bool) → r < k → some (λ s. eqb r s && p s) (upto 0 k) ≡ p r
some_one r k p h =
    bool_ext (some (λ s. eqb r s && p s) (upto 0 k)) (p r)
    (λ e.
    let (s, i, b) = some_in (λ s. eqb r s && p s) (upto 0 k) e in
    subst (λ x. p x ≡ true) (sym (eqb-true r s (and_left (eqb r s) (p s) b))) (and_right (eqb r s) (p s) b))
    (λ e. in_some (λ s. eqb r s && p s) {x = r} (in_upto r 0 k (omega arith) h) (and_both (eq-eqb r r refl) e))

-- two tests on pairs that agree below n
pub some_pairs : (n : ℕ) (f g : ℕ → ℕ → Bool) → ((x y : ℕ) → x < n → y < n → f x y ≡ g x y)
    → some (λ x. some (f x) (upto 0 n)) (upto 0 n) ≡ some (λ x. some (g x) (upto 0 n)) (upto 0 n)
some_pairs n f g e =
    some_same (λ x. some (f x) (upto 0 n)) (λ x. some (g x) (upto 0 n)) (upto 0 n)
    (λ x i. some_same (f x) (g x) (upto 0 n) (λ y j. e x y (upto_in x 0 n i).1 (upto_in y 0 n j).1))

module _ (G : Finite) (n : ℕ) (size : length G.atoms ≡ n) where
  -- some pair of the events
  pub pairs_of_events : (f : ℕ → ℕ → Bool) → some (λ x. some (f x) (upto 0 n)) (upto 0 n) ≡ some_pair G f
  unfolding some_pair events
  pairs_of_events f = ap (λ m. some (λ x. some (f x) (upto 0 m)) (upto 0 m)) (sym size)

  module _ (fits : n ≤ 64) where
    -- a table has a pair
    pub pair_there : (t : List ℕ) (f : ℕ → ℕ → Bool) → Shows n t f → ltb (lowest_pair t blank n) NOWHERE ≡ some_pair G f
    pair_there t f s =
        some_pair_apart n fits t blank f (λ x y. false) s (shows_blank n fits)
        ∙ some_pairs n (λ x y. f x y && true) f (λ x y h k. and-true (f x y))
        ∙ pairs_of_events f

    -- a relation leaves its limits
    module _ (t u v : List ℕ) (E : ℕ → ℕ → Bool) (T U : ℕ → Bool) (s : Shows n t E) (a : Shows n u (λ x y. eqb x y && T x)) (b : Shows n v (λ x y. eqb x y && U x)) where
      from_t : Shows n (composed u t) (λ x y. T x && E x y)
      from_t =
          shows_same n (composed u t) (λ x y. some (λ z. (eqb x z && T x) && E z y) (upto 0 n)) (λ x y. T x && E x y)
          (λ x y h k.
          some_same (λ z. (eqb x z && T x) && E z y) (λ z. eqb x z && (T x && E z y)) (upto 0 n) (λ z i. and_assoc (eqb x z) (T x) (E z y))
          ∙ some_one x n (λ z. T x && E z y) h)
          (shows_composed n fits u t (λ x y. eqb x y && T x) E a s)

      to_u : Shows n (composed (composed u t) v) (λ x y. (T x && E x y) && U y)
      to_u =
          shows_same n (composed (composed u t) v) (λ x y. some (λ z. (T x && E x z) && (eqb z y && U z)) (upto 0 n)) (λ x y. (T x && E x y) && U y)
          (λ x y h k.
          some_same (λ z. (T x && E x z) && (eqb z y && U z)) (λ z. eqb y z && ((T x && E x z) && U z)) (upto 0 n)
          (λ z i. ap (λ c. (T x && E x z) && (c && U z)) (eqb_turned z y) ∙ swapped (T x && E x z) (eqb y z) (U z))
          ∙ some_one y n (λ z. (T x && E x z) && U z) k)
          (shows_composed n fits (composed u t) v (λ x y. T x && E x y) (λ x y. eqb x y && U x) from_t b)

      pub outside_limits : ltb (lowest_pair t (composed (composed u t) v) n) NOWHERE ≡ some_pair G (λ x y. E x y && not (T x && U y))
      outside_limits =
          some_pair_apart n fits t (composed (composed u t) v) E (λ x y. (T x && E x y) && U y) s to_u
          ∙ some_pairs n (λ x y. E x y && not ((T x && E x y) && U y)) (λ x y. E x y && not (T x && U y)) (λ x y h k. within (E x y) (T x) (U y))
          ∙ pairs_of_events (λ x y. E x y && not (T x && U y))

    -- a relation is not closed
    pub not_closed : (t : List ℕ) (E : ℕ → ℕ → Bool) → Shows n t E
        → ltb (lowest_pair (composed t t) t n) NOWHERE ≡ some_pair G (λ x y. E x y && some (λ z. E y z && not (E x z)) (events G))
    unfolding events
    not_closed t E s =
        some_pair_apart n fits (composed t t) t (λ x y. some (λ z. E x z && E z y) (upto 0 n)) E (shows_composed n fits t t E E s s) s
        ∙ bool_ext
        (some (λ x. some (λ y. some (λ z. E x z && E z y) (upto 0 n) && not (E x y)) (upto 0 n)) (upto 0 n))
        (some (λ x. some (λ y. E x y && some (λ z. E y z && not (E x z)) (upto 0 n)) (upto 0 n)) (upto 0 n))
        into back
        ∙ pairs_of_events (λ x y. E x y && some (λ z. E y z && not (E x z)) (upto 0 n))
        ∙ ap (λ m. some_pair G (λ x y. E x y && some (λ z. E y z && not (E x z)) (upto 0 m))) (sym size)
      where
        into : some (λ x. some (λ y. some (λ z. E x z && E z y) (upto 0 n) && not (E x y)) (upto 0 n)) (upto 0 n) ≡ true
            → some (λ x. some (λ y. E x y && some (λ z. E y z && not (E x z)) (upto 0 n)) (upto 0 n)) (upto 0 n) ≡ true
        into e =
            let (x, i, a) = some_in (λ x. some (λ y. some (λ z. E x z && E z y) (upto 0 n) && not (E x y)) (upto 0 n)) (upto 0 n) e in
            let (y, k, b) = some_in (λ y. some (λ z. E x z && E z y) (upto 0 n) && not (E x y)) (upto 0 n) a in
            let (z, m, c) = some_in (λ z. E x z && E z y) (upto 0 n) (and_left (some (λ z. E x z && E z y) (upto 0 n)) (not (E x y)) b) in
            in_some (λ x. some (λ y. E x y && some (λ z. E y z && not (E x z)) (upto 0 n)) (upto 0 n)) {x = x} i
            (in_some (λ y. E x y && some (λ z. E y z && not (E x z)) (upto 0 n)) {x = z} m
            (and_both (and_left (E x z) (E z y) c)
            (in_some (λ w. E z w && not (E x w)) {x = y} k
            (and_both (and_right (E x z) (E z y) c) (and_right (some (λ z. E x z && E z y) (upto 0 n)) (not (E x y)) b)))))

        back : some (λ x. some (λ y. E x y && some (λ z. E y z && not (E x z)) (upto 0 n)) (upto 0 n)) (upto 0 n) ≡ true
            → some (λ x. some (λ y. some (λ z. E x z && E z y) (upto 0 n) && not (E x y)) (upto 0 n)) (upto 0 n) ≡ true
        back e =
            let (x, i, a) = some_in (λ x. some (λ y. E x y && some (λ z. E y z && not (E x z)) (upto 0 n)) (upto 0 n)) (upto 0 n) e in
            let (y, k, b) = some_in (λ y. E x y && some (λ z. E y z && not (E x z)) (upto 0 n)) (upto 0 n) a in
            let (z, m, c) = some_in (λ z. E y z && not (E x z)) (upto 0 n) (and_right (E x y) (some (λ z. E y z && not (E x z)) (upto 0 n)) b) in
            in_some (λ x. some (λ y. some (λ z. E x z && E z y) (upto 0 n) && not (E x y)) (upto 0 n)) {x = x} i
            (in_some (λ y. some (λ z. E x z && E z y) (upto 0 n) && not (E x y)) {x = z} m
            (and_both
            (in_some (λ w. E x w && E w z) {x = y} k
            (and_both (and_left (E x y) (some (λ z. E y z && not (E x z)) (upto 0 n)) b) (and_left (E y z) (not (E x z)) c)))
            (and_right (E y z) (not (E x z)) c)))
