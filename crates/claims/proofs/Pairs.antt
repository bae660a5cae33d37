-- The table of an expression's pairs is its relational meaning: the entry of two events is true exactly when the expression relates
-- them. The idea: by the expression, one case for each of its forms; `+` is Warshall's theorem. It is asked that each edge be of one
-- of the first k relations, since a step looks at no other.
-- Assumes nothing.
use Prim.Native.Nat.{ℕ, ◌<◌, zero-le}
use mathlib.Core.Path.{◌≡◌, sym, ◌∙◌, ap}
use mathlib.Core.Logic.{◌⊎◌, ◌↔◌, ⊎_elim}
use mathlib.Core.Logic.◌⊎◌.{inl, inr}
use mathlib.Core.Bool.{Bool, true, ◌&&◌, ◌||◌}
use lib.Dec.{ltb→lt, lt→ltb, eqb}
use lib.ListN.{length, get_or}
use borrow.Author.Tests.{eqb-true, eq-eqb}
use Rattle.kat.specs.Expr.{Expr, step, test, alt, seq, plus}
use Rattle.kat.specs.Lists.{upto, some}
use Rattle.kat.specs.Closure.{Table, table, entry}
use Rattle.kat.specs.Graph.{Finite, Rel, graph}
use Rattle.kat.proofs.Bools.{or_cases, or_left, or_right, and_left, and_right, and_both}
use Rattle.kat.proofs.Sets.{some_in, in_some, in_upto, upto_in}
use Rattle.kat.proofs.Closure.{Num, num_path, entry_table, closure_is_plus_of}
use Rattle.claims.specs.Judgement.{events, pairs_of}

-- an entry says what the table's test says
entry_says : (n : ℕ) (f : ℕ → ℕ → Bool) {P : Type 0} (x y : Num n) → (f x.0 y.0 ≡ true) ↔ P
    → (entry (table n f) x.0 y.0 ≡ true) ↔ P
entry_says n f x y p =
    let e = entry_table n f x.0 y.0 (ltb→lt x.0 n x.1) (ltb→lt y.0 n y.1) in
    ((λ h. p.0 (sym e ∙ h)), (λ h. e ∙ p.1 h))

module _ (G : Finite) where
  -- some event passes a test
  pub some_event : (p : ℕ → Bool) → some p (events G) ≡ true → (x : (graph G).Event) × (p x.0 ≡ true)
  unfolding events
  some_event p e =
      let (x, i, h) = some_in p (upto 0 (length G.atoms)) e in
      ((x, lt→ltb x (length G.atoms) (upto_in x 0 (length G.atoms) i).1), h)

  pub event_some : (p : ℕ → Bool) (x : (graph G).Event) → p x.0 ≡ true → some p (events G) ≡ true
  unfolding events
  event_some p x h =
      in_some p (in_upto x.0 0 (length G.atoms) zero-le (ltb→lt x.0 (length G.atoms) x.1)) h

  module _ (k : ℕ) (known : (r : ℕ) (x y : (graph G).Event) → (graph G).edge r x y → r < k) where
    step_says : (s : ℕ → Bool) (x y : (graph G).Event)
        → (some (λ r. s r && G.edges r x.0 y.0) (upto 0 k) ≡ true) ↔ ((r : ℕ) × (s r ≡ true) × (graph G).edge r x y)
    step_says s x y = (
      (λ e. let (r, i, h) = some_in (λ r. s r && G.edges r x.0 y.0) (upto 0 k) e in
          (r, and_left (s r) (G.edges r x.0 y.0) h, and_right (s r) (G.edges r x.0 y.0) h)),
      (λ (r, h, e). in_some (λ r. s r && G.edges r x.0 y.0) (in_upto r 0 k zero-le (known r x y e)) (and_both h e)),
    )

    test_says : (s : ℕ → Bool) (x y : (graph G).Event)
        → ((eqb x.0 y.0 && s (get_or G.atoms x.0 0)) ≡ true) ↔ ((x ≡ y) × (s (get_or G.atoms x.0 0) ≡ true))
    test_says s x y =
        let b : Bool = eqb x.0 y.0 in
        let c : Bool = s (get_or G.atoms x.0 0) in (
          (λ e. (num_path (length G.atoms) x y (eqb-true x.0 y.0 (and_left b c e)), and_right b c e)),
          (λ (p, h). and_both (eq-eqb x.0 y.0 (ap (λ z. z.0) p)) h),
        )

    alt_says : (t u : Table) (x y : ℕ) {P Q : Type 0} → (entry t x y ≡ true) ↔ P → (entry u x y ≡ true) ↔ Q
        → ((entry t x y || entry u x y) ≡ true) ↔ (P ⊎ Q)
    alt_says t u x y p q = (
      (λ e. ⊎_elim (λ h. inl (p.0 h)) (λ h. inr (q.0 h)) (or_cases (entry t x y) (entry u x y) e)),
      (λ c. ⊎_elim (λ h. or_left (entry u x y) (p.1 h)) (λ h. or_right (entry t x y) (q.1 h)) c),
    )

    seq_says : (t u : Table) {P Q : (graph G).Event → (graph G).Event → Type 0}
        → ((x y : (graph G).Event) → (entry t x.0 y.0 ≡ true) ↔ P x y)
        → ((x y : (graph G).Event) → (entry u x.0 y.0 ≡ true) ↔ Q x y)
        → (x y : (graph G).Event)
        → (some (λ z. entry t x.0 z && entry u z y.0) (events G) ≡ true) ↔ ((z : (graph G).Event) × P x z × Q z y)
    seq_says t u p q x y = (
      (λ e. let (z, h) = some_event (λ z. entry t x.0 z && entry u z y.0) e in (
        z,
        (p x z).0 (and_left (entry t x.0 z.0) (entry u z.0 y.0) h),
        (q z y).0 (and_right (entry t x.0 z.0) (entry u z.0 y.0) h),
      )),
      (λ (z, h, j). event_some (λ z. entry t x.0 z && entry u z y.0) z (and_both ((p x z).1 h) ((q z y).1 j))),
    )

    pub pairs_are_related : (E : Expr) (x y : (graph G).Event) → (entry (pairs_of G k E) x.0 y.0 ≡ true) ↔ Rel (graph G) E x y
    unfolding pairs_of
    pairs_are_related (step s) x y = entry_says _ _ x y (step_says s x y)
    pairs_are_related (test s) x y = entry_says _ _ x y (test_says s x y)
    pairs_are_related (alt e f) x y =
        entry_says _ _ x y
        (alt_says (pairs_of G k e) (pairs_of G k f) x.0 y.0 (pairs_are_related e x y) (pairs_are_related f x y))
    pairs_are_related (seq e f) x y =
        entry_says _ _ x y (seq_says (pairs_of G k e) (pairs_of G k f) (pairs_are_related e) (pairs_are_related f) x y)
    pairs_are_related (plus e) x y =
        closure_is_plus_of (length G.atoms) (entry (pairs_of G k e)) (pairs_are_related e) x y
