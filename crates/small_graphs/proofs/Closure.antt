-- The closure by rounds is the transitive closure: among events below 8, one event reaches another through events below 8 exactly where
-- there is a walk of one or more edges. The idea: through the events below n, what is joined over one of them is joined.
-- Assumes nothing.
use Prim.Native.Nat.{ℕ, zero, suc, ◌≤◌, ◌<◌}
use native.Mathlib.Omega.{arith}
use mathlib.Core.Path.{◌≡◌, refl, sym, ap, subst}
use mathlib.Core.Logic.{◌⊎◌, ⊎_elim}
use mathlib.Core.Logic.◌⊎◌.{inl, inr}
use mathlib.Core.Bool.{Bool, true, false, ◌&&◌, ◌||◌, true≢false}
use Rattle.small_graphs.specs.Relations.{edge, through, Walk}
use Rattle.small_graphs.specs.Relations.Walk.{one, more}

or_cases : (a b : Bool) → (a || b) ≡ true → (a ≡ true) ⊎ (b ≡ true)
or_cases true b e = inl refl
or_cases false b e = inr e

or_left : (a b : Bool) → a ≡ true → (a || b) ≡ true
or_left a b e = rw e refl

or_both : (a b c : Bool) → b ≡ true → c ≡ true → (a || (b && c)) ≡ true
or_both true b c p q = refl
or_both false b c p q = rw p q

and_left : (a b : Bool) → (a && b) ≡ true → a ≡ true
and_left true b e = refl
and_left false b e = e

and_right : (a b : Bool) → (a && b) ≡ true → b ≡ true
and_right true b e = e
and_right false b e = absurd (true≢false (sym e))

last_or_before : (k n : ℕ) → k < suc n → (k ≡ n) ⊎ (k < n)
last_or_before zero zero h = inl refl
last_or_before zero (suc n) h = inr (omega arith)
last_or_before (suc k) zero h = absurd (omega arith)
last_or_before (suc k) (suc n) h = ⊎_elim (λ e. inl (ap suc e)) (λ l. inr (omega arith)) (last_or_before k n (omega arith))

module _ (r : ℕ) where
  abbrev R : ℕ → ℕ → ℕ → Type 0
  R n x y = through n r x y ≡ true

  -- as before round n, or over event n
  parts : (n x y : ℕ) → R (suc n) x y → R n x y ⊎ ((R n x n) × (R n n y))
  parts n x y e =
      ⊎_elim inl (λ p. inr (and_left (through n r x n) (through n r n y) p, and_right (through n r x n) (through n r n y) p))
      (or_cases (through n r x y) (through n r x n && through n r n y) e)

  still : (n x y : ℕ) → R n x y → R (suc n) x y
  still n x y = or_left (through n r x y) (through n r x n && through n r n y)

  across : (n x y : ℕ) → R n x n → R n n y → R (suc n) x y
  across n x y = or_both (through n r x y) (through n r x n) (through n r n y)

  to_last : (n x : ℕ) → R (suc n) x n → R n x n
  to_last n x e = ⊎_elim (λ p. p) (λ p. p.0) (parts n x n e)

  from_last : (n y : ℕ) → R (suc n) n y → R n n y
  from_last n y e = ⊎_elim (λ p. p) (λ p. p.1) (parts n n y e)

  -- what is joined over an event below n is joined
  joins : (n k x y : ℕ) → k < n → R n x k → R n k y → R n x y
  joins zero k x y h p q = absurd (omega arith)
  joins (suc n) k x y h p q =
      ⊎_elim
      (λ e. across n x y (to_last n x (subst (λ (j : ℕ). R (suc n) x j) e p)) (from_last n y (subst (λ (j : ℕ). R (suc n) j y) e q)))
      (λ l. ⊎_elim
      (λ a. ⊎_elim (λ b. still n x y (joins n k x y l a b)) (λ b. across n x y (joins n k x n l a b.0) b.1) (parts n k y q))
      (λ a. ⊎_elim (λ b. across n x y a.0 (joins n k n y l a.1 b)) (λ b. across n x y a.0 b.1) (parts n k y q))
      (parts n x k p))
      (last_or_before k n h)

  -- an edge stays
  grows : (n x y : ℕ) → edge r x y ≡ true → R n x y
  grows zero x y e = e
  grows (suc n) x y e = still n x y (grows n x y e)

  pub walk_reaches : (x y : ℕ) → Walk r x y → through 8 r x y ≡ true
  walk_reaches x y (one e) = grows 8 x y e
  walk_reaches x y (more z h e w) = joins 8 z x y h (grows 8 x z e) (walk_reaches z y w)

  then_walk : (x y z : ℕ) → y < 8 → Walk r x y → Walk r y z → Walk r x z
  then_walk x y z h (one e) w = more y h e w
  then_walk x y z h (more k l e v) w = more k l e (then_walk k y z h v w)

  walks : (n x y : ℕ) → n ≤ 8 → R n x y → Walk r x y
  walks zero x y h e = one e
  walks (suc n) x y h e =
      ⊎_elim (walks n x y (omega arith))
      (λ p. then_walk x n y (omega arith) (walks n x n (omega arith) p.0) (walks n n y (omega arith) p.1)) (parts n x y e)

  pub reaches_walk : (x y : ℕ) → through 8 r x y ≡ true → Walk r x y
  reaches_walk x y = walks 8 x y (omega arith)
