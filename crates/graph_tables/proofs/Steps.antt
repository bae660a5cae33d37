-- One code on the tables that wait, a law for each way that it goes: what is in memory afterwards, and the state, are what the definition says.
-- Assumes nothing.
use Prim.Native.Nat.{ℕ, ◌+◌, ◌-◌, ◌≤◌, ◌<◌}
use mathlib.Core.Path.{◌≡◌, refl, sym, ◌∙◌, ap, ap₂}
use mathlib.Core.Bool.{cond}
use mathlib.Core.List.{List}
use native.Mathlib.Omega.{arith}
use lib.ListN.{get_or, set, drop}
use borrow.Author.Tests.{lt-ltb, le-ltb, le-leb, lt-leb, ne_eqb}
use Rattle.rows.specs.Rows.{blank, joined, composed, reflexive, rounds, diagonal, events_in}
use Rattle.graph_tables.specs.declared.JudgedSoFar.{JudgedSoFar}
use Rattle.graph_tables.specs.Listed.{relation_rows, events_with}
use Rattle.graph_tables.specs.Machine.{Judging, judging, table_at, waiting_now, pushed, changed_top, merged, operated}

module _ (m m' : List (List ℕ)) (s r : JudgedSoFar) where
  pub pushed_room : (t : List ℕ) → s.waiting < 68 → m' ≡ set m (32 + s.waiting) t → r ≡ waiting_now s (s.waiting + 1)
      → judging m' r ≡ pushed (judging m s) t
  unfolding pushed
  pushed_room t h e f =
      ap₂ judging e f
      ∙ sym (ap (λ c. cond c (judging (set m (32 + s.waiting) t) (waiting_now s (s.waiting + 1))) (judging m s)) (lt-ltb s.waiting 68 h))

  -- the upper two tables, or the top one, changed
  pub merged_with : (f : List ℕ → List ℕ → List ℕ) (t u v : List ℕ) → t ≡ get_or m (30 + s.waiting) blank → u ≡ get_or m (31 + s.waiting) blank
      → v ≡ f t u → m' ≡ set m (30 + s.waiting) v → (w : ℕ) → w ≡ s.waiting - 1 → r ≡ waiting_now s w → judging m' r ≡ merged f (judging m s)
  unfolding merged
  merged_with f t u v a b c e w d g =
      ap₂ judging (e ∙ ap (set m (30 + s.waiting)) (c ∙ ap₂ f a b)) (g ∙ ap (waiting_now s) d)

  pub changed_with : (f : List ℕ → List ℕ) (t v : List ℕ) → t ≡ get_or m (31 + s.waiting) blank → v ≡ f t → m' ≡ set m (31 + s.waiting) v
      → judging m' s ≡ changed_top f (judging m s)
  unfolding changed_top
  changed_with f t v a c e = ap (λ x. judging x s) (e ∙ ap (set m (31 + s.waiting)) (c ∙ ap f a))

pub pushed_full : (m : List (List ℕ)) (s : JudgedSoFar) (t : List ℕ) → 68 ≤ s.waiting → judging m s ≡ pushed (judging m s) t
unfolding pushed
pushed_full m s t h =
    sym (ap (λ c. cond c (judging (set m (32 + s.waiting) t) (waiting_now s (s.waiting + 1))) (judging m s)) (le-ltb s.waiting 68 h))

-- a code of an expression
module _ (L : List ℕ) (j : Judging) (k x : ℕ) where
  abbrev n : ℕ
  n = j.state.events

  pub does_test : k ≡ 6 → operated L j k x ≡ pushed j (diagonal (events_with L n x))
  unfolding operated
  does_test e = rw e refl

  pub does_union : k ≡ 7 → operated L j k x ≡ merged joined j
  unfolding operated
  does_union e = rw e refl

  pub does_sequence : k ≡ 8 → operated L j k x ≡ merged composed j
  unfolding operated
  does_sequence e = rw e refl

  pub does_star : k ≡ 9 → operated L j k x ≡ changed_top (λ t. reflexive (rounds t n n) n) j
  unfolding operated
  does_star e = rw e refl

  pub does_plus : k ≡ 10 → operated L j k x ≡ changed_top (λ t. rounds t n n) j
  unfolding operated
  does_plus e = rw e refl

  pub does_optional : k ≡ 11 → operated L j k x ≡ changed_top (λ t. reflexive t n) j
  unfolding operated
  does_optional e = rw e refl

  -- none of the operators
  module _ (a : k ≡ 6 → ⊥) (b : k ≡ 7 → ⊥) (c : k ≡ 8 → ⊥) (d : k ≡ 9 → ⊥) (e : k ≡ 10 → ⊥) (f : k ≡ 11 → ⊥) where
    pub does_relation : 32 ≤ k → k ≤ 47 → operated L j k x ≡ pushed j (relation_rows L (k - 32))
    unfolding operated
    does_relation h i =
        rw (ne_eqb k 6 a, ne_eqb k 7 b, ne_eqb k 8 c, ne_eqb k 9 d, ne_eqb k 10 e, ne_eqb k 11 f, le-leb 32 k h, lt-ltb k 48 (omega arith)) refl

    pub does_let : 64 ≤ k → k ≤ 95 → operated L j k x ≡ pushed j (table_at j.mem (k - 64))
    unfolding operated
    does_let h i =
        rw (
          ne_eqb k 6 a,
          ne_eqb k 7 b,
          ne_eqb k 8 c,
          ne_eqb k 9 d,
          ne_eqb k 10 e,
          ne_eqb k 11 f,
          le-leb 32 k (omega arith),
          le-ltb k 48 (omega arith),
          le-leb 64 k h,
          lt-ltb k 96 (omega arith),
        ) refl

    pub does_nothing_low : k < 32 → operated L j k x ≡ j
    unfolding operated
    does_nothing_low h =
        rw (ne_eqb k 6 a, ne_eqb k 7 b, ne_eqb k 8 c, ne_eqb k 9 d, ne_eqb k 10 e, ne_eqb k 11 f, lt-leb 32 k h, lt-leb 64 k (omega arith)) refl

    pub does_nothing_between : 47 < k → k < 64 → operated L j k x ≡ j
    unfolding operated
    does_nothing_between h i =
        rw (
          ne_eqb k 6 a,
          ne_eqb k 7 b,
          ne_eqb k 8 c,
          ne_eqb k 9 d,
          ne_eqb k 10 e,
          ne_eqb k 11 f,
          le-leb 32 k (omega arith),
          le-ltb k 48 (omega arith),
          lt-leb 64 k i,
        ) refl

    pub does_nothing_high : 95 < k → operated L j k x ≡ j
    unfolding operated
    does_nothing_high h =
        rw (
          ne_eqb k 6 a,
          ne_eqb k 7 b,
          ne_eqb k 8 c,
          ne_eqb k 9 d,
          ne_eqb k 10 e,
          ne_eqb k 11 f,
          le-leb 32 k (omega arith),
          le-ltb k 48 (omega arith),
          le-leb 64 k (omega arith),
          le-ltb k 96 (omega arith),
        ) refl

-- the events with an atom of the set, from the whole graph
pub events_read : (L M : List ℕ) (n s r : ℕ) → M ≡ drop 1024 L → r ≡ events_in M n s → r ≡ events_with L n s
unfolding events_with
events_read L M n s r e f = f ∙ ap (λ m. events_in m n s) e
