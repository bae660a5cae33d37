-- What a relation stands for has one occurrence: the limits cut where it may be first and last, and a closed one may follow itself where
-- it may be last and first.
-- Assumes nothing.
use Prim.Native.Nat.{ℕ, suc, ◌+◌}
use native.Mathlib.Omega.{arith}
use mathlib.Core.Path.{◌≡◌, refl, sym, ◌∙◌, ap, ap₂}
use mathlib.Core.Bool.{Bool, true, false, ◌&&◌, ◌||◌}
use mathlib.Core.List.{List, [], ◌∷◌}
use lib.Dec.{eqb}
use borrow.Author.Tests.{eq-eqb}
use Rattle.kat.specs.Expr.{Expr, step, test, seq, plus, any}
use Rattle.kat.specs.Tables.{reads, null, firsts, lasts, follows}
use Rattle.claims.specs.Tree.{Name}
use Rattle.claims.specs.Query.{Query, Limit, each, index_of, tests, relations, limits, closed, holds}
use Rattle.claims.specs.Expanded.{Expanded, step_of, test_of, sequence_of, plus_of, bounded, stands_for}
use Rattle.claims.specs.Sides.{single, expr_of, replaced}
use Rattle.side_atoms.specs.Single.{Single, starts, stops}

or-false : (b : Bool) → (b || false) ≡ b
or-false true = refl
or-false false = refl

and-false : (b : Bool) → (b && false) ≡ false
and-false true = refl
and-false false = refl

and-true : (b : Bool) → (b && true) ≡ b
and-true true = refl
and-true false = refl

-- other tests, equal on every number
single_same : (E : Expr) (F L G S F' L' G' : ℕ → Bool) → Single E F L G S
    → ((a : ℕ) → F a ≡ F' a) → ((a : ℕ) → L a ≡ L' a) → ((a : ℕ) → G a ≡ G' a) → Single E F' L' G' S
single_same E F L G S F' L' G' x f l g =
    record {
      one = x.one;
      is_first = λ k a. x.is_first k a ∙ f a;
      is_last = λ k a. x.is_last k a ∙ l a;
      follows_itself = λ k a. x.follows_itself k a ∙ g a;
      is_read = x.is_read;
      not_null = x.not_null;
    }

-- one step
pub step_single : (S : ℕ → Bool) → Single (step S) (λ a. true) (λ a. true) (λ a. false) S
step_single S =
    record {
      one = refl;
      is_first = λ k a. eq-eqb (suc k) (suc k) refl;
      is_last = λ k a. eq-eqb (suc k) (suc k) refl;
      follows_itself = λ k a. refl;
      is_read = λ k r. ap (λ b. b && S r) (eq-eqb (suc k) (suc k) refl);
      not_null = λ a. refl;
    }

-- from T to U
pub between_single : (E : Expr) (F L G S T U : ℕ → Bool) → Single E F L G S
    → Single (seq (seq (test T) E) (test U)) (λ a. T a && F a) (λ a. L a && U a) G S
between_single E F L G S T U x =
    record {
      one = omega (arith, x.one);
      is_first = λ k a.
          ap (λ b. (T a && firsts E (k + 0) (suc k) a) || b) (and-false ((T a && null E a)))
          ∙ or-false (T a && firsts E (k + 0) (suc k) a)
          ∙ ap (λ b. T a && b) (ap (λ j. firsts E j (suc k) a) (none k) ∙ x.is_first k a);
      is_last = λ k a.
          or-false (lasts E (k + 0) (suc k) a && U a) ∙ ap (λ b. b && U a) (ap (λ j. lasts E j (suc k) a) (none k) ∙ x.is_last k a);
      follows_itself = λ k a.
          ap (λ b. ((follows E (k + 0) (suc k) (suc k) a || false) || false) || b) (and-false (lasts E (k + 0) (suc k) a))
          ∙ or-false ((follows E (k + 0) (suc k) (suc k) a || false) || false)
          ∙ or-false (follows E (k + 0) (suc k) (suc k) a || false)
          ∙ or-false (follows E (k + 0) (suc k) (suc k) a)
          ∙ ap (λ j. follows E j (suc k) (suc k) a) (none k) ∙ x.follows_itself k a;
      is_read = λ k r.
          or-false (reads E (k + 0) (suc k) r) ∙ ap (λ j. reads E j (suc k) r) (none k) ∙ x.is_read k r;
      not_null = λ a.
          ap (λ b. (T a && b) && U a) (x.not_null a) ∙ ap (λ b. b && U a) (and-false (T a));
    }
  where
    none : (k : ℕ) → k + 0 ≡ k
    none k = omega arith

-- one or more times
pub plus_single : (E : Expr) (F L G S : ℕ → Bool) → Single E F L G S → Single (plus E) F L (λ a. G a || (L a && F a)) S
plus_single E F L G S x =
    record {
      one = x.one;
      is_first = x.is_first;
      is_last = x.is_last;
      follows_itself = λ k a. ap₂ ◌||◌ (x.follows_itself k a) (ap₂ ◌&&◌ (x.is_last k a) (x.is_first k a));
      is_read = x.is_read;
      not_null = x.not_null;
    }

and_move : (x y z : Bool) → (y && (x && z)) ≡ ((x && y) && z)
and_move true y z = refl
and_move false true z = refl
and_move false false z = refl

and_regroup : (x y z : Bool) → ((x && y) && z) ≡ (x && (y && z))
and_regroup true y z = refl
and_regroup false y z = refl

-- between all limits
pub bounded_single : (q : Query) (ls : List Limit) (e : Expanded) (F L G S : ℕ → Bool) → Single (expr_of q e) F L G S
    → Single (expr_of q (bounded ls e)) (λ a. starts (tests q) ls a && F a) (λ a. L a && stops (tests q) ls a) G S
unfolding bounded expr_of starts stops
bounded_single q [] e F L G S x =
    single_same (expr_of q e) F L G S F (λ a. L a && true) G x (λ a. refl) (λ a. sym (and-true (L a))) (λ a. refl)
bounded_single q (l ∷ ls) e F L G S x =
    let ts = tests q in
    let inside : Expanded = sequence_of (sequence_of (test_of l.from) e) (test_of l.to) in
    single_same (expr_of q (bounded ls inside))
    (λ a. starts ts ls a && (holds ts l.from a && F a)) (λ a. (L a && holds ts l.to a) && stops ts ls a) G S
    (λ a. (holds ts l.from a && starts ts ls a) && F a) (λ a. L a && (holds ts l.to a && stops ts ls a)) G
    (bounded_single q ls inside (λ a. holds ts l.from a && F a) (λ a. L a && holds ts l.to a) G S
    (between_single (expr_of q e) F L G S (holds ts l.from) (holds ts l.to) x))
    (λ a. and_move (holds ts l.from a) (starts ts ls a) (F a)) (λ a. and_regroup (L a) (holds ts l.to a) (stops ts ls a)) (λ a. refl)

-- closed or not
closed_single : (q : Query) (b : Bool) (e : Expanded) (F L S : ℕ → Bool) → Single (expr_of q e) F L (λ a. false) S
    → Single (expr_of q (elim b [ true ↦ plus_of e | false ↦ e ])) F L (λ a. b && (L a && F a)) S
unfolding expr_of
closed_single q true e F L S x = plus_single (expr_of q e) F L (λ a. false) S x
closed_single q false e F L S x = x

-- what a relation of the query stands for ("Words")
pub replaced_single : (q : Query) (n : Name)
    → Single (replaced q n) (starts (tests q) (each (limits n) q)) (stops (tests q) (each (limits n) q))
    (λ a. closed q n && (stops (tests q) (each (limits n) q) a && starts (tests q) (each (limits n) q) a)) (eqb (index_of n (relations q)))
unfolding replaced stands_for expr_of single
replaced_single q n =
    let ts = tests q in
    let ls = each (limits n) q in
    let S = eqb (index_of n (relations q)) in
    closed_single q (closed q n) (bounded ls (step_of n)) (starts ts ls) (stops ts ls) S
    (single_same (expr_of q (bounded ls (step_of n))) (λ a. starts ts ls a && true) (stops ts ls) (λ a. false) S
    (starts ts ls) (stops ts ls) (λ a. false)
    (bounded_single q ls (step_of n) (λ a. true) (λ a. true) (λ a. false) S (step_single S))
    (λ a. and-true (starts ts ls a)) (λ a. refl) (λ a. refl))

-- one step of whichever relation
pub any_single : Single any (λ a. true) (λ a. true) (λ a. false) (λ r. true)
any_single = step_single (λ r. true)
