-- The searches for the lowest breaking event and pair find the lowest: of a range of numbers, `holds_in` is the answer when none passes
-- the test, and otherwise the answer is one that passes, where no lower one does. The idea: all three searches answer for the first
-- number of the range whose own answer is no `holds_in`.
-- Assumes nothing.
use Prim.Native.Nat.{ℕ, zero, suc, ◌+◌, ◌-◌, ◌≤◌, ◌<◌}
use native.Mathlib.Nat.{eq-or-lt_of_le}
use native.Mathlib.Omega.{arith}
use mathlib.Core.Path.{◌≡◌, refl, sym, ◌∙◌, ap, subst}
use mathlib.Core.Logic.{◌⊎◌, ⊎_elim}
use mathlib.Core.Logic.◌⊎◌.{inl, inr}
use mathlib.Core.Bool.{Bool, true, false}
use mathlib.Core.List.{List, [], ◌∷◌}
use Rattle.kat.specs.Lists.{counted, upto}
use Rattle.claims.specs.Judgement.{Outcome, holds_in, breaks_at, breaks_from, lowest_event, lowest_to, lowest_pair, or_else}
use Rattle.claims.specs.Judgements.{Lower}

-- o answers for the first of the n numbers from i on whose answer is no `holds_in`
pub record First (answer : ℕ → Outcome) (i n : ℕ) (o : Outcome) : Type 0 where
  pub at : ℕ
  pub low : i ≤ at
  pub high : at < i + n
  pub is : o ≡ answer at
  pub breaks : answer at ≡ holds_in → ⊥
  pub none_lower : (w : ℕ) → i ≤ w → w < at → answer w ≡ holds_in

abbrev pub Lowest : (ℕ → Outcome) → ℕ → ℕ → Outcome → Type 0
Lowest answer i n o =
    ((o ≡ holds_in) × ((w : ℕ) → i ≤ w → w < i + n → answer w ≡ holds_in)) ⊎ First answer i n o

module _ (answer : ℕ → Outcome) (look : List ℕ → Outcome) (none : look [] ≡ holds_in)
    (next : (x : ℕ) (xs : List ℕ) → look (x ∷ xs) ≡ or_else (answer x) (look xs)) where
  lowest_on : (i n : ℕ) (o : Outcome) → answer i ≡ holds_in → Lowest answer (suc i) n o → Lowest answer i (suc n) o
  lowest_on i n o e (inl (h, a)) = inl (h, all)
    where
      all : (w : ℕ) → i ≤ w → w < i + suc n → answer w ≡ holds_in
      all w l k = ⊎_elim (λ p. ap answer (sym p) ∙ e) (λ p. a w p (omega arith)) (eq-or-lt_of_le l)
  lowest_on i n o e (inr f) =
      inr (record {
        at = f.at;
        low = omega arith;
        high = omega arith;
        is = f.is;
        breaks = f.breaks;
        none_lower = λ w l k. ⊎_elim (λ p. ap answer (sym p) ∙ e) (λ p. f.none_lower w p k) (eq-or-lt_of_le l);
      })

  pub lowest : (i n : ℕ) → Lowest answer i n (look (counted i n))
  lowest i zero = inl (none, λ w l k. absurd (omega arith))
  lowest i (suc n) = subst (Lowest answer i (suc n)) (sym (next i (counted (suc i) n))) (go (answer i) refl (lowest (suc i) n))
    where
      rest : Outcome
      rest = look (counted (suc i) n)

      hit : (o : Outcome) → answer i ≡ o → (o ≡ holds_in → ⊥) → Lowest answer i (suc n) o
      hit o e b =
          inr (record {
            at = i;
            low = omega arith;
            high = omega arith;
            is = sym e;
            breaks = λ p. b (sym e ∙ p);
            none_lower = λ w l k. absurd (omega arith);
          })

      go : (o : Outcome) → answer i ≡ o → Lowest answer (suc i) n rest → Lowest answer i (suc n) (or_else o rest)
      go holds_in e l = lowest_on i n rest e l
      go (breaks_at x) e l = hit (breaks_at x) e (λ p. let z : ◌≡◌ {A = ℕ} 0 1 = cc in omega arith)
      go (breaks_from x y) e l = hit (breaks_from x y) e (λ p. let z : ◌≡◌ {A = ℕ} 0 1 = cc in omega arith)

-- o is what the lowest number below n that passes the test gives, or `holds_in` if none passes
pub record LowestPassing (f : ℕ → Bool) (gives : ℕ → Outcome) (n : ℕ) (o : Outcome) : Type 0 where
  pub at : ℕ
  pub below : at < n
  pub is : o ≡ gives at
  pub passes : f at ≡ true
  pub none_lower : (w : ℕ) → w < at → f w ≡ false

abbrev pub NoneOrLowest : (ℕ → Bool) → (ℕ → Outcome) → ℕ → Outcome → Type 0
NoneOrLowest f gives n o = ((o ≡ holds_in) × ((w : ℕ) → w < n → f w ≡ false)) ⊎ LowestPassing f gives n o

-- the answer of a number by its test
abbrev answered : Bool → Outcome → Outcome
answered true o = o
answered false o = holds_in

module _ (f : ℕ → Bool) (gives : ℕ → Outcome) (breaking : (x : ℕ) → gives x ≡ holds_in → ⊥) where
  not_passed : (x : ℕ) → answered (f x) (gives x) ≡ holds_in → f x ≡ false
  not_passed x = go (f x)
    where
      go : (b : Bool) → answered b (gives x) ≡ holds_in → b ≡ false
      go true e = absurd (breaking x e)
      go false e = refl

  passed : (x : ℕ) → (answered (f x) (gives x) ≡ holds_in → ⊥) → (f x ≡ true) × (answered (f x) (gives x) ≡ gives x)
  passed x = go (f x)
    where
      go : (b : Bool) → (answered b (gives x) ≡ holds_in → ⊥) → (b ≡ true) × (answered b (gives x) ≡ gives x)
      go true h = (refl, refl)
      go false h = absurd (h refl)

  lowest_passing : (n : ℕ) (o : Outcome) → Lowest (λ x. answered (f x) (gives x)) 0 (n - 0) o → NoneOrLowest f gives n o
  lowest_passing n o (inl (e, a)) = inl (e, λ w h. not_passed w (a w (omega arith) (omega arith)))
  lowest_passing n o (inr l) =
      let (p, g) = passed l.at l.breaks in
      inr (record {
        at = l.at;
        below = omega arith;
        is = l.is ∙ g;
        passes = p;
        none_lower = λ w h. not_passed w (l.none_lower w (omega arith) h);
      })

pub lowest_event_lem : (f : ℕ → Bool) (n : ℕ) → NoneOrLowest f breaks_at n (lowest_event f (upto 0 n))
unfolding lowest_event
lowest_event_lem f n =
    lowest_passing f breaks_at (λ x p. let z : ◌≡◌ {A = ℕ} 0 1 = cc in omega arith) n (lowest_event f (upto 0 n))
    (lowest (λ x. answered (f x) (breaks_at x)) (lowest_event f) refl (λ x xs. go (f x) x (lowest_event f xs)) 0 (n - 0))
  where
    go : (b : Bool) (x : ℕ) (o : Outcome) → elim b [ true ↦ breaks_at x | false ↦ o ] ≡ or_else (answered b (breaks_at x)) o
    go true x o = refl
    go false x o = refl

pub lowest_to_lem : (f : ℕ → ℕ → Bool) (x n : ℕ) → NoneOrLowest (f x) (breaks_from x) n (lowest_to f x (upto 0 n))
unfolding lowest_to
lowest_to_lem f x n =
    lowest_passing (f x) (breaks_from x) (λ y p. let z : ◌≡◌ {A = ℕ} 0 1 = cc in omega arith) n (lowest_to f x (upto 0 n))
    (lowest (λ y. answered (f x y) (breaks_from x y)) (lowest_to f x) refl (λ y ys. go (f x y) y (lowest_to f x ys)) 0 (n - 0))
  where
    go : (b : Bool) (y : ℕ) (o : Outcome)
        → elim b [ true ↦ breaks_from x y | false ↦ o ] ≡ or_else (answered b (breaks_from x y)) o
    go true y o = refl
    go false y o = refl

-- o gives the lowest pair below n that passes the test
pub record LowestPair (f : ℕ → ℕ → Bool) (n : ℕ) (o : Outcome) : Type 0 where
  pub from : ℕ
  pub to : ℕ
  pub from_below : from < n
  pub to_below : to < n
  pub is : o ≡ breaks_from from to
  pub passes : f from to ≡ true
  pub none_lower : (w z : ℕ) → z < n → Lower w z from to → f w z ≡ false

module _ (f : ℕ → ℕ → Bool) (n : ℕ) where
  none_to : (x : ℕ) → lowest_to f x (upto 0 n) ≡ holds_in → (y : ℕ) → y < n → f x y ≡ false
  none_to x e y h = go (lowest_to_lem f x n)
    where
      go : NoneOrLowest (f x) (breaks_from x) n (lowest_to f x (upto 0 n)) → f x y ≡ false
      go (inl (p, a)) = a y h
      go (inr l) = let i = l.is in let z : ◌≡◌ {A = ℕ} 0 1 = cc in absurd (omega arith)

  lowest_pair_of : (o : Outcome) → Lowest (λ x. lowest_to f x (upto 0 n)) 0 (n - 0) o
      → ((o ≡ holds_in) × ((w z : ℕ) → w < n → z < n → f w z ≡ false)) ⊎ LowestPair f n o
  lowest_pair_of o (inl (e, a)) = inl (e, λ w z h k. none_to w (a w (omega arith) (omega arith)) z k)
  lowest_pair_of o (inr l) = go (lowest_to_lem f l.at n)
    where
      go : NoneOrLowest (f l.at) (breaks_from l.at) n (lowest_to f l.at (upto 0 n))
          → ((o ≡ holds_in) × ((w z : ℕ) → w < n → z < n → f w z ≡ false)) ⊎ LowestPair f n o
      go (inl (p, a)) = absurd (l.breaks p)
      go (inr m) =
          inr (record {
            from = l.at;
            to = m.at;
            from_below = omega arith;
            to_below = m.below;
            is = l.is ∙ m.is;
            passes = m.passes;
            none_lower = λ w z k c.
                ⊎_elim (λ h. none_to w (l.none_lower w (omega arith) h) z k)
                (λ (e, h). ap (λ v. f v z) e ∙ m.none_lower z h) c;
          })

  pub lowest_pair_lem : ((lowest_pair f (upto 0 n) (upto 0 n) ≡ holds_in) × ((w z : ℕ) → w < n → z < n → f w z ≡ false))
      ⊎ LowestPair f n (lowest_pair f (upto 0 n) (upto 0 n))
  unfolding lowest_pair
  lowest_pair_lem =
      lowest_pair_of (lowest_pair f (upto 0 n) (upto 0 n))
      (lowest (λ x. lowest_to f x (upto 0 n)) (lowest_pair f (upto 0 n)) refl (λ x xs. refl) 0 (n - 0))
