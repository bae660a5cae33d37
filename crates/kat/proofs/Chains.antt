-- What a chain of iterators or a method of slices computes, in the words of the definitions: `any` is `some`, `all` is `every`, and
-- `contains` is `some` of the equal ones.
-- Assumes nothing.
use Rattle.std.proofs.Common.{◌≡◌, refl, sym, ap, ap₂, ℕ, Bool, ◌||◌, ◌&&◌, List, [], ◌∷◌}
use Rattle.std.specs.List.{list_any, list_all}
use lib.Dec.{eqb}
use borrow.Author.Tests.{eq-eqb, eqb-true}
use Rattle.kat.proofs.Bools.{bool_ext}
use Rattle.kat.specs.Lists.{some, every}

module _ {A : Type 0} (p : A → Bool) where
  pub some_any : (xs : List A) → list_any p xs ≡ some p xs
  some_any [] = refl
  some_any (x ∷ xs) = ap (λ b. p x || b) (some_any xs)

  pub every_all : (xs : List A) → list_all p xs ≡ every p xs
  every_all [] = refl
  every_all (x ∷ xs) = ap (λ b. p x && b) (every_all xs)

pub some_contains : (k : ℕ) (xs : List ℕ) → list_any (λ x. eqb x k) xs ≡ some (eqb k) xs
some_contains k [] = refl
some_contains k (x ∷ xs) =
    ap₂ ◌||◌
    (bool_ext (eqb x k) (eqb k x) (λ e. eq-eqb k x (sym (eqb-true x k e))) (λ e. eq-eqb x k (sym (eqb-true k x e))))
    (some_contains k xs)
