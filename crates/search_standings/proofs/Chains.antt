-- What a chain over a range of numbers tests, in the words of the definitions: a range from i to before e yields the numbers of `upto i e`,
-- `all` of them is `every`, and `any` of them is `some`.
-- Assumes nothing.
use Prim.Native.Nat.{ℕ, zero, suc, ◌-◌}
use mathlib.Core.Path.{◌≡◌, refl, ◌∙◌, ap, subst}
use mathlib.Core.Bool.{Bool, ◌&&◌, ◌||◌}
use mathlib.Core.List.{List, [], ◌∷◌}
use Rattle.std.proofs.Common.{add-one}
use Rattle.std.specs.List.{list_all, list_any, range_with_len}
use Rattle.std.proofs.iter.Yields.{nat_range_steps}
use Rattle.std.proofs.lemmas.Iterator.{YieldsList, YieldsList-from_range}
use Rattle.kat.specs.Lists.{counted, upto, every, some}

-- n numbers from i on
counted_range : (i n : ℕ) → range_with_len i n ≡ counted i n
counted_range i zero = refl
counted_range i (suc n) = ap (λ l. i ∷ l) (ap (λ j. range_with_len j n) (add-one i) ∙ counted_range (suc i) n)

pub range_yields : (i e : ℕ) → YieldsList nat_range_steps (λ x. x) (record { start = i; end = e }) (upto i e)
range_yields i e =
    subst (YieldsList nat_range_steps (λ x. x) (record { start = i; end = e })) (counted_range i (e - i)) (YieldsList-from_range i e (e - i) refl refl)

pub all_every : (p : ℕ → Bool) (l : List ℕ) → list_all p l ≡ every p l
all_every p [] = refl
all_every p (x ∷ xs) = ap (λ b. p x && b) (all_every p xs)

pub any_some : (p : ℕ → Bool) (l : List ℕ) → list_any p l ≡ some p l
any_some p [] = refl
any_some p (x ∷ xs) = ap (λ b. p x || b) (any_some p xs)
