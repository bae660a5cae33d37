-- The turns of a ring: relations that agree below n have one closure, and nothing leads to 0 where no pair of the relation does.
-- Assumes nothing.
use Prim.Native.Nat.{ℕ, zero, suc, ◌<◌}
use mathlib.Core.Path.{◌≡◌, ap}
use mathlib.Core.Logic.{⊎_elim}
use mathlib.Core.Bool.{Bool, false, ◌&&◌, ◌||◌}
use mathlib.Core.List.{map}
use Rattle.kat.specs.Lists.{upto}
use Rattle.kat.specs.Closure.{table, entry, through, closure}
use Rattle.kat.proofs.Bools.{true_not_false, false_of_not, or_cases, and_right}
use Rattle.kat.proofs.Closure.{table_entry}
use Rattle.kat.proofs.Sets.{upto_in, map_same}

-- relations that agree below n have one closure
pub closure_same : (n : ℕ) (f g : ℕ → ℕ → Bool)
    → ((x y : ℕ) → x < n → y < n → f x y ≡ g x y) → closure n f ≡ closure n g
unfolding closure table
closure_same n f g h =
    ap (through n n)
    (map_same (λ x. map (f x) (upto 0 n)) (λ x. map (g x) (upto 0 n)) (upto 0 n)
    (λ x i. let (a, b) = upto_in x 0 n i in
    map_same (f x) (g x) (upto 0 n) (λ y j. let (c, d) = upto_in y 0 n j in h x y b d)))

-- nothing leads to 0 where no pair does
through_zero : (n : ℕ) (f : ℕ → ℕ → Bool)
    → ((x : ℕ) → x < n → f x 0 ≡ false) → (k x : ℕ) → entry (through n k (table n f)) x 0 ≡ false
unfolding through
through_zero n f h zero x =
    false_of_not _ (λ e. let (a, b, c) = table_entry n f x 0 e in true_not_false c (h x a))
through_zero n f h (suc k) x =
    false_of_not _
    (λ e. ⊎_elim (λ a. true_not_false a (through_zero n f h k x))
    (λ a. true_not_false (and_right (entry (through n k (table n f)) x k) _ a) (through_zero n f h k k))
    (or_cases (entry (through n k (table n f)) x 0) _
    (table_entry n
    (λ y z. entry (through n k (table n f)) y z || (entry (through n k (table n f)) y k && entry (through n k (table n f)) k z))
    x 0 e).2))

pub closure_zero : (n : ℕ) (f : ℕ → ℕ → Bool)
    → ((x : ℕ) → x < n → f x 0 ≡ false) → (x : ℕ) → entry (closure n f) x 0 ≡ false
unfolding closure
closure_zero n f h x = through_zero n f h n x
