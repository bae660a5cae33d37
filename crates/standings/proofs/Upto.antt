-- Ranges of numbers: their lowest number first, and a test that is found in one range and in another, or one number higher.
-- Assumes nothing.
use Prim.Native.Nat.{ℕ, suc, ◌+◌, ◌-◌, ◌≤◌, ◌<◌}
use native.Mathlib.Omega.{arith}
use mathlib.Core.Path.{◌≡◌, ◌∙◌, ap}
use mathlib.Core.Bool.{Bool, true}
use mathlib.Core.List.{[], ◌∷◌}
use Rattle.kat.specs.Lists.{counted, upto, some}
use Rattle.kat.proofs.Bools.{bool_ext}
use Rattle.kat.proofs.Sets.{some_in, in_some, in_upto, upto_in}

-- a range begins with its lowest number, and is empty past its end
pub upto_more : (i e : ℕ) → i < e → upto i e ≡ i ∷ upto (i + 1) e
upto_more i e h =
    let z : e - i ≡ suc (e - (i + 1)) = omega arith in
    let y : suc i ≡ i + 1 = omega arith in
    ap (counted i) z ∙ ap (λ j. i ∷ counted j (e - (i + 1))) y

pub upto_none : (i e : ℕ) → e ≤ i → upto i e ≡ []
upto_none i e h = let z : e - i ≡ 0 = omega arith in ap (counted i) z

-- a test found in one range of numbers and a test found in another
pub some_range : (p q : ℕ → Bool) (i e j f : ℕ) → ((k : ℕ) → i ≤ k → k < e → p k ≡ true → (j ≤ k) × (k < f) × (q k ≡ true))
    → ((k : ℕ) → j ≤ k → k < f → q k ≡ true → (i ≤ k) × (k < e) × (p k ≡ true)) → some p (upto i e) ≡ some q (upto j f)
some_range p q i e j f onto back =
    bool_ext (some p (upto i e)) (some q (upto j f))
    (λ s. let (k, m, t) = some_in p (upto i e) s in
    let (a, b) = upto_in k i e m in
    let (c, d, r) = onto k a b t in
    in_some q (in_upto k j f c d) r)
    (λ s. let (k, m, t) = some_in q (upto j f) s in
    let (a, b) = upto_in k j f m in
    let (c, d, r) = back k a b t in
    in_some p (in_upto k i e c d) r)

-- a test of the numbers from 0 on and a test of those from 1 on
pub some_higher : (p q : ℕ → Bool) (e f : ℕ) → ((k : ℕ) → k < e → p k ≡ true → (suc k < f) × (q (suc k) ≡ true))
    → ((k : ℕ) → suc k < f → q (suc k) ≡ true → (k < e) × (p k ≡ true)) → some p (upto 0 e) ≡ some q (upto 1 f)
some_higher p q e f onto back =
    bool_ext (some p (upto 0 e)) (some q (upto 1 f))
    (λ s. let (k, m, t) = some_in p (upto 0 e) s in
    let (a, b) = upto_in k 0 e m in
    let (c, r) = onto k b t in
    in_some q (in_upto (suc k) 1 f (omega arith) c) r)
    (λ s. let (k, m, t) = some_in q (upto 1 f) s in
    let (a, b) = upto_in k 1 f m in
    let z : k ≡ suc (k - 1) = omega arith in
    let (c, r) = back (k - 1) (omega arith) (ap q (omega arith) ∙ t) in
    in_some p (in_upto (k - 1) 0 e (omega arith) c) r)
