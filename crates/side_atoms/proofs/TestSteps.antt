-- One code of a test on a stack in memory, a law for each way that the code can go: what was put on the stack is what the definition of
-- one step puts there.
-- Assumes nothing.
use Prim.Native.Nat.{ℕ, ◌+◌, ◌-◌, ◌≤◌, ◌<◌, min}
use native.Mathlib.Numerals.{add-one}
use native.Mathlib.Omega.{arith}
use mathlib.Core.Path.{◌≡◌, refl, sym, ◌∙◌, ap, ap₂}
use mathlib.Core.Logic.{⊎_elim}
use mathlib.Core.List.{List, [], ◌∷◌}
use lib.Bits.{bit_and, bit_or}
use lib.ListN.{length, get_or, take, drop, length-take, drop_of_length-le}
use lib.Seq.{slice, slice-cons, take_all}
use borrow.Author.Tests.{le-leb, lt-leb, ne_eqb}
use Rattle.kat.proofs.Bools.{le_or_lt}
use Rattle.side_atoms.specs.Atoms.{all_atoms}
use Rattle.side_atoms.specs.Tests.{top, under, push, stacked, holding, test_step, run_test}
use Rattle.side_atoms.proofs.Stack.{under_stacked}

-- what each code does
module _ (n c : ℕ) (st : List ℕ) where
  pub step_true : c ≡ 1 → test_step n c st ≡ push n all_atoms st
  unfolding test_step
  step_true e = rw e refl

  pub step_false : c ≡ 2 → test_step n c st ≡ push n 0 st
  unfolding test_step
  step_false e = rw e refl

  pub step_or : c ≡ 3 → test_step n c st ≡ push n (bit_or (top (under st)) (top st)) (under (under st))
  unfolding test_step
  step_or e = rw e refl

  pub step_and : c ≡ 4 → test_step n c st ≡ push n (bit_and (top (under st)) (top st)) (under (under st))
  unfolding test_step
  step_and e = rw e refl

  pub step_not : c ≡ 5 → test_step n c st ≡ push n (all_atoms - top st) (under st)
  unfolding test_step
  step_not e = rw e refl

  -- none of the operators
  module _ (a : c ≡ 1 → ⊥) (b : c ≡ 2 → ⊥) (d : c ≡ 3 → ⊥) (e : c ≡ 4 → ⊥) (f : c ≡ 5 → ⊥) where
    pub step_name : 16 ≤ c → c ≤ 21 → test_step n c st ≡ push n (holding (c - 16)) st
    unfolding test_step
    step_name h k =
        rw (ne_eqb c 1 a, ne_eqb c 2 b, ne_eqb c 3 d, ne_eqb c 4 e, ne_eqb c 5 f, le-leb 16 c h, le-leb c 21 k) refl

    pub step_below : c < 16 → test_step n c st ≡ st
    unfolding test_step
    step_below h = rw (ne_eqb c 1 a, ne_eqb c 2 b, ne_eqb c 3 d, ne_eqb c 4 e, ne_eqb c 5 f, lt-leb 16 c h) refl

    pub step_above : 16 ≤ c → 21 < c → test_step n c st ≡ st
    unfolding test_step
    step_above h k =
        rw (ne_eqb c 1 a, ne_eqb c 2 b, ne_eqb c 3 d, ne_eqb c 4 e, ne_eqb c 5 f, le-leb 16 c h, lt-leb c 21 k) refl

-- the same set
pub push_same : (w : ℕ) (st : List ℕ) (v v' : ℕ) → v ≡ v' → push w v st ≡ push w v' st
push_same w st v v' e = ap (λ k. push w k st) e

-- a set made from the two on top, a and under it b, is put in their place
pub push_two : (f : ℕ → ℕ → ℕ) (w : ℕ) (mem : List ℕ) (n m k a b : ℕ) → a ≡ top (stacked mem n) → m ≡ n - 1 → b ≡ top (stacked mem m)
    → k ≡ m - 1 → push w (f b a) (stacked mem k) ≡ push w (f (top (under (stacked mem n))) (top (stacked mem n))) (under (under (stacked mem n)))
push_two f w mem n m k a b p q r s =
    let u : stacked mem m ≡ under (stacked mem n) = ap (stacked mem) q ∙ sym (under_stacked mem n) in
    let v : stacked mem k ≡ under (under (stacked mem n)) = ap (stacked mem) s ∙ sym (under_stacked mem m) ∙ ap under u in
    ap₂ (push w) (ap₂ f (r ∙ ap top u) p) v

-- one made from what is on top
pub push_one : (f : ℕ → ℕ) (w : ℕ) (mem : List ℕ) (n m a : ℕ) → a ≡ top (stacked mem n) → m ≡ n - 1
    → push w (f a) (stacked mem m) ≡ push w (f (top (stacked mem n))) (under (stacked mem n))
push_one f w mem n m a p q = ap₂ (push w) (ap f p) (ap (stacked mem) q ∙ sym (under_stacked mem n))

-- no more than all
take_min : (n : ℕ) (l : List ℕ) → take (min n (length l)) l ≡ take n l
take_min n l =
    ⊎_elim (λ h. let e : min n (length l) ≡ n = omega arith in ap (λ k. take k l) e)
    (λ h. let e : min n (length l) ≡ length l = omega arith in
    ap (λ k. take k l) e ∙ take_all (length l) l (omega arith) ∙ sym (take_all n l (omega arith)))
    (le_or_lt n (length l))

-- the codes from one place to before another: at first, with an end that the list has
pub run_begin : (w : ℕ) (codes mem : List ℕ) (from to end : ℕ) → end ≡ min to (length codes)
    → run_test w (slice from end codes) (stacked mem 0) ≡ run_test w (slice from to codes) []
unfolding stacked
run_begin w codes mem from to end e = ap (λ l. run_test w (drop from l) []) (ap (λ k. take k codes) e ∙ take_min to codes)

-- a code more
pub run_more : (w : ℕ) (codes mem mem' : List ℕ) (i end n r c : ℕ) → i < end → end ≤ length codes → c ≡ get_or codes i 0
    → stacked mem' r ≡ test_step w c (stacked mem n)
    → run_test w (slice (i + 1) end codes) (stacked mem' r) ≡ run_test w (slice i end codes) (stacked mem n)
unfolding run_test
run_more w codes mem mem' i end n r c h k e s =
    ap (run_test w (slice (i + 1) end codes)) (s ∙ ap (λ x. test_step w x (stacked mem n)) e)
    ∙ sym (ap (λ l. run_test w l (stacked mem n))
    (slice-cons i end codes 0 h k ∙ ap (λ j. get_or codes i 0 ∷ slice j end codes) (sym (add-one i))))

-- none left
pub run_end : (w : ℕ) (codes st : List ℕ) (i end : ℕ) → end ≤ i → run_test w (slice i end codes) st ≡ st
unfolding run_test
run_end w codes st i end h =
    ap (λ l. run_test w l st) (drop_of_length-le (take end codes) {i = i} (omega (arith, length-take end codes)))
