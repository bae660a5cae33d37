-- Laws of running several expressions: the codes up to a place, where the places that are left, run on the machine now, are all of them run
-- on the machine at the start; and the union of several parts, one after another.
-- Assumes nothing.
use Prim.Native.Nat.{ℕ, zero, suc, ◌+◌, ◌-◌, ◌≤◌, ◌<◌}
use native.Mathlib.Numerals.{add-one}
use native.Mathlib.Omega.{arith}
use mathlib.Core.Path.{◌≡◌, refl, sym, ap, ◌∙◌}
use mathlib.Core.Logic.{⊎_elim}
use mathlib.Core.Bool.{Bool, true, false, not, ◌&&◌, ◌||◌}
use mathlib.Core.List.{List, [], ◌∷◌}
use lib.Dec.{eqb, leb, ltb}
use lib.ListN.{length, get_or, drop, drop_of_length-le}
use lib.Seq.{drop-cons}
use borrow.Author.Tests.{lt-ltb, le-ltb}
use Rattle.kat.proofs.Bools.{lt_or_le}
use Rattle.side_parts.specs.Machine.{Machine, given, united}
use Rattle.side_items.specs.Items.{Item, of_test, starts_from, starts_of}
use Rattle.memory.proofs.Words.{same_or_not}
use Rattle.side_runs.specs.Program.{items_in, sets_in, counts_in}
use Rattle.side_runs.specs.Execution.{execute_at, execute_all, united_times, execute_union}
use Rattle.side_runs.specs.inner.Running.{Skipped, LineRan}

-- the places from i on, where an expression starts at s, behind l lines
module _ (counts : ℕ → Bool) (k : ℕ) (cs : List ℕ) (l i s : ℕ) where
  pub starts_none : length cs ≤ i → starts_from counts k l i s (drop i cs) ≡ []
  unfolding starts_from
  starts_none h = rw (drop_of_length-le cs {i = i} h)

  pub starts_inside : i < length cs → get_or cs i 0 < 128 → starts_from counts k l i s (drop i cs) ≡ starts_from counts k l (i + 1) s (drop (i + 1) cs)
  unfolding starts_from
  starts_inside h c = rw (drop-cons cs i 0 h, lt-ltb (get_or cs i 0) 128 c, add-one i)

  pub starts_other : i < length cs → 128 ≤ get_or cs i 0 → (eqb (get_or cs i 0) k && counts l) ≡ false
      → starts_from counts k l i s (drop i cs) ≡ starts_from counts k (l + 1) (i + 1) (i + 1) (drop (i + 1) cs)
  unfolding starts_from
  starts_other h c n = rw (drop-cons cs i 0 h, le-ltb (get_or cs i 0) 128 c, n, add-one i)

  pub starts_found : i < length cs → 128 ≤ get_or cs i 0 → (eqb (get_or cs i 0) k && counts l) ≡ true
      → starts_from counts k l i s (drop i cs) ≡ s ∷ starts_from counts k (l + 1) (i + 1) (i + 1) (drop (i + 1) cs)
  unfolding starts_from
  starts_found h c e = rw (drop-cons cs i 0 h, le-ltb (get_or cs i 0) 128 c, e, add-one i)

-- c expressions made n of m; what is left from place i on, behind l lines, where one starts at s, has to make of n what all make of m
pub record Rest (k : ℕ) (ks ns : List ℕ) (m : Machine) (i s l c : ℕ) (n : Machine) : Type 0 where
  pub counted : c + length (starts_from (counts_in ks ns) k l i s (drop i ks)) ≡ length (starts_of (counts_in ks ns) k ks)
  pub whole : execute_all (sets_in ks ns) (items_in ks ns) (starts_from (counts_in ks ns) k l i s (drop i ks)) n
      ≡ execute_all (sets_in ks ns) (items_in ks ns) (starts_of (counts_in ks ns) k ks) m

pub rest_all : (k : ℕ) (ks ns : List ℕ) (m : Machine) → Rest k ks ns m 0 0 0 0 m
unfolding starts_of
rest_all k ks ns m = record { counted = omega arith; whole = refl }

module _ (k : ℕ) (ks ns : List ℕ) (m : Machine) (i s l c : ℕ) (n : Machine) (rest : Rest k ks ns m i s l c n) where
  abbrev on : List ℕ → Machine → Machine
  on = execute_all (sets_in ks ns) (items_in ks ns)

  pub rest_inside : i < length ks → get_or ks i 0 < 128 → Rest k ks ns m (i + 1) s l c n
  rest_inside h j =
      let e = starts_inside (counts_in ks ns) k ks l i s h j in
      record {
        counted = ap (λ ss. c + length ss) (sym e) ∙ rest.counted;
        whole = ap (λ ss. on ss n) (sym e) ∙ rest.whole;
      }

  pub rest_other : i < length ks → 128 ≤ get_or ks i 0 → (eqb (get_or ks i 0) k && counts_in ks ns l) ≡ false → Rest k ks ns m (i + 1) (i + 1) (l + 1) c n
  rest_other h g d =
      let e = starts_other (counts_in ks ns) k ks l i s h g d in
      record {
        counted = ap (λ ss. c + length ss) (sym e) ∙ rest.counted;
        whole = ap (λ ss. on ss n) (sym e) ∙ rest.whole;
      }

  pub rest_found : i < length ks → 128 ≤ get_or ks i 0 → (eqb (get_or ks i 0) k && counts_in ks ns l) ≡ true
      → (n' : Machine) → LineRan ks ns s n n' → Rest k ks ns m (i + 1) (i + 1) (l + 1) (c + 1) n'
  unfolding execute_all execute_at
  rest_found h g d n' ran =
      let e = starts_found (counts_in ks ns) k ks l i s h g d in
      let ss = starts_from (counts_in ks ns) k (l + 1) (i + 1) (i + 1) (drop (i + 1) ks) in
      record {
        counted = omega (arith, ap length e, rest.counted);
        whole = ap (on ss) (ran (suc s) (omega arith)) ∙ (ap (λ ss. on ss n) (sym e) ∙ rest.whole);
      }

  pub rest_count : length ks ≤ i → c ≡ length (starts_of (counts_in ks ns) k ks)
  rest_count h = omega (arith, ap length (starts_none (counts_in ks ns) k ks l i s h), rest.counted)

  pub rest_done : length ks ≤ i → n ≡ on (starts_of (counts_in ks ns) k ks) m
  unfolding execute_all
  rest_done h = ap (λ ss. on ss n) (sym (starts_none (counts_in ks ns) k ks l i s h)) ∙ rest.whole

-- a code of a T more was passed
pub is_test : (b : Bool) → not b ≡ false → b ≡ true
is_test true e = refl
is_test false e = sym e

pub is_none : (b : Bool) → not b ≡ true → b ≡ false
is_none true e = sym e
is_none false e = refl

pub skip_more : (ks : List ℕ) (pc i : ℕ) → Skipped ks pc i → (b : Bool) → b ≡ of_test (get_or ks i 0) → not b ≡ false → Skipped ks pc (i + 1)
skip_more ks pc i (h, t) b e f = (
  omega arith,
  λ j a l. ⊎_elim (λ z. ap (λ n. of_test (get_or ks n 0)) z ∙ sym e ∙ is_test b f) (λ z. t j a (omega arith)) (same_or_not j i),
)

-- an operator of a T more
pub skip_operator : (ks : List ℕ) (pc i : ℕ) → Skipped ks pc i → get_or ks i 0 < 6 → Skipped ks pc (i + 1)
unfolding of_test
skip_operator ks pc i s h = skip_more ks pc i s true (sym (ap (λ b. b || (leb 16 (get_or ks i 0) && ltb (get_or ks i 0) 32)) (lt-ltb (get_or ks i 0) 6 h))) refl

-- passed on from where it was passed to
pub skip_on : (ks : List ℕ) (pc i r : ℕ) → Skipped ks pc i → Skipped ks i r → Skipped ks pc r
skip_on ks pc i r (h, t) (g, u) = (omega arith, λ j a b. ⊎_elim (λ z. t j a z) (λ z. u j z b) (lt_or_le j i))

-- uniting once more
pub united_more : (n : ℕ) (m m' : Machine) → 0 < n → m' ≡ united m → united_times (n - 1) m' ≡ united_times n m
unfolding united_times
united_more zero m m' h e = absurd (omega arith)
united_more (suc n) m m' h e =
    let less : suc n - 1 ≡ n = omega arith in
    ap (λ k. united_times k m') less ∙ ap (united_times n) e

pub united_none : (n : ℕ) (m : Machine) → n ≤ 0 → united_times n m ≡ m
unfolding united_times
united_none zero m h = refl
united_none (suc n) m h = absurd (omega arith)

-- several expressions, `[false]`, and the union of all
pub union_all_lem : (rels : List ℕ) (is : List Item) (ss : List ℕ) (c : ℕ) (m a b n : Machine) → c ≡ length ss → a ≡ execute_all rels is ss m
    → b ≡ given 0 a → n ≡ united_times c b → n ≡ execute_union rels is ss m
unfolding execute_union
union_all_lem rels is ss c m a b n l e f g = g ∙ (ap (λ k. united_times k b) l ∙ ap (united_times (length ss)) (f ∙ ap (given 0) e))
