-- What the codes of a T give: the set of the atoms that satisfy it, on top of what the stack held. Each code's own law goes by the
-- definition of one step; the theorem is by induction on the T.
-- Assumes nothing.
use Prim.Native.Nat.{ℕ, suc, ◌+◌, ◌-◌, ◌≤◌, ◌<◌}
use native.Mathlib.Omega.{arith}
use mathlib.Core.Path.{◌≡◌, refl, sym, ◌∙◌, ap}
use mathlib.Core.Bool.{Bool, true, false, cond, true≢false}
use mathlib.Core.List.{List, [], ◌∷◌, ◌++◌}
use mathlib.Core.Option.{Option, some, none}
use lib.ListN.{length, length-append}
use borrow.Author.Tests.{lt-ltb}
use Rattle.claims.specs.Bytes.{same}
use Rattle.claims.specs.Tree.{Name, TestTree, test_name, true_test, false_test, either, both, not as negated, test_line, rel_line, let_line, never_line, within_line, closed_line, assume_empty, assume_irreflexive, claim_line}
use Rattle.claims.specs.Names.{Kind, a_test, a_relation, a_let, kind_of, declares?, Use, test_uses, first_slip, slip, test_slip}
use Rattle.claims.specs.Query.{Query, bit, each, index_of, test_names, tests, holds}
use Rattle.claims.specs.Refusals.{Cause}
use Rattle.claims.proofs.Results.{same_is_equal, same_self}
use Rattle.claims.specs.Fields.{set_number}
use Rattle.codes.specs.Codes.{kind_code, code_of, test_codes}
use Rattle.bits.proofs.Bit.{bit_above}
use Rattle.side_atoms.specs.Atoms.{atoms_of, all_atoms}
use Rattle.side_atoms.specs.Tests.{top, under, push, holding, test_step, run_test, test_set}
use Rattle.side_atoms.proofs.Atoms.{atoms_same, atoms_or, atoms_and, atoms_not, atoms_none, atoms_all}
use Rattle.side_atoms.proofs.TestSteps.{step_true, step_false, step_or, step_and, step_not, step_name}

-- the sets of the 6 tests
pub holding_0 : holding 0 ≡ 0xaaaa_aaaa_aaaa_aaaa
unfolding holding atoms_of set_number bit
holding_0 = refl

pub holding_1 : holding 1 ≡ 0xcccc_cccc_cccc_cccc
unfolding holding atoms_of set_number bit
holding_1 = refl

pub holding_2 : holding 2 ≡ 0xf0f0_f0f0_f0f0_f0f0
unfolding holding atoms_of set_number bit
holding_2 = refl

pub holding_3 : holding 3 ≡ 0xff00_ff00_ff00_ff00
unfolding holding atoms_of set_number bit
holding_3 = refl

pub holding_4 : holding 4 ≡ 0xffff_0000_ffff_0000
unfolding holding atoms_of set_number bit
holding_4 = refl

pub holding_5 : holding 5 ≡ 0xffff_ffff_0000_0000
unfolding holding atoms_of set_number bit
holding_5 = refl

-- no atom below 64 has a higher bit
pub holding_above : (i : ℕ) → (i ≡ 0 → ⊥) → (i ≡ 1 → ⊥) → (i ≡ 2 → ⊥) → (i ≡ 3 → ⊥) → (i ≡ 4 → ⊥) → (i ≡ 5 → ⊥) → holding i ≡ 0
unfolding holding
holding_above i a b c d e f =
    let h : 6 ≤ i = omega arith in
    atoms_same (bit i) (λ k. false) (λ k l. bit_above 6 i k l h) ∙ sym atoms_none

-- codes after codes
pub run_append : (n : ℕ) (cs ds st : List ℕ) → run_test n (cs ++ ds) st ≡ run_test n ds (run_test n cs st)
unfolding run_test
run_append n [] ds st = refl
run_append n (c ∷ cs) ds st = run_append n cs ds (test_step n c st)

-- with room for it a set is put on top
pub push_room : (n v : ℕ) (st : List ℕ) → length st < n → push n v st ≡ v ∷ st
unfolding push
push_room n v st h = ap (λ b. cond b (v ∷ st) st) (lt-ltb (length st) n h)

-- the last code, after those of two operands or of one
pub run_two : (n c : ℕ) (cs ds st : List ℕ) (x y : ℕ) → run_test n cs st ≡ x ∷ st → run_test n ds (x ∷ st) ≡ y ∷ (x ∷ st)
    → run_test n ((cs ++ ds) ++ (c ∷ [])) st ≡ test_step n c (y ∷ (x ∷ st))
unfolding run_test
run_two n c cs ds st x y p q =
    run_append n (cs ++ ds) (c ∷ []) st
    ∙ ap (test_step n c) (run_append n cs ds st ∙ ap (run_test n ds) p ∙ q)

pub run_one : (n c : ℕ) (cs st : List ℕ) (x : ℕ) → run_test n cs st ≡ x ∷ st → run_test n (cs ++ (c ∷ [])) st ≡ test_step n c (x ∷ st)
unfolding run_test
run_one n c cs st x p = run_append n cs (c ∷ []) st ∙ ap (test_step n c) p

-- a name that is declared as a test has a number among the tests
here_or_later : (m n : Name) (ns : List Name) (k : Option Kind) → elim (same n m) [ true ↦ some a_test | false ↦ k ] ≡ some a_test
    → (k ≡ some a_test → index_of m ns < length ns) → index_of m (n ∷ ns) < length (n ∷ ns)
here_or_later m n ns k e f = go (same m n) refl
  where
    go : (b : Bool) → same m n ≡ b → elim b [ true ↦ 0 | false ↦ suc (index_of m ns) ] < suc (length ns)
    go true h = omega arith
    go false h = later (same n m) refl e
      where
        later : (b : Bool) → same n m ≡ b → elim b [ true ↦ some a_test | false ↦ k ] ≡ some a_test → suc (index_of m ns) < suc (length ns)
        later true g w =
            absurd (true≢false (sym (ap (λ x. same m x) (same_is_equal n m g) ∙ same_self m) ∙ h))
        later false g w = omega (arith, f w)

joined : (m n : Name) (x : Kind) (k : Option Kind)
    → elim (elim (same n m) as (λ b. Option Kind) [ true ↦ some x | false ↦ none ]) [ some y ↦ some y | none ↦ k ] ≡ some a_test
    → elim (same n m) [ true ↦ some x | false ↦ k ] ≡ some a_test
joined m n x k e = go (same n m) e
  where
    go : (b : Bool) → elim (elim b as (λ c. Option Kind) [ true ↦ some x | false ↦ none ]) [ some y ↦ some y | none ↦ k ] ≡ some a_test
        → elim b [ true ↦ some x | false ↦ k ] ≡ some a_test
    go true w = w
    go false w = w

not_here : (m n : Name) (x : Kind) (k : Option Kind) → (some x ≡ some a_test → ⊥) → elim (same n m) [ true ↦ some x | false ↦ k ] ≡ some a_test
    → k ≡ some a_test
not_here m n x k h e = go (same n m) e
  where
    go : (b : Bool) → elim b [ true ↦ some x | false ↦ k ] ≡ some a_test → k ≡ some a_test
    go true w = absurd (h w)
    go false w = w

pub test_number : (q : Query) (m : Name) → kind_of q m ≡ some a_test → index_of m (each test_names q) < length (each test_names q)
unfolding kind_of declares? test_names
test_number [] m e = absurd (let z : ◌≡◌ {A = ℕ} 0 1 = cc in omega arith)
test_number (test_line n ∷ q) m e = here_or_later m n (each test_names q) (kind_of q m) (joined m n a_test (kind_of q m) e) (test_number q m)
test_number (rel_line n ∷ q) m e = test_number q m (not_here m n a_relation (kind_of q m) (λ h. let z : ◌≡◌ {A = ℕ} 0 1 = cc in omega arith) (joined m n a_relation (kind_of q m) e))
test_number (let_line n t ∷ q) m e = test_number q m (not_here m n a_let (kind_of q m) (λ h. let z : ◌≡◌ {A = ℕ} 0 1 = cc in omega arith) (joined m n a_let (kind_of q m) e))
test_number (never_line t ∷ q) m e = test_number q m e
test_number (within_line n t u ∷ q) m e = test_number q m e
test_number (closed_line n ∷ q) m e = test_number q m e
test_number (assume_empty t ∷ q) m e = test_number q m e
test_number (assume_irreflexive t ∷ q) m e = test_number q m e
test_number (claim_line t ∷ q) m e = test_number q m e

-- a list of names without a slip: both its parts are so
pub no_slip_left : (q : Query) (us vs : List Use) → first_slip q (us ++ vs) ≡ none → first_slip q us ≡ none
unfolding first_slip
no_slip_left q [] vs e = refl
no_slip_left q (u ∷ us) vs e = go (slip q u) (no_slip_left q us vs) e
  where
    go : (s : Option Cause) → (first_slip q (us ++ vs) ≡ none → first_slip q us ≡ none)
        → ◌≡◌ {A = Option Cause} (elim s [ some c ↦ some c | none ↦ first_slip q (us ++ vs) ]) none → ◌≡◌ {A = Option Cause} (elim s [ some c ↦ some c | none ↦ first_slip q us ]) none
    go (some c) f w = w
    go none f w = f w

pub no_slip_right : (q : Query) (us vs : List Use) → first_slip q (us ++ vs) ≡ none → first_slip q vs ≡ none
unfolding first_slip
no_slip_right q [] vs e = e
no_slip_right q (u ∷ us) vs e = go (slip q u) (no_slip_right q us vs) e
  where
    go : (s : Option Cause) → (first_slip q (us ++ vs) ≡ none → first_slip q vs ≡ none)
        → ◌≡◌ {A = Option Cause} (elim s [ some c ↦ some c | none ↦ first_slip q (us ++ vs) ]) none → first_slip q vs ≡ none
    go (some c) f w = absurd (let z : ◌≡◌ {A = ℕ} 0 1 = cc in omega arith)
    go none f w = f w

-- a name without a slip where a test is wanted
test_name_lem : (q : Query) (m : Name) → first_slip q (test_uses (test_name m)) ≡ none → kind_of q m ≡ some a_test
unfolding first_slip test_uses slip test_slip
test_name_lem q m e = go (kind_of q m) e
  where
    go : (k : Option Kind) → ◌≡◌ {A = Option Cause} (elim (test_slip k) [ some c ↦ some c | none ↦ none ]) none → k ≡ some a_test
    go none w = absurd (let z : ◌≡◌ {A = ℕ} 0 1 = cc in omega arith)
    go (some a_test) w = refl
    go (some a_relation) w = absurd (let z : ◌≡◌ {A = ℕ} 0 1 = cc in omega arith)
    go (some a_let) w = absurd (let z : ◌≡◌ {A = ℕ} 0 1 = cc in omega arith)

-- the code of a test's name
test_code : (q : Query) (m : Name) → kind_of q m ≡ some a_test → code_of q m ≡ 16 + index_of m (tests q)
unfolding code_of kind_code
test_code q m e = ap (kind_code q m) e

-- how many codes two operands have, or one, with the operator
two_lengths : (cs ds : List ℕ) (c : ℕ) → length ((cs ++ ds) ++ (c ∷ [])) ≡ length cs + length ds + 1
two_lengths cs ds c = simp length-append

one_length : (cs : List ℕ) (c : ℕ) → length (cs ++ (c ∷ [])) ≡ length cs + 1
one_length cs c = simp length-append

-- a T has a code
pub codes_some : (q : Query) (t : TestTree) → 0 < length (test_codes q t)
unfolding test_codes
codes_some q (test_name m) = omega arith
codes_some q true_test = omega arith
codes_some q false_test = omega arith
codes_some q (either t u) = omega (arith, two_lengths (test_codes q t) (test_codes q u) 3)
codes_some q (both t u) = omega (arith, two_lengths (test_codes q t) (test_codes q u) 4)
codes_some q (negated t) = omega (arith, one_length (test_codes q t) 5)

-- a T whose names are tests of the query, of which there are at most 6: its codes put the set of the atoms that satisfy it on top
module _ (q : Query) (six : length (tests q) ≤ 6) (n : ℕ) where
  named : (m : Name) (st : List ℕ) → kind_of q m ≡ some a_test → length st < n
      → run_test n (code_of q m ∷ []) st ≡ atoms_of (bit (index_of m (tests q))) ∷ st
  unfolding run_test holding tests
  named m st e h =
      let c : code_of q m ≡ 16 + index_of m (tests q) = test_code q m e in
      let k : index_of m (tests q) < length (tests q) = test_number q m e in
      let d : code_of q m - 16 ≡ index_of m (tests q) = omega arith in
      step_name n (code_of q m) st (λ z. omega arith) (λ z. omega arith) (λ z. omega arith) (λ z. omega arith) (λ z. omega arith)
      (omega arith) (omega arith)
      ∙ push_room n (holding (code_of q m - 16)) st h
      ∙ ap (λ i. atoms_of (bit i) ∷ st) d

  -- two operands, given what each does
  pair : (t u : TestTree) (c : ℕ) (st : List ℕ)
      → ((s : List ℕ) → first_slip q (test_uses t) ≡ none → length s + length (test_codes q t) ≤ n
      → run_test n (test_codes q t) s ≡ atoms_of (holds (tests q) t) ∷ s)
      → ((s : List ℕ) → first_slip q (test_uses u) ≡ none → length s + length (test_codes q u) ≤ n
      → run_test n (test_codes q u) s ≡ atoms_of (holds (tests q) u) ∷ s)
      → first_slip q (test_uses t ++ test_uses u) ≡ none → length st + (length (test_codes q t) + length (test_codes q u) + 1) ≤ n
      → 0 < length (test_codes q t)
      → run_test n ((test_codes q t ++ test_codes q u) ++ (c ∷ [])) st
      ≡ test_step n c (atoms_of (holds (tests q) u) ∷ (atoms_of (holds (tests q) t) ∷ st))
  pair t u c st f g e h k =
      run_two n c (test_codes q t) (test_codes q u) st (atoms_of (holds (tests q) t)) (atoms_of (holds (tests q) u))
      (f st (no_slip_left q (test_uses t) (test_uses u) e) (omega arith))
      (g (atoms_of (holds (tests q) t) ∷ st) (no_slip_right q (test_uses t) (test_uses u) e) (omega arith))

  pub test_run : (t : TestTree) (st : List ℕ) → first_slip q (test_uses t) ≡ none → length st + length (test_codes q t) ≤ n
      → run_test n (test_codes q t) st ≡ atoms_of (holds (tests q) t) ∷ st
  unfolding test_codes holds test_uses run_test top under
  test_run (test_name m) st e h = named m st (test_name_lem q m e) (omega arith)
  test_run true_test st e h =
      step_true n 1 st refl ∙ push_room n all_atoms st (omega arith) ∙ ap (λ v. v ∷ st) atoms_all
  test_run false_test st e h = step_false n 2 st refl ∙ push_room n 0 st (omega arith) ∙ ap (λ v. v ∷ st) atoms_none
  test_run (either t u) st e h =
      pair t u 3 st (test_run t) (test_run u) e (omega (arith, two_lengths (test_codes q t) (test_codes q u) 3)) (codes_some q t)
      ∙ step_or n 3 _ refl ∙ push_room n _ st (omega (arith, two_lengths (test_codes q t) (test_codes q u) 3))
      ∙ ap (λ v. v ∷ st) (atoms_or (holds (tests q) t) (holds (tests q) u))
  test_run (both t u) st e h =
      pair t u 4 st (test_run t) (test_run u) e (omega (arith, two_lengths (test_codes q t) (test_codes q u) 4)) (codes_some q t)
      ∙ step_and n 4 _ refl ∙ push_room n _ st (omega (arith, two_lengths (test_codes q t) (test_codes q u) 4))
      ∙ ap (λ v. v ∷ st) (atoms_and (holds (tests q) t) (holds (tests q) u))
  test_run (negated t) st e h =
      run_one n 5 (test_codes q t) st (atoms_of (holds (tests q) t)) (test_run t st e (omega (arith, one_length (test_codes q t) 5)))
      ∙ step_not n 5 _ refl ∙ push_room n _ st (omega (arith, one_length (test_codes q t) 5))
      ∙ ap (λ v. v ∷ st) (atoms_not (holds (tests q) t))

-- the set that the codes of a T give
pub test_set_lem : (q : Query) (t : TestTree) → length (tests q) ≤ 6 → first_slip q (test_uses t) ≡ none → length (test_codes q t) ≤ 4096
    → test_set (test_codes q t) ≡ atoms_of (holds (tests q) t)
unfolding test_set top
test_set_lem q t six e h = ap top (test_run q six 4096 t [] e (omega arith))
