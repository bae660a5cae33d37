-- The machine that the memory holds after each change of the table and of the parts; and what one code does to the machine, a law for each
-- way that a code can go.
-- Assumes nothing.
use Prim.Native.Nat.{ℕ, ◌+◌, ◌-◌, ◌^◌, ◌≤◌, ◌<◌, min}
use native.Mathlib.Omega.{arith}
use mathlib.Core.Path.{◌≡◌, refl, sym, ◌∙◌, ap}
use mathlib.Core.Bool.{Bool, true, false, not}
use mathlib.Core.List.{List, []}
use lib.Bits.{bit_and, bit_or, or_zero_l}
use lib.ListN.{get_or}
use borrow.Author.Tests.{ne_eqb, le-leb, lt-leb, lt-ltb, le-ltb}
use Rattle.bits.specs.Sets.{including}
use Rattle.bits.proofs.Rows.{including_in}
use Rattle.side_atoms.specs.Atoms.{all_atoms}
use Rattle.side_tables.specs.InPlace.{added, sequenced, iterated}
use Rattle.side_stack.specs.Stack.{top_part, under_part, push_part, used_in, stack_in}
use Rattle.side_stack.specs.declared.Part.{Part}
use Rattle.memory.specs.Memory.{zeros}
use Rattle.memory.proofs.Zeros.{zeros_words}
use Rattle.side_parts.specs.Machine.{Machine, machine_in, given, fresh, united, in_order, again, optional, stepped, nothing_built}
use Rattle.side_tables.specs.Layout.{TABLE}

-- the memory after each change: the number of occurrences and the parts that it holds, and the table
module _ (t ws vs : List ℕ) where
  pub given_made : (low x : ℕ) → low ≡ used_in ws → used_in vs ≡ used_in ws
      → stack_in vs ≡ push_part (record { low = low; null = x; looped = true }) (stack_in ws) → machine_in t vs ≡ given x (machine_in t ws)
  unfolding machine_in given
  given_made low x e f g = rw (f, g, e) refl

  pub united_made : (a b : Part) → a ≡ top_part (stack_in ws) → b ≡ top_part (under_part (stack_in ws)) → used_in vs ≡ used_in ws
      → stack_in vs ≡ push_part (record { low = b.low; null = bit_or b.null a.null; looped = false }) (under_part (under_part (stack_in ws)))
      → machine_in t vs ≡ united (machine_in t ws)
  unfolding machine_in united
  united_made a b e f g h = rw (g, h, e, f) refl

  pub optional_made : (a : Part) → a ≡ top_part (stack_in ws) → used_in vs ≡ used_in ws
      → stack_in vs ≡ push_part (record { low = a.low; null = all_atoms; looped = a.looped }) (under_part (stack_in ws))
      → machine_in t vs ≡ optional (machine_in t ws)
  unfolding machine_in optional
  optional_made a e f g = rw (f, g, e) refl

module _ (t u ws vs : List ℕ) where
  pub fresh_made : (f l g s low : ℕ) (us : List ℕ) → low ≡ used_in ws → u ≡ added low f l g s t → used_in us ≡ used_in ws
      → stack_in us ≡ push_part (record { low = low; null = 0; looped = false }) (stack_in ws) → used_in vs ≡ min (used_in us + 1) 64
      → stack_in vs ≡ stack_in us → machine_in u vs ≡ fresh f l g s (machine_in t ws)
  unfolding machine_in fresh
  fresh_made f l g s low us a b c d e h = rw (b, e, h, c, d, a) refl

  pub order_made : (a b : Part) (hi : ℕ) → a ≡ top_part (stack_in ws) → b ≡ top_part (under_part (stack_in ws)) → hi ≡ used_in ws
      → u ≡ sequenced b.low a.low hi b.null a.null t → used_in vs ≡ used_in ws
      → stack_in vs ≡ push_part (record { low = b.low; null = bit_and b.null a.null; looped = false }) (under_part (under_part (stack_in ws)))
      → machine_in u vs ≡ in_order (machine_in t ws)
  unfolding machine_in in_order
  order_made a b hi c d e f g h = rw (f, g, h, c, d, e) refl

  pub again_made : (a : Part) (hi : ℕ) → a ≡ top_part (stack_in ws) → a.looped ≡ false → hi ≡ used_in ws → u ≡ iterated a.low hi t
      → used_in vs ≡ used_in ws
      → stack_in vs ≡ push_part (record { low = a.low; null = a.null; looped = true }) (under_part (stack_in ws))
      → machine_in u vs ≡ again (machine_in t ws)
  unfolding machine_in again
  again_made a hi c d e f g h =
      let z : (top_part (stack_in ws)).looped ≡ false = ap (λ (p : Part). p.looped) (sym c) ∙ d in
      rw (z, f, g, h, c, e) refl

pub again_kept : (t ws : List ℕ) (a : Part) → a ≡ top_part (stack_in ws) → a.looped ≡ true → machine_in t ws ≡ again (machine_in t ws)
unfolding machine_in again
again_kept t ws a c d =
    let z : (top_part (stack_in ws)).looped ≡ true = ap (λ (p : Part). p.looped) (sym c) ∙ d in
    sym (rw z refl)

pub nothing_made : (t ws : List ℕ) (n : ℕ) → t ≡ zeros n → n ≡ TABLE → used_in ws ≡ 0 → stack_in ws ≡ [] → machine_in t ws ≡ nothing_built
unfolding machine_in nothing_built
nothing_made t ws n e f g h = rw (e, f, g, h, zeros_words TABLE) refl

pub clear_made : (t ws : List ℕ) → t ≡ zeros TABLE → (used_in ws ≡ 0) × (stack_in ws ≡ []) → machine_in t ws ≡ nothing_built
clear_made t ws e (f, g) = nothing_made t ws TABLE e refl f g

-- a test of a flag
pub not_looped : (b : Bool) → not b ≡ true → b ≡ false
not_looped true e = sym e
not_looped false e = refl

pub is_looped : (b : Bool) → not b ≡ false → b ≡ true
is_looped true e = refl
is_looped false e = sym e

-- the set of one relation alone
relation_alone : (r s : ℕ) → r < 16 → s ≡ including 64 0 r → s ≡ 2 ^ r
relation_alone r s h e = e ∙ including_in 64 0 r (omega arith) ∙ or_zero_l (2 ^ r)

-- the same occurrence
pub fresh_same : (m : Machine) (f f' l l' g g' s s' : ℕ) → f ≡ f' → l ≡ l' → g ≡ g' → s ≡ s' → fresh f l g s m ≡ fresh f' l' g' s' m
fresh_same m f f' l l' g g' s s' a b c d = rw (a, b, c, d) refl

-- the step of relation r, whose sets were read
pub relation_made : (rels : List ℕ) (r f l g s : ℕ) (m n : Machine) → r < 16 → f ≡ get_or rels r 0 → l ≡ get_or rels (r + 16) 0
    → g ≡ get_or rels (r + 32) 0 → s ≡ including 64 0 r → n ≡ fresh f l g s m
    → n ≡ fresh (get_or rels r 0) (get_or rels (r + 16) 0) (get_or rels (r + 32) 0) (2 ^ r) m
relation_made rels r f l g s m n h a b c d e = e ∙ fresh_same m _ _ _ _ _ _ _ _ a b c (relation_alone r s h d)

-- a code of a relation is that of one of 16
pub relation_below : (k : ℕ) → 32 ≤ k → k < 48 → k - 32 < 16
relation_below k h i = omega arith

-- the places of the sets of relation r
places : (k r : ℕ) → r ≡ k - 32 → 32 ≤ k → (k - 16 ≡ r + 16) × (k ≡ r + 32)
places k r p h = (omega arith, omega arith)

-- what each code does
module _ (rels : List ℕ) (k x : ℕ) where
  pub step_test : k ≡ 6 → (m : Machine) → given x m ≡ stepped rels k x m
  unfolding stepped
  step_test e m = sym (rw e refl)

  pub step_or : k ≡ 7 → (m : Machine) → united m ≡ stepped rels k x m
  unfolding stepped
  step_or e m = sym (rw e refl)

  pub step_then : k ≡ 8 → (m : Machine) → in_order m ≡ stepped rels k x m
  unfolding stepped
  step_then e m = sym (rw e refl)

  pub step_star : k ≡ 9 → (m : Machine) → optional (again m) ≡ stepped rels k x m
  unfolding stepped
  step_star e m = sym (rw e refl)

  pub step_plus : k ≡ 10 → (m : Machine) → again m ≡ stepped rels k x m
  unfolding stepped
  step_plus e m = sym (rw e refl)

  pub step_optional : k ≡ 11 → (m : Machine) → optional m ≡ stepped rels k x m
  unfolding stepped
  step_optional e m = sym (rw e refl)

  pub step_any : k ≡ 48 → (m : Machine) → fresh all_atoms all_atoms 0 65535 m ≡ stepped rels k x m
  unfolding stepped
  step_any e m = sym (rw e refl)

  -- none of these
  module _ (a : k ≡ 6 → ⊥) (b : k ≡ 7 → ⊥) (c : k ≡ 8 → ⊥) (d : k ≡ 9 → ⊥) (e : k ≡ 10 → ⊥) (f : k ≡ 11 → ⊥) (g : k ≡ 48 → ⊥) where
    pub step_relation : (r : ℕ) → r ≡ k - 32 → 32 ≤ k → k < 48 → (m : Machine)
        → fresh (get_or rels r 0) (get_or rels (r + 16) 0) (get_or rels (r + 32) 0) (2 ^ r) m ≡ stepped rels k x m
    unfolding stepped
    step_relation r p h i m =
        let (u, v) = places k r p h in
        sym (rw (ne_eqb k 6 a, ne_eqb k 7 b, ne_eqb k 8 c, ne_eqb k 9 d, ne_eqb k 10 e, ne_eqb k 11 f, ne_eqb k 48 g, le-leb 32 k h, lt-ltb k 48 i)
        (fresh_same m _ _ _ _ _ _ _ _ (ap (λ j. get_or rels j 0) (sym p)) (ap (λ j. get_or rels j 0) u) (ap (λ j. get_or rels j 0) v)
        (ap (λ j. 2 ^ j) (sym p))))

    pub step_below : k < 32 → (m : Machine) → m ≡ stepped rels k x m
    unfolding stepped
    step_below h m =
        sym (rw (ne_eqb k 6 a, ne_eqb k 7 b, ne_eqb k 8 c, ne_eqb k 9 d, ne_eqb k 10 e, ne_eqb k 11 f, ne_eqb k 48 g, lt-leb 32 k h) refl)

    pub step_above : 32 ≤ k → 48 ≤ k → (m : Machine) → m ≡ stepped rels k x m
    unfolding stepped
    step_above h i m =
        sym (rw (ne_eqb k 6 a, ne_eqb k 7 b, ne_eqb k 8 c, ne_eqb k 9 d, ne_eqb k 10 e, ne_eqb k 11 f, ne_eqb k 48 g, le-leb 32 k h, le-ltb k 48 i) refl)
