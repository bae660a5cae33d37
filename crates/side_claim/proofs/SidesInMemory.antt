-- The pieces of the two sides as the code puts them together, a law for each way out.
-- Assumes nothing.
use Prim.Native.Nat.{ℕ, suc, ◌+◌, ◌≤◌, ◌<◌}
use native.Mathlib.Omega.{arith}
use mathlib.Core.Path.{◌≡◌, refl, sym, ◌∙◌, ap, ap₂, subst⁻¹}
use mathlib.Core.Bool.{Bool, true, false, cond, not, ◌&&◌, ◌||◌, true≢false}
use mathlib.Core.List.{List, [], ◌∷◌}
use lib.Dec.{eqb, ltb}
use lib.ListN.{length, get_or, drop}
use borrow.Author.Tests.{eq-eqb, ne_eqb}
use Rattle.kat.specs.Lists.{some}
use Rattle.side_stack.specs.Stack.{top_part, push_part}
use Rattle.side_stack.specs.declared.Part.{Part}
use Rattle.side_parts.specs.Machine.{Machine, given, united, in_order, any_star, nothing_built}
use Rattle.side_items.specs.Items.{starts_from, starts_of}
use Rattle.side_runs.specs.Program.{items_in, sets_in, counts_in}
use Rattle.side_runs.specs.Execution.{execute, execute_at, execute_all, united_times, execute_union}
use Rattle.memory.specs.Memory.{zeros}
use Rattle.side_parts.proofs.Unbuilt.{Unbuilt, unbuilt_start, unbuilt_null}
use Rattle.side_runs.proofs.Unbuilt.{union_unbuilt}
use Rattle.side_runs.proofs.RunningAll.{starts_none, starts_inside, starts_other, starts_found}
use Rattle.side_claim.specs.Sides.{first_of, start_of, is_ring, placed, assumed, zero_set, zero_for, between, around, left_machine, besides, right_machine}
use Rattle.side_claim.specs.declared.Decision.{Decision}
use Rattle.side_tables.specs.Layout.{TABLE}

-- a test negated
pub not_there : (b : Bool) → not b ≡ true → b ≡ false
not_there true e = sym e
not_there false e = refl

is_there : (b : Bool) → not b ≡ false → b ≡ true
is_there true e = refl
is_there false e = sym e

-- the first start from place i on, where an expression starts at s, is the first of all
pub record Seeks (k : ℕ) (ks : List ℕ) (i s : ℕ) : Type 0 where
  pub lines : ℕ
  pub same : first_of (starts_from (λ l. true) k lines i s (drop i ks)) ≡ start_of k ks

pub seeks_all : (k : ℕ) (ks : List ℕ) → Seeks k ks 0 0
unfolding start_of starts_of
seeks_all k ks = record { lines = 0; same = refl }

module _ (k : ℕ) (ks : List ℕ) (i s : ℕ) (x : Seeks k ks i s) where
  abbrev every : ℕ → Bool
  every l = true

  pub seeks_inside : i < length ks → get_or ks i 0 < 128 → Seeks k ks (i + 1) s
  seeks_inside h c = record { lines = x.lines; same = ap first_of (sym (starts_inside every k ks x.lines i s h c)) ∙ x.same }

  pub seeks_other : i < length ks → 128 ≤ get_or ks i 0 → (get_or ks i 0 ≡ k → ⊥) → Seeks k ks (i + 1) (i + 1)
  seeks_other h c n =
      record {
        lines = x.lines + 1;
        same = ap first_of (sym (starts_other every k ks x.lines i s h c (ap (λ b. b && true) (ne_eqb (get_or ks i 0) k n)))) ∙ x.same;
      }

  pub seeks_found : i < length ks → 128 ≤ get_or ks i 0 → get_or ks i 0 ≡ k → s ≡ start_of k ks
  unfolding first_of
  seeks_found h c e =
      sym (ap first_of (starts_found every k ks x.lines i s h c (ap (λ b. b && true) (eq-eqb (get_or ks i 0) k e)))) ∙ x.same

  pub seeks_none : length ks ≤ i → 0 ≡ start_of k ks
  unfolding first_of
  seeks_none h = sym (ap first_of (starts_none every k ks x.lines i s h)) ∙ x.same

-- where no code k is, no expression ends with it
no_starts : (counts : ℕ → Bool) (k l a s : ℕ) (ks : List ℕ) → some (λ c. eqb c k) ks ≡ false → starts_from counts k l a s ks ≡ []
unfolding starts_from
no_starts counts k l a s [] e = refl
no_starts counts k l a s (c ∷ ks) e =
    go (ltb c 128) (eqb c k) e (λ f. no_starts counts k l (a + 1) s ks f) (λ f. no_starts counts k (l + 1) (a + 1) (a + 1) ks f)
  where
    go : (b d : Bool) → (d || some (λ c. eqb c k) ks) ≡ false
        → (some (λ c. eqb c k) ks ≡ false → starts_from counts k l (a + 1) s ks ≡ [])
        → (some (λ c. eqb c k) ks ≡ false → starts_from counts k (l + 1) (a + 1) (a + 1) ks ≡ [])
        → cond b (starts_from counts k l (a + 1) s ks)
        (cond (d && counts l) (s ∷ starts_from counts k (l + 1) (a + 1) (a + 1) ks) (starts_from counts k (l + 1) (a + 1) (a + 1) ks)) ≡ []
    go b true g h i = absurd (true≢false g)
    go true false g h i = h g
    go false false g h i = i g

-- of no expressions that are assumed irreflexive no atom is a word
pub zero_none : (ks ns : List ℕ) (ring b : Bool) → b ≡ some (λ c. eqb c 134) ks → not b ≡ true → 0 ≡ zero_for ks ns ring
unfolding zero_for zero_set assumed execute_union execute_all united_times starts_of given push_part top_part nothing_built
zero_none ks ns true b e f = refl
zero_none ks ns false b e f =
    let z : starts_from (counts_in ks ns) 134 0 0 0 ks ≡ [] = no_starts (counts_in ks ns) 134 0 0 0 ks (sym e ∙ not_there b f) in
    sym (ap (λ ss. (top_part (united_times (length ss) (given 0 (execute_all (sets_in ks ns) (items_in ks ns) ss nothing_built))).stack).null) z)

pub zero_ring : (ks ns : List ℕ) (ring : Bool) → ring ≡ true → 0 ≡ zero_for ks ns ring
unfolding zero_for
zero_ring ks ns ring e = sym (ap (λ b. cond b 0 (zero_set ks ns)) e)

pub zero_path : (ks ns : List ℕ) (ring : Bool) (r : ℕ) → ring ≡ false → r ≡ zero_set ks ns → r ≡ zero_for ks ns ring
unfolding zero_for
zero_path ks ns ring r e f = f ∙ sym (ap (λ b. cond b 0 (zero_set ks ns)) e)

-- the set of length-0 words of a1, by a machine that builds nothing
module _ (ks ns : List ℕ) (m n : Machine) (clear : m.table ≡ zeros TABLE) (full : m.used ≡ 64) (none : m.stack ≡ [])
    (ran : n ≡ execute_union (sets_in ks ns) (items_in ks ns) (starts_of (counts_in ks ns) 134 ks) m) where
  ran_unbuilt : Unbuilt n (assumed ks ns 134 nothing_built)
  unfolding assumed nothing_built
  ran_unbuilt =
      subst⁻¹ (λ x. Unbuilt x (execute_union (sets_in ks ns) (items_in ks ns) (starts_of (counts_in ks ns) 134 ks) nothing_built)) ran
      (union_unbuilt (sets_in ks ns) (items_in ks ns) (starts_of (counts_in ks ns) 134 ks) m nothing_built (unbuilt_start m nothing_built clear full none refl))

  pub zero_found : (a : Part) → a ≡ top_part n.stack → a.null ≡ zero_set ks ns
  unfolding zero_set
  zero_found a g = ap (λ (p : Part). p.null) g ∙ unbuilt_null n (assumed ks ns 134 nothing_built) ran_unbuilt

  pub still_clear : n.table ≡ zeros TABLE
  still_clear = ran_unbuilt.clear

module _ (ks ns : List ℕ) (d : Decision) where
  pub left_made : (m n : Machine) → m ≡ nothing_built → ((k : ℕ) → d.left < k → n ≡ execute k (sets_in ks ns) (items_in ks ns) d.left m)
      → n ≡ left_machine ks ns d
  unfolding left_machine placed execute_at
  left_made m n e f = f (suc d.left) (omega arith) ∙ ap (execute (suc d.left) (sets_in ks ns) (items_in ks ns) d.left) e

  pub beside_ring : (m n : Machine) (b : Bool) → b ≡ is_ring d → b ≡ true
      → n ≡ execute_union (sets_in ks ns) (items_in ks ns) (starts_of (counts_in ks ns) 134 ks) m → n ≡ besides ks ns d m
  unfolding besides assumed
  beside_ring m n b e f g =
      g ∙ sym (ap (λ c. cond c (assumed ks ns 134 m) (cond (eqb d.kind 136) (placed ks ns d.right m) (given 0 m))) (sym e ∙ f))

  pub beside_include : (m n : Machine) (b : Bool) → b ≡ is_ring d → b ≡ false → d.kind ≡ 136
      → ((k : ℕ) → d.right < k → n ≡ execute k (sets_in ks ns) (items_in ks ns) d.right m) → n ≡ besides ks ns d m
  unfolding besides placed execute_at
  beside_include m n b e f g h =
      h (suc d.right) (omega arith)
      ∙ sym (ap₂ (λ c i. cond c (assumed ks ns 134 m) (cond i (placed ks ns d.right m) (given 0 m))) (sym e ∙ f) (eq-eqb d.kind 136 g))

  pub beside_empty : (m n : Machine) (b : Bool) → b ≡ is_ring d → b ≡ false → (d.kind ≡ 136 → ⊥) → n ≡ given 0 m → n ≡ besides ks ns d m
  unfolding besides
  beside_empty m n b e f g h =
      h ∙ sym (ap₂ (λ c i. cond c (assumed ks ns 134 m) (cond i (placed ks ns d.right m) (given 0 m))) (sym e ∙ f) (ne_eqb d.kind 136 g))

  pub right_made : (ring : Bool) (z : ℕ) (m a b n : Machine) → ring ≡ is_ring d → z ≡ zero_for ks ns ring → m ≡ nothing_built
      → a ≡ besides ks ns d m → b ≡ around ks ns ring z a → n ≡ united b → n ≡ right_machine ks ns d
  unfolding right_machine
  right_made ring z m a b n e f g h i j =
      j ∙ ap united (i ∙ ap₂ (λ y x. around ks ns ring y x) f (h ∙ ap (besides ks ns d) g)
      ∙ ap (λ r. around ks ns r (zero_for ks ns r) (besides ks ns d nothing_built)) e)

module _ (ks ns : List ℕ) (ring : Bool) (z : ℕ) where
  pub inside_path : (m a b n : Machine) → not ring ≡ true → a ≡ execute_union (sets_in ks ns) (items_in ks ns) (starts_of (counts_in ks ns) 133 ks) m
      → b ≡ given z a → n ≡ united b → n ≡ between ks ns ring z m
  unfolding between assumed
  inside_path m a b n e f g h =
      h ∙ ap united (g ∙ ap (given z) f)
      ∙ sym (ap (λ c. cond c (assumed ks ns 133 m) (united (given z (assumed ks ns 133 m)))) (not_there ring e))

  pub inside_ring : (m a : Machine) → not ring ≡ false → a ≡ execute_union (sets_in ks ns) (items_in ks ns) (starts_of (counts_in ks ns) 133 ks) m
      → a ≡ between ks ns ring z m
  unfolding between assumed
  inside_ring m a e f =
      f ∙ sym (ap (λ c. cond c (assumed ks ns 133 m) (united (given z (assumed ks ns 133 m)))) (is_there ring e))

  pub around_made : (m a b c d n : Machine) → a ≡ any_star m → b ≡ between ks ns ring z a → c ≡ in_order b → d ≡ any_star c → n ≡ in_order d
      → n ≡ around ks ns ring z m
  unfolding around
  around_made m a b c d n e f g h i = i ∙ ap in_order (h ∙ ap any_star (g ∙ ap in_order (f ∙ ap (between ks ns ring z) e)))
