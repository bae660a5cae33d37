-- The atoms that are words of a part do not depend on the table, nor on how many occurrences there are. So a machine that has as many as there can
-- be, and a clear table, builds nothing: its table stays clear, and its parts have the sets that those of any other machine have.
-- Assumes nothing.
use Prim.Native.Nat.{ℕ, ◌-◌, ◌^◌}
use native.Mathlib.Omega.{arith}
use mathlib.Core.Path.{◌≡◌, refl, sym, ◌∙◌, ap, ap₂}
use mathlib.Core.Bool.{Bool, true, false, cond, ◌&&◌, true≢false}
use mathlib.Core.List.{List, [], ◌∷◌, map}
use lib.Bits.{bit_and, bit_or}
use lib.Dec.{eqb, leb, ltb}
use lib.ListN.{length, get_or}
use Rattle.memory.specs.Memory.{zeros}
use Rattle.side_atoms.specs.Atoms.{all_atoms}
use Rattle.side_tables.specs.InPlace.{sequenced, iterated}
use Rattle.side_tables.proofs.ClearTables.{added_past, sequenced_none, iterated_none}
use Rattle.side_stack.specs.Stack.{top_part, under_part, push_part}
use Rattle.side_stack.specs.declared.Part.{Part}
use Rattle.side_parts.specs.Machine.{Machine, given, fresh, united, in_order, again, optional, stepped}
use Rattle.side_tables.specs.Layout.{TABLE}

-- a part without the number of its occurrences
abbrev bare : Part → Part
bare p = record { low = 0; null = p.null; looped = p.looped }

abbrev bares : List Part → List Part
bares ps = map bare ps

bare_top : (ps : List Part) → bare (top_part ps) ≡ top_part (bares ps)
unfolding top_part
bare_top [] = refl
bare_top (p ∷ ps) = refl

bare_under : (ps : List Part) → bares (under_part ps) ≡ under_part (bares ps)
unfolding under_part
bare_under [] = refl
bare_under (p ∷ ps) = refl

bares_length : (ps : List Part) → length (bares ps) ≡ length ps
bares_length [] = refl
bares_length (p ∷ ps) = omega (arith, bares_length ps)

bare_push : (p : Part) (ps : List Part) → bares (push_part p ps) ≡ push_part (bare p) (bares ps)
unfolding push_part
bare_push p ps = go (ltb (length ps) 544) ∙ ap (λ n. cond (ltb n 544) (bare p ∷ bares ps) (bares ps)) (sym (bares_length ps))
  where
    go : (b : Bool) → bares (cond b (p ∷ ps) ps) ≡ cond b (bare p ∷ bares ps) (bares ps)
    go true = refl
    go false = refl

-- the sets and flags of the parts on top, and what is under them, by the bare parts
module _ (ps qs : List Part) (e : bares ps ≡ bares qs) where
  same_top : bare (top_part ps) ≡ bare (top_part qs)
  same_top = bare_top ps ∙ ap top_part e ∙ sym (bare_top qs)

  same_null : (top_part ps).null ≡ (top_part qs).null
  same_null = ap (λ (p : Part). p.null) same_top

  same_looped : (top_part ps).looped ≡ (top_part qs).looped
  same_looped = ap (λ (p : Part). p.looped) same_top

  same_under : bares (under_part ps) ≡ bares (under_part qs)
  same_under = bare_under ps ∙ ap under_part e ∙ sym (bare_under qs)

  same_push : (p q : Part) → bare p ≡ bare q → bares (push_part p ps) ≡ bares (push_part q qs)
  same_push p q f = bare_push p ps ∙ ap₂ push_part f e ∙ sym (bare_push q qs)

-- the machine m builds nothing, and its parts have the sets that those of n have
pub record Unbuilt (m n : Machine) : Type 0 where
  pub clear : m.table ≡ zeros TABLE
  pub full : m.used ≡ 64
  pub alike : bares m.stack ≡ bares n.stack

pub unbuilt_null : (m n : Machine) → Unbuilt m n → (top_part m.stack).null ≡ (top_part n.stack).null
unbuilt_null m n u = same_null m.stack n.stack u.alike

pub unbuilt_start : (m n : Machine) → m.table ≡ zeros TABLE → m.used ≡ 64 → m.stack ≡ [] → n.stack ≡ [] → Unbuilt m n
unbuilt_start m n t f a b = record { clear = t; full = f; alike = ap bares (a ∙ sym b) }

module _ (m n : Machine) (u : Unbuilt m n) where
  abbrev ps : List Part
  ps = m.stack

  abbrev qs : List Part
  qs = n.stack

  two_under : bares (under_part (under_part ps)) ≡ bares (under_part (under_part qs))
  two_under = same_under (under_part ps) (under_part qs) (same_under ps qs u.alike)

  second_null : (top_part (under_part ps)).null ≡ (top_part (under_part qs)).null
  second_null = same_null (under_part ps) (under_part qs) (same_under ps qs u.alike)

  pub unbuilt_given : (x : ℕ) → Unbuilt (given x m) (given x n)
  unfolding given
  unbuilt_given x = record { clear = u.clear; full = u.full; alike = same_push ps qs u.alike _ _ refl }

  pub unbuilt_fresh : (f l g s : ℕ) → Unbuilt (fresh f l g s m) (fresh f l g s n)
  unfolding fresh
  unbuilt_fresh f l g s =
      record {
        clear = added_past m.used f l g s m.table (omega (arith, u.full)) ∙ u.clear;
        full = omega (arith, u.full);
        alike = same_push ps qs u.alike _ _ refl;
      }

  pub unbuilt_united : Unbuilt (united m) (united n)
  unfolding united
  unbuilt_united =
      record {
        clear = u.clear;
        full = u.full;
        alike = same_push (under_part (under_part ps)) (under_part (under_part qs)) two_under _ _
            (ap₂ (λ a b. record { low = 0; null = bit_or a b; looped = false }) second_null (same_null ps qs u.alike));
      }

  pub unbuilt_in_order : Unbuilt (in_order m) (in_order n)
  unfolding in_order
  unbuilt_in_order =
      record {
        clear =
            ap (sequenced (top_part (under_part ps)).low (top_part ps).low m.used (top_part (under_part ps)).null (top_part ps).null) u.clear
            ∙ sequenced_none TABLE (top_part (under_part ps)).low (top_part ps).low m.used (top_part (under_part ps)).null (top_part ps).null;
        full = u.full;
        alike = same_push (under_part (under_part ps)) (under_part (under_part qs)) two_under _ _
            (ap₂ (λ a b. record { low = 0; null = bit_and a b; looped = false }) second_null (same_null ps qs u.alike));
      }

  pub unbuilt_again : Unbuilt (again m) (again n)
  unfolding again
  unbuilt_again = go (top_part ps).looped (top_part qs).looped (same_looped ps qs u.alike)
    where
      iterate : Machine → Machine
      iterate k =
          record {
            table = iterated (top_part k.stack).low k.used k.table;
            used = k.used;
            stack = push_part (record { low = (top_part k.stack).low; null = (top_part k.stack).null; looped = true }) (under_part k.stack);
          }

      go : (b c : Bool) → b ≡ c → Unbuilt (cond b m (iterate m)) (cond c n (iterate n))
      go true true e = u
      go true false e = absurd (true≢false e)
      go false true e = absurd (true≢false (sym e))
      go false false e =
          record {
            clear = ap (iterated (top_part ps).low m.used) u.clear ∙ iterated_none TABLE (top_part ps).low m.used;
            full = u.full;
            alike = same_push (under_part ps) (under_part qs) (same_under ps qs u.alike) _ _
                (ap (λ a. record { low = 0; null = a; looped = true }) (same_null ps qs u.alike));
          }

  pub unbuilt_optional : Unbuilt (optional m) (optional n)
  unfolding optional
  unbuilt_optional =
      record {
        clear = u.clear;
        full = u.full;
        alike = same_push (under_part ps) (under_part qs) (same_under ps qs u.alike) _ _
            (ap (λ b. record { low = 0; null = all_atoms; looped = b }) (same_looped ps qs u.alike));
      }

-- one code
pub unbuilt_stepped : (rels : List ℕ) (k x : ℕ) (m n : Machine) → Unbuilt m n → Unbuilt (stepped rels k x m) (stepped rels k x n)
unfolding stepped
unbuilt_stepped rels k x m n u =
    either (eqb k 6) (unbuilt_given m n u x)
    (either (eqb k 7) (unbuilt_united m n u)
    (either (eqb k 8) (unbuilt_in_order m n u)
    (either (eqb k 9) (unbuilt_optional (again m) (again n) (unbuilt_again m n u))
    (either (eqb k 10) (unbuilt_again m n u)
    (either (eqb k 11) (unbuilt_optional m n u)
    (either (eqb k 48) (unbuilt_fresh m n u all_atoms all_atoms 0 65535)
    (either (leb 32 k && ltb k 48)
    (unbuilt_fresh m n u (get_or rels (k - 32) 0) (get_or rels (k - 16) 0) (get_or rels k 0) (2 ^ (k - 32))) u)))))))
  where
    either : (b : Bool) {m₁ n₁ m₂ n₂ : Machine} → Unbuilt m₁ n₁ → Unbuilt m₂ n₂ → Unbuilt (cond b m₁ m₂) (cond b n₁ n₂)
    either true v w = v
    either false v w = w
