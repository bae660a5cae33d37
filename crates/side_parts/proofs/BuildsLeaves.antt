-- Building an expression with room to spare, and by a function that does the same; building a test; and building an expression with one
-- occurrence, which is added to the table.
-- Assumes nothing.
use Prim.Native.Nat.{ℕ, ◌+◌, ◌≤◌, ◌<◌, min}
use native.Mathlib.Omega.{arith}
use mathlib.Core.Path.{◌≡◌, sym, ◌∙◌, ap, subst}
use mathlib.Core.Bool.{Bool, true, false, cond, true≢false}
use mathlib.Core.List.{List, ◌∷◌}
use lib.ListN.{length}
use borrow.Author.Tests.{lt-ltb}
use Rattle.kat.specs.Expr.{Expr, test}
use Rattle.kat.specs.Tables.{null}
use Rattle.claims.specs.Query.{bit}
use Rattle.side_atoms.specs.Atoms.{atoms_of}
use Rattle.side_atoms.specs.Single.{Single}
use Rattle.side_atoms.proofs.Atoms.{atoms_bit, atoms_same, atoms_none}
use Rattle.side_tables.proofs.Shows.{shows_test, shows_added}
use Rattle.side_tables.proofs.ShowsRepeated.{looped_test}
use Rattle.side_stack.specs.Stack.{push_part}
use Rattle.side_stack.specs.declared.Part.{Part}
use Rattle.side_parts.specs.Machine.{Machine, given, fresh}
use Rattle.side_parts.proofs.Builds.{Built, Builds}

-- more room than needed
pub builds_more : (i j : ℕ) {F : Machine → Machine} {E : Expr} → i ≤ j → Builds i F E → Builds j F E
builds_more i j h b =
    record { some = omega (arith, b.some); built = λ m r u. b.built m (omega arith) u }

-- another function that does the same
pub builds_same : {j : ℕ} {F G : Machine → Machine} {E : Expr} → ((m : Machine) → F m ≡ G m) → Builds j F E → Builds j G E
builds_same {j} {F} {G} {E} e b =
    record { some = b.some; built = λ m r u. subst (Built E m) (e m) (b.built m r u) }

-- a part on top of a stack with room
pub push_room : (x : Part) (st : List Part) → length st < 544 → push_part x st ≡ x ∷ st
unfolding push_part
push_room x st h = ap (λ b. cond b (x ∷ st) st) (lt-ltb (length st) 544 h)

-- a test
pub built_given : (s : ℕ → Bool) (x : ℕ) (m : Machine) → x ≡ atoms_of s → length m.stack < 544 → m.used ≤ 64 → Built (test s) m (given x m)
unfolding given
built_given s x m e h u =
    record {
      loops = true;
      used = omega arith;
      stack = push_room (record { low = m.used; null = x; looped = true }) m.stack h
          ∙ ap (λ w. record { low = m.used; null = w; looped = true } ∷ m.stack) e;
      looped = λ z. looped_test s;
      tabled = λ U i r y. shows_test s y;
    }

pub builds_given : (s : ℕ → Bool) (x : ℕ) → x ≡ atoms_of s → Builds 1 (given x) (test s)
builds_given s x e = record { some = omega arith; built = λ m r u. built_given s x m e (omega arith) u }

-- one occurrence
module _ (E : Expr) (F L G S : ℕ → Bool) (x : Single E F L G S) (f l g s : ℕ) (a : f ≡ atoms_of F) (b : l ≡ atoms_of L) (c : g ≡ atoms_of G)
    (d : (r : ℕ) → r < 16 → bit r s ≡ S r) where
  set_bits : (w : ℕ) (H : ℕ → Bool) → w ≡ atoms_of H → (i : ℕ) → i < 64 → bit i w ≡ H i
  set_bits w H e i h = ap (bit i) e ∙ atoms_bit H i h

  pub built_fresh : (m : Machine) → length m.stack < 544 → m.used ≤ 64 → Built E m (fresh f l g s m)
  unfolding fresh
  built_fresh m h u =
      record {
        loops = false;
        used = ap (λ n. min (m.used + n) 64) (sym x.one);
        stack = push_room (record { low = m.used; null = 0; looped = false }) m.stack h
            ∙ ap (λ w. record { low = m.used; null = w; looped = false } ∷ m.stack)
            (atoms_none ∙ atoms_same (λ i. false) (null E) (λ i y. sym (x.not_null i)));
        looped = λ z. absurd (true≢false (sym z));
        tabled = λ U i r y. shows_added x y m.used f l g s i (omega (arith, x.one)) (set_bits f F a) (set_bits l L b) (set_bits g G c) d;
      }

  pub builds_fresh : Builds 1 (fresh f l g s) E
  builds_fresh = record { some = omega arith; built = λ m r u. built_fresh m (omega arith) u }
