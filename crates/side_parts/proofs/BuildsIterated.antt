-- Building an expression and then one of its postfixes: `+` lets its occurrences follow one another, and does nothing where they do already; `?`
-- makes every atom a word of it; `*` is both.
-- Assumes nothing.
use Prim.Native.Nat.{ℕ, ◌+◌, ◌≤◌, ◌<◌}
use native.Mathlib.Omega.{arith}
use mathlib.Core.Path.{◌≡◌, refl, sym, ◌∙◌, ap}
use mathlib.Core.Bool.{Bool, true, false, cond}
use mathlib.Core.List.{List, ◌∷◌}
use lib.ListN.{length}
use Rattle.kat.specs.Expr.{Expr, alt, plus, opt, star}
use Rattle.kat.specs.Tables.{occurrences, null}
use Rattle.kat.proofs.Bools.{or_right}
use Rattle.side_atoms.specs.Atoms.{atoms_of, all_atoms}
use Rattle.side_atoms.proofs.Atoms.{atoms_same, atoms_all}
use Rattle.side_tables.specs.InPlace.{iterated}
use Rattle.side_tables.proofs.Shows.{Shows, shows_test, shows_union}
use Rattle.side_tables.proofs.ShowsRepeated.{looped_plus, looped_opt, shows_looped, shows_repeated}
use Rattle.side_stack.specs.Stack.{top_part, under_part, push_part}
use Rattle.side_stack.specs.declared.Part.{Part}
use Rattle.side_parts.specs.Machine.{Machine, again, optional}
use Rattle.side_parts.proofs.Builds.{Built, Builds}
use Rattle.side_parts.proofs.BuildsLeaves.{push_room}

module _ {E : Expr} {m n : Machine} (x : Built E m n) where
  -- the part on top
  abbrev part : Bool → Part
  part b = record { low = m.used; null = atoms_of (null E); looped = b }

  -- a looped part
  again_looped : x.loops ≡ true → again n ≡ n
  unfolding again top_part
  again_looped e =
      ap (λ b. cond b n (record { table = iterated (top_part n.stack).low n.used n.table; used = n.used; stack = push_part (record { low = (top_part n.stack).low; null = (top_part n.stack).null; looped = true }) (under_part n.stack) }))
      (ap (λ (st : List Part). (top_part st).looped) x.stack ∙ e)

  -- another
  again_not : x.loops ≡ false → again n ≡ record { table = iterated m.used n.used n.table; used = n.used; stack = push_part (part true) m.stack }
  unfolding again top_part under_part
  again_not e =
      ap (λ b. cond b n (record { table = iterated (top_part n.stack).low n.used n.table; used = n.used; stack = push_part (record { low = (top_part n.stack).low; null = (top_part n.stack).null; looped = true }) (under_part n.stack) }))
      (ap (λ (st : List Part). (top_part st).looped) x.stack ∙ e)
      ∙ ap (λ (st : List Part). record { table = iterated (top_part st).low n.used n.table; used = n.used; stack = push_part (record { low = (top_part st).low; null = (top_part st).null; looped = true }) (under_part st) })
      x.stack

  -- one or more times
  repeated_shown : x.loops ≡ false → (U : Expr) → 0 + occurrences U ≡ m.used → m.used + occurrences E ≤ 64 → Shows U m.table
      → Shows (alt U (plus E)) (iterated m.used n.used n.table)
  repeated_shown e U i r y =
      let u : n.used ≡ m.used + occurrences E = omega (arith, x.used) in
      rw u (shows_repeated (x.tabled U i r y) m.used (occurrences E) i refl r)

  pub built_plus : length m.stack < 544 → Built (plus E) m (again n)
  built_plus h = go x.loops refl
    where
      go : (b : Bool) → x.loops ≡ b → Built (plus E) m (again n)
      go true e =
          rw (again_looped e)
          (record {
            loops = true;
            used = x.used;
            stack = x.stack ∙ ap (λ b. part b ∷ m.stack) e;
            looped = λ z. looped_plus E;
            tabled = λ U i r y. shows_looped (x.looped e) (x.tabled U i r y);
          })
      go false e =
          rw (again_not e)
          (record {
            loops = true;
            used = x.used;
            stack = push_room (part true) m.stack h;
            looped = λ z. looped_plus E;
            tabled = repeated_shown e;
          })

  -- once or not at all
  opt_stack : length m.stack < 544 → (optional n).stack ≡ record { low = m.used; null = atoms_of (null (opt E)); looped = x.loops } ∷ m.stack
  unfolding optional top_part under_part
  opt_stack h =
      ap (λ (st : List Part). push_part (record { low = (top_part st).low; null = all_atoms; looped = (top_part st).looped }) (under_part st)) x.stack
      ∙ push_room (record { low = m.used; null = all_atoms; looped = x.loops }) m.stack h
      ∙ ap (λ w. record { low = m.used; null = w; looped = x.loops } ∷ m.stack)
      (atoms_all ∙ atoms_same (λ a. true) (null (opt E)) (λ a i. sym (or_right (null E a) refl)))

  pub built_opt : length m.stack < 544 → Built (opt E) m (optional n)
  unfolding optional
  built_opt h =
      record {
        loops = x.loops;
        used = omega (arith, x.used);
        stack = opt_stack h;
        looped = λ z. looped_opt E (x.looped z);
        tabled = λ U i r y. shows_union (shows_test (λ a. true) (x.tabled U i (omega arith) y));
      }

module _ {j : ℕ} {F : Machine → Machine} {E : Expr} (x : Builds j F E) where
  pub builds_plus : Builds j (λ m. again (F m)) (plus E)
  builds_plus = record { some = x.some; built = λ m r u. built_plus (x.built m r u) (omega (arith, x.some)) }

  pub builds_opt : Builds j (λ m. optional (F m)) (opt E)
  builds_opt = record { some = x.some; built = λ m r u. built_opt (x.built m r u) (omega (arith, x.some)) }

-- any number of times
pub builds_star : {j : ℕ} {F : Machine → Machine} {E : Expr} → Builds j F E → Builds j (λ m. optional (again (F m))) (star E)
builds_star x = builds_opt (builds_plus x)
