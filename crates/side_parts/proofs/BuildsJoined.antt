-- Two expressions built one after the other: the parts of both wait, and the table shows both. So `|` builds their union, and `;` their
-- sequence.
-- Assumes nothing.
use Prim.Native.Nat.{ℕ, ◌+◌, ◌≤◌, ◌<◌, min}
use native.Mathlib.Omega.{arith}
use mathlib.Core.Path.{◌≡◌, refl, sym, ◌∙◌, ap, ap₂}
use mathlib.Core.Bool.{false, true≢false}
use mathlib.Core.List.{List, ◌∷◌}
use lib.Bits.{bit_and, bit_or}
use lib.ListN.{length}
use Rattle.kat.specs.Expr.{Expr, alt, seq}
use Rattle.kat.specs.Tables.{occurrences, null}
use Rattle.side_atoms.specs.Atoms.{atoms_of}
use Rattle.side_atoms.proofs.Atoms.{atoms_bit, atoms_or, atoms_and}
use Rattle.side_tables.specs.InPlace.{sequenced}
use Rattle.side_tables.proofs.Shows.{Shows, shows_union}
use Rattle.side_tables.proofs.ShowsJoined.{shows_sequence}
use Rattle.side_stack.specs.Stack.{top_part, under_part, push_part}
use Rattle.side_stack.specs.declared.Part.{Part}
use Rattle.side_parts.specs.Machine.{Machine, united, in_order}
use Rattle.side_parts.proofs.Builds.{Built, Builds}
use Rattle.side_parts.proofs.BuildsLeaves.{push_room}

module _ {D E : Expr} {m n o : Machine} (x : Built D m n) (y : Built E n o) where
  both_used : o.used ≡ min (m.used + (occurrences D + occurrences E)) 64
  both_used = omega (arith, x.used, y.used)

  both_stack : o.stack
      ≡ record { low = n.used; null = atoms_of (null E); looped = y.loops } ∷ (record { low = m.used; null = atoms_of (null D); looped = x.loops } ∷ m.stack)
  both_stack = y.stack ∙ ap (λ st. record { low = n.used; null = atoms_of (null E); looped = y.loops } ∷ st) x.stack

  -- the table of both
  both_shown : (U : Expr) → 0 + occurrences U ≡ m.used → m.used + (occurrences D + occurrences E) ≤ 64 → Shows U m.table → Shows (alt (alt U D) E) o.table
  both_shown U i r z =
      y.tabled (alt U D) (omega (arith, x.used)) (omega (arith, x.used)) (x.tabled U i (omega arith) z)

  -- a union
  union_stack : length m.stack < 544
      → (united o).stack ≡ record { low = m.used; null = atoms_of (null (alt D E)); looped = false } ∷ m.stack
  unfolding united top_part under_part
  union_stack h =
      ap (λ (st : List Part). push_part (record { low = (top_part (under_part st)).low; null = bit_or (top_part (under_part st)).null (top_part st).null; looped = false })
      (under_part (under_part st))) both_stack
      ∙ push_room (record { low = m.used; null = bit_or (atoms_of (null D)) (atoms_of (null E)); looped = false }) m.stack h
      ∙ ap (λ w. record { low = m.used; null = w; looped = false } ∷ m.stack) (atoms_or (null D) (null E))

  pub built_union : length m.stack < 544 → Built (alt D E) m (united o)
  unfolding united
  built_union h =
      record {
        loops = false;
        used = both_used;
        stack = union_stack h;
        looped = λ z. absurd (true≢false (sym z));
        tabled = λ U i r z. shows_union (both_shown U i r z);
      }

  -- a sequence
  sequence_stack : length m.stack < 544
      → (in_order o).stack ≡ record { low = m.used; null = atoms_of (null (seq D E)); looped = false } ∷ m.stack
  unfolding in_order top_part under_part
  sequence_stack h =
      ap (λ (st : List Part). push_part (record { low = (top_part (under_part st)).low; null = bit_and (top_part (under_part st)).null (top_part st).null; looped = false })
      (under_part (under_part st))) both_stack
      ∙ push_room (record { low = m.used; null = bit_and (atoms_of (null D)) (atoms_of (null E)); looped = false }) m.stack h
      ∙ ap (λ w. record { low = m.used; null = w; looped = false } ∷ m.stack) (atoms_and (null D) (null E))

  sequence_table : m.used + (occurrences D + occurrences E) ≤ 64 → (in_order o).table
      ≡ sequenced m.used (m.used + occurrences D) (m.used + (occurrences D + occurrences E)) (atoms_of (null D)) (atoms_of (null E)) o.table
  unfolding in_order top_part under_part
  sequence_table r =
      let u : n.used ≡ m.used + occurrences D = omega (arith, x.used) in
      let v : o.used ≡ m.used + (occurrences D + occurrences E) = omega (arith, both_used) in
      ap (λ (st : List Part). sequenced (top_part (under_part st)).low (top_part st).low o.used (top_part (under_part st)).null (top_part st).null o.table)
      both_stack
      ∙ ap₂ (λ mid hi. sequenced m.used mid hi (atoms_of (null D)) (atoms_of (null E)) o.table) u v

  sequence_shown : (U : Expr) → 0 + occurrences U ≡ m.used → m.used + (occurrences D + occurrences E) ≤ 64 → Shows U m.table
      → Shows (alt U (seq D E)) (in_order o).table
  sequence_shown U i r z =
      rw (sequence_table r)
      (shows_sequence (both_shown U i r z) m.used (occurrences D) (occurrences E) i refl refl r (atoms_of (null D)) (atoms_of (null E))
      (atoms_bit (null D)) (atoms_bit (null E)))

  pub built_sequence : length m.stack < 544 → Built (seq D E) m (in_order o)
  unfolding in_order
  built_sequence h =
      record {
        loops = false;
        used = both_used;
        stack = sequence_stack h;
        looped = λ z. absurd (true≢false (sym z));
        tabled = sequence_shown;
      }

module _ {i j : ℕ} {F G : Machine → Machine} {D E : Expr} (x : Builds i F D) (y : Builds j G E) where
  -- what is built second
  second : (m : Machine) → length m.stack + (i + j) ≤ 544 → Built D m (F m) → Built E (F m) (G (F m))
  second m r b =
      let h : length (F m).stack ≡ length m.stack + 1 = ap length b.stack ∙ omega arith in
      y.built (F m) (omega (arith, x.some)) (omega (arith, b.used))

  pub builds_union : Builds (i + j) (λ m. united (G (F m))) (alt D E)
  builds_union =
      record {
        some = omega (arith, x.some);
        built = λ m r u.
            let b = x.built m (omega arith) u in
            built_union b (second m r b) (omega (arith, x.some));
      }

  pub builds_sequence : Builds (i + j) (λ m. in_order (G (F m))) (seq D E)
  builds_sequence =
      record {
        some = omega (arith, x.some);
        built = λ m r u.
            let b = x.built m (omega arith) u in
            built_sequence b (second m r b) (omega (arith, x.some));
      }
