-- The ways out of the search on a decision: 9 for the allowance, 9 for the memory, and the search.
-- Assumes nothing.
use Prim.Native.Nat.{ℕ, ◌≤◌, ◌<◌}
use native.Mathlib.Omega.{arith}
use mathlib.Core.Path.{◌≡◌, refl, sym, ◌∙◌, ap, subst⁻¹}
use mathlib.Core.Bool.{Bool, true, false, not, ◌&&◌}
use mathlib.Core.List.{List}
use lib.Dec.{leb}
use borrow.Author.Tests.{le-leb, lt-leb, not-true, not-false}
use Rattle.kat.proofs.Bools.{and_both}
use Rattle.claims.specs.Sides.{Decision}
use Rattle.claims.specs.Refusals.{bad_allowance, short_memory, refuse}
use Rattle.claims.specs.Calls.{Asked, Lent, searched, enough_memory, finish, search_asked}
use Rattle.refusals.specs.Causes.{cause_of}
use Rattle.refusals.specs.declared.Reason.TheVariants.{BadAllowance, ShortMemory}
use Rattle.query.specs.declared.Facts.{Facts}
use Rattle.query.specs.Answer.{facts_of}
use Rattle.search_grow.specs.Kept.{state, Ready}
use Rattle.search_outcomes.specs.Outcomes.{Outcome, refused_at, Gives}
use Rattle.query.specs.Decided.{Decided}
use Rattle.search_shape.specs.inner.Memory.{room_for, lent_rows}
use Rattle.search_shape.proofs.Rooms.{room_by_test, enough_is}

in_range : (cap : ℕ) → 1 ≤ cap → cap ≤ 4096 → (leb 1 cap && leb cap 4096) ≡ true
in_range cap h k = and_both (le-leb 1 cap h) (le-leb cap 4096 k)

module _ (a : Asked) (cap : ℕ) (m : Lent) where
  out_of_range : (leb 1 cap && leb cap 4096) ≡ false → Gives (searched a.decided cap) (search_asked a cap m) (refused_at BadAllowance 0) m
  unfolding search_asked cause_of
  out_of_range e =
      subst⁻¹
      (λ b. Gives (searched a.decided cap) (elim b [
        | false ↦ record { result = refuse bad_allowance 0; lent = m }
        | true ↦ elim (enough_memory a.decided cap m) [
          | false ↦ record { result = refuse short_memory 0; lent = m }
          | true ↦ finish a.decided cap m (searched a.decided cap)
        ]
      ]) (refused_at BadAllowance 0) m)
      e (record { says = (refl, refl); leaves = refl; sized = tt })

  -- 9 for the allowance
  pub none_gives : cap ≡ 0 → Gives (searched a.decided cap) (search_asked a cap m) (refused_at BadAllowance 0) m
  none_gives e = out_of_range (ap (λ b. b && leb cap 4096) (lt-leb 1 cap (omega arith)))

  pub far_gives : (cap ≡ 0 → ⊥) → 4096 < cap → Gives (searched a.decided cap) (search_asked a cap m) (refused_at BadAllowance 0) m
  far_gives n h = out_of_range (ap (λ b. leb 1 cap && b) (lt-leb cap 4096 h) ∙ ap (λ b. b && false) (le-leb 1 cap (omega (arith, n))))

  -- the test of the memory decides
  by_memory : 1 ≤ cap → cap ≤ 4096 → (b : Bool) → enough_memory a.decided cap m ≡ b
      → search_asked a cap m
      ≡ elim b [
        | false ↦ record { result = refuse short_memory 0; lent = m }
        | true ↦ finish a.decided cap m (searched a.decided cap)
      ]
  unfolding search_asked
  by_memory h k b e =
      ap (λ c. elim c [
        | false ↦ record { result = refuse bad_allowance 0; lent = m }
        | true ↦ elim (enough_memory a.decided cap m) [
          | false ↦ record { result = refuse short_memory 0; lent = m }
          | true ↦ finish a.decided cap m (searched a.decided cap)
        ]
      ]) (in_range cap h k)
      ∙ ap (λ c. elim c [
        | false ↦ record { result = refuse short_memory 0; lent = m }
        | true ↦ finish a.decided cap m (searched a.decided cap)
      ]) e

-- memory that is enough is what the levels need
pub enough_ready : (ring : Bool) (cap : ℕ) (r : List (List ℕ)) (w : List ℕ) → cap ≤ 4096 → (room : Bool) → room ≡ room_for ring cap r w
    → not room ≡ false → Ready ring cap (state r w 0)
enough_ready ring cap r w few room tested t =
    record { allowance = few; room = room_by_test ring cap r w (sym tested ∙ not-false room t); counted = omega arith }

-- for the facts and the tables of a decision
module _ (f : Facts) (left right : List ℕ) (cap : ℕ) (r : List (List ℕ)) (w b : List ℕ) (some : cap ≡ 0 → ⊥) (few : cap ≤ 4096)
    (room : Bool) (tested : room ≡ room_for f.ring cap r w) where
  enough : (a : Asked) → Decided f left right a.decided → (x : Bool) → room ≡ x → enough_memory a.decided cap (lent_rows r w b) ≡ x
  unfolding facts_of
  enough a d x e =
      enough_is a.decided cap r w b ∙ ap (λ k. room_for k cap r w) (sym (ap (λ (g : Facts). g.ring) d.facts)) ∙ sym tested ∙ e

  -- 9 for the memory
  pub short_gives : not room ≡ true → (a : Asked) → Decided f left right a.decided
      → Gives (searched a.decided cap) (search_asked a cap (lent_rows r w b)) (refused_at ShortMemory 0) (lent_rows r w b)
  unfolding cause_of
  short_gives t a d =
      subst⁻¹ (λ z. Gives (searched a.decided cap) z (refused_at ShortMemory 0) (lent_rows r w b))
      (by_memory a cap (lent_rows r w b) (omega (arith, some)) few false (enough a d false (not-true room t)))
      (record { says = (refl, refl); leaves = refl; sized = tt })

  -- the search
  pub searched_gives : not room ≡ false → (o : Outcome) (m : Lent)
      → ((D : Decision) → Decided f left right D → Gives (searched D cap) (finish D cap (lent_rows r w b) (searched D cap)) o m)
      → (a : Asked) → Decided f left right a.decided → Gives (searched a.decided cap) (search_asked a cap (lent_rows r w b)) o m
  searched_gives t o m h a d =
      subst⁻¹ (λ z. Gives (searched a.decided cap) z o m)
      (by_memory a cap (lent_rows r w b) (omega (arith, some)) few true (enough a d true (not-false room t))) (h a.decided d)
