-- The test of the memory by the claim's kind, and that it is document 01's.
-- Assumes nothing.
use Prim.Native.Nat.{ℕ, ◌*◌}
use mathlib.Core.Path.{◌≡◌, ◌∙◌, ap, ap₂}
use mathlib.Core.Bool.{Bool, true, false, ◌&&◌, and-true}
use mathlib.Core.List.{List, map}
use lib.Dec.{leb, leb-zero}
use lib.ListN.{length, length-map}
use borrow.Author.Tests.{leb-true}
use Rattle.claims.specs.Sides.{Decision}
use Rattle.claims.specs.Calls.{needed_records, needed_words, enough_memory}
use Rattle.claims.specs.Width.{width, beside_columns, ring_words}
use Rattle.search_store.specs.Store.{Room}
use Rattle.search_shape.specs.inner.Memory.{room_for, row_slot, lent_rows}

module _ (ring : Bool) (n : ℕ) (r : List (List ℕ)) (w : List ℕ) where
  pub room_of_ring : ring ≡ true → leb (40 * n) (length w) ≡ room_for ring n r w
  unfolding room_for
  room_of_ring e = rw (e, room_for)

  pub room_of_path : ring ≡ false → leb n (length r) ≡ room_for ring n r w
  unfolding room_for
  room_of_path e = rw (e, room_for)

  -- the test gives room
  pub room_by_test : room_for ring n r w ≡ true → Room ring r w n
  room_by_test h =
      record {
        path = λ e. leb-true n (length r) (room_of_path e ∙ h);
        turn = λ e. leb-true (40 * n) (length w) (room_of_ring e ∙ h);
      }

-- it is the test of 9
pub enough_is : (D : Decision) (n : ℕ) (r : List (List ℕ)) (w b : List ℕ) → enough_memory D n (lent_rows r w b) ≡ room_for D.ring n r w
unfolding enough_memory needed_records needed_words room_for lent_rows ring_words width beside_columns
enough_is D n r w b = go D.ring
  where
    go : (k : Bool)
        → (leb (elim k [ false ↦ n | true ↦ 0 ]) (length (map row_slot r)) && leb (elim k [ false ↦ 0 | true ↦ 40 * n ]) (length w))
        ≡ elim k [ false ↦ leb n (length r) | true ↦ leb (40 * n) (length w) ]
    go false =
        ap₂ (λ m x. leb n m && x) (length-map r row_slot) (leb-zero (length w)) ∙ and-true (leb n (length r))
    go true = ap (λ x. x && leb (40 * n) (length w)) (leb-zero (length (map row_slot r)))
