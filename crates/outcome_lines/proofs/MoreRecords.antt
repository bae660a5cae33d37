-- Records beyond the allowance do not change the result of a search.
-- Assumes nothing.
use Prim.Native.Nat.{ℕ, ◌≤◌, zero-le}
use mathlib.Core.Path.{◌≡◌, refl, sym, ◌∙◌, ap}
use mathlib.Core.Bool.{Bool, true, false, ◌&&◌}
use mathlib.Core.List.{List, []}
use lib.Dec.{leb}
use lib.ListN.{length}
use borrow.Author.Tests.{le-leb}
use Rattle.claims.specs.Sides.{Decision}
use Rattle.claims.specs.Refusals.{bad_allowance, short_memory, short_buffer, Result, ok, refused, refuse}
use Rattle.claims.specs.Calls.{Given, searched, Asked, asked, Slot, Lent, needed_records, needed_words, left_behind, Done, enough_memory, finish, search_asked, search_call}

module _ (words buffer : List ℕ) where
  -- the memory with these records
  abbrev pub lend : List Slot → Lent
  lend rs = record { records = rs; words = words; buffer = buffer }

  module _ (allowance : ℕ) where
    records_fit : (D : Decision) (rs : List Slot) → allowance ≤ length rs → leb (needed_records D allowance) (length rs) ≡ true
    unfolding needed_records
    records_fit D rs h = go D.ring
      where
        go : (b : Bool) → leb (elim b [ false ↦ allowance | true ↦ 0 ]) (length rs) ≡ true
        go false = le-leb allowance (length rs) h
        go true = le-leb 0 (length rs) zero-le

    module _ (rs ss : List Slot) (h : allowance ≤ length rs) (k : allowance ≤ length ss) where
      same_enough : (D : Decision) → enough_memory D allowance (lend rs) ≡ enough_memory D allowance (lend ss)
      unfolding enough_memory
      same_enough D =
          ap (λ (b : Bool). b && leb (needed_words D allowance) (length words)) (records_fit D rs h ∙ sym (records_fit D ss k))

      same_finish : (D : Decision) (x : Result Given) → (finish D allowance (lend rs) x).result ≡ (finish D allowance (lend ss) x).result
      unfolding finish
      same_finish D (refused r) = refl
      same_finish D (ok g) = go (leb (length g.sheet) (length buffer))
        where
          done : Bool → List Slot → Done
          done b ts =
              elim b [
                | false ↦ record { result = refuse short_buffer 0; lent = left_behind D allowance [] (lend ts) }
                | true ↦ record { result = ok g.answer; lent = left_behind D allowance g.sheet (lend ts) }
              ]

          go : (b : Bool) → (done b rs).result ≡ (done b ss).result
          go false = refl
          go true = refl

      same_asked : (a : Asked) → (search_asked a allowance (lend rs)).result ≡ (search_asked a allowance (lend ss)).result
      unfolding search_asked
      same_asked a = go (leb 1 allowance && leb allowance 4096)
        where
          found : Bool → List Slot → Done
          found b ts =
              elim b [
                | false ↦ record { result = refuse short_memory 0; lent = lend ts }
                | true ↦ finish a.decided allowance (lend ts) (searched a.decided allowance)
              ]

          same_found : (b : Bool) → (found b rs).result ≡ (found b ss).result
          same_found false = refl
          same_found true = same_finish a.decided (searched a.decided allowance)

          done : Bool → List Slot → Done
          done b ts =
              elim b [
                | false ↦ record { result = refuse bad_allowance 0; lent = lend ts }
                | true ↦ found (enough_memory a.decided allowance (lend ts)) ts
              ]

          go : (b : Bool) → (done b rs).result ≡ (done b ss).result
          go false = refl
          go true =
              ap (λ (b : Bool). (found b rs).result) (same_enough a.decided) ∙ same_found (enough_memory a.decided allowance (lend ss))

      pub same_result : (bs : List ℕ) → (search_call bs allowance (lend rs)).result ≡ (search_call bs allowance (lend ss)).result
      unfolding search_call
      same_result bs = go (asked bs)
        where
          done : Result Asked → List Slot → Done
          done x ts = elim x [ refused r ↦ record { result = refused r; lent = lend ts } | ok a ↦ search_asked a allowance (lend ts) ]

          go : (x : Result Asked) → (done x rs).result ≡ (done x ss).result
          go (refused r) = refl
          go (ok a) = same_asked a
