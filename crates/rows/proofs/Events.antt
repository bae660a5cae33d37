-- The events whose atom is in a set of atoms, one event after another: the set so far is that of the events passed. From 64 on there is no
-- event.
-- Assumes nothing.
use Prim.Native.Nat.{ℕ, ◌+◌, ◌^◌, ◌≤◌, ◌<◌, min}
use native.Mathlib.Omega.{arith}
use mathlib.Core.Path.{◌≡◌, refl, sym, ◌∙◌, ap}
use mathlib.Core.Logic.{◌⊎◌, ⊎_elim}
use mathlib.Core.Bool.{Bool, true, false, cond, ◌&&◌}
use mathlib.Core.List.{List}
use lib.Dec.{ltb}
use lib.ListN.{get_or}
use borrow.Author.Tests.{lt-ltb, le-ltb}
use Rattle.kat.proofs.Bools.{lt_or_le}
use Rattle.claims.specs.Query.{bit}
use Rattle.memory.proofs.Words.{same_or_not}
use Rattle.bits.specs.Sets.{including}
use Rattle.bits.proofs.Puts.{bit_put, bit_kept}
use Rattle.bits.proofs.Rows.{including_below}
use Rattle.side_atoms.specs.Atoms.{atoms_of}
use Rattle.side_atoms.proofs.Atoms.{atoms_small, atoms_bit, atoms_ext, atoms_same, atoms_none}
use Rattle.rows.specs.Rows.{events_in}

module _ (atoms : List ℕ) (s : ℕ) where
  -- event x is below n, and its atom is in the set
  abbrev passes : ℕ → ℕ → Bool
  passes n x = ltb x n && bit (get_or atoms x 0) s

  events_set : (n : ℕ) → events_in atoms n s ≡ atoms_of (passes n)
  unfolding events_in atoms_of
  events_set n = refl

  pub events_small : (n : ℕ) → events_in atoms n s < 2 ^ 64
  events_small n = rw (events_set n) (atoms_small (passes n))

  pub events_bit : (n x : ℕ) → x < 64 → bit x (events_in atoms n s) ≡ (ltb x n && bit (get_or atoms x 0) s)
  events_bit n x h = ap (bit x) (events_set n) ∙ atoms_bit (passes n) x h

  -- no event
  pub events_none : 0 ≡ events_in atoms 0 s
  events_none =
      atoms_none ∙ atoms_same (λ x. false) (passes 0) (λ x h. sym (ap (λ b. b && bit (get_or atoms x 0) s) (le-ltb x 0 (omega arith))))
      ∙ sym (events_set 0)

  -- the events from 64 on do not count
  pub events_all : (n m : ℕ) → m ≡ min n 64 → events_in atoms m s ≡ events_in atoms n s
  events_all n m e =
      events_set m
      ∙ atoms_same (passes m) (passes n) (λ x h. ap (λ b. b && bit (get_or atoms x 0) s) (same x h (lt_or_le x n)))
      ∙ sym (events_set n)
    where
      same : (x : ℕ) → x < 64 → (x < n) ⊎ (n ≤ x) → ltb x m ≡ ltb x n
      same x h = ⊎_elim (λ l. lt-ltb x m (omega arith) ∙ sym (lt-ltb x n l)) (λ l. le-ltb x m (omega arith) ∙ sym (le-ltb x n l))

  -- one event more
  module _ (x : ℕ) (h : x < 64) (b : Bool) (e : b ≡ bit (get_or atoms x 0) s) where
    abbrev put : ℕ
    put = cond b (including 64 (events_in atoms x s) x) (events_in atoms x s)

    at_event : bit x put ≡ passes (x + 1) x
    at_event =
        bit_put (events_in atoms x s) x b h (events_bit x x h ∙ ap (λ c. c && bit (get_or atoms x 0) s) (le-ltb x x (omega arith)))
        ∙ e ∙ sym (ap (λ c. c && bit (get_or atoms x 0) s) (lt-ltb x (x + 1) (omega arith)))

    elsewhere : (i : ℕ) → i < 64 → (i ≡ x → ⊥) → bit i put ≡ passes (x + 1) i
    elsewhere i l n =
        bit_kept (events_in atoms x s) x i b h n ∙ events_bit x i l
        ∙ ap (λ c. c && bit (get_or atoms i 0) s)
        (⊎_elim (λ k. lt-ltb i x k ∙ sym (lt-ltb i (x + 1) (omega arith))) (λ k. le-ltb i x k ∙ sym (le-ltb i (x + 1) (omega arith))) (lt_or_le i x))

    put_below : (c : Bool) → cond c (including 64 (events_in atoms x s) x) (events_in atoms x s) < 2 ^ 64
    put_below true = including_below 64 (events_in atoms x s) x (events_small x)
    put_below false = events_small x

    pub events_more : put ≡ events_in atoms (x + 1) s
    events_more =
        atoms_ext (passes (x + 1)) put (put_below b)
        (λ i l. ⊎_elim (λ z. ap (λ j. bit j put) z ∙ at_event ∙ ap (passes (x + 1)) (sym z)) (λ z. elsewhere i l z) (same_or_not i x))
        ∙ sym (events_set (x + 1))
