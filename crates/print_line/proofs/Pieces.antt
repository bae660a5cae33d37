-- Pieces of bytes put into memory one after another, by a loop: what is left of the pieces, put into the memory as it is, is all of them put into
-- the memory at the start. And their length: what was counted and the length of what is left is the length of all.
-- Assumes nothing.
use Prim.Native.Nat.{ℕ, ◌+◌, ◌*◌, ◌≤◌, ◌<◌, min}
use native.Mathlib.Omega.{arith}
use mathlib.Core.Path.{◌≡◌, refl, ◌∙◌, ap, subst}
use mathlib.Core.List.{List, [], ◌∷◌, ◌++◌}
use lib.ListN.{length, length-append}
use Rattle.kat.specs.Lists.{upto}
use Rattle.claims.specs.GraphWriting.{joined}
use Rattle.memory.proofs.Walks.{upto_more, upto_none}
use Rattle.print_line.specs.Puts.{Puts}
use Rattle.print_line.proofs.Putting.{puts_start, puts_nothing, puts_append, puts_within, puts_length}

-- the bytes `rest` are left of the bytes `all`: the memory is `now` and the next place is `to`, after a start at place `at` of `start`
pub record Left (start : List ℕ) (at : ℕ) (all now : List ℕ) (to : ℕ) (rest : List ℕ) : Type 0 where
  pub same_length : length now ≡ length start
  pub within : to ≤ length now
  pub onward : (next : ℕ) (after : List ℕ) → Puts now to rest next after → Puts start at all next after

pub left_begin : (l : List ℕ) (at to : ℕ) (bs : List ℕ) → to ≡ min at (length l) → Left l at bs l to bs
left_begin l at to bs e = record { same_length = refl; within = omega arith; onward = λ next after p. puts_append (puts_start l at to e) p }

-- one piece is put
pub left_more : {l m n : List ℕ} {at to next : ℕ} {all : List ℕ} (f rest : List ℕ) → Left l at all m to (f ++ rest)
    → Puts m to f next n → Left l at all n next rest
left_more f rest L p =
    record {
      same_length = puts_length p ∙ L.same_length;
      within = puts_within p;
      onward = λ next after q. L.onward next after (puts_append p q);
    }

-- nothing is left
pub left_end : {l m : List ℕ} {at to : ℕ} {all : List ℕ} → Left l at all m to [] → Puts l at all to m
left_end {l} {m} {at} {to} L = L.onward to m (puts_nothing m to L.within)

-- pieces for the numbers of a range
module _ (f : ℕ → List ℕ) where
  pub pieces_more : (i n : ℕ) → i < n → joined f (upto i n) ≡ f i ++ joined f (upto (i + 1) n)
  pieces_more i n h = ap (joined f) (upto_more i n h)

  pub pieces_end : (i n : ℕ) → n ≤ i → joined f (upto i n) ≡ []
  pieces_end i n h = ap (joined f) (upto_none i n h)

  -- one piece put, and the last
  pub range_more : {l m n : List ℕ} {at to next : ℕ} {all : List ℕ} (i e : ℕ) → i < e → Left l at all m to (joined f (upto i e))
      → (v : List ℕ) → v ≡ f i → Puts m to v next n → Left l at all n next (joined f (upto (i + 1) e))
  range_more {l} {m} {n} {at} {to} {next} {all} i e h L v k p =
      left_more (f i) (joined f (upto (i + 1) e)) (subst (Left l at all m to) (pieces_more i e h) L) (subst (λ bs. Puts m to bs next n) k p)

  pub range_end : {l m : List ℕ} {at to : ℕ} {all : List ℕ} (i e : ℕ) → e ≤ i → Left l at all m to (joined f (upto i e)) → Puts l at all to m
  range_end {l} {m} {at} {to} {all} i e h L = left_end (subst (Left l at all m to) (pieces_end i e h) L)

  -- and counted
  pub count_more : (i e sum v all : ℕ) → i < e → v ≡ length (f i) → sum + length (joined f (upto i e)) ≡ all
      → sum + v + length (joined f (upto (i + 1) e)) ≡ all
  count_more i e sum v all h k s =
      omega (arith, ap length (pieces_more i e h), length-append (f i) (joined f (upto (i + 1) e)))

  pub count_end : (i e sum all : ℕ) → e ≤ i → sum + length (joined f (upto i e)) ≡ all → sum ≡ all
  count_end i e sum all h s = omega (arith, ap length (pieces_end i e h))

-- pieces of one length
pub pieces_length : (f : ℕ → List ℕ) (k : ℕ) → ((x : ℕ) → length (f x) ≡ k) → (xs : List ℕ) → length (joined f xs) ≡ k * length xs
pieces_length f k h [] = omega arith
pieces_length f k h (x ∷ xs) = omega (arith, length-append (f x) (joined f xs), h x, pieces_length f k h xs)
