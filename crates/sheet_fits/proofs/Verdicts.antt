-- The verdict that contents are, test by test; and what a slice of bytes holds.
-- Assumes nothing.
use Prim.Native.Nat.{ℕ, suc}
use native.Mathlib.Omega.{arith}
use mathlib.Core.Path.{◌≡◌, ap}
use mathlib.Core.Bool.{false}
use mathlib.Core.List.{List, [], ◌∷◌}
use lib.ListN.{length, get_or}
use borrow.Author.Tests.{eq-eqb, ne_eqb}
use mir.Syntax.{w8}
use mir.Val.{Fits}
use Rattle.std.specs.Prelude.{Some, None}
use Rattle.sheet_fits.specs.declared.Verdict.TheVariants.{Proved, Refuted}
use Rattle.kat.specs.Lists.{here, there}
use Rattle.kat.proofs.Bools.{false_of_not}
use Rattle.claims.specs.Bytes.{same}
use Rattle.claims.specs.SheetWriting.{AllBytes}
use Rattle.claims.proofs.Results.{same_is_equal}
use Rattle.sheet_fits.specs.inner.Steps.{verdict_of}

-- what a slice of bytes holds are bytes
pub all_bytes : (bs : List ℕ) → ((i : ℕ) → Fits w8 (get_or bs i 0)) → AllBytes bs
all_bytes (x ∷ xs) h b (here e) = omega (arith, h 0)
all_bytes (x ∷ xs) h b (there i) = all_bytes xs (λ j. h (suc j)) b i
all_bytes [] h b x'' = elim x'' [ ]

-- contents of another length than 1
pub verdict_size : (c : List ℕ) → (length c ≡ 1 → ⊥) → None ≡ verdict_of c
unfolding verdict_of
verdict_size c n = rw (verdict_of, other 1, other 2)
  where
    other : (v : ℕ) → same c (v ∷ []) ≡ false
    other v = false_of_not (same c (v ∷ [])) (λ e. n (ap length (same_is_equal c (v ∷ []) e)))

-- contents of one byte
pub verdict_proved : (c : List ℕ) → length c ≡ 1 → get_or c 0 0 ≡ 1 → Some Proved ≡ verdict_of c
unfolding verdict_of
verdict_proved [] l e = absurd (omega arith)
verdict_proved (x ∷ []) l e = rw (verdict_of, eq-eqb x 1 e)
verdict_proved (x ∷ y ∷ c) l e = absurd (omega arith)

pub verdict_refuted : (c : List ℕ) → length c ≡ 1 → get_or c 0 0 ≡ 2 → Some Refuted ≡ verdict_of c
unfolding verdict_of
verdict_refuted [] l e = absurd (omega arith)
verdict_refuted (x ∷ []) l e = let n : x ≡ 1 → ⊥ = omega arith in rw (verdict_of, ne_eqb x 1 n, eq-eqb x 2 e)
verdict_refuted (x ∷ y ∷ c) l e = absurd (omega arith)

pub verdict_neither : (c : List ℕ) → length c ≡ 1 → (get_or c 0 0 ≡ 1 → ⊥) → (get_or c 0 0 ≡ 2 → ⊥) → None ≡ verdict_of c
unfolding verdict_of
verdict_neither [] l m n = absurd (omega arith)
verdict_neither (x ∷ []) l m n = rw (verdict_of, ne_eqb x 1 m, ne_eqb x 2 n)
verdict_neither (x ∷ y ∷ c) l m n = absurd (omega arith)
