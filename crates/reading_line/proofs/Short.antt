-- How long a line is: at most 56 bytes, whatever machine numbers stand in it, since a machine number has at most 20 digits.
-- Assumes nothing.
use Prim.Native.Nat.{ℕ, zero, suc, ◌+◌, ◌/◌, ◌%◌, ◌^◌, ◌≤◌, ◌<◌}
use native.Mathlib.Omega.{arith}
use mathlib.Core.Path.{◌≡◌, refl, ap, subst⁻¹}
use mathlib.Core.Logic.{⊎_elim}
use mathlib.Core.Bool.{Bool, true, false}
use mathlib.Core.List.{List, [], ◌∷◌}
use lib.ListN.{length, length-append}
use borrow.Author.Tests.{lt-ltb, le-ltb}
use Rattle.kat.proofs.Bools.{lt_or_le}
use Rattle.claims.specs.Refusals.{Cause, number, too_long, bad_byte, notation, too_deep, unknown_name, wrong_kind, declared_twice, reserved_name, too_many, no_claim, after_claim, over_limit, bad_allowance, short_memory, spent_allowance, short_buffer, graph_field, sheet_field, does_not_pass}
use Rattle.claims.specs.Printed.{digits_before, decimal, spaced, refusal_line}
use Rattle.refusals.specs.Causes.{cause_of}
use Rattle.refusals.specs.declared.Refusal.{Refusal}
use Rattle.print_line.proofs.Decimals.{fewer_digits}
use Rattle.query.specs.declared.Facts.{Facts}
use Rattle.std.specs.Prelude.{Ok, Err}
use Rattle.query.specs.Answer.{Answer}
use Rattle.reading_line.specs.Shown.{accepted_line}
use Rattle.reading_line.specs.inner.Answers.{answer_line}

-- no more digits than the power of ten says
last_digit : (f n : ℕ) (ds : List ℕ) → n < 10 → digits_before (suc f) n ds ≡ (48 + n) ∷ ds
unfolding digits_before
last_digit f n ds h = rw (lt-ltb n 10 h, digits_before) refl

next_digit : (f n : ℕ) (ds : List ℕ) → 10 ≤ n → digits_before (suc f) n ds ≡ digits_before f (n / 10) ((48 + n % 10) ∷ ds)
unfolding digits_before
next_digit f n ds h = rw (le-ltb n 10 h, digits_before) refl

digits_few : (k f n : ℕ) (ds : List ℕ) → n < 10 ^ suc k → length (digits_before f n ds) ≤ suc k + length ds
unfolding digits_before
digits_few k zero n ds h = omega arith
digits_few zero (suc f) n ds h = omega (arith, ap length (last_digit f n ds (omega arith)))
digits_few (suc k) (suc f) n ds h =
    let g = digits_few k f (n / 10) ((48 + n % 10) ∷ ds) (fewer_digits n (suc k) (suc (suc k)) (omega arith) h) in
    ⊎_elim (λ l. omega (arith, ap length (last_digit f n ds l))) (λ l. omega (arith, ap length (next_digit f n ds l))) (lt_or_le n 10)

decimal_few : (n : ℕ) → n < 2 ^ 64 → length (decimal n) ≤ 20
unfolding decimal
decimal_few n h = digits_few 19 (suc n) n [] (omega arith)

number_small : (c : Cause) → number c < 2 ^ 64
unfolding number
number_small too_long = omega arith
number_small bad_byte = omega arith
number_small notation = omega arith
number_small too_deep = omega arith
number_small unknown_name = omega arith
number_small wrong_kind = omega arith
number_small declared_twice = omega arith
number_small reserved_name = omega arith
number_small too_many = omega arith
number_small no_claim = omega arith
number_small after_claim = omega arith
number_small over_limit = omega arith
number_small bad_allowance = omega arith
number_small short_memory = omega arith
number_small spent_allowance = omega arith
number_small short_buffer = omega arith
number_small graph_field = omega arith
number_small sheet_field = omega arith
number_small does_not_pass = omega arith

pub accepted_short : (ring : Bool) (left right : ℕ) → left < 2 ^ 64 → right < 2 ^ 64 → length (accepted_line ring left right) ≤ 56
unfolding accepted_line spaced
accepted_short true left right a b = simp length-append (omega (arith, decimal_few left a, decimal_few right b))
accepted_short false left right a b = simp length-append (omega (arith, decimal_few left a, decimal_few right b))

-- by the case of the answer
pub answer_accepted : (a : Answer) (f : Facts) → a ≡ Ok f → length (accepted_line f.ring f.left f.right) ≤ 56 → length (answer_line a) ≤ 56
unfolding answer_line
answer_accepted a f e h = subst⁻¹ (λ (x : Answer). length (answer_line x) ≤ 56) e h

pub answer_refused : (a : Answer) (y : Refusal) → a ≡ Err y → y.place < 2 ^ 64 → length (answer_line a) ≤ 56
unfolding answer_line refusal_line spaced
answer_refused a y e h =
    subst⁻¹ (λ (x : Answer). length (answer_line x) ≤ 56) e
    (simp length-append (omega (arith, decimal_few (number (cause_of y.why)) (number_small (cause_of y.why)), decimal_few y.place h)))
