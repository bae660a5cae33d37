-- What an argument is, by the tests that it passes in their order; an allowance, digit by digit.
-- Assumes nothing.
use Prim.Native.Nat.{ℕ, suc, ◌+◌, ◌-◌, ◌≤◌, ◌<◌}
use native.Mathlib.Numerals.{add-one}
use mathlib.Core.Path.{◌≡◌, sym, ap}
use mathlib.Core.Bool.{true, false, cond}
use mathlib.Core.List.{List}
use lib.Dec.{ltb}
use lib.ListN.{length, get_or, drop, drop_of_length-le}
use lib.Seq.{drop-cons}
use borrow.Author.Tests.{lt-ltb, le-ltb, eq-eqb, ne_eqb}
use Rattle.claims.specs.Bytes.{text, same}
use Rattle.arguments.specs.declared.Verb.TheVariants as verbs
use Rattle.arguments.specs.declared.Kind.TheVariants as kinds
use Rattle.std.specs.Prelude.{Some, None}
use Rattle.arguments.specs.ArgumentWords.{verb_of, kind_of, dashes_first, more, count_from, allowance_in}

module _ (w : List ℕ) where
  pub is_query : same w (text "query") ≡ true → verbs.Query ≡ verb_of w
  unfolding verb_of
  is_query a = rw (a)

  pub is_sheet : same w (text "query") ≡ false → same w (text "sheet") ≡ true → verbs.Sheet ≡ verb_of w
  unfolding verb_of
  is_sheet a b = rw (a, b)

  pub is_check : same w (text "query") ≡ false → same w (text "sheet") ≡ false → same w (text "check") ≡ true → verbs.Check ≡ verb_of w
  unfolding verb_of
  is_check a b c = rw (a, b, c)

  pub is_draw : same w (text "query") ≡ false → same w (text "sheet") ≡ false → same w (text "check") ≡ false → same w (text "draw") ≡ true → verbs.Draw ≡ verb_of w
  unfolding verb_of
  is_draw a b c d = rw (a, b, c, d)

  pub is_judge : same w (text "query") ≡ false → same w (text "sheet") ≡ false → same w (text "check") ≡ false → same w (text "draw") ≡ false → same w (text "judge") ≡ true → verbs.Judge ≡ verb_of w
  unfolding verb_of
  is_judge a b c d e = rw (a, b, c, d, e)

  pub is_help : same w (text "query") ≡ false → same w (text "sheet") ≡ false → same w (text "check") ≡ false → same w (text "draw") ≡ false → same w (text "judge") ≡ false → same w (text "--help") ≡ true → verbs.Help ≡ verb_of w
  unfolding verb_of
  is_help a b c d e f = rw (a, b, c, d, e, f)

  pub is_unknown : same w (text "query") ≡ false → same w (text "sheet") ≡ false → same w (text "check") ≡ false → same w (text "draw") ≡ false → same w (text "judge") ≡ false → same w (text "--help") ≡ false → verbs.Unknown ≡ verb_of w
  unfolding verb_of
  is_unknown a b c d e f = rw (a, b, c, d, e, f)

  pub is_allowance : same w (text "--allowance") ≡ true → kinds.Allowance ≡ kind_of w
  unfolding kind_of
  is_allowance a = rw (a)

  pub is_dot : same w (text "--allowance") ≡ false → same w (text "--dot") ≡ true → kinds.Dot ≡ kind_of w
  unfolding kind_of
  is_dot a b = rw (a, b)

  pub is_other : same w (text "--allowance") ≡ false → same w (text "--dot") ≡ false → dashes_first w ≡ true → kinds.Other ≡ kind_of w
  unfolding kind_of
  is_other a b c = rw (a, b, c)

  pub is_file : same w (text "--allowance") ≡ false → same w (text "--dot") ≡ false → dashes_first w ≡ false → kinds.File ≡ kind_of w
  unfolding kind_of
  is_file a b c = rw (a, b, c)

  -- an allowance: no digits, a byte that is none, a digit more, the end
  pub no_digits : length w ≡ 0 → None ≡ allowance_in w
  unfolding allowance_in
  no_digits e = rw (eq-eqb (length w) 0 e)

  pub some_digits : (length w ≡ 0 → ⊥) → count_from 0 w ≡ allowance_in w
  unfolding allowance_in
  some_digits n = rw (ne_eqb (length w) 0 n)

  at_place : (v i : ℕ) → i < length w
      → count_from v (drop i w) ≡ cond (ltb (get_or w i 0) 48) None (cond (ltb 57 (get_or w i 0)) None (count_from (more v (get_or w i 0 - 48)) (drop (suc i) w)))
  unfolding count_from
  at_place v i h = ap (count_from v) (drop-cons w i 0 h)

  pub below_digits : (v i : ℕ) → i < length w → get_or w i 0 < 48 → None ≡ count_from v (drop i w)
  below_digits v i h k = rw (at_place v i h, lt-ltb (get_or w i 0) 48 k)

  pub above_digits : (v i : ℕ) → i < length w → 48 ≤ get_or w i 0 → 57 < get_or w i 0 → None ≡ count_from v (drop i w)
  above_digits v i h j k = rw (at_place v i h, le-ltb (get_or w i 0) 48 j, lt-ltb 57 (get_or w i 0) k)

  pub digit_more : (v u i : ℕ) → i < length w → 48 ≤ get_or w i 0 → get_or w i 0 ≤ 57 → u ≡ more v (get_or w i 0 - 48)
      → count_from u (drop (i + 1) w) ≡ count_from v (drop i w)
  digit_more v u i h j k e =
      rw (at_place v i h, le-ltb (get_or w i 0) 48 j, le-ltb 57 (get_or w i 0) k, e, add-one i)

  pub digits_end : (v i : ℕ) → length w ≤ i → Some v ≡ count_from v (drop i w)
  unfolding count_from
  digits_end v i h = sym (ap (count_from v) (drop_of_length-le w {i = i} h))
