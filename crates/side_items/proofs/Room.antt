-- The words that stand for the codes of a T are 0: lent as room for its sets and cleared, they are what they were. Each code more keeps this, since
-- a code of a T needs nothing, and behind another code no T waits.
-- Assumes nothing.
use Prim.Native.Nat.{ℕ, ◌+◌, ◌-◌, ◌≤◌, ◌<◌}
use native.Mathlib.Omega.{arith}
use mathlib.Core.Path.{◌≡◌, refl, sym, ◌∙◌, ap}
use mathlib.Core.Bool.{Bool, true, false, cond}
use mathlib.Core.List.{List, ◌++◌}
use lib.Dec.{eqb}
use lib.ListN.{length, get_or, set, take, drop, length-take, length-drop, length-replicate, get_or-replicate, take-append-drop}
use lib.Seq.{slice, ext_get_or, get_or-take, get_or-drop, get_or-set_same, get_or-set_other}
use borrow.Author.Tests.{eqb-true, eqb-false}
use Rattle.memory.specs.Memory.{zeros}
use Rattle.side_items.specs.Items.{Scan, of_test, arg_of}
use Rattle.side_items.specs.inner.Blank.{Blank}
use Rattle.side_items.proofs.Scanned.{test_arg}

-- no more codes than places
pub slice_fits : (from to : ℕ) (ks : List ℕ) → length (slice from to ks) ≤ to - from
slice_fits from to ks = omega (arith, length-drop from (take to ks), length-take to ks)

module _ (ws : List ℕ) (from to : ℕ) (h : from ≤ to) (l : to ≤ length ws) where
  pub part_length : length (take (to - from) (drop from ws)) ≡ to - from
  part_length = simp (length-take, length-drop) (omega arith)

  part_blank : Blank ws from to → take (to - from) (drop from ws) ≡ zeros (to - from)
  unfolding zeros
  part_blank b =
      ext_get_or 0 (take (to - from) (drop from ws)) (zeros (to - from)) (part_length ∙ sym (length-replicate (to - from) 0))
      (λ i k. let m : i < to - from = omega (arith, part_length) in
      get_or-take (to - from) (drop from ws) i 0 m ∙ get_or-drop from ws i 0 ∙ b.nothing (from + i) (omega arith) (omega arith)
      ∙ sym (get_or-replicate (to - from) i 0 0 m))

  -- cleared, it is as it was
  pub put_back : (ys : List ℕ) → Blank ws from to → ys ≡ zeros (length (take (to - from) (drop from ws)))
      → take from ws ++ (ys ++ drop (to - from) (drop from ws)) ≡ ws
  put_back ys b e =
      ap (λ z. take from ws ++ (z ++ drop (to - from) (drop from ws))) (e ∙ ap zeros part_length ∙ sym (part_blank b))
      ∙ ap (λ z. take from ws ++ z) (take-append-drop (to - from) (drop from ws))
      ∙ take-append-drop from ws

-- before the first code
pub blank_none : (ws : List ℕ) (i : ℕ) → Blank ws i i
blank_none ws i = record { nothing = λ j p q. absurd (omega arith) }

-- one code more
pub blank_more : (ws : List ℕ) (s : Scan) (from i k x : ℕ) → Blank ws from i → i < length ws → x ≡ arg_of s k
    → Blank (set ws i x) (cond (of_test k) from (i + 1)) (i + 1)
blank_more ws s from i k x b l e = go (of_test k) refl
  where
    go : (t : Bool) → of_test k ≡ t → Blank (set ws i x) (cond t from (i + 1)) (i + 1)
    go false f = blank_none (set ws i x) (i + 1)
    go true f = record { nothing = λ j p q. here j p q (eqb j i) refl }
      where
        here : (j : ℕ) → from ≤ j → j < i + 1 → (d : Bool) → eqb j i ≡ d → get_or (set ws i x) j 0 ≡ 0
        here j p q true g = rw (eqb-true j i g) (get_or-set_same ws i x 0 l ∙ e ∙ test_arg k f s)
        here j p q false g =
            let n = eqb-false j i g in
            get_or-set_other ws i j x 0 n ∙ b.nothing j p (omega (arith, n))
