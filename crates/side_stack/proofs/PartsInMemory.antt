-- The parts in memory as a stack: the one on top and those under it, and a part stored on top of others.
-- Assumes nothing.
use Prim.Native.Nat.{ℕ, zero, suc, ◌+◌, ◌-◌, ◌*◌, ◌/◌, ◌%◌, ◌≤◌, ◌<◌, min}
use native.Mathlib.Omega.{arith}
use mathlib.Core.Path.{◌≡◌, refl, sym, ◌∙◌, ap, ap₂}
use mathlib.Core.Bool.{Bool, true, false, cond}
use mathlib.Core.List.{List, [], ◌∷◌}
use lib.Dec.{eqb, ltb}
use lib.ListN.{length, get_or, set, length-set}
use lib.Seq.{get_or-set_same, get_or-set_other}
use borrow.Author.Tests.{lt-ltb, le-ltb}
use Rattle.side_stack.specs.Stack.{top_part, under_part, push_part, part_at, parts_in, used_in, height_in, stack_in}
use Rattle.side_stack.specs.declared.Part.{Part}

pub parts_length : (ws : List ℕ) (n : ℕ) → length (parts_in ws n) ≡ n
unfolding parts_in
parts_length ws zero = refl
parts_length ws (suc n) = omega (arith, parts_length ws n)

pub stack_bounded : (ws : List ℕ) → length (stack_in ws) ≤ 544
unfolding stack_in height_in
stack_bounded ws = omega (arith, parts_length ws (min (get_or ws 1 0) 544))

-- the same words at their places
pub parts_same : (ws vs : List ℕ) (n : ℕ) → ((j : ℕ) → 2 ≤ j → j < 2 * n + 2 → get_or vs j 0 ≡ get_or ws j 0) → parts_in vs n ≡ parts_in ws n
unfolding parts_in part_at
parts_same ws vs zero h = refl
parts_same ws vs (suc n) h =
    ap₂ (λ w x. record { low = w / 2; null = x; looped = eqb (w % 2) 1 } ∷ parts_in vs n) (h (2 * n + 2) (omega arith) (omega arith))
    (h (2 * n + 3) (omega arith) (omega arith))
    ∙ ap (λ st. record { low = get_or ws (2 * n + 2) 0 / 2; null = get_or ws (2 * n + 3) 0; looped = eqb (get_or ws (2 * n + 2) 0 % 2) 1 } ∷ st)
    (parts_same ws vs n (λ j a b. h j a (omega arith)))

-- what is on top of n parts, and under it
pub top_none : (ws : List ℕ) (n : ℕ) → n ≤ 0 → record { low = 0; null = 0; looped = true } ≡ top_part (parts_in ws n)
unfolding top_part parts_in
top_none ws zero h = refl
top_none ws (suc n) h = absurd (omega arith)

pub top_in : (ws : List ℕ) (n w x : ℕ) → 0 < n → w ≡ get_or ws (2 * n) 0 → x ≡ get_or ws (2 * n + 1) 0
    → record { low = w / 2; null = x; looped = eqb (w % 2) 1 } ≡ top_part (parts_in ws n)
unfolding top_part parts_in part_at
top_in ws zero w x h e f = absurd (omega arith)
top_in ws (suc n) w x h e f =
    let z : 2 * suc n ≡ 2 * n + 2 = omega arith in
    let y : 2 * suc n + 1 ≡ 2 * n + 3 = omega arith in
    ap₂ (λ v u. record { low = v / 2; null = u; looped = eqb (v % 2) 1 }) (e ∙ ap (λ i. get_or ws i 0) z) (f ∙ ap (λ i. get_or ws i 0) y)

pub under_in : (ws : List ℕ) (n m : ℕ) → m ≡ n - 1 → parts_in ws m ≡ under_part (parts_in ws n)
unfolding under_part parts_in
under_in ws zero m e = let z : m ≡ 0 = omega arith in ap (parts_in ws) z
under_in ws (suc n) m e = let z : m ≡ n = omega arith in ap (parts_in ws) z

-- a part stored on top of n parts
module _ (ws : List ℕ) (long : length ws ≡ 1090) (n w x : ℕ) (room : n < 544) where
  abbrev stored : List ℕ
  stored = set (set (set ws (2 * n + 2) w) (2 * n + 3) x) 1 (n + 1)

  stored_other : (j : ℕ) → (j ≡ 1 → ⊥) → (j ≡ 2 * n + 2 → ⊥) → (j ≡ 2 * n + 3 → ⊥) → get_or stored j 0 ≡ get_or ws j 0
  stored_other j a b c =
      get_or-set_other (set (set ws (2 * n + 2) w) (2 * n + 3) x) 1 j (n + 1) 0 a ∙ get_or-set_other (set ws (2 * n + 2) w) (2 * n + 3) j x 0 c
      ∙ get_or-set_other ws (2 * n + 2) j w 0 b

  pub stored_used : used_in stored ≡ used_in ws
  unfolding used_in
  stored_used = ap (λ v. min v 64) (stored_other 0 (λ e. omega arith) (λ e. omega arith) (λ e. omega arith))

  stored_height : height_in stored ≡ suc n
  unfolding height_in
  stored_height =
      ap (λ v. min v 544) (get_or-set_same (set (set ws (2 * n + 2) w) (2 * n + 3) x) 1 (n + 1) 0
      (omega (arith, length-set (set ws (2 * n + 2) w) (2 * n + 3) x, length-set ws (2 * n + 2) w)))
      ∙ omega arith

  low_word : get_or stored (2 * n + 2) 0 ≡ w
  low_word =
      get_or-set_other (set (set ws (2 * n + 2) w) (2 * n + 3) x) 1 (2 * n + 2) (n + 1) 0 (λ e. omega arith)
      ∙ get_or-set_other (set ws (2 * n + 2) w) (2 * n + 3) (2 * n + 2) x 0 (λ e. omega arith)
      ∙ get_or-set_same ws (2 * n + 2) w 0 (omega arith)

  null_word : get_or stored (2 * n + 3) 0 ≡ x
  null_word =
      get_or-set_other (set (set ws (2 * n + 2) w) (2 * n + 3) x) 1 (2 * n + 3) (n + 1) 0 (λ e. omega arith)
      ∙ get_or-set_same (set ws (2 * n + 2) w) (2 * n + 3) x 0 (omega (arith, length-set ws (2 * n + 2) w))

  pub stored_stack : (low : ℕ) (b : Bool) → w ≡ low * 2 + cond b 1 0
      → stack_in stored ≡ push_part (record { low = low; null = x; looped = b }) (parts_in ws n)
  unfolding stack_in parts_in part_at push_part
  stored_stack low b e =
      ap (parts_in stored) stored_height
      ∙ ap₂ (λ v u. record { low = v / 2; null = u; looped = eqb (v % 2) 1 } ∷ parts_in stored n) low_word null_word
      ∙ ap (λ v. record { low = v / 2; null = x; looped = eqb (v % 2) 1 } ∷ parts_in stored n) e
      ∙ ap₂ (λ y z. record { low = y; null = x; looped = z } ∷ parts_in stored n) (half b) (odd b)
      ∙ ap (λ st. record { low = low; null = x; looped = b } ∷ st)
      (parts_same ws stored n (λ j a c. stored_other j (λ z. omega arith) (λ z. omega arith) (λ z. omega arith)))
      ∙ sym (ap (λ c. cond c (record { low = low; null = x; looped = b } ∷ parts_in ws n) (parts_in ws n))
      (ap (λ k. ltb k 544) (parts_length ws n) ∙ lt-ltb n 544 room))
    where
      half : (b : Bool) → (low * 2 + cond b 1 0) / 2 ≡ low
      half true = omega arith
      half false = omega arith

      odd : (b : Bool) → eqb ((low * 2 + cond b 1 0) % 2) 1 ≡ b
      odd true = let z : (low * 2 + 1) % 2 ≡ 1 = omega arith in ap (λ k. eqb k 1) z
      odd false = let z : (low * 2 + 0) % 2 ≡ 0 = omega arith in ap (λ k. eqb k 1) z

-- a full stack
module _ (ws : List ℕ) (long : length ws ≡ 1090) (n : ℕ) (full : n ≡ 544) where
  pub full_used : used_in (set ws 1 n) ≡ used_in ws
  unfolding used_in
  full_used = ap (λ v. min v 64) (get_or-set_other ws 1 0 n 0 (λ e. omega arith))

  pub full_stack : (x : Part) → stack_in (set ws 1 n) ≡ push_part x (parts_in ws n)
  unfolding stack_in height_in push_part
  full_stack x =
      let z : min n 544 ≡ n = omega arith in
      ap (parts_in (set ws 1 n)) (ap (λ v. min v 544) (get_or-set_same ws 1 n 0 (omega arith)) ∙ z)
      ∙ parts_same ws (set ws 1 n) n (λ j a b. get_or-set_other ws 1 j n 0 (λ e. omega arith))
      ∙ sym (ap (λ c. cond c (x ∷ parts_in ws n) (parts_in ws n)) (ap (λ k. ltb k 544) (parts_length ws n) ∙ le-ltb n 544 (omega arith)))

-- another number of occurrences
pub used_stored : (ws : List ℕ) (n : ℕ) → length ws ≡ 1090 → (used_in (set ws 0 n) ≡ min n 64) × (stack_in (set ws 0 n) ≡ stack_in ws)
unfolding used_in stack_in height_in
used_stored ws n long = (
  ap (λ v. min v 64) (get_or-set_same ws 0 n 0 (omega arith)),
  ap (λ h. parts_in (set ws 0 n) (min h 544)) (get_or-set_other ws 0 1 n 0 (λ e. omega arith))
      ∙ parts_same ws (set ws 0 n) (min (get_or ws 1 0) 544) (λ j a b. get_or-set_other ws 0 j n 0 (λ e. omega arith)),
)

-- so many occurrences, and no part
pub restarted : (ws : List ℕ) (n : ℕ) → length ws ≡ 1090 → (used_in (set (set ws 0 n) 1 0) ≡ min n 64) × (stack_in (set (set ws 0 n) 1 0) ≡ [])
unfolding used_in stack_in height_in parts_in
restarted ws n long = (
  ap (λ v. min v 64) (get_or-set_other (set ws 0 n) 1 0 0 0 (λ e. omega arith) ∙ get_or-set_same ws 0 n 0 (omega arith)),
  ap (λ h. parts_in (set (set ws 0 n) 1 0) (min h 544)) (get_or-set_same (set ws 0 n) 1 0 0 (omega (arith, length-set ws 0 n))),
)
