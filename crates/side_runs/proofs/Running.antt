-- Laws of running a line of items in memory. One item: a code of an expression is a step, a let is its own line where that starts before,
-- and else nothing. All items: what is left of the line, performed on the machine now, is the whole line performed on the machine at the start.
-- Assumes nothing.
use Prim.Native.Nat.{ℕ, zero, suc, ◌+◌, ◌-◌, ◌≤◌, ◌<◌, min}
use native.Mathlib.Omega.{arith}
use mathlib.Core.Path.{◌≡◌, refl, sym, ap, ap₂, ◌∙◌}
use mathlib.Core.Logic.{⊎_elim}
use mathlib.Core.Bool.{true, cond}
use mathlib.Core.List.{List, [], ◌∷◌, ◌++◌}
use lib.ListN.{length, get_or, take, drop, length-drop, length-append, get_or-append, get_or-eq_default, drop_of_length-le, length-replicate, get_or-replicate}
use lib.Seq.{get_or-append-add, take_all}
use borrow.Author.Tests.{lt-ltb, le-ltb, le-leb, lt-leb}
use Rattle.kat.proofs.Bools.{lt_or_le}
use Rattle.side_parts.specs.Machine.{Machine, stepped}
use Rattle.side_items.specs.Items.{Item, of_test, paired}
use Rattle.side_items.proofs.Scanned.{of_test_small}
use Rattle.memory.specs.Memory.{zeros}
use Rattle.side_runs.specs.Program.{items_in, sets_in}
use Rattle.side_runs.specs.Performing.{performed, perform}
use Rattle.side_runs.specs.Execution.{execute}
use Rattle.side_runs.specs.inner.Running.{Skipped, item_at, let_before, LineRan, ItemRan}
use Rattle.side_runs.proofs.Performed.{idle}

-- codes with what they need, from a place on
paired_size : (ks xs : List ℕ) → length ks ≤ length xs → length (paired ks xs) ≡ length ks
unfolding paired
paired_size [] xs h = refl
paired_size (k ∷ ks) [] h = absurd (omega arith)
paired_size (k ∷ ks) (x ∷ xs) h = omega (arith, paired_size ks xs (omega arith))

paired_at : (ks xs : List ℕ) (i : ℕ) → length ks ≤ length xs → i < length ks
    → drop i (paired ks xs) ≡ record { code = get_or ks i 0; arg = get_or xs i 0 } ∷ drop (suc i) (paired ks xs)
unfolding paired
paired_at [] xs i h l = absurd (omega arith)
paired_at (k ∷ ks) [] i h l = absurd (omega arith)
paired_at (k ∷ ks) (x ∷ xs) zero h l = refl
paired_at (k ∷ ks) (x ∷ xs) (suc i) h l = paired_at ks xs i (omega arith) (omega arith)

padded_at : (ns : List ℕ) (n i : ℕ) → get_or (ns ++ zeros n) i 0 ≡ get_or ns i 0
unfolding zeros
padded_at ns n i =
    ⊎_elim (λ h. get_or-append ns (zeros n) 0 i h)
    (λ h. let z : i ≡ length ns + (i - length ns) = omega arith in
    ap (λ j. get_or (ns ++ zeros n) j 0) z ∙ get_or-append-add ns (zeros n) (i - length ns) 0 ∙ none (i - length ns) ∙ sym (get_or-eq_default ns 0 h))
    (lt_or_le i (length ns))
  where
    none : (j : ℕ) → get_or (zeros n) j 0 ≡ 0
    none j =
        ⊎_elim (λ h. get_or-replicate n j 0 0 h) (λ h. get_or-eq_default (zeros n) 0 (omega (arith, length-replicate {A = ℕ} n 0))) (lt_or_le j n)

module _ (ks ns : List ℕ) where
  long_enough : length ks ≤ length (ns ++ zeros (length ks))
  unfolding zeros
  long_enough = omega (arith, length-append ns (zeros (length ks)), length-replicate {A = ℕ} (length ks) 0)

  pub items_size : length (items_in ks ns) ≡ length ks
  unfolding items_in
  items_size = paired_size ks (ns ++ zeros (length ks)) long_enough

  pub items_at : (i : ℕ) → i < length ks → drop i (items_in ks ns) ≡ item_at ks ns i ∷ drop (suc i) (items_in ks ns)
  unfolding items_in
  items_at i h =
      paired_at ks (ns ++ zeros (length ks)) i long_enough h
      ∙ ap (λ x. record { code = get_or ks i 0; arg = x } ∷ drop (suc i) (paired ks (ns ++ zeros (length ks)))) (padded_at ns (length ks) i)

  items_end : (i : ℕ) → length ks ≤ i → drop i (items_in ks ns) ≡ []
  items_end i h = drop_of_length-le (items_in ks ns) {i = i} (omega (arith, items_size))

-- the part of the memory behind what the codes need
pub sets_part : (ks ns : List ℕ) (n : ℕ) → n ≡ min (length ks) (length ns) → take (length ns - n) (drop n ns) ≡ sets_in ks ns
unfolding sets_in
sets_part ks ns n e =
    ⊎_elim
    (λ h. let z : n ≡ length ks = omega arith in
    take_all (length ns - n) (drop n ns) (omega (arith, length-drop n ns)) ∙ ap (λ j. drop j ns) z)
    (λ h. let z : n ≡ length ns = omega arith in
    take_all (length ns - n) (drop n ns) (omega (arith, length-drop n ns))
    ∙ drop_of_length-le ns {i = n} (omega arith) ∙ sym (drop_of_length-le ns {i = length ks} (omega arith)))
    (lt_or_le (length ks) (length ns))

pub step_args : (ks ns : List ℕ) (k x y n : ℕ) (m : Machine) → x ≡ y → n ≡ min (length ks) (length ns)
    → stepped (take (length ns - n) (drop n ns)) k x m ≡ stepped (sets_in ks ns) k y m
step_args ks ns k x y n m e f = ap₂ (λ r z. stepped r k z m) (sets_part ks ns n f) e

-- what one item does
module _ (call : ℕ → Machine → Machine) (rels : List ℕ) (x : Item) (m : Machine) where
  performed_below : x.code < 64 → performed call rels x m ≡ stepped rels x.code x.arg m
  unfolding performed
  performed_below h = rw (lt-leb 64 x.code h)

  performed_above : 96 ≤ x.code → performed call rels x m ≡ stepped rels x.code x.arg m
  unfolding performed
  performed_above h = rw (le-leb 64 x.code (omega arith), le-ltb x.code 96 h)

  performed_let : 64 ≤ x.code → x.code < 96 → performed call rels x m ≡ call x.arg m
  unfolding performed
  performed_let g h = rw (le-leb 64 x.code g, lt-ltb x.code 96 h)

module _ (ks ns : List ℕ) where
  abbrev rels : List ℕ
  rels = sets_in ks ns

  abbrev is : List Item
  is = items_in ks ns

  -- one item
  module _ (from i : ℕ) (m n : Machine) where
    pub item_below : get_or ks i 0 < 64 → n ≡ stepped rels (get_or ks i 0) (get_or ns i 0) m → ItemRan ks ns from i m n
    item_below h e d k = e ∙ sym (performed_below (let_before d rels is from) rels (item_at ks ns i) m h)

    pub item_above : 96 ≤ get_or ks i 0 → n ≡ stepped rels (get_or ks i 0) (get_or ns i 0) m → ItemRan ks ns from i m n
    item_above h e d k = e ∙ sym (performed_above (let_before d rels is from) rels (item_at ks ns i) m h)

    pub item_let : 64 ≤ get_or ks i 0 → get_or ks i 0 < 96 → (s : ℕ) → s ≡ get_or ns i 0 → s < from → LineRan ks ns s m n → ItemRan ks ns from i m n
    item_let g h s e l r d k =
        r d (omega arith) ∙ sym (performed_let (let_before d rels is from) rels (item_at ks ns i) m g h
        ∙ ap (λ j. let_before d rels is from j m) (sym e)
        ∙ ap (λ b. cond b (execute d rels is s m) m) (lt-ltb s from l))

    pub item_late : 64 ≤ get_or ks i 0 → get_or ks i 0 < 96 → (s : ℕ) → s ≡ get_or ns i 0 → from ≤ s → n ≡ m → ItemRan ks ns from i m n
    item_late g h s z l e d k =
        e ∙ sym (performed_let (let_before d rels is from) rels (item_at ks ns i) m g h
        ∙ ap (λ j. let_before d rels is from j m) (sym z)
        ∙ ap (λ b. cond b (execute d rels is s m) m) (le-ltb s from l))

  -- codes of a T do nothing
  skip_one : (call : ℕ → Machine → Machine) (i : ℕ) (m : Machine) → of_test (get_or ks i 0) ≡ true
      → perform call rels (drop i is) m ≡ perform call rels (drop (suc i) is) m
  unfolding perform
  skip_one call i m t =
      ⊎_elim
      (λ h. let (l, n) = of_test_small (get_or ks i 0) t in
      ap (λ ys. perform call rels ys m) (items_at ks ns i h)
      ∙ ap (λ b. cond b m (perform call rels (drop (suc i) is) (performed call rels (item_at ks ns i) m))) (lt-leb 128 (get_or ks i 0) (omega arith))
      ∙ ap (perform call rels (drop (suc i) is))
      (performed_below call rels (item_at ks ns i) m (omega arith) ∙ idle rels (get_or ks i 0) (get_or ns i 0) m t))
      (λ h. ap (λ ys. perform call rels ys m) (items_end ks ns i h ∙ sym (items_end ks ns (suc i) (omega arith))))
      (lt_or_le i (length ks))

  skip_some : (call : ℕ → Machine → Machine) (c i r : ℕ) (m : Machine) → c ≡ r - i → Skipped ks i r
      → perform call rels (drop i is) m ≡ perform call rels (drop r is) m
  skip_some call zero i r m e (h, t) = let z : i ≡ r = omega arith in ap (λ j. perform call rels (drop j is) m) z
  skip_some call (suc c) i r m e (h, t) =
      skip_one call i m (t i (omega arith) (omega arith))
      ∙ skip_some call c (suc i) r m (omega arith) (omega arith, λ j a b. t j (omega arith) b)

  pub skipped : (call : ℕ → Machine → Machine) (i r : ℕ) (m : Machine) → Skipped ks i r
      → perform call rels (drop i is) m ≡ perform call rels (drop r is) m
  skipped call i r m s = skip_some call (r - i) i r m refl s

  -- from place i on the machine n has to become what the line makes of m
  abbrev pub Left : ℕ → Machine → ℕ → Machine → Type 0
  Left from m i n =
      (d : ℕ) → from ≤ d → perform (let_before d rels is from) rels (drop i is) n ≡ perform (let_before d rels is from) rels (drop from is) m

  pub left_all : (from r : ℕ) (m : Machine) → Skipped ks from r → Left from m r m
  left_all from r m s d h = sym (skipped (let_before d rels is from) from r m s)

  module _ (from : ℕ) (m : Machine) (i : ℕ) (n : Machine) (left : Left from m i n) where
    -- an item more
    pub left_next : i < length ks → get_or ks i 0 < 128 → (n' : Machine) → ItemRan ks ns from i n n' → (r : ℕ) → Skipped ks (i + 1) r → Left from m r n'
    unfolding perform
    left_next h c n' ran r s d k =
        let call = let_before d rels is from in
        let on = perform call rels (drop (suc i) is) in
        let z : i + 1 ≡ suc i = omega arith in
        sym (skipped call (i + 1) r n' s) ∙ ap (λ j. perform call rels (drop j is) n') z ∙ ap on (ran d k)
        ∙ sym (ap (λ ys. perform call rels ys n) (items_at ks ns i h)
        ∙ ap (λ b. cond b n (on (performed call rels (item_at ks ns i) n))) (lt-leb 128 (get_or ks i 0) c))
        ∙ left d k

    -- the end of the line
    pub left_end : i < length ks → 128 ≤ get_or ks i 0 → LineRan ks ns from m n
    unfolding perform execute
    left_end h c zero k = absurd (omega arith)
    left_end h c (suc d) k =
        let call = let_before d rels is from in
        sym (ap (λ ys. perform call rels ys n) (items_at ks ns i h)
        ∙ ap (λ b. cond b n (perform call rels (drop (suc i) is) (performed call rels (item_at ks ns i) n))) (le-leb 128 (get_or ks i 0) c))
        ∙ left d (omega arith)

    -- the end of the items
    pub left_none : length ks ≤ i → LineRan ks ns from m n
    unfolding perform execute
    left_none h zero k = absurd (omega arith)
    left_none h (suc d) k =
        ap (λ ys. perform (let_before d rels is from) rels ys n) (sym (items_end ks ns i h)) ∙ left d (omega arith)
