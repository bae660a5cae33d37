-- A table holds what it was made of, and Warshall's recursion gives the transitive closure: the entry of x and y is true exactly when
-- one or more pairs in a row lead from x to y. The idea: through the first k numbers, what leads from x to z and from z to y leads from
-- x to y, for each z below k (`joins_through`, four cases a step); so the last table is transitive, and it has only what pairs in a row
-- lead to.
-- Assumes nothing.
use Prim.Native.Nat.{ℕ, zero, suc, ◌≤◌, ◌<◌}
use native.Mathlib.Nat.{eq-or-lt_of_le}
use native.Mathlib.Omega.{arith}
use mathlib.Core.Path.{◌≡◌, sym, ◌∙◌, ap, subst}
use mathlib.Core.Logic.{◌⊎◌, ◌↔◌, ⊎_elim}
use mathlib.Core.Logic.◌⊎◌.{inl, inr}
use mathlib.Core.Bool.{Bool, true, false, ◌&&◌}
use mathlib.Core.List.{[], map}
use mathlib.Core.HLevel.{Σ_prop_path}
use lib.Dec.{T, T_prop, ltb, ltb→lt, lt→ltb}
use lib.ListN.{get_or}
use Rattle.kat.specs.Lists.{upto}
use Rattle.kat.specs.Closure.{Table, table, entry, through, closure}
use Rattle.kat.specs.Graph.{Plus, once, more}
use Rattle.kat.proofs.Sets.{at_upto, past_upto}
use Rattle.kat.proofs.Bools.{lt_or_le, or_cases, or_left, or_right, and_left, and_right, and_both, true_not_false}

pub entry_table : (n : ℕ) (f : ℕ → ℕ → Bool) (x y : ℕ) → x < n → y < n → entry (table n f) x y ≡ f x y
unfolding table entry
entry_table n f x y h k =
    ap (λ l. get_or l y false) (at_upto (λ x. map (f x) (upto 0 n)) [] n x h) ∙ at_upto (f x) false n y k

pub entry_past_row : (n : ℕ) (f : ℕ → ℕ → Bool) (x y : ℕ) → n ≤ x → entry (table n f) x y ≡ false
unfolding table entry
entry_past_row n f x y h = ap (λ l. get_or l y false) (past_upto (λ x. map (f x) (upto 0 n)) [] n x h)

pub entry_past_column : (n : ℕ) (f : ℕ → ℕ → Bool) (x y : ℕ) → n ≤ y → entry (table n f) x y ≡ false
unfolding table entry
entry_past_column n f x y h = go (lt_or_le x n)
  where
    go : (x < n) ⊎ (n ≤ x) → get_or (get_or (map (λ x. map (f x) (upto 0 n)) (upto 0 n)) x []) y false ≡ false
    go (inl k) =
        ap (λ l. get_or l y false) (at_upto (λ x. map (f x) (upto 0 n)) [] n x k) ∙ past_upto (f x) false n y h
    go (inr k) = ap (λ l. get_or l y false) (past_upto (λ x. map (f x) (upto 0 n)) [] n x k)

-- what a table has is in range, and is what it was made of
pub table_entry : (n : ℕ) (f : ℕ → ℕ → Bool) (x y : ℕ) → entry (table n f) x y ≡ true
    → (x < n) × (y < n) × (f x y ≡ true)
table_entry n f x y e = go (lt_or_le x n) (lt_or_le y n)
  where
    go : (x < n) ⊎ (n ≤ x) → (y < n) ⊎ (n ≤ y) → (x < n) × (y < n) × (f x y ≡ true)
    go (inl h) (inl k) = (h, k, sym (entry_table n f x y h k) ∙ e)
    go (inr h) c = absurd (true_not_false e (entry_past_row n f x y h))
    go (inl h) (inr k) = absurd (true_not_false e (entry_past_column n f x y k))

module _ (n : ℕ) (f : ℕ → ℕ → Bool) where
  -- x leads to y through the first k numbers
  Leads : ℕ → ℕ → ℕ → Type 0
  Leads k x y = entry (through n k (table n f)) x y ≡ true

  leads_zero : (x y : ℕ) → x < n → y < n → f x y ≡ true → Leads 0 x y
  unfolding Leads through
  leads_zero x y h k e = entry_table n f x y h k ∙ e

  zero_leads : (x y : ℕ) → Leads 0 x y → (x < n) × (y < n) × (f x y ≡ true)
  unfolding Leads through
  zero_leads x y e = table_entry n f x y e

  leads_old : (k x y : ℕ) → x < n → y < n → Leads k x y → Leads (suc k) x y
  unfolding Leads through
  leads_old k x y h j e =
      entry_table n _ x y h j ∙ or_left (entry (through n k (table n f)) x k && entry (through n k (table n f)) k y) e

  leads_new : (k x y : ℕ) → x < n → y < n → Leads k x k → Leads k k y → Leads (suc k) x y
  unfolding Leads through
  leads_new k x y h j d e =
      entry_table n _ x y h j ∙ or_right (entry (through n k (table n f)) x y) (and_both d e)

  leads_cases : (k x y : ℕ) → Leads (suc k) x y → Leads k x y ⊎ (Leads k x k × Leads k k y)
  unfolding Leads through
  leads_cases k x y e =
      let u : Table = through n k (table n f) in
      ⊎_elim (λ h. inl h)
      (λ h. inr (and_left (entry u x k) (entry u k y) h, and_right (entry u x k) (entry u k y) h))
      (or_cases (entry u x y) (entry u x k && entry u k y) (table_entry n _ x y e).2)

  leads_in_range : (k x y : ℕ) → Leads k x y → (x < n) × (y < n)
  leads_in_range zero x y e = let (h, k, d) = zero_leads x y e in (h, k)
  leads_in_range (suc k) x y e =
      ⊎_elim (λ h. leads_in_range k x y h)
      (λ (p, q). ((leads_in_range k x k p).0, (leads_in_range k k y q).1))
      (leads_cases k x y e)

  -- to k, and from k, through the first suc k is through the first k
  leads_to : (k x : ℕ) → Leads (suc k) x k → Leads k x k
  leads_to k x e = ⊎_elim (λ h. h) (λ (p, q). p) (leads_cases k x k e)

  leads_from : (k y : ℕ) → Leads (suc k) k y → Leads k k y
  leads_from k y e = ⊎_elim (λ h. h) (λ (p, q). q) (leads_cases k k y e)

  joins_through : (k z x y : ℕ) → z < k → Leads k x z → Leads k z y → Leads k x y
  joins_through zero z x y h p q = absurd (omega arith)
  joins_through (suc k) z x y h p q = go (eq-or-lt_of_le h) (leads_cases k x z p) (leads_cases k z y q) (joins_through k z)
    where
      bx : x < n
      bx = (leads_in_range (suc k) x z p).0

      by : y < n
      by = (leads_in_range (suc k) z y q).1

      go : (suc z ≡ suc k) ⊎ (suc z < suc k) → Leads k x z ⊎ (Leads k x k × Leads k k z)
          → Leads k z y ⊎ (Leads k z k × Leads k k y)
          → ((x y : ℕ) → z < k → Leads k x z → Leads k z y → Leads k x y) → Leads (suc k) x y
      go (inl e) c d ih =
          let w : z ≡ k = omega arith in
          leads_new k x y bx by (leads_to k x (subst (λ w. Leads (suc k) x w) w p))
          (leads_from k y (subst (λ w. Leads (suc k) w y) w q))
      go (inr l) (inl a) (inl b) ih = leads_old k x y bx by (ih x y (omega arith) a b)
      go (inr l) (inl a) (inr (b, c)) ih = leads_new k x y bx by (ih x k (omega arith) a b) c
      go (inr l) (inr (a, b)) (inl c) ih = leads_new k x y bx by a (ih k y (omega arith) b c)
      go (inr l) (inr (a, b)) (inr (c, d)) ih = leads_new k x y bx by a d

  leads_kept : (k x y : ℕ) → x < n → y < n → f x y ≡ true → Leads k x y
  leads_kept zero x y h j e = leads_zero x y h j e
  leads_kept (suc k) x y h j e = leads_old k x y h j (leads_kept k x y h j e)

-- two runs of pairs in a row, one after the other
pub plus_join : {A : Type 0} {R : A → A → Type 0} {x y z : A} → Plus R x y → Plus R y z → Plus R x z
plus_join (once r) q = more r q
plus_join (more r p) q = more r (plus_join p q)

-- the pairs of the test among the numbers below n
abbrev pub Below : ℕ → (ℕ → ℕ → Bool) → ℕ → ℕ → Type 0
Below n f x y = (x < n) × (y < n) × (f x y ≡ true)

leads_plus : (n : ℕ) (f : ℕ → ℕ → Bool) (k x y : ℕ) → Leads n f k x y → Plus (Below n f) x y
leads_plus n f zero x y e = once (zero_leads n f x y e)
leads_plus n f (suc k) x y e =
    ⊎_elim (λ h. leads_plus n f k x y h) (λ (p, q). plus_join (leads_plus n f k x k p) (leads_plus n f k k y q))
    (leads_cases n f k x y e)

plus_leads : (n : ℕ) (f : ℕ → ℕ → Bool) {x y : ℕ} → Plus (Below n f) x y → Leads n f n x y
plus_leads n f (once {x = x} {y = y} (h, j, e)) = leads_kept n f n x y h j e
plus_leads n f (more {x = x} {y = z} {z = y} (h, j, e) p) =
    joins_through n f n z x y j (leads_kept n f n x z h j e) (plus_leads n f p)

-- for numbers: the closure's entries are what one or more pairs in a row relate
pub closure_is_plus : (n : ℕ) (f : ℕ → ℕ → Bool) (x y : ℕ) → (entry (closure n f) x y ≡ true) ↔ Plus (Below n f) x y
unfolding closure Leads
closure_is_plus n f x y = ((λ e. leads_plus n f n x y e), (λ p. plus_leads n f p))

-- the numbers below n, with the proof as the events of a finite graph have it
abbrev pub Num : ℕ → Type 0
Num n = (x : ℕ) × T (ltb x n)

pub num_path : (n : ℕ) (x y : Num n) → x.0 ≡ y.0 → x ≡ y
num_path n x y e = Σ_prop_path {B = λ a. T (ltb a n)} (λ a. T_prop (ltb a n)) {u = x} {v = y} e

-- the same for events, where R is what the test says
module _ (n : ℕ) (f : ℕ → ℕ → Bool) {R : Num n → Num n → Type 0} (is : (x y : Num n) → (f x.0 y.0 ≡ true) ↔ R x y) where
  numbers_plus : {x y : ℕ} (h : T (ltb x n)) (j : T (ltb y n)) → Plus (Below n f) x y → Plus R (x, h) (y, j)
  numbers_plus h j (once {x = x} {y = y} (a, b, e)) = once ((is (x, h) (y, j)).0 e)
  numbers_plus h j (more {x = x} {y = z} {z = y} (a, b, e) p) =
      let k : T (ltb z n) = lt→ltb z n b in
      more ((is (x, h) (z, k)).0 e) (numbers_plus k j p)

  plus_numbers : {x y : Num n} → Plus R x y → Plus (Below n f) x.0 y.0
  plus_numbers (once {x = x} {y = y} r) =
      once (ltb→lt x.0 n x.1, ltb→lt y.0 n y.1, (is x y).1 r)
  plus_numbers (more {x = x} {y = z} {z = y} r p) =
      more (ltb→lt x.0 n x.1, ltb→lt z.0 n z.1, (is x z).1 r) (plus_numbers p)

  pub closure_is_plus_of : (x y : Num n) → (entry (closure n f) x.0 y.0 ≡ true) ↔ Plus R x y
  closure_is_plus_of x y = (
    (λ e. numbers_plus x.1 y.1 ((closure_is_plus n f x.0 y.0).0 e)),
    (λ p. (closure_is_plus n f x.0 y.0).1 (plus_numbers p)),
  )
