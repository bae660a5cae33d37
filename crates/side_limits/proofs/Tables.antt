-- The table of what each code counts, as it is filled: the test and the relations first, then what the `within` lines give the relations, and
-- then each let, whose sum stops at 1,000 like all others.
-- Assumes nothing.
use Prim.Native.Nat.{ℕ, ◌+◌, ◌*◌, ◌-◌, ◌≤◌, ◌<◌}
use native.Mathlib.Nat.{add-zero, add-mul, zero-mul, one-mul, two-mul}
use native.Mathlib.Omega.{arith}
use mathlib.Core.Path.{◌≡◌, refl, sym, ◌∙◌, ap, subst}
use mathlib.Core.Logic.{◌⊎◌, ⊎_elim}
use mathlib.Core.Bool.{true, false, cond}
use mathlib.Core.List.{List, [], ◌∷◌, ◌++◌}
use lib.Dec.{eqb}
use lib.ListN.{length, get_or, set, take, replicate, length-append, length-replicate, length-set, get_or-append, get_or-eq_default, get_or-replicate}
use lib.Seq.{take_all, get_or-set_same, get_or-set_other, get_or_at}
use borrow.Author.Tests.{eq-eqb, ne_eqb, lt-ltb, le-ltb}
use Rattle.kat.proofs.Bools.{lt_or_le}
use Rattle.memory.proofs.Words.{same_or_not}
use Rattle.side_limits.specs.Tally.{Tally, capped, weight, step, nothing, how_many, times, relation_count}
use Rattle.side_limits.specs.inner.CappedSums.{Table}
use Rattle.side_limits.proofs.Walk.{how_many_more}
use Rattle.side_limits.proofs.Weights.{weight_test, weight_relation, weight_between, weight_let, weight_past, relation_weight, let_weight, weight_same}

-- the relations below place i count 1, and all else nothing yet
pub record Ones (i : ℕ) (ws : List ℕ) : Type 0 where
  pub size : length ws ≡ 96
  pub below : (k : ℕ) → k < 32 → get_or ws k 0 ≡ 0
  pub ones : (k : ℕ) → 32 ≤ k → k < i → get_or ws k 0 ≡ 1
  pub above : (k : ℕ) → i ≤ k → get_or ws k 0 ≡ 0

all_zero : (n k : ℕ) → ◌≡◌ {A = ℕ} (get_or (replicate n 0) k 0) 0
all_zero n k =
    ⊎_elim (λ h. get_or-replicate n k 0 0 h) (λ h. get_or-eq_default (replicate n 0) 0 (omega (arith, length-replicate {A = ℕ} n 0))) (lt_or_le k n)

pub ones_start : (ws : List ℕ) → ws ≡ replicate 96 0 → Ones 32 ws
ones_start ws e =
    let z : (k : ℕ) → get_or ws k 0 ≡ 0 = λ k. ap (λ xs. get_or xs k 0) e ∙ all_zero 96 k in
    record { size = ap length e; below = λ k h. z k; ones = λ k a b. absurd (omega arith); above = λ k h. z k }

module _ (i : ℕ) (ws : List ℕ) (o : Ones i ws) where
  pub ones_more : 32 ≤ i → i < 48 → Ones (i + 1) (set ws i 1)
  ones_more low high =
      record {
        size = length-set ws i 1 ∙ o.size;
        below = λ k h. get_or-set_other ws i k 1 0 (λ z. omega arith) ∙ o.below k h;
        ones = λ k a b.
            ⊎_elim (λ z. ap (λ j. get_or (set ws i 1) j 0) z ∙ get_or-set_same ws i 1 0 (omega (arith, o.size)))
            (λ z. get_or-set_other ws i k 1 0 z ∙ o.ones k a (omega (arith, z))) (same_or_not k i);
        above = λ k h. get_or-set_other ws i k 1 0 (λ z. omega arith) ∙ o.above k (omega arith);
      }

  module _ (t : ℕ) where
    abbrev first : List ℕ
    first = set ws 6 t

    abbrev one : ℕ → ℕ
    one r = 1

    test_placed : (k : ℕ) → k < 32 → get_or first k 0 ≡ weight t one [] k
    test_placed k h =
        ⊎_elim
        (λ z.
        ap (λ j. get_or first j 0) z ∙ get_or-set_same ws 6 t 0 (omega (arith, o.size))
        ∙ sym (weight_test t one [] k h ∙ ap (λ b. cond b t 0) (eq-eqb k 6 z)))
        (λ z.
        get_or-set_other ws 6 k t 0 z ∙ o.below k h
        ∙ sym (weight_test t one [] k h ∙ ap (λ b. cond b t 0) (ne_eqb k 6 z)))
        (same_or_not k 6)

    beyond_placed : i ≡ 48 → (k : ℕ) → 48 ≤ k → get_or first k 0 ≡ weight t one [] k
    beyond_placed e k h =
        get_or-set_other ws 6 k t 0 (λ z. omega arith) ∙ o.above k (omega arith)
        ∙ sym
        (⊎_elim (λ l. weight_between t one [] k h l)
        (λ l. ⊎_elim (λ m. weight_let t one [] k l m) (λ m. weight_past t one [] k m) (lt_or_le k 96)) (lt_or_le k 64))

    first_placed : i ≡ 48 → (k : ℕ) → get_or first k 0 ≡ weight t one [] k
    first_placed e k =
        ⊎_elim (test_placed k)
        (λ h.
        ⊎_elim (λ l. get_or-set_other ws 6 k t 0 (λ z. omega arith) ∙ o.ones k h (omega arith) ∙ sym (weight_relation t one [] k h l))
        (beyond_placed e k) (lt_or_le k 48))
        (lt_or_le k 32)

    pub ones_done : i ≡ 48 → Table t (λ r. 1) [] first
    ones_done e = record { size = length-set ws 6 t ∙ o.size; at = λ k. ap capped (first_placed e k) }

-- the `within` lines among the codes up to place i
module _ (t : ℕ) (ks : List ℕ) where
  abbrev up_to : ℕ → ℕ → ℕ
  up_to i r = relation_count t (take i ks) r

  pub limits_none : (ws : List ℕ) → Table t (λ r. 1) [] ws → Table t (up_to 0) [] ws
  unfolding relation_count times
  limits_none ws x =
      record {
        size = x.size;
        at = λ k. x.at k ∙ ap capped (weight_same t (λ r. 1) (up_to 0) [] [] k (λ r h e. omega (arith, zero-mul (2 * t))) (λ j h e. refl));
      }

  pub limits_all : (i : ℕ) (ws : List ℕ) → length ks ≤ i → Table t (up_to i) [] ws → Table t (relation_count t ks) [] ws
  limits_all i ws h x = subst (λ js. Table t (relation_count t js) [] ws) (take_all i ks h) x

  module _ (i : ℕ) (inside : i < length ks) where
    -- another code, and this relation's
    other_line : (r : ℕ) → (get_or ks i 0 ≡ 144 + r → ⊥) → up_to i r ≡ up_to (i + 1) r
    unfolding relation_count times
    other_line r n =
        ap (λ x. 1 + x * (2 * t)) (sym (how_many_more (λ x. eqb x (144 + r)) false ks i inside (ne_eqb _ _ n) ∙ add-zero _))

    own_line : (r : ℕ) → get_or ks i 0 ≡ 144 + r → up_to (i + 1) r ≡ up_to i r + (t + t)
    unfolding relation_count times
    own_line r e =
        let more = how_many_more (λ x. eqb x (144 + r)) true ks i inside (eq-eqb _ _ e) in
        let n = how_many (λ x. eqb x (144 + r)) (take i ks) in
        ap (λ x. 1 + x * (2 * t)) more ∙ omega (arith, add-mul n 1 (2 * t), one-mul (2 * t), two-mul t)

    pub limits_aside : (ws : List ℕ) → ((get_or ks i 0 < 144) ⊎ (160 ≤ get_or ks i 0)) → Table t (up_to i) [] ws → Table t (up_to (i + 1)) [] ws
    limits_aside ws out x =
        record {
          size = x.size;
          at = λ k.
              x.at k
              ∙ ap capped
              (weight_same t (up_to i) (up_to (i + 1)) [] [] k
              (λ r h e. other_line r (λ z. ⊎_elim (λ l. omega arith) (λ l. omega arith) out)) (λ j h e. refl));
        }

    pub limits_more : (ws : List ℕ) (at v two : ℕ) → 144 ≤ get_or ks i 0 → get_or ks i 0 < 160 → at ≡ 32 + (get_or ks i 0 - 144)
        → two ≡ capped (t + t) → v ≡ capped (get_or ws at 0 + two) → Table t (up_to i) [] ws → Table t (up_to (i + 1)) [] (set ws at v)
    limits_more ws at v two low high e f g x =
        let r = get_or ks i 0 - 144 in
        let here : get_or ks i 0 ≡ 144 + r = omega arith in
        let few : r < 16 = omega arith in
        let was = ap (weight t (up_to i) []) e ∙ relation_weight t (up_to i) [] r few in
        let is = ap (weight t (up_to (i + 1)) []) e ∙ relation_weight t (up_to (i + 1)) [] r few in
        record {
          size = length-set ws at v ∙ x.size;
          at = λ k.
              ⊎_elim
              (λ z.
              ap (λ j. capped (get_or (set ws at v) j 0)) z ∙ ap capped (get_or-set_same ws at v 0 (omega (arith, x.size)))
              ∙ omega (arith, x.at at, was, is, own_line r here)
              ∙ ap (λ j. capped (weight t (up_to (i + 1)) [] j)) (sym z))
              (λ z.
              ap capped (get_or-set_other ws at k v 0 z) ∙ x.at k
              ∙ ap capped
              (weight_same t (up_to i) (up_to (i + 1)) [] [] k
              (λ s h y. other_line s (λ y'. z (omega arith))) (λ j h y. refl)))
              (same_or_not k at);
        }

-- the walk that counts the lets, in the machine
pub record Follows (t : ℕ) (w : ℕ → ℕ) (d : Tally) (sum n : ℕ) (ws : List ℕ) : Type 0 where
  pub now : sum ≡ capped d.now
  pub lets : n ≡ length d.lets
  pub table : Table t w d.lets ws

pub follows_start : (t : ℕ) (w : ℕ → ℕ) (ws : List ℕ) → Table t w [] ws → Follows t w nothing 0 0 ws
unfolding nothing
follows_start t w ws x = record { now = refl; lets = refl; table = x }

-- the lets with one more: only its own code counts another number
beside : (ls : List ℕ) (y j : ℕ) → (j ≡ length ls → ⊥) → get_or ls j 0 ≡ get_or (ls ++ (y ∷ [])) j 0
beside ls y j n =
    ⊎_elim (λ b. sym (get_or-append ls (y ∷ []) 0 j b))
    (λ b.
    let z : length (ls ++ (y ∷ [])) ≤ j = omega (arith, length-append ls (y ∷ []), n) in
    get_or-eq_default ls 0 b ∙ sym (get_or-eq_default (ls ++ (y ∷ [])) 0 z))
    (lt_or_le j (length ls))

module _ (t : ℕ) (w : ℕ → ℕ) (ls ws : List ℕ) (x : Table t w ls ws) (y : ℕ) where
  abbrev more : List ℕ
  more = ls ++ (y ∷ [])

  other_code : (k : ℕ) → ((j : ℕ) → j < 32 → k ≡ 64 + j → j ≡ length ls → ⊥) → capped (get_or ws k 0) ≡ capped (weight t w more k)
  other_code k n = x.at k ∙ ap capped (weight_same t w w ls more k (λ r h e. refl) (λ j h e. beside ls y j (n j h e)))

  -- its place is in the table, or it has no code
  own_code : (s : ℕ) → s ≡ capped y → capped (get_or (set ws (64 + length ls) s) (64 + length ls) 0) ≡ capped (weight t w more (64 + length ls))
  own_code s e =
      let at = 64 + length ls in
      ⊎_elim
      (λ h.
      ap capped (get_or-set_same ws at s 0 (omega (arith, x.size)) ∙ e) ∙ omega arith
      ∙ ap capped (sym (let_weight t w more (length ls) h ∙ get_or_at ls y [] 0 (length ls) refl)))
      (λ h.
      ap capped
      (get_or-eq_default (set ws at s) 0 (omega (arith, length-set ws at s, x.size)) ∙ sym (weight_past t w more at (omega arith))))
      (lt_or_le (length ls) 32)

  table_more : (s : ℕ) → s ≡ capped y → Table t w more (set ws (64 + length ls) s)
  table_more s e =
      let at = 64 + length ls in
      record {
        size = length-set ws at s ∙ x.size;
        at = λ k.
            ⊎_elim
            (λ z. rw z (own_code s e))
            (λ z. ap capped (get_or-set_other ws at k s 0 z) ∙ other_code k (λ j l i m. z (omega arith)))
            (same_or_not k at);
      }

-- one code more: of an expression, at the end of a let, and at another end
module _ (t : ℕ) (w : ℕ → ℕ) (d : Tally) (sum n : ℕ) (ws : List ℕ) (f : Follows t w d sum n ws) (k : ℕ) where
  pub follows_inside : k < 128 → (x sum' : ℕ) → x ≡ get_or ws k 0 → sum' ≡ capped (sum + x) → Follows t w (step t w d k) sum' n ws
  unfolding step
  follows_inside h x sum' e g =
      rw (step, lt-ltb k 128 h, ne_eqb k 130 (λ z. omega arith))
      (record { now = omega (arith, f.now, f.table.at k); lets = f.lets; table = f.table })

  pub follows_let : k ≡ 130 → Follows t w (step t w d k) 0 (n + 1) (set ws (64 + n) sum)
  unfolding step
  follows_let e =
      rw (e, step, f.lets)
      (record {
        now = refl;
        lets = sym (length-append d.lets (d.now ∷ []));
        table = table_more t w d.lets ws f.table d.now sum f.now;
      })

  pub follows_aside : 128 ≤ k → (k ≡ 130 → ⊥) → Follows t w (step t w d k) 0 n ws
  unfolding step
  follows_aside h e = rw (step, le-ltb k 128 h, ne_eqb k 130 e) (record { now = refl; lets = f.lets; table = f.table })
