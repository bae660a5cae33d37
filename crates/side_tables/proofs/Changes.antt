-- What stands in a table after each change, place by place: a join, a cut, a new occurrence.
-- Assumes nothing.
use Prim.Native.Nat.{ℕ, ◌+◌, ◌-◌, ◌*◌, ◌≤◌, ◌<◌}
use native.Mathlib.Omega.{arith}
use mathlib.Core.Path.{◌≡◌, refl, sym, ◌∙◌, ap, ap₂}
use mathlib.Core.Logic.{◌⊎◌, ⊎_elim}
use mathlib.Core.Logic.◌⊎◌.{inl, inr}
use mathlib.Core.Bool.{Bool, true, false, cond, ◌||◌}
use mathlib.Core.List.{List, [], ◌∷◌}
use lib.Bits.{bit_and, bit_or, or_self}
use lib.Dec.{eqb}
use lib.ListN.{length, get_or, get_or-eq_default}
use lib.Seq.{get_or-set_same, get_or-set_other}
use borrow.Author.Tests.{eqb-true, eq-eqb, ne_eqb}
use Rattle.kat.specs.Lists.{some, upto}
use Rattle.kat.proofs.Bools.{bool_ext, false_of_not, le_or_lt, lt_or_le}
use Rattle.kat.proofs.Sets.{some_in, in_some}
use Rattle.claims.specs.Query.{bit}
use Rattle.bits.specs.Sets.{members}
use Rattle.bits.proofs.Bit.{or_assoc}
use Rattle.bits.proofs.Members.{number_in, in_number}
use Rattle.memory.specs.Memory.{for_each}
use Rattle.memory.proofs.Words.{same_or_not}
use Rattle.memory.proofs.Walks.{each_length}
use Rattle.side_tables.specs.InPlace.{put_into, joined_at, joined}
use Rattle.side_tables.specs.Layout.{ENDS, LETTERS, TABLE, ROW}
use Rattle.side_tables.proofs.Walks.{put_length, joined_at_length}
use Rattle.side_tables.proofs.EachNumber as each

-- a set put into words
module _ (base f : ℕ) where
  pub twice : (b : Bool) (w : ℕ) → cond b (bit_or (bit_or w f) f) (bit_or w f) ≡ bit_or w f
  twice true w = or_assoc w f f ∙ ap (bit_or w) (or_self f)
  twice false w = refl

  put_at : (k : ℕ) (t : List ℕ) → base + k < length t → get_or (put_into base f k t) (base + k) 0 ≡ bit_or (get_or t (base + k) 0) f
  unfolding put_into
  put_at k t h = get_or-set_same t (base + k) (bit_or (get_or t (base + k) 0) f) 0 h

  put_beside : (k i : ℕ) (t : List ℕ) → (i ≡ base + k → ⊥) → get_or (put_into base f k t) i 0 ≡ get_or t i 0
  unfolding put_into
  put_beside k i t e = get_or-set_other t (base + k) i (bit_or (get_or t (base + k) 0) f) 0 e

  pub put_in : (ks t : List ℕ) (i : ℕ) → i < length t
      → get_or (for_each (put_into base f) ks t) i 0 ≡ cond (some (λ k. eqb (base + k) i) ks) (bit_or (get_or t i 0) f) (get_or t i 0)
  unfolding for_each
  put_in [] t i h = refl
  put_in (k ∷ ks) t i h =
      put_in ks (put_into base f k t) i (omega (arith, put_length base f k t)) ∙ ⊎_elim hit miss (same_or_not (base + k) i)
    where
      hit : base + k ≡ i → cond (some (λ j. eqb (base + j) i) ks) (bit_or (get_or (put_into base f k t) i 0) f) (get_or (put_into base f k t) i 0)
          ≡ cond (eqb (base + k) i || some (λ j. eqb (base + j) i) ks) (bit_or (get_or t i 0) f) (get_or t i 0)
      hit e =
          ap (λ w. cond (some (λ j. eqb (base + j) i) ks) (bit_or w f) w)
          (ap (λ n. get_or (put_into base f k t) n 0) (sym e) ∙ put_at k t (omega arith) ∙ ap (λ n. bit_or (get_or t n 0) f) e)
          ∙ twice (some (λ j. eqb (base + j) i) ks) (get_or t i 0)
          ∙ sym (ap (λ b. cond (b || some (λ j. eqb (base + j) i) ks) (bit_or (get_or t i 0) f) (get_or t i 0)) (eq-eqb (base + k) i e))

      miss : (base + k ≡ i → ⊥) → cond (some (λ j. eqb (base + j) i) ks) (bit_or (get_or (put_into base f k t) i 0) f) (get_or (put_into base f k t) i 0)
          ≡ cond (eqb (base + k) i || some (λ j. eqb (base + j) i) ks) (bit_or (get_or t i 0) f) (get_or t i 0)
      miss e =
          ap (λ w. cond (some (λ j. eqb (base + j) i) ks) (bit_or w f) w) (put_beside k i t (λ z. e (sym z)))
          ∙ sym (ap (λ b. cond (b || some (λ j. eqb (base + j) i) ks) (bit_or (get_or t i 0) f) (get_or t i 0)) (ne_eqb (base + k) i e))

  -- for each member of a set of numbers below 64
  member_some : (s p : ℕ) → p < 64 → some (λ k. eqb (base + k) (base + p)) (members s) ≡ bit p s
  member_some s p h =
      bool_ext (some (λ k. eqb (base + k) (base + p)) (members s)) (bit p s)
      (λ e. let (k, m, q) = some_in (λ k. eqb (base + k) (base + p)) (members s) e in
      let z : base + k ≡ base + p = eqb-true (base + k) (base + p) q in
      let (x, l, b) = number_in 0 64 s k m in
      let y : p ≡ k - 0 = omega arith in
      ap (λ n. bit n s) y ∙ b)
      (λ e. in_some (λ k. eqb (base + k) (base + p)) (in_number 0 64 s p (omega arith) h (ap (λ n. bit n s) (omega arith) ∙ e)) (eq-eqb (base + p) (base + p) refl))

  pub put_member : (s p : ℕ) (t : List ℕ) → p < 64 → base + p < length t
      → get_or (for_each (put_into base f) (members s) t) (base + p) 0 ≡ cond (bit p s) (bit_or (get_or t (base + p) 0) f) (get_or t (base + p) 0)
  put_member s p t h l =
      put_in (members s) t (base + p) l
      ∙ ap (λ b. cond b (bit_or (get_or t (base + p) 0) f) (get_or t (base + p) 0)) (member_some s p h)

  pub put_elsewhere : (s i : ℕ) (t : List ℕ) → i < length t → (i < base) ⊎ (base + 64 ≤ i)
      → get_or (for_each (put_into base f) (members s) t) i 0 ≡ get_or t i 0
  put_elsewhere s i t h o =
      put_in (members s) t i h
      ∙ ap (λ b. cond b (bit_or (get_or t i 0) f) (get_or t i 0))
      (false_of_not (some (λ k. eqb (base + k) i) (members s))
      (λ e. let (k, m, q) = some_in (λ k. eqb (base + k) i) (members s) e in
      let z : base + k ≡ i = eqb-true (base + k) i q in
      let (x, l, b) = number_in 0 64 s k m in
      ⊎_elim (λ y. omega arith) (λ y. omega arith) o))

-- the places of atom a: its steps and its end
abbrev pub OfAtom : ℕ → ℕ → Type 0
OfAtom a i = ((ROW * a ≤ i) × (i < ROW * a + ROW) × (i < ENDS)) ⊎ ((i ≡ ENDS + a) × (a < 64))

pub of_one_atom : (a b i : ℕ) → OfAtom a i → OfAtom b i → a ≡ b
of_one_atom a b i (inl (x, y, z)) (inl (u, v, w)) = omega arith
of_one_atom a b i (inl (x, y, z)) (inr (u, v)) = absurd (omega arith)
of_one_atom a b i (inr (u, v)) (inl (x, y, z)) = absurd (omega arith)
of_one_atom a b i (inr (x, y)) (inr (u, v)) = omega arith

-- none of them is past the ends
pub of_no_atom : (a i : ℕ) → LETTERS ≤ i → OfAtom a i → ⊥
of_no_atom a i h (inl (x, y, z)) = omega arith
of_no_atom a i h (inr (x, y)) = omega arith

-- a join
module _ (from to : ℕ) where
  joined_others : (a : ℕ) (t : List ℕ) (i : ℕ) → a < 64 → length t ≡ TABLE → (OfAtom a i → ⊥) → get_or (joined_at from to a t) i 0 ≡ get_or t i 0
  unfolding joined_at
  joined_others a t i h l o =
      ⊎_elim
      (λ e. get_or-eq_default (joined_at from to a t) 0 (omega (arith, joined_at_length from to a t)) ∙ sym (get_or-eq_default t 0 (omega arith)))
      (λ e. put_elsewhere (ROW * a + 1) (bit_and (get_or t (ROW * a) 0) to) (bit_and (get_or t (ENDS + a) 0) from) i t (omega arith) (beside e))
      (le_or_lt TABLE i)
    where
      beside : i < TABLE → (i < ROW * a + 1) ⊎ (ROW * a + 1 + 64 ≤ i)
      beside e =
          ⊎_elim (λ x. inl x)
          (λ x. ⊎_elim (λ y. inr y) (λ y. absurd (o (inl (omega arith, omega arith, omega arith)))) (le_or_lt (ROW * a + 1 + 64) i))
          (lt_or_le i (ROW * a + 1))

  module _ (t : List ℕ) (long : length t ≡ TABLE) where
    joined_at_lem : (a : ℕ) → a < 64
        → each.Reached (joined_at from to) (joined_at_length from to) OfAtom of_one_atom 64 joined_others t (joined from to t) a
    unfolding joined
    joined_at_lem a h = each.each_own (joined_at from to) (joined_at_length from to) OfAtom of_one_atom 64 joined_others 0 64 a t (omega arith) long (omega arith) (omega arith)

    -- those that may be first or last are as before
    pub joined_first : (a : ℕ) → a < 64 → get_or (joined from to t) (ROW * a) 0 ≡ get_or t (ROW * a) 0
    unfolding joined_at
    joined_first a h =
        let r = joined_at_lem a h in
        let o : OfAtom a (ROW * a) = inl (omega arith, omega arith, omega arith) in
        r.after (ROW * a) o
        ∙ put_elsewhere (ROW * a + 1) (bit_and (get_or r.before (ROW * a) 0) to) (bit_and (get_or r.before (ENDS + a) 0) from) (ROW * a) r.before
        (omega (arith, r.long)) (inl (omega arith))
        ∙ r.same (ROW * a) o

    pub joined_end : (a : ℕ) → a < 64 → get_or (joined from to t) (ENDS + a) 0 ≡ get_or t (ENDS + a) 0
    unfolding joined_at
    joined_end a h =
        let r = joined_at_lem a h in
        let o : OfAtom a (ENDS + a) = inr (refl, h) in
        r.after (ENDS + a) o
        ∙ put_elsewhere (ROW * a + 1) (bit_and (get_or r.before (ROW * a) 0) to) (bit_and (get_or r.before (ENDS + a) 0) from) (ENDS + a) r.before
        (omega (arith, r.long)) (inr (omega arith))
        ∙ r.same (ENDS + a) o

    -- after p, where it may be last, also those that may be first
    pub joined_step : (a p : ℕ) → a < 64 → p < 64
        → get_or (joined from to t) (ROW * a + 1 + p) 0
        ≡ cond (bit p (bit_and (get_or t (ENDS + a) 0) from)) (bit_or (get_or t (ROW * a + 1 + p) 0) (bit_and (get_or t (ROW * a) 0) to)) (get_or t (ROW * a + 1 + p) 0)
    unfolding joined_at
    joined_step a p h i =
        let r = joined_at_lem a h in
        let u = r.before in
        let o : OfAtom a (ROW * a + 1 + p) = inl (omega arith, omega arith, omega arith) in
        r.after (ROW * a + 1 + p) o
        ∙ put_member (ROW * a + 1) (bit_and (get_or u (ROW * a) 0) to) (bit_and (get_or u (ENDS + a) 0) from) p u i (omega (arith, r.long))
        ∙ ap₂ (λ e w. cond (bit p (bit_and e from)) (bit_or w (bit_and (get_or u (ROW * a) 0) to)) w)
        (r.same (ENDS + a) (inr (refl, h))) (r.same (ROW * a + 1 + p) o)
        ∙ ap (λ f. cond (bit p (bit_and (get_or t (ENDS + a) 0) from)) (bit_or (get_or t (ROW * a + 1 + p) 0) (bit_and f to)) (get_or t (ROW * a + 1 + p) 0))
        (r.same (ROW * a) (inl (omega arith, omega arith, omega arith)))

    pub joined_above : (i : ℕ) → LETTERS ≤ i → get_or (joined from to t) i 0 ≡ get_or t i 0
    unfolding joined
    joined_above i h =
        each.each_others (joined_at from to) (joined_at_length from to) OfAtom of_one_atom 64 joined_others 0 64 t i (omega arith) long
        (λ a x y. of_no_atom a i h)

    pub joined_long : length (joined from to t) ≡ TABLE
    unfolding joined
    joined_long = each_length (joined_at from to) (joined_at_length from to) (upto 0 64) t ∙ long
