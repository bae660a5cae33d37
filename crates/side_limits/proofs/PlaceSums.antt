-- What the expressions at their places count, as it is summed up: what is left from a place on, added to the sum so far, is the whole, up to
-- 1,000. And a table that has for each code what it counts, up to 1,000, gives each sum up to 1,000.
-- Assumes nothing.
use Prim.Native.Nat.{ℕ, ◌+◌, ◌≤◌, ◌<◌}
use native.Mathlib.Numerals.{add-one}
use native.Mathlib.Omega.{arith}
use mathlib.Core.Path.{◌≡◌, refl, sym, ◌∙◌, ap, ap₂}
use mathlib.Core.Bool.{Bool, true, false, cond, ◌&&◌}
use mathlib.Core.List.{List, [], ◌∷◌}
use lib.Dec.{eqb, ltb}
use lib.ListN.{length, get_or, drop, drop_of_length-le}
use lib.Seq.{drop-cons}
use borrow.Author.Tests.{eq-eqb, ne_eqb, lt-ltb, le-ltb}
use Rattle.side_items.specs.Items.{starts_from, starts_of}
use Rattle.side_runs.proofs.RunningAll.{starts_none, starts_inside, starts_other, starts_found}
use Rattle.side_claim.specs.Sides.{is_ring}
use Rattle.side_claim.specs.declared.Decision.{Decision}
use Rattle.side_limits.specs.declared.Sums.{Sums}
use Rattle.side_limits.specs.Tally.{capped, weight, tally, relation_count, let_counts, code_count}
use Rattle.side_limits.specs.Places.{until_end, count_at, count_all, not_out, count_kind}
use Rattle.side_limits.specs.declared.Sizes.{Sizes}
use Rattle.side_limits.specs.Sizes.{beside, right_of, right_count, exact_sizes, capped_size, capped_sizes, sizes_of}
use Rattle.side_limits.specs.inner.CappedSums.{in_table, Table, sums_of}

-- the expression that starts at `from`, summed up to place i
pub record Summed (f : ℕ → ℕ) (ks : List ℕ) (from i sum : ℕ) : Type 0 where
  pub small : sum ≤ 1000
  pub rest : capped (sum + until_end f (drop i ks)) ≡ capped (count_at f ks from)

pub summed_start : (f : ℕ → ℕ) (ks : List ℕ) (from : ℕ) → Summed f ks from from 0
unfolding count_at
summed_start f ks from = record { small = omega arith; rest = omega arith }

module _ (f : ℕ → ℕ) (ks : List ℕ) (from i sum : ℕ) (s : Summed f ks from i sum) where
  pub summed_more : i < length ks → get_or ks i 0 < 128 → (x sum' : ℕ) → x ≡ f (get_or ks i 0) → sum' ≡ capped (sum + x) → Summed f ks from (i + 1) sum'
  unfolding until_end
  summed_more h l x sum' e g =
      let z : until_end f (drop i ks) ≡ f (get_or ks i 0) + until_end f (drop (i + 1) ks) =
      rw (drop-cons ks i 0 h, lt-ltb (get_or ks i 0) 128 l, add-one i) in
      record { small = omega arith; rest = omega (arith, s.rest) }

  pub summed_end : i < length ks → 128 ≤ get_or ks i 0 → sum ≡ capped (count_at f ks from)
  unfolding until_end
  summed_end h l =
      let z : until_end f (drop i ks) ≡ 0 = rw (drop-cons ks i 0 h, le-ltb (get_or ks i 0) 128 l) in
      omega (arith, s.rest, s.small)

  pub summed_all : length ks ≤ i → sum ≡ capped (count_at f ks from)
  unfolding until_end
  summed_all h =
      let z : until_end f (drop i ks) ≡ 0 = ap (until_end f) (drop_of_length-le ks {i = i} h) in
      omega (arith, s.rest, s.small)

-- the expressions that end with the code k, of the lines that are not left out, up to place i, behind l lines, where one starts at s
pub record SummedKind (f : ℕ → ℕ) (ks out : List ℕ) (k i s l sum : ℕ) : Type 0 where
  pub small : sum ≤ 1000
  pub rest : capped (sum + count_all f ks (starts_from (not_out out) k l i s (drop i ks))) ≡ capped (count_kind f ks out k)

pub kind_start : (f : ℕ → ℕ) (ks out : List ℕ) (k : ℕ) → SummedKind f ks out k 0 0 0 0
unfolding count_kind starts_of
kind_start f ks out k = record { small = omega arith; rest = omega arith }

module _ (f : ℕ → ℕ) (ks out : List ℕ) (k i s l sum : ℕ) (x : SummedKind f ks out k i s l sum) where
  pub kind_inside : i < length ks → get_or ks i 0 < 128 → SummedKind f ks out k (i + 1) s l sum
  kind_inside h c =
      record { small = x.small; rest = ap (λ ss. capped (sum + count_all f ks ss)) (sym (starts_inside (not_out out) k ks l i s h c)) ∙ x.rest }

  pub kind_other : i < length ks → 128 ≤ get_or ks i 0 → (eqb (get_or ks i 0) k && not_out out l) ≡ false → SummedKind f ks out k (i + 1) (i + 1) (l + 1) sum
  kind_other h c e =
      record { small = x.small; rest = ap (λ ss. capped (sum + count_all f ks ss)) (sym (starts_other (not_out out) k ks l i s h c e)) ∙ x.rest }

  pub kind_found : i < length ks → 128 ≤ get_or ks i 0 → (eqb (get_or ks i 0) k && not_out out l) ≡ true
      → (y sum' : ℕ) → y ≡ capped (count_at f ks s) → sum' ≡ capped (sum + y) → SummedKind f ks out k (i + 1) (i + 1) (l + 1) sum'
  unfolding count_all
  kind_found h c e y sum' g j =
      let z = ap (count_all f ks) (starts_found (not_out out) k ks l i s h c e) in
      record { small = omega arith; rest = omega (arith, x.rest, z) }

  pub kind_all : length ks ≤ i → sum ≡ capped (count_kind f ks out k)
  unfolding count_all
  kind_all h =
      let z = ap (count_all f ks) (starts_none (not_out out) k ks l i s h) in
      omega (arith, x.rest, x.small, z)

-- where each code counts the same up to 1,000, so does every sum
module _ (f g : ℕ → ℕ) (same : (k : ℕ) → capped (f k) ≡ capped (g k)) where
  until_same : (ks : List ℕ) → capped (until_end f ks) ≡ capped (until_end g ks)
  unfolding until_end
  until_same [] = refl
  until_same (k ∷ ks) = go (ltb k 128) (until_same ks)
    where
      go : (b : Bool) → capped (until_end f ks) ≡ capped (until_end g ks)
          → capped (cond b (f k + until_end f ks) 0) ≡ capped (cond b (g k + until_end g ks) 0)
      go true e = omega (arith, same k)
      go false e = refl

  module _ (ks : List ℕ) where
    pub at_same : (from : ℕ) → capped (count_at f ks from) ≡ capped (count_at g ks from)
    unfolding count_at
    at_same from = until_same (drop from ks)

    all_same : (ss : List ℕ) → capped (count_all f ks ss) ≡ capped (count_all g ks ss)
    unfolding count_all
    all_same [] = refl
    all_same (s ∷ ss) = omega (arith, at_same s, all_same ss)

    pub kind_same : (out : List ℕ) (k : ℕ) → capped (count_kind f ks out k) ≡ capped (count_kind g ks out k)
    unfolding count_kind
    kind_same out k = all_same (starts_of (not_out out) k ks)

-- the right side from sums up to 1,000
right_same : (d : Decision) (own y test a0 own' y' a0' : ℕ) → own ≡ capped own' → y ≡ capped y' → a0 ≡ capped a0'
    → capped (right_of d own y test a0) ≡ capped (right_of d own' y' test a0')
unfolding right_of beside
right_same d own y test a0 own' y' a0' e f g = go (is_ring d) (eqb d.kind 136)
  where
    go : (b c : Bool) → capped (cond b own (cond c y test) + a0 + (2 + cond b 0 test)) ≡ capped (cond b own' (cond c y' test) + a0' + (2 + cond b 0 test))
    go true c = omega arith
    go false true = omega arith
    go false false = omega arith

-- what a decision counts, from the table of its codes
pub sums_made : (t : ℕ) (ks out : List ℕ) (d : Decision) (ws : List ℕ) (own a0 y left right : ℕ)
    → Table t (relation_count t ks) (tally t (relation_count t ks) ks).lets ws
    → own ≡ capped (count_kind (in_table ws) ks out 134) → a0 ≡ capped (count_kind (in_table ws) ks out 133)
    → y ≡ capped (count_at (in_table ws) ks d.right) → left ≡ capped (count_at (in_table ws) ks d.left)
    → right ≡ capped (right_of d own y t a0)
    → ◌≡◌ {A = Sums} (record { left = left; right = right; own = own }) (sums_of t ks out d)
unfolding sums_of right_count code_count let_counts weight
sums_made t ks out d ws own a0 y left right x e f g h i =
    let same = x.at in
    let own_is = e ∙ kind_same (in_table ws) (code_count t ks) same ks out 134 in
    let a0-is = f ∙ kind_same (in_table ws) (code_count t ks) same ks out 133 in
    let y-is = g ∙ at_same (in_table ws) (code_count t ks) same ks d.right in
    let left_is = h ∙ at_same (in_table ws) (code_count t ks) same ks d.left in
    let right_is = i ∙ right_same d own y t a0 _ _ _ own_is y-is a0-is in
    rw (left_is, right_is, own_is)

-- the right side of each kind of claim as it is put together
module _ (d : Decision) (own y test a0 : ℕ) where
  pub right_ring : (s r : ℕ) → d.kind ≡ 138 → s ≡ capped (own + a0) → r ≡ capped (s + 2) → r ≡ capped (right_of d own y test a0)
  unfolding right_of beside is_ring
  right_ring s r k e f = rw (right_of, beside, eq-eqb d.kind 138 k) (omega arith)

  module _ (z s r : ℕ) (path : d.kind ≡ 138 → ⊥) (e : z ≡ capped (2 + test)) (f : s ≡ capped (a0 + z)) where
    pub right_include : d.kind ≡ 136 → r ≡ capped (y + s) → r ≡ capped (right_of d own y test a0)
    unfolding right_of beside is_ring
    right_include k g = rw (right_of, beside, ne_eqb d.kind 138 path, eq-eqb d.kind 136 k) (omega arith)

    pub right_empty : (d.kind ≡ 136 → ⊥) → r ≡ capped (test + s) → r ≡ capped (right_of d own y test a0)
    unfolding right_of beside is_ring
    right_empty k g = rw (right_of, beside, ne_eqb d.kind 138 path, ne_eqb d.kind 136 k) (omega arith)

-- both counts together
pub sizes_made : (ks out : List ℕ) (d : Decision) (o l : Sums) → o ≡ sums_of 0 ks out d → l ≡ sums_of 1 ks out d
    → ◌≡◌ {A = Sizes}
    (record {
      ring = eqb d.kind 138;
      left = record { occurrences = o.left; leaves = l.left };
      right = record { occurrences = o.right; leaves = l.right };
      own = l.own;
    })
    (sizes_of out d ks)
unfolding sums_of sizes_of capped_sizes capped_size exact_sizes is_ring
sizes_made ks out d o l e f =
    ap₂
    (λ (x y : Sums).
    record {
      ring = eqb d.kind 138;
      left = record { occurrences = x.left; leaves = y.left };
      right = record { occurrences = x.right; leaves = y.right };
      own = y.own;
    })
    e f
