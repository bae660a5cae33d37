-- The fields of a graph, one event, one bit and one relation after the other.
-- Assumes nothing.
use Prim.Native.Nat.{ℕ, suc, ◌+◌, ◌-◌, ◌≤◌, ◌<◌, min}
use native.Mathlib.Numerals.{add-one}
use native.Mathlib.Omega.{arith}
use mathlib.Core.Path.{◌≡◌, sym, ◌∙◌, ap}
use mathlib.Core.Bool.{cond}
use mathlib.Core.List.{List, [], ◌∷◌, ◌++◌}
use lib.ListN.{length, get_or, take, drop, drop_of_length-le, length-take}
use lib.Seq.{drop-cons, get_or-take}
use Rattle.small_graphs.specs.Relations.{bit}
use Rattle.small_graphs.specs.Graphs.{event_field, edge_field, event_fields, counted, edges_among, edge_fields, relation_fields}

counted_more : (i n : ℕ) → i < n → counted i (n - i) ≡ i ∷ counted (i + 1) (n - (i + 1))
counted_more i n h =
    let e : n - i ≡ suc (n - (i + 1)) = omega arith in
    ap (counted i) e ∙ ap (λ (k : ℕ). i ∷ counted k (n - (i + 1))) (sym (add-one i))

-- one bit more, and none
pub edges_more : (k r i : ℕ) → i < 64
    → edges_among k r (counted i (64 - i)) ≡ cond (bit i r) (edge_field k i) [] ++ edges_among k r (counted (i + 1) (64 - (i + 1)))
unfolding edges_among
edges_more k r i h = ap (edges_among k r) (counted_more i 64 h)

pub edges_none : (k r i : ℕ) → 64 ≤ i → edges_among k r (counted i (64 - i)) ≡ []
unfolding edges_among
edges_none k r i h = let e : 64 - i ≡ 0 = omega arith in ap (λ (n : ℕ). edges_among k r (counted i n)) e

-- one event more, and none
pub events_more : (n i : ℕ) (xs : List ℕ) → i < n → i < length xs
    → event_fields (drop i (take n xs)) ≡ event_field (get_or xs i 0) ++ event_fields (drop (i + 1) (take n xs))
unfolding event_fields
events_more n i xs h k =
    ap event_fields (drop-cons (take n xs) i 0 (omega (arith, length-take n xs)))
    ∙ ap (λ (x : ℕ). event_field x ++ event_fields (drop (suc i) (take n xs))) (get_or-take n xs i 0 h)
    ∙ ap (λ (j : ℕ). event_field (get_or xs i 0) ++ event_fields (drop j (take n xs))) (sym (add-one i))

pub events_none : (n i : ℕ) (xs : List ℕ) → min n (length xs) ≤ i → event_fields (drop i (take n xs)) ≡ []
unfolding event_fields
events_none n i xs h = ap event_fields (drop_of_length-le (take n xs) {i = i} (omega (arith, length-take n xs)))

-- one relation more, and none
pub relations_more : (n i : ℕ) (xs : List ℕ) → i < n → i < length xs
    → relation_fields i (drop i (take n xs)) ≡ edge_fields i (get_or xs i 0) ++ relation_fields (i + 1) (drop (i + 1) (take n xs))
unfolding relation_fields
relations_more n i xs h k =
    ap (relation_fields i) (drop-cons (take n xs) i 0 (omega (arith, length-take n xs)))
    ∙ ap (λ (x : ℕ). edge_fields i x ++ relation_fields (suc i) (drop (suc i) (take n xs))) (get_or-take n xs i 0 h)
    ∙ ap (λ (j : ℕ). edge_fields i (get_or xs i 0) ++ relation_fields j (drop j (take n xs))) (sym (add-one i))

pub relations_none : (n i : ℕ) (xs : List ℕ) → min n (length xs) ≤ i → relation_fields i (drop i (take n xs)) ≡ []
unfolding relation_fields
relations_none n i xs h = ap (relation_fields i) (drop_of_length-le (take n xs) {i = i} (omega (arith, length-take n xs)))
