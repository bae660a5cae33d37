-- Executing expressions on a machine that builds nothing leaves its table clear, and gives the sets of atoms that any other machine gives.
-- Assumes nothing.
use Prim.Native.Nat.{ℕ, zero, suc}
use mathlib.Core.Bool.{Bool, true, false, cond, ◌&&◌}
use mathlib.Core.List.{List, [], ◌∷◌}
use lib.Dec.{leb, ltb}
use lib.ListN.{length, drop}
use Rattle.side_parts.specs.Machine.{Machine, given, united, stepped}
use Rattle.side_parts.proofs.Unbuilt.{Unbuilt, unbuilt_given, unbuilt_united, unbuilt_stepped}
use Rattle.side_items.specs.Items.{Item}
use Rattle.side_runs.specs.Performing.{performed, perform}
use Rattle.side_runs.specs.Execution.{execute, execute_at, execute_all, united_times, execute_union}

either : (b : Bool) (m₁ n₁ m₂ n₂ : Machine) → Unbuilt m₁ n₁ → Unbuilt m₂ n₂ → Unbuilt (cond b m₁ m₂) (cond b n₁ n₂)
either true m₁ n₁ m₂ n₂ v w = v
either false m₁ n₁ m₂ n₂ v w = w

module _ (rels : List ℕ) where
  -- the items of a line, where a let keeps to it
  module _ (call : ℕ → Machine → Machine) (calls : (s : ℕ) (m n : Machine) → Unbuilt m n → Unbuilt (call s m) (call s n)) where
    performs : (x : Item) (m n : Machine) → Unbuilt m n → Unbuilt (performed call rels x m) (performed call rels x n)
    unfolding performed
    performs x m n u =
        either (leb 64 x.code && ltb x.code 96) (call x.arg m) (call x.arg n) (stepped rels x.code x.arg m) (stepped rels x.code x.arg n)
        (calls x.arg m n u) (unbuilt_stepped rels x.code x.arg m n u)

    line_performs : (xs : List Item) (m n : Machine) → Unbuilt m n → Unbuilt (perform call rels xs m) (perform call rels xs n)
    unfolding perform
    line_performs [] m n u = u
    line_performs (x ∷ xs) m n u =
        either (leb 128 x.code) m n (perform call rels xs (performed call rels x m)) (perform call rels xs (performed call rels x n)) u
        (line_performs xs (performed call rels x m) (performed call rels x n) (performs x m n u))

  executes : (d : ℕ) (is : List Item) (from : ℕ) (m n : Machine) → Unbuilt m n → Unbuilt (execute d rels is from m) (execute d rels is from n)
  unfolding execute
  executes zero is from m n u = u
  executes (suc d) is from m n u =
      line_performs (λ s k. cond (ltb s from) (execute d rels is s k) k)
      (λ s a b v. either (ltb s from) (execute d rels is s a) (execute d rels is s b) a b (executes d is s a b v) v) (drop from is) m n u

  all_execute : (is : List Item) (ss : List ℕ) (m n : Machine) → Unbuilt m n → Unbuilt (execute_all rels is ss m) (execute_all rels is ss n)
  unfolding execute_all execute_at
  all_execute is [] m n u = u
  all_execute is (s ∷ ss) m n u =
      all_execute is ss (execute (suc s) rels is s m) (execute (suc s) rels is s n) (executes (suc s) is s m n u)

unite_unbuilt : (k : ℕ) (m n : Machine) → Unbuilt m n → Unbuilt (united_times k m) (united_times k n)
unfolding united_times
unite_unbuilt zero m n u = u
unite_unbuilt (suc k) m n u = unite_unbuilt k (united m) (united n) (unbuilt_united m n u)

pub union_unbuilt : (rels : List ℕ) (is : List Item) (ss : List ℕ) (m n : Machine) → Unbuilt m n
    → Unbuilt (execute_union rels is ss m) (execute_union rels is ss n)
unfolding execute_union
union_unbuilt rels is ss m n u =
    unite_unbuilt (length ss) (given 0 (execute_all rels is ss m)) (given 0 (execute_all rels is ss n))
    (unbuilt_given (execute_all rels is ss m) (execute_all rels is ss n) (all_execute rels is ss m n u) 0)
