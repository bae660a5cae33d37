-- What is built from codes, put together: the program, the table of an expression at a place, the two sides, and the atoms that are left. The
-- functions of `src/lib.rt` cite these laws.
-- Assumes nothing.
use Prim.Native.Nat.{ℕ, suc, ◌+◌, ◌-◌, ◌<◌, min}
use native.Mathlib.Omega.{arith}
use mathlib.Core.Path.{◌≡◌, refl, sym, ◌∙◌, ap, ap₂}
use mathlib.Core.Logic.{⊎_elim}
use mathlib.Core.List.{List, [], ◌∷◌, ◌++◌, append-nil}
use lib.ListN.{length, take, drop, length-append, length-drop, drop_of_length-le}
use lib.Seq.{take-append_seam, take_all}
use Rattle.kat.proofs.Bools.{le_or_lt}
use Rattle.memory.specs.Memory.{copied}
use Rattle.memory.proofs.Words.{words_length, copied_all}
use Rattle.side_items.specs.Items.{Scan, scanned, args_from, args_of, Item, paired, items_of}
use Rattle.side_relations.specs.Relations.{relation_sets, removed_set, live_set}
use Rattle.side_parts.specs.Machine.{Machine, nothing_built, told_table}
use Rattle.side_runs.specs.Program.{items_in, sets_in}
use Rattle.side_runs.specs.Execution.{execute, execute_at}
use Rattle.side_claim.specs.Sides.{placed, claimed, left_machine, right_machine}
use Rattle.side_claim.specs.declared.Decision.{Decision}
use Rattle.side_build.specs.Built.{needs_of, table_at, left_of, right_of, counted_in, left_table, right_table, built_from}
use Rattle.side_build.specs.declared.Built.{Built}
use Rattle.side_build.specs.declared.Counted.{Counted}

-- as many arguments as codes
args_from_length : (s : Scan) (ks : List ℕ) → length (args_from s ks) ≡ length ks
unfolding args_from
args_from_length s [] = refl
args_from_length s (k ∷ ks) = omega (arith, args_from_length (scanned s k) ks)

pub args_length : (ks : List ℕ) → length (args_of ks) ≡ length ks
unfolding args_of
args_length ks = args_from_length _ ks

pub sets_length : (is : List Item) → length (relation_sets is) ≡ 48
unfolding relation_sets
sets_length is = words_length 48 _

-- the program: what the codes need first, then the sets
module _ (ks : List ℕ) where
  pub needs_args : take (length ks) (needs_of ks) ≡ args_of ks
  unfolding needs_of
  needs_args =
      ap (λ n. take n (args_of ks ++ relation_sets (items_of ks))) (sym (args_length ks)) ∙ take-append_seam (args_of ks) (relation_sets (items_of ks))

  pub needs_length : length (needs_of ks) ≡ length ks + 48
  unfolding needs_of
  needs_length = length-append (args_of ks) (relation_sets (items_of ks)) ∙ ap₂ ◌+◌ (args_length ks) (sets_length (items_of ks))

-- a table at a place
pub placed_made : (ks ns t : List ℕ) (from : ℕ) (m n : Machine) → m ≡ nothing_built
    → ((d : ℕ) → from < d → n ≡ execute d (sets_in ks ns) (items_in ks ns) from m) → t ≡ told_table n → t ≡ table_at ks ns from
unfolding table_at placed execute_at
placed_made ks ns t from m n e f g =
    g ∙ ap told_table (f (suc from) (omega arith) ∙ ap (execute (suc from) (sets_in ks ns) (items_in ks ns) from) e)

-- the two sides of a decision
pub sides_made : (ks ns : List ℕ) (d : Decision) (m n : Machine) (l r : List ℕ) (i j : ℕ) → m ≡ left_machine ks ns d → l ≡ told_table m → i ≡ m.used
    → n ≡ right_machine ks ns d → r ≡ told_table n → j ≡ n.used
    → (record { left = i; right = j } ≡ counted_in ks ns d) × (l ≡ left_of ks ns d) × (r ≡ right_of ks ns d)
unfolding counted_in left_of right_of
sides_made ks ns d m n l r i j e f g h k o = (
  ap₂ (λ x y. record { left = x; right = y }) (g ∙ ap (λ (z : Machine). z.used) e) (o ∙ ap (λ (z : Machine). z.used) h),
  f ∙ ap told_table e,
  k ∙ ap told_table h,
)

-- the program in memory: the codes with what they need are found first, and the sets are put behind it
module _ (ks xs ns : List ℕ) (found : xs ≡ args_of ks) (room : length ns ≡ length ks + 48) where
  abbrev half : List ℕ
  half = xs ++ drop (length ks) ns

  found_length : length xs ≡ length ks
  found_length = ap length found ∙ args_length ks

  pub half_length : length half ≡ length ks + 48
  half_length = length-append xs (drop (length ks) ns) ∙ omega (arith, found_length, length-drop (length ks) ns)

  pub half_args : take (length ks) half ≡ args_of ks
  half_args = ap (λ n. take n half) (sym found_length) ∙ take-append_seam xs (drop (length ks) ns) ∙ found

  module _ (rels ys : List ℕ) (sets : rels ≡ relation_sets (paired ks (take (length ks) half)))
      (put : ys ≡ copied rels (take (length half - length ks) (drop (length ks) half))) where
    sets_found : rels ≡ relation_sets (items_of ks)
    unfolding items_of
    sets_found = sets ∙ ap (λ zs. relation_sets (paired ks zs)) half_args

    rels_length : length rels ≡ 48
    rels_length = ap length sets_found ∙ sets_length (items_of ks)

    behind_length : length (drop (length ks) half) ≡ 48
    behind_length = length-drop (length ks) half ∙ omega (arith, half_length)

    all_put : ys ≡ rels
    all_put =
        put ∙ copied_all rels (take (length half - length ks) (drop (length ks) half))
        (rels_length ∙ sym (ap length (take_all (length half - length ks) (drop (length ks) half) (omega (arith, half_length, behind_length))) ∙ behind_length))

    none_behind : drop (length half - length ks) (drop (length ks) half) ≡ []
    none_behind = drop_of_length-le (drop (length ks) half) {i = length half - length ks} (omega (arith, half_length, behind_length))

    pub prepared : take (length ks) half ++ (ys ++ drop (length half - length ks) (drop (length ks) half)) ≡ needs_of ks
    unfolding needs_of
    prepared =
        ap₂ (λ x y. x ++ (y ++ drop (length half - length ks) (drop (length ks) half))) half_args (all_put ∙ sets_found)
        ∙ ap (λ z. args_of ks ++ (relation_sets (items_of ks) ++ z)) none_behind
        ∙ ap (λ z. args_of ks ++ z) (append-nil (relation_sets (items_of ks)))

    pub prepared_length : length (take (length ks) half ++ (ys ++ drop (length half - length ks) (drop (length ks) half))) ≡ length ns
    prepared_length = ap length prepared ∙ needs_length ks ∙ sym room

-- the atoms that are left
pub live_found : (ks xs : List ℕ) (tests removed live : ℕ) → xs ≡ args_of ks → removed ≡ removed_set (paired ks xs) → live ≡ live_set tests removed
    → live ≡ live_set tests (removed_set (items_of ks))
unfolding items_of
live_found ks xs tests removed live e f g = g ∙ ap (live_set tests) (f ∙ ap (λ ys. removed_set (paired ks ys)) e)

-- all of it
pub all_built : (ks ns : List ℕ) (d : Decision) (c : Counted) (tests live : ℕ) (l r : List ℕ) → ns ≡ needs_of ks → d ≡ claimed ks
    → (c ≡ counted_in ks ns d) × (l ≡ left_of ks ns d) × (r ≡ right_of ks ns d) → live ≡ live_set tests (removed_set (items_of ks))
    → (record { left = c.left; right = c.right; live = live } ≡ built_from tests ks) × (l ≡ left_table ks) × (r ≡ right_table ks)
unfolding built_from left_table right_table
all_built ks ns d c tests live l r e f (g, h, i) j = (
  ap₂ (λ (x : Counted) y. record { left = x.left; right = x.right; live = y }) (g ∙ ap₂ (λ x y. counted_in ks x y) e f) j,
  h ∙ ap₂ (λ x y. left_of ks x y) e f,
  i ∙ ap₂ (λ x y. right_of ks x y) e f,
)

-- as many codes as there are
pub first_codes : (n m : ℕ) (ks : List ℕ) → m ≡ min n (length ks) → take m ks ≡ take n ks
first_codes n m ks e =
    ⊎_elim (λ h. let z : m ≡ n = omega arith in ap (λ j. take j ks) z)
    (λ h. let z : m ≡ length ks = omega arith in take_all m ks (omega arith) ∙ sym (take_all n ks (omega arith)))
    (le_or_lt n (length ks))

-- what is built of them
pub built_of : (tests : ℕ) (ks js l r : List ℕ) (b : Built) → ks ≡ js → (b ≡ built_from tests ks) × (l ≡ left_table ks) × (r ≡ right_table ks)
    → (b ≡ built_from tests js) × (l ≡ left_table js) × (r ≡ right_table js)
built_of tests ks js l r b e (x, y, z) = (x ∙ ap (built_from tests) e, y ∙ ap left_table e, z ∙ ap right_table e)
