-- What is built from the codes of a query within the limits is what document 01 says: the table of each side of its claim, the number of
-- its occurrences, and the atoms that are left.
-- Assumes nothing.
use Prim.Native.Nat.{ℕ, ◌%◌, ◌≤◌}
use native.Mathlib.Omega.{arith}
use mathlib.Core.Path.{◌≡◌, refl, sym, ◌∙◌, ap, subst, subst⁻¹}
use mathlib.Core.Bool.{true, not}
use mathlib.Core.List.{List, [], ◌∷◌, ◌++◌, append_assoc}
use lib.ListN.{length, drop, get_or-eq_default}
use lib.Seq.{drop-append_seam}
use Rattle.kat.specs.Tables.{occurrences}
use Rattle.claims.specs.Tree.{Claim}
use Rattle.claims.specs.Query.{Query, tests, live, bit}
use Rattle.claims.specs.Fields.{set_number}
use Rattle.claims.specs.Sides.{decision}
use Rattle.claims.specs.Counting.{within_limits}
use Rattle.codes.specs.Codes.{query_codes}
use Rattle.codes.proofs.Claimed.{Claimed}
use Rattle.bits.proofs.Bit.{bit_none}
use Rattle.memory.specs.Memory.{zeros}
use Rattle.side_tables.specs.SideTable.{side_table}
use Rattle.side_items.specs.Items.{args_of, paired, items_of}
use Rattle.side_items.proofs.Placed.{Limited}
use Rattle.side_relations.specs.Relations.{relation_sets}
use Rattle.side_relations.proofs.RelationSets.{limited_sets}
use Rattle.side_relations.proofs.Removed.{live_atoms}
use Rattle.side_runs.specs.Program.{items_in, sets_in, counts_from, counts_in}
use Rattle.side_claim.specs.Sides.{claimed}
use Rattle.claims.specs.Under.{decision_under}
use Rattle.side_claim.proofs.Sides.{Prepared}
use Rattle.side_claim.proofs.Claims.{claim_stands}
use Rattle.claims.proofs.Under.{decision_all, within_all}
use Rattle.side_build.specs.Built.{needs_of, left_table, right_table, built_from}
use Rattle.side_build.proofs.Assembled.{args_length, needs_length}
use Rattle.side_build.proofs.AnyDecision.{BuiltAs, within_built}

-- what the codes need is found in the program
paired_first : (ks xs ys : List ℕ) → length xs ≡ length ks → paired ks (xs ++ ys) ≡ paired ks xs
unfolding paired
paired_first [] xs ys e = refl
paired_first (k ∷ ks) [] ys e = absurd (omega arith)
paired_first (k ∷ ks) (x ∷ xs) ys e = ap (λ is. record { code = k; arg = x } ∷ is) (paired_first ks xs ys (omega arith))

module _ (ks : List ℕ) where
  items_found : items_in ks (needs_of ks) ≡ items_of ks
  unfolding items_in needs_of items_of
  items_found =
      ap (paired ks) (append_assoc (args_of ks) (relation_sets (items_of ks)) (zeros (length ks)))
      ∙ paired_first ks (args_of ks) (relation_sets (items_of ks) ++ zeros (length ks)) (args_length ks)

  sets_found : sets_in ks (needs_of ks) ≡ relation_sets (items_of ks)
  unfolding sets_in needs_of
  sets_found =
      ap (λ n. drop n (args_of ks ++ relation_sets (items_of ks))) (sym (args_length ks)) ∙ drop-append_seam (args_of ks) (relation_sets (items_of ks))

  -- no line is left out
  all_count : (l : ℕ) → counts_in ks (needs_of ks) l ≡ true
  unfolding counts_in counts_from
  all_count l =
      ap (λ w. not (bit (l % 64) w)) (get_or-eq_default (needs_of ks) 0 (omega (arith, needs_length ks))) ∙ ap not (bit_none (l % 64))

-- what is built from the codes of a query
pub record Decided (q : Query) (c : Claim) : Type 0 where
  pub left_table_lem : left_table (query_codes q) ≡ side_table (decision q c).left
  pub right_table_lem : right_table (query_codes q) ≡ side_table (decision q c).right
  pub left_count : (built_from (length (tests q)) (query_codes q)).left ≡ occurrences (decision q c).left
  pub right_count_lem : (built_from (length (tests q)) (query_codes q)).right ≡ occurrences (decision q c).right
  pub live_set_lem : (built_from (length (tests q)) (query_codes q)).live ≡ set_number 0 (live q)

pub decided : (q : Query) (c : Claim) → Claimed q c → within_limits q c ≡ true → length (query_codes q) ≤ 4096 → Decided q c
unfolding left_table right_table built_from
decided q c h w few =
    let ks = query_codes q in
    let ns = needs_of ks in
    let all = all_count ks in
    let same : decision_under (counts_in ks ns) q c ≡ decision q c = decision_all (counts_in ks ns) all q c in
    let p : Prepared q ns = record {
      items = items_found ks;
      sets = subst⁻¹ (Limited q) (sets_found ks) (limited_sets q h.lines few);
      fits = few;
    } in
    let b : BuiltAs ks ns (claimed ks) (decision q c) =
    subst (BuiltAs ks ns (claimed ks)) same
    (within_built q c h ns p c (claimed ks) (claim_stands q c h) (within_all (counts_in ks ns) all q c ∙ w)) in
    record {
      left_table_lem = b.left_table_lem;
      right_table_lem = b.right_table_lem;
      left_count = b.left_count;
      right_count_lem = b.right_count_lem;
      live_set_lem = live_atoms q h.lines few;
    }
