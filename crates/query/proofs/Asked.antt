-- From the reading of a query to its decision: an accepted query has one within the limits, whose facts and tables the reader leaves.
-- Assumes nothing.
use Prim.Native.Nat.{ℕ, ◌≤◌}
use native.Mathlib.Omega.{arith}
use mathlib.Core.Path.{◌≡◌, refl, sym, ◌∙◌, ap, subst}
use mathlib.Core.List.{List}
use mathlib.Core.Option.{some}
use lib.ListN.{length}
use Rattle.claims.specs.Tree.{Claim, includes, empty, irreflexive}
use Rattle.claims.specs.Query.{Query, atoms, live}
use Rattle.claims.specs.Sides.{Decision, decision}
use Rattle.claims.specs.Reading.{read}
use Rattle.claims.specs.Refusals.{Result, ok, refused}
use Rattle.claims.specs.RefusalOrder.{Accepted}
use Rattle.claims.specs.Calls.{Asked, asked}
use Rattle.claims.specs.CallOrder.{asked_as}
use Rattle.claims.specs.SheetWriting.{RisingWithin}
use Rattle.claims.proofs.SetBytes.{filter_rising}
use Rattle.claims.proofs.Limits.{WithinLimits, read_within, decision_within_limits}
use Rattle.claims.proofs.Precedence.{read_accepts}
use Rattle.claims.proofs.SearchOrder.{asked_accepted}
use Rattle.codes.specs.Codes.{query_codes}
use Rattle.query.specs.declared.Facts.{Facts}
use Rattle.std.specs.Prelude.{Ok}
use Rattle.query.specs.Answer.{Answer, facts_of, Says, claim_table, table_after, left_after, right_after}
use Rattle.query.specs.Decided.{Decided}

-- the live atoms rise below the number of atoms
decision_rises : (q : Query) (c : Claim) → RisingWithin 0 (decision q c).atoms (decision q c).live
unfolding decision live
decision_rises q (includes e f) = filter_rising _ 0 (atoms q) (omega arith)
decision_rises q (empty e) = filter_rising _ 0 (atoms q) (omega arith)
decision_rises q (irreflexive e) = filter_rising _ 0 (atoms q) (omega arith)

-- what is asked, with the facts and the tables of its decision
pub record AskedWith (bs : List ℕ) (f : Facts) (left right : List ℕ) : Type 0 where
  pub asks : Asked
  pub accepted : asked bs ≡ ok asks
  pub decided : Decided f left right asks.decided

some_same : (c d : Claim) → some c ≡ some d → c ≡ d
some_same c d e = cc

module _ (bs : List ℕ) (x : Answer) (said : Says (read bs) x) (f : Facts) (e : x ≡ Ok f) (left right : List ℕ)
    (is-left : left ≡ left_after (read bs)) (is_right : right ≡ right_after (read bs)) where
  pub asked_with : AskedWith bs f left right
  unfolding table_after claim_table facts_of
  asked_with = go (read bs) refl (subst (Says (read bs)) e said) is-left is_right
    where
      go : (r : Result Query) → read bs ≡ r → Says r (Ok f) → left ≡ left_after r → right ≡ right_after r → AskedWith bs f left right
      go (refused r) g s l k = absurd s
      go (ok q) g (c, h, i) l k =
          let a : Accepted bs q = (read_accepts bs q).0 g in
          let same : a.claim ≡ c = some_same a.claim c (sym a.claimed ∙ h) in
          let w : WithinLimits (decision q a.claim) = decision_within_limits q a.claim (read_within bs g).0 a.within_the_limits in
          let D : Decision = decision q a.claim in
          let facts : f ≡ facts_of (length (query_codes q)) D = i ∙ ap (λ d. facts_of (length (query_codes q)) (decision q d)) (sym same) in
          record {
            asks = asked_as q a.claim;
            accepted = asked_accepted bs q a;
            decided = record {
              facts = facts ∙ ap (λ n. facts_of n D) (sym (ap (λ (z : Facts). z.codes) facts));
              left_table_lem = l ∙ ap (claim_table (λ d. d.left) q) a.claimed;
              right_table_lem = k ∙ ap (claim_table (λ d. d.right) q) a.claimed;
              few_left = w.left;
              few_right = w.right;
              few_right_of_rings = w.ring_right;
              few_relations_lem = w.relations;
              few_atoms = w.atoms;
              live_rising = decision_rises q a.claim;
            };
          }

  pub few_relations_lem : f.relations ≤ 16
  unfolding facts_of
  few_relations_lem = omega (arith, ap (λ (z : Facts). z.relations) asked_with.decided.facts, asked_with.decided.few_relations_lem)
