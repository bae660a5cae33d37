-- The claim of a query: its expressions stand where the codes say.
-- Assumes nothing.
use Prim.Native.Nat.{ℕ, ◌≤◌}
use native.Mathlib.Omega.{arith}
use mathlib.Core.Path.{◌≡◌}
use mathlib.Core.List.{List, [], ◌∷◌}
use Rattle.claims.specs.Tree.{Tree, Claim, includes, empty, irreflexive}
use Rattle.claims.specs.Query.{Query}
use Rattle.codes.specs.Codes.{query_codes, claim_kind}
use Rattle.codes.proofs.Claimed.{Claimed, claim_kind_lem}
use Rattle.side_items.specs.Items.{starts_of}
use Rattle.side_items.proofs.Placed.{Placed, PlacedAll}
use Rattle.side_claim.specs.Sides.{first_of, start_of, left_end, claimed}
use Rattle.side_claim.proofs.Endings.{every, claim_placed}
use Rattle.side_claim.proofs.Sides.{Stands}

-- one expression that starts at the first of the places
first_placed : (q : Query) (e : Tree) (ss : List ℕ) → PlacedAll q (e ∷ []) ss → Placed q e (first_of ss)
unfolding first_of
first_placed q e (s ∷ []) (x, y) = x
first_placed q e [] x' = elim x' [ ]
first_placed q e (s ∷ (_ ∷ _)) (_, x) = elim x [ ]

module _ (q : Query) where
  started : (c : Claim) → Claimed q c → (k : ℕ) → 135 ≤ k → k ≤ 138 → (e : Tree) → PlacedAll q (e ∷ []) (starts_of every k (query_codes q))
      → Placed q e (start_of k (query_codes q))
  unfolding start_of
  started c h k low high e x = first_placed q e (starts_of every k (query_codes q)) x

  pub claim_stands : (c : Claim) → Claimed q c → Stands q c (claimed (query_codes q))
  unfolding claimed left_end
  claim_stands (includes e f) h =
      let c = includes e f in
      let z : claim_kind (query_codes q) ≡ 136 = claim_kind_lem q c h in (
        z,
        rw z (started c h 135 (omega arith) (omega arith) e (claim_placed q c h 135 (omega arith) (omega arith))),
        started c h 136 (omega arith) (omega arith) f (claim_placed q c h 136 (omega arith) (omega arith)),
      )
  claim_stands (empty e) h =
      let c = empty e in
      let z : claim_kind (query_codes q) ≡ 137 = claim_kind_lem q c h in
      (z, rw z (started c h 137 (omega arith) (omega arith) e (claim_placed q c h 137 (omega arith) (omega arith))))
  claim_stands (irreflexive e) h =
      let c = irreflexive e in
      let z : claim_kind (query_codes q) ≡ 138 = claim_kind_lem q c h in
      (z, rw z (started c h 138 (omega arith) (omega arith) e (claim_placed q c h 138 (omega arith) (omega arith))))
