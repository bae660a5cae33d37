-- Every statement of a query, what a line assumes as well as what it claims, stands in the query as a claim: its expressions begin at places of
-- the codes. So the two sides of a decision on any statement of an accepted query can be built, under whichever lines count (`any_built` and
-- `within_built` of `side_build`). A statement is found from its line; the places are those by which the assumptions and the claim are built.
-- Assumes nothing.
use Prim.Native.Nat.{ℕ}
use mathlib.Core.Path.{◌≡◌, refl, sym, ◌∙◌, ap, subst, subst⁻¹}
use mathlib.Core.List.{List, [], ◌∷◌, ◌++◌}
use Rattle.kat.specs.Lists.{In, here, there}
use Rattle.claims.specs.Tree.{Tree, Claim, empty, irreflexive, Line, assume_empty, assume_irreflexive, claim_line, within_line, test_line, rel_line, never_line, let_line, closed_line}
use Rattle.claims.specs.LineKinds.{line_statements}
use Rattle.claims.specs.Query.{Query, each, assumed_empty, assumed_irreflexive, claims_of}
use Rattle.claims.proofs.Results.{each_in, each_append}
use Rattle.claims.proofs.Filled.{in_each}
use Rattle.claims.proofs.Under.{all_lines}
use Rattle.codes.specs.Codes.{query_codes}
use Rattle.codes.proofs.Claimed.{Claimed}
use Rattle.side_items.proofs.Placed.{Placed, PlacedAll}
use Rattle.side_claim.specs.Sides.{claimed}
use Rattle.side_claim.specs.declared.Decision.{Decision}
use Rattle.side_claim.proofs.Endings.{every, empty_placed, irreflexive_placed}
use Rattle.side_claim.proofs.Sides.{Stands}
use Rattle.side_claim.proofs.Claims.{claim_stands}

-- the decision on a statement has a place for each of its expressions
abbrev pub StandsSomewhere : Query → Claim → Type 0
StandsSomewhere q x = (d : Decision) × Stands q x d

-- one of several expressions has a place
one_placed : (q : Query) (e : Tree) (es : List Tree) (ss : List ℕ) → PlacedAll q es ss → In e es → (s : ℕ) × Placed q e s
one_placed q e (f ∷ es) (s ∷ ss) (p, ps) (here z) = (s, subst (λ t. Placed q t s) (sym z) p)
one_placed q e (f ∷ es) (s ∷ ss) (p, ps) (there i) = one_placed q e es ss ps i
one_placed q e [] ss _ x3 = elim x3 [ ]
one_placed q e (f ∷ es) [] x5 _ = elim x5 [ ]

module _ (q : Query) (c : Claim) (h : Claimed q c) where
  empty_stands : (e : Tree) → In e (each assumed_empty q) → StandsSomewhere q (empty e)
  empty_stands e i =
      let (s, p) = one_placed q e _ _ (empty_placed every q c h) (subst⁻¹ (In e) (all_lines every (λ l. refl) assumed_empty 0 q) i) in
      (record { kind = 137; left = s; right = 0 }, (refl, p))

  irreflexive_stands : (e : Tree) → In e (each assumed_irreflexive q) → StandsSomewhere q (irreflexive e)
  irreflexive_stands e i =
      let (s, p) = one_placed q e _ _ (irreflexive_placed every q c h) (subst⁻¹ (In e) (all_lines every (λ l. refl) assumed_irreflexive 0 q) i) in
      (record { kind = 138; left = s; right = 0 }, (refl, p))

  -- a claim of the query is its one claim
  the_claim : (x : Claim) → In x (each claims_of q) → x ≡ c
  unfolding claims_of
  the_claim x i =
      only (subst (In x) (ap (each claims_of) h.last ∙ each_append claims_of h.before (claim_line c ∷ []) ∙ ap (λ xs. xs ++ (c ∷ [])) h.one) i)
    where
      only : In x (c ∷ []) → x ≡ c
      only (here z) = z
      only (there x4) = elim x4 [ ]

  claim_somewhere : (x : Claim) → In x (each claims_of q) → StandsSomewhere q x
  claim_somewhere x i = subst⁻¹ (StandsSomewhere q) (the_claim x i) (claimed (query_codes q), claim_stands q c h)

  -- by the line that has the statement
  of_line : (l : Line) → In l q → (x : Claim) → In x (line_statements l) → StandsSomewhere q x
  unfolding assumed_empty assumed_irreflexive claims_of
  of_line (assume_empty e) i x (here z) = subst⁻¹ (StandsSomewhere q) z (empty_stands e (in_each assumed_empty i (here refl)))
  of_line (assume_irreflexive e) i x (here z) = subst⁻¹ (StandsSomewhere q) z (irreflexive_stands e (in_each assumed_irreflexive i (here refl)))
  of_line (claim_line d) i x (here z) = claim_somewhere x (in_each claims_of i (here z))
  of_line (claim_line d) i x (there x15) = elim x15 [ ]
  of_line (assume_irreflexive e) i x (there x14) = elim x14 [ ]
  of_line (assume_empty e) i x (there x13) = elim x13 [ ]
  of_line (within_line _ _ _) i x x11 = elim x11 [ ]
  of_line (test_line _) i x x5 = elim x5 [ ]
  of_line (rel_line _) i x x6 = elim x6 [ ]
  of_line (never_line _) i x x8 = elim x8 [ ]
  of_line (let_line _ _) i x x8 = elim x8 [ ]
  of_line (closed_line _) i x x10 = elim x10 [ ]

  pub statement_stands : (x : Claim) → In x (each line_statements q) → StandsSomewhere q x
  statement_stands x i = let (l, j, k) = each_in line_statements q x i in of_line l j x k
