-- "Exactly one claim, the last line" (document 01, "The query"): lines that are taken one after another have no claim, or one and at
-- the end. The idea: a line is taken only where none before it is a claim, so only the last one can be.
-- Assumes nothing.
use Prim.Native.Nat.{ℕ}
use native.Mathlib.Omega.{arith}
use mathlib.Core.Path.{◌≡◌, refl, sym, ◌∙◌, ap, subst}
use mathlib.Core.Logic.{◌⊎◌}
use mathlib.Core.Logic.◌⊎◌.{inl, inr}
use mathlib.Core.List.{List, [], ◌∷◌, ◌++◌}
use mathlib.Core.Option.{Option, some, none}
use Rattle.notation.specs.Bytes.{RawLine}
use Rattle.notation.specs.Tree.{Claim, Line, test_line, rel_line, let_line, never_line, within_line, closed_line, assume_empty, assume_irreflexive, claim_line}
use Rattle.notation.specs.Query.{Query, each, claims_of}
use Rattle.notation.specs.Reading.{claim_of}
use Rattle.notation.proofs.Results.{each_append}
use Rattle.notation.specs.RefusalOrder.{Taken, EndsWith}

-- claim_of says whether there is a claim, and the first one
pub no_claims : (q : Query) → claim_of q ≡ none → each claims_of q ≡ []
unfolding claim_of
no_claims q e = go (each claims_of q) e
  where
    go : (cs : List Claim) → ◌≡◌ {A = Option Claim} (elim cs [ [] ↦ none | c ∷ ds ↦ some c ]) none → cs ≡ []
    go [] h = refl
    go (c ∷ cs) h = absurd (let z : ◌≡◌ {A = ℕ} 0 1 = cc in omega arith)

pub claims_none : (q : Query) → each claims_of q ≡ [] → claim_of q ≡ none
unfolding claim_of
claims_none q e = rw (e, claim_of)

-- such a query's claim is that one
pub the_claim : (q : Query) (c : Claim) → EndsWith q c → claim_of q ≡ some c
unfolding claim_of claims_of
the_claim q c (before, e, f) =
    let g : each claims_of q ≡ c ∷ [] =
    ap (each claims_of) e ∙ each_append claims_of before (claim_line c ∷ []) ∙ ap (λ cs. cs ++ (c ∷ [])) f
    in
    rw (g, claim_of)

-- no claim, or one at the end
abbrev Claims : Query → Type 0
Claims q = (each claims_of q ≡ []) ⊎ ((c : Claim) × EndsWith q c)

none_more : (q : Query) (x : Line) → each claims_of q ≡ [] → claims_of x ≡ [] → Claims (q ++ (x ∷ []))
none_more q x e f =
    inl (each_append claims_of q (x ∷ []) ∙ ap (λ cs. cs ++ (claims_of x ++ [])) e ∙ ap (λ cs. cs ++ []) f)

one_more : (q : Query) (x : Line) → each claims_of q ≡ [] → Claims (q ++ (x ∷ []))
unfolding claims_of
one_more q (test_line n) e = none_more q (test_line n) e refl
one_more q (rel_line n) e = none_more q (rel_line n) e refl
one_more q (let_line n t) e = none_more q (let_line n t) e refl
one_more q (never_line t) e = none_more q (never_line t) e refl
one_more q (within_line n t u) e = none_more q (within_line n t u) e refl
one_more q (closed_line n) e = none_more q (closed_line n) e refl
one_more q (assume_empty t) e = none_more q (assume_empty t) e refl
one_more q (assume_irreflexive t) e = none_more q (assume_irreflexive t) e refl
one_more q (claim_line c) e = inr (c, (q, refl, e))

taken_claims : (q : Query) (ls : List RawLine) (q' : Query) → Claims q → Taken q ls q' → Claims q'
taken_claims q [] q' h e = subst Claims e h
taken_claims q (l ∷ ls) q' h (x, t, ts) = taken_claims (q ++ (x ∷ [])) ls q' (one_more q x (no_claims q t.no_claim_yet)) ts

-- lines that are taken: a claim among them is the last of them
pub claim_is_last : (ls : List RawLine) (q : Query) (c : Claim) → Taken [] ls q → claim_of q ≡ some c → EndsWith q c
claim_is_last ls q c ts e = go (taken_claims [] ls q (inl refl) ts)
  where
    go : Claims q → EndsWith q c
    go (inl f) = let s : some c ≡ none = sym e ∙ claims_none q f in absurd (let z : ◌≡◌ {A = ℕ} 0 1 = cc in omega arith)
    go (inr (d, w)) = let s : some d ≡ some c = sym (the_claim q d w) ∙ e in subst (EndsWith q) (cc) w
