-- A query that was read: its lines are in order, and its one claim is the last of them. So its last code is the end of the claim.
-- Assumes nothing.
use Prim.Native.Nat.{ℕ, ◌-◌}
use native.Mathlib.Omega.{arith}
use mathlib.Core.Path.{◌≡◌, refl, sym, ◌∙◌, ap}
use mathlib.Core.List.{List, [], ◌∷◌, ◌++◌, append-nil, append_assoc}
use mathlib.Core.Option.{some}
use lib.ListN.{length, get_or, length-append}
use lib.Seq.{get_or_at}
use Rattle.claims.specs.Bytes.{RawLine}
use Rattle.claims.specs.Tree.{Claim, includes, empty, irreflexive, claim_line}
use Rattle.claims.specs.Query.{Query, each, claims_of}
use Rattle.claims.specs.Refusals.{ok}
use Rattle.claims.specs.Reading.{claim_of, read_lines}
use Rattle.claims.proofs.LineOrder.{lines_taken}
use Rattle.claims.specs.RefusalOrder.{Taken}
use Rattle.claims.proofs.ClaimLast.{claim_is_last}
use Rattle.codes.specs.Codes.{tree_codes, claim_codes, line_codes, lines_codes, query_codes, claim_kind}
use Rattle.codes.proofs.Orderly.{Orderly, taken_orderly}

-- what is needed of a query: its lines are in order, and its one claim is the last of them
pub record Claimed (q : Query) (c : Claim) : Type 0 where
  pub lines : Orderly [] q
  pub before : Query
  pub last : q ≡ before ++ (claim_line c ∷ [])
  pub one : each claims_of before ≡ []

-- a query whose lines were taken, with a claim, is such a one
pub taken_claimed : (ls : List RawLine) (q : Query) (c : Claim) → Taken [] ls q → claim_of q ≡ some c → Claimed q c
taken_claimed ls q c ts e =
    let (before, f, g) = claim_is_last ls q c ts e in
    record { lines = taken_orderly ls q ts; before = before; last = f; one = g }

pub read_claimed : (ls : List RawLine) (q : Query) (c : Claim) → read_lines [] 1 ls ≡ ok q → claim_of q ≡ some c → Claimed q c
read_claimed ls q c r e = taken_claimed ls q c ((lines_taken [] 1 ls q).0 r) e

-- the codes of lines, one after another
pub lines_append : (p a b : Query) → lines_codes p (a ++ b) ≡ lines_codes p a ++ lines_codes (p ++ a) b
unfolding lines_codes
lines_append p [] b = ap (λ x. lines_codes x b) (sym (append-nil p))
lines_append p (l ∷ a) b =
    ap (λ x. line_codes p l ++ x)
    (lines_append (p ++ (l ∷ [])) a b ∙ ap (λ x. lines_codes (p ++ (l ∷ [])) a ++ lines_codes x b) (append_assoc p (l ∷ []) a))
    ∙ sym (append_assoc (line_codes p l) (lines_codes (p ++ (l ∷ [])) a) (lines_codes (p ++ (l ∷ a)) b))

-- the code that a claim ends with
abbrev pub claim_end : Claim → ℕ
claim_end (includes e f) = 136
claim_end (empty e) = 137
claim_end (irreflexive e) = 138

claim_last : (p : Query) (c : Claim) → (xs : List ℕ) × (claim_codes p c ≡ xs ++ (claim_end c ∷ []))
unfolding claim_codes
claim_last p (includes e f) = (tree_codes p e ++ (135 ∷ tree_codes p f), refl)
claim_last p (empty e) = (tree_codes p e, refl)
claim_last p (irreflexive e) = (tree_codes p e, refl)

-- it is the last code of the query
pub claim_kind_lem : (q : Query) (c : Claim) → Claimed q c → claim_kind (query_codes q) ≡ claim_end c
unfolding claim_kind query_codes lines_codes line_codes
claim_kind_lem q c h =
    let p = h.before in
    let (xs, e) = claim_last p c in
    let z : lines_codes [] q ≡ (lines_codes [] p ++ xs) ++ (claim_end c ∷ []) =
    ap (lines_codes []) h.last ∙ lines_append [] p (claim_line c ∷ [])
    ∙ ap (λ y. lines_codes [] p ++ y) (append-nil (claim_codes p c) ∙ e) ∙ sym (append_assoc (lines_codes [] p) xs (claim_end c ∷ [])) in
    ap (λ ks. get_or ks (length ks - 1) 0) z
    ∙ get_or_at (lines_codes [] p ++ xs) (claim_end c) [] 0 _ (omega (arith, length-append (lines_codes [] p ++ xs) (claim_end c ∷ [])))
