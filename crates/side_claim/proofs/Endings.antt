-- The expressions of a query by the codes that they end with: those assumed empty and those assumed irreflexive in the lines that count, and
-- those of the claim, which is the last line.
-- Assumes nothing.
use Prim.Native.Nat.{ℕ, suc, ◌+◌, ◌≤◌}
use native.Mathlib.Omega.{arith}
use mathlib.Core.Path.{◌≡◌, refl, sym, ◌∙◌, ap, ap₂, subst}
use mathlib.Core.Bool.{Bool, true, false, cond, ◌&&◌}
use mathlib.Core.List.{List, [], ◌∷◌, ◌++◌, append-nil, append-eq-nil_iff}
use borrow.Author.Tests.{ne_eqb}
use Rattle.claims.specs.Tree.{Tree, Claim, includes, empty, irreflexive, Line, test_line, rel_line, let_line, never_line, within_line, closed_line, assume_empty, assume_irreflexive, claim_line}
use Rattle.claims.specs.Query.{Query, each, assumed_empty, assumed_irreflexive, claims_of}
use Rattle.codes.specs.Codes.{query_codes}
use Rattle.codes.proofs.Claimed.{Claimed}
use Rattle.side_items.specs.Items.{starts_of}
use Rattle.side_items.proofs.Placed.{PlacedAll}
use Rattle.claims.specs.Under.{of_lines}
use Rattle.side_claim.proofs.Starts.{only, line_ends, claim_ending, ending, endings, ending_placed}

-- lines without a claim have one end each
one_end : (l : Line) → claims_of l ≡ [] → line_ends l ≡ 1
unfolding claims_of
one_end (test_line n) e = refl
one_end (rel_line n) e = refl
one_end (let_line n f) e = refl
one_end (never_line t) e = refl
one_end (within_line n t u) e = refl
one_end (closed_line n) e = refl
one_end (assume_empty f) e = refl
one_end (assume_irreflexive f) e = refl
one_end (claim_line c) e = absurd (let z : ◌≡◌ {A = ℕ} 0 1 = cc in omega arith)

-- nothing, whether a line counts or not
none : (b : Bool) → ◌≡◌ {A = List Tree} [] (cond b [] [])
none true = refl
none false = refl

module _ (counts : ℕ → Bool) where
  -- the assumed ones of a line
  ends_133 : (i : ℕ) (l : Line) → ending counts 133 i l ≡ cond (counts i) (assumed_empty l) []
  unfolding assumed_empty
  ends_133 i (test_line n) = none (counts i)
  ends_133 i (rel_line n) = none (counts i)
  ends_133 i (let_line n e) = none (counts i)
  ends_133 i (never_line t) = none (counts i)
  ends_133 i (within_line n t u) = none (counts i)
  ends_133 i (closed_line n) = none (counts i)
  ends_133 i (assume_empty e) = refl
  ends_133 i (assume_irreflexive e) = none (counts i)
  ends_133 i (claim_line (includes e f)) = none (counts i)
  ends_133 i (claim_line (empty e)) = none (counts i)
  ends_133 i (claim_line (irreflexive e)) = none (counts i)

  ends_134 : (i : ℕ) (l : Line) → ending counts 134 i l ≡ cond (counts i) (assumed_irreflexive l) []
  unfolding assumed_irreflexive
  ends_134 i (test_line n) = none (counts i)
  ends_134 i (rel_line n) = none (counts i)
  ends_134 i (let_line n e) = none (counts i)
  ends_134 i (never_line t) = none (counts i)
  ends_134 i (within_line n t u) = none (counts i)
  ends_134 i (closed_line n) = none (counts i)
  ends_134 i (assume_empty e) = none (counts i)
  ends_134 i (assume_irreflexive e) = refl
  ends_134 i (claim_line (includes e f)) = none (counts i)
  ends_134 i (claim_line (empty e)) = none (counts i)
  ends_134 i (claim_line (irreflexive e)) = none (counts i)

  -- and of all lines, of which only the last may have a claim
  abbrev Assumed : ℕ → (Line → List Tree) → Type 0
  Assumed k f = (i : ℕ) (l : Line) → ending counts k i l ≡ cond (counts i) (f l) []

  all_assumed : (k : ℕ) (f : Line → List Tree) → Assumed k f → (n : ℕ) (p : Query) (l : Line) → each claims_of p ≡ []
      → endings counts k n (p ++ (l ∷ [])) ≡ of_lines counts f n (p ++ (l ∷ []))
  all_assumed k f h n [] l e = ap (λ x. x ++ []) (h n l)
  all_assumed k f h n (x ∷ p) l e =
      let (a, b) = (append-eq-nil_iff {p = claims_of x} {q = each claims_of p}).0 e in
      let z : n + line_ends x ≡ suc n = ap (λ i. n + i) (one_end x a) ∙ omega arith in
      ap₂ ◌++◌ (h n x) (ap (λ i. endings counts k i (p ++ (l ∷ []))) z ∙ all_assumed k f h (suc n) p l b)

  module _ (q : Query) (c : Claim) (h : Claimed q c) where
    pub empty_placed : PlacedAll q (of_lines counts assumed_empty 0 q) (starts_of counts 133 (query_codes q))
    empty_placed =
        subst (λ es. PlacedAll q es (starts_of counts 133 (query_codes q)))
        (ap (endings counts 133 0) h.last ∙ all_assumed 133 assumed_empty ends_133 0 h.before (claim_line c) h.one
        ∙ ap (of_lines counts assumed_empty 0) (sym h.last))
        (ending_placed counts q h.lines 133 (omega arith) (omega arith))

    pub irreflexive_placed : PlacedAll q (of_lines counts assumed_irreflexive 0 q) (starts_of counts 134 (query_codes q))
    irreflexive_placed =
        subst (λ es. PlacedAll q es (starts_of counts 134 (query_codes q)))
        (ap (endings counts 134 0) h.last ∙ all_assumed 134 assumed_irreflexive ends_134 0 h.before (claim_line c) h.one
        ∙ ap (of_lines counts assumed_irreflexive 0) (sym h.last))
        (ending_placed counts q h.lines 134 (omega arith) (omega arith))

-- the claim, where every line counts
abbrev pub every : ℕ → Bool
every l = true

line_without : (k n : ℕ) → 135 ≤ k → (l : Line) → claims_of l ≡ [] → ending every k n l ≡ []
unfolding claims_of
line_without k i h (test_line n) e = refl
line_without k i h (rel_line n) e = refl
line_without k i h (let_line n f) e = refl
line_without k i h (never_line t) e = refl
line_without k i h (within_line n t u) e = refl
line_without k i h (closed_line n) e = refl
line_without k i h (assume_empty f) e = ap (λ b. only (b && true) f) (ne_eqb 133 k (λ z. omega arith))
line_without k i h (assume_irreflexive f) e = ap (λ b. only (b && true) f) (ne_eqb 134 k (λ z. omega arith))
line_without k i h (claim_line c) e = absurd (let z : ◌≡◌ {A = ℕ} 0 1 = cc in omega arith)

-- the claim's own, behind n ends, which do not matter
claim_anywhere : (k n m : ℕ) (c : Claim) → claim_ending every k n c ≡ claim_ending every k m c
claim_anywhere k n m (includes e f) = refl
claim_anywhere k n m (empty e) = refl
claim_anywhere k n m (irreflexive e) = refl

claim_only : (k n : ℕ) → 135 ≤ k → (p : Query) (c : Claim) → each claims_of p ≡ [] → endings every k n (p ++ (claim_line c ∷ [])) ≡ claim_ending every k 0 c
claim_only k n h [] c e = append-nil (claim_ending every k n c) ∙ claim_anywhere k n 0 c
claim_only k n h (l ∷ p) c e =
    let (a, b) = (append-eq-nil_iff {p = claims_of l} {q = each claims_of p}).0 e in
    ap₂ ◌++◌ (line_without k n h l a) (claim_only k (n + line_ends l) h p c b)

pub claim_placed : (q : Query) (c : Claim) → Claimed q c → (k : ℕ) → 135 ≤ k → k ≤ 138
    → PlacedAll q (claim_ending every k 0 c) (starts_of every k (query_codes q))
claim_placed q c h k low high =
    subst (λ es. PlacedAll q es (starts_of every k (query_codes q)))
    (ap (endings every k 0) h.last ∙ claim_only k 0 low h.before c h.one)
    (ending_placed every q h.lines k (omega arith) high)
