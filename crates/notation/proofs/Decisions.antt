-- What a query gives to be decided: a query that ends with its one claim gives that claim, at its last line; 8 is at the first that is
-- over the limits. The idea: lines without a claim give nothing, and the lines are numbered on from part to part.
-- Assumes nothing.
use Prim.Native.Nat.{ℕ, suc, ◌+◌}
use native.Mathlib.Omega.{arith}
use mathlib.Core.Path.{◌≡◌, refl, sym, ◌∙◌, ap}
use mathlib.Core.Logic.{◌↔◌}
use mathlib.Core.Bool.{Bool, true, false}
use mathlib.Core.List.{List, [], ◌∷◌, ◌++◌, map, append_assoc}
use mathlib.Core.Option.{some}
use lib.ListN.{length, length-append}
use Rattle.kat.specs.Lists.{every}
use Rattle.kat.proofs.Bools.{and_left, and_right, and_both}
use Rattle.notation.specs.Tree.{Claim, Line, claim_line}
use Rattle.notation.specs.Query.{Query, each, claims_of}
use Rattle.notation.specs.Counting.{within_limits}
use Rattle.notation.specs.Decisions.{ToDecide, claim_at, decisions_from, decisions, first_over}
use Rattle.notation.specs.Refusals.{over_limit, ok, refuse}
use Rattle.notation.specs.Reading.{limited}
use Rattle.notation.specs.RefusalOrder.{EndsWith, fits_limits, FirstOver}
use Rattle.notation.proofs.ClaimLast.{the_claim}

-- lines without a claim give nothing to be decided
none_given : (q : Query) (n : ℕ) (ls : List Line) → each claims_of ls ≡ [] → decisions_from q n ls ≡ []
unfolding decisions_from
none_given q n [] e = refl
none_given q n (l ∷ ls) e = go (claims_of l) (none_given q (suc n) ls) e
  where
    go : (cs : List Claim) → (each claims_of ls ≡ [] → decisions_from q (suc n) ls ≡ []) → cs ++ each claims_of ls ≡ []
        → map (claim_at q n) cs ++ decisions_from q (suc n) ls ≡ []
    go [] k f = k f
    go (c ∷ cs) k f = absurd (let z : ◌≡◌ {A = ℕ} 0 1 = cc in omega arith)

-- two parts of the lines, the second numbered on
given_append : (q : Query) (n : ℕ) (a b : List Line) → decisions_from q n (a ++ b) ≡ decisions_from q n a ++ decisions_from q (n + length a) b
unfolding decisions_from
given_append q n [] b = ap (λ m. decisions_from q m b) (omega arith)
given_append q n (l ∷ a) b =
    ap (λ ds. map (claim_at q n) (claims_of l) ++ ds)
    (given_append q (suc n) a b ∙ ap (λ m. decisions_from q (suc n) a ++ decisions_from q m b) (omega arith))
    ∙ sym (append_assoc (map (claim_at q n) (claims_of l)) (decisions_from q (suc n) a) (decisions_from q (n + length (l ∷ a)) b))

-- a query that ends with its one claim gives this one to be decided, at its last line
pub claim_decided : (q : Query) (c : Claim) → EndsWith q c → decisions q ≡ claim_at q (length q) c ∷ []
unfolding decisions decisions_from claims_of
claim_decided q c (before, e, f) =
    ap (decisions_from q 1) e ∙ given_append q 1 before (claim_line c ∷ [])
    ∙ ap (λ ds. ds ++ (claim_at q (1 + length before) c ∷ [])) (none_given q 1 before f)
    ∙ ap (λ n. claim_at q n c ∷ []) (omega (arith, ap length e, length-append before (claim_line c ∷ [])))

-- so 8 goes by the claim's sides, and is at its line
pub limited_by_the_claim : (q : Query) (c : Claim) → EndsWith q c → (b : Bool) → within_limits q c ≡ b
    → limited q ≡ elim b [ true ↦ ok q | false ↦ refuse over_limit (length q) ]
unfolding limited first_over
limited_by_the_claim q c w true f = rw (the_claim q c w, limited, claim_decided q c w, first_over, f)
limited_by_the_claim q c w false f = rw (the_claim q c w, limited, claim_decided q c w, first_over, f)

-- 8 is at the first that is over the limits, all before it being within them, and only there
over_split : (ds : List ToDecide) (n : ℕ) → first_over ds ≡ some n → (d : ToDecide) × FirstOver ds d × (n ≡ d.line)
unfolding first_over
over_split [] n e = absurd (let z : ◌≡◌ {A = ℕ} 0 1 = cc in omega arith)
over_split (d ∷ ds) n e = go (fits_limits d) refl (over_split ds n) e
  where
    go : (b : Bool) → fits_limits d ≡ b → (first_over ds ≡ some n → (x : ToDecide) × FirstOver ds x × (n ≡ x.line))
        → elim b [ true ↦ first_over ds | false ↦ some d.line ] ≡ some n → (x : ToDecide) × FirstOver (d ∷ ds) x × (n ≡ x.line)
    go true w k f =
        let (x, (before, rest, g, h, i), z) = k f in
        (x, (d ∷ before, rest, ap (λ l. d ∷ l) g, and_both w h, i), z)
    go false w k f = (d, ([], ds, refl, refl, w), cc)

over_at : (before : List ToDecide) (d : ToDecide) (rest : List ToDecide) → every fits_limits before ≡ true → fits_limits d ≡ false
    → first_over (before ++ (d ∷ rest)) ≡ some d.line
unfolding first_over
over_at [] d rest e f = rw (f, first_over)
over_at (x ∷ before) d rest e f =
    rw (and_left (fits_limits x) (every fits_limits before) e, first_over)
    (over_at before d rest (and_right (fits_limits x) (every fits_limits before) e) f)

pub first_over_lem : (ds : List ToDecide) (n : ℕ) → (first_over ds ≡ some n) ↔ ((d : ToDecide) × FirstOver ds d × (n ≡ d.line))
first_over_lem ds n = (
  over_split ds n,
  (λ (d, (before, rest, g, h, i), z). ap first_over g ∙ over_at before d rest h i ∙ ap some (sym z)),
)
