-- From the reading of a query to the search: a refusal of the reader is that of the call, and the decision of an accepted query is searched.
-- Assumes nothing.
use Prim.Native.Nat.{ℕ}
use mathlib.Core.Path.{◌≡◌, refl, subst, subst⁻¹}
use mathlib.Core.List.{List}
use Rattle.claims.specs.Query.{Query}
use Rattle.claims.specs.Reading.{read}
use Rattle.claims.specs.Refusals.{Result, ok, refused, afterwards}
use Rattle.claims.specs.Calls.{Asked, Lent, searched, search_asked, search_call}
use Rattle.claims.proofs.SearchOrder.{search_reads_first}
use Rattle.refusals.specs.declared.Refusal.{Refusal}
use Rattle.query.specs.declared.Facts.{Facts}
use Rattle.std.specs.Prelude.{Ok, Err}
use Rattle.query.specs.Answer.{Answer, Says, left_after, right_after}
use Rattle.search_outcomes.specs.Outcomes.{Outcome, Gives, given_by, SearchGives}
use Rattle.search_outcomes.specs.ByWords.{SearchedByWords}
use Rattle.search_outcomes.proofs.ByWords.{search_by_words}
use Rattle.query.specs.Decided.{Decided}
use Rattle.query.proofs.Asked.{asked_with}

-- a refusal of the reader
pub refused_gives : (bs : List ℕ) (x : Answer) → Says (read bs) x → (y : Refusal) → x ≡ Err y → (allowance : ℕ) (m : Lent)
    → SearchGives bs allowance m (Err y) m
refused_gives bs x said y e allowance m = go (read bs) refl (subst (Says (read bs)) e said)
  where
    go : (r : Result Query) → read bs ≡ r → Says r (Err y) → SearchGives bs allowance m (Err y) m
    go (ok q) f s = absurd s
    go (refused r) f s =
        subst⁻¹ (λ d. Gives (given_by bs allowance) d (Err y) m) (search_reads_first bs allowance m r f)
        (record { says = s; leaves = refl; sized = tt })

module _ (bs : List ℕ) (x : Answer) (said : Says (read bs) x) (f : Facts) (e : x ≡ Ok f) (left right : List ℕ)
    (is-left : left ≡ left_after (read bs)) (is_right : right ≡ right_after (read bs)) where
  -- an accepted query is searched
  pub accepted_gives : (allowance : ℕ) (m m' : Lent) (o : Outcome)
      → ((a : Asked) → Decided f left right a.decided → Gives (searched a.decided allowance) (search_asked a allowance m) o m')
      → SearchGives bs allowance m o m'
  unfolding search_call given_by
  accepted_gives allowance m m' o h =
      subst⁻¹
      (λ z. Gives (afterwards z (λ a. searched a.decided allowance))
      (elim z [ refused r ↦ record { result = refused r; lent = m } | ok a ↦ search_asked a allowance m ]) o m')
      (asked_with bs x said f e left right is-left is_right).accepted (h (asked_with bs x said f e left right is-left is_right).asks (asked_with bs x said f e left right is-left is_right).decided)

-- what the call gives, and the outcome is so the one that the words fix
pub with_words : (bs : List ℕ) (allowance : ℕ) (m m' : Lent) (o : Outcome) → SearchGives bs allowance m o m'
    → SearchGives bs allowance m o m' × SearchedByWords bs allowance m m' o
with_words bs allowance m m' o g = (g, search_by_words bs allowance m m' o g)
