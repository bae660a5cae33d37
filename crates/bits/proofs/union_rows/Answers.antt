-- `bits::union_rows` meets its contract. With the members so far taken up, the union of any others is that of all of them.
-- Assumes nothing.
use Rattle.std.proofs.Common.{◌≡◌, refl, sym, ap, subst, ◌∙◌, ℕ, List, [], ◌∷◌, ◌++◌, append_assoc, append-nil, rules}
use Rattle.std.specs.Int.Bits.{bit_or}
use lib.Bits.{or_zero_l, or_zero_r}
use Rattle.bits.proofs.Bit.{or_assoc}
use Rattle.std.proofs.lemmas.Fn.{fold_over}
use Rattle.std.proofs.lemmas.Iterator.Consumers.{YieldsList-from_first}
use Rattle.std.specs.Iterator.{YieldsFirst}
use Rattle.bits.specs.Sets.{members, row, union_over, union_rows}
use Rattle.bits.specs.Walk.{members_left}
use Rattle.bits.proofs.union_rows.Goals as goal

-- the union of the rows of ys is `all`, whatever follows
abbrev Taken : List ℕ → List ℕ → ℕ → Type 0
Taken rows ys all = (zs : List ℕ) → bit_or all (union_over rows zs) ≡ union_over rows (ys ++ zs)

module _ (rows : List ℕ) where
  taken_none : Taken rows [] 0
  taken_none zs = or_zero_l (union_over rows zs)

  taken_more : (ys : List ℕ) (all k : ℕ) → Taken rows ys all → Taken rows (ys ++ (k ∷ [])) (bit_or all (row rows k))
  unfolding union_over
  taken_more ys all k h zs =
      or_assoc all (row rows k) (union_over rows zs) ∙ h (k ∷ zs) ∙ ap (union_over rows) (sym (append_assoc ys (k ∷ []) zs))

  taken_all : (ys : List ℕ) (all : ℕ) → Taken rows ys all → all ≡ union_over rows ys
  unfolding union_over
  taken_all ys all h = sym (or_zero_r all) ∙ h [] ∙ ap (union_over rows) (append-nil ys)

pub returns : goal.returns
unfolding union_rows
returns c =
    let rows = c.args.rows.now in
    taken_all rows (members c.args.s) c.fold.result
    (fold_over (YieldsFirst members_left) (λ k. k) _ (Taken rows) _ (λ ys all k r q h f. let next : r ≡ bit_or all (row rows k) = search rules in (subst (Taken rows (ys ++ (k ∷ []))) (sym next) (taken_more rows ys all k h), search rules))
    c.of.result (members c.args.s) 0 c.fold.result (YieldsList-from_first (λ k. k) members_left (members c.args.s) c.of.ensures).runs (taken_none rows) c.fold.ensures.ran)
