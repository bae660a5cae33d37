-- What the sheet check knows of a decision whose facts and tables it is given: its letters are within the tables, its live atoms rise, and
-- what holds of the decision's own facts and tables holds of these. (Document 01, "Standings", Limits.)
-- Assumes nothing.
use Prim.Native.Nat.{ℕ, suc, ◌≤◌}
use native.Mathlib.Omega.{arith}
use mathlib.Core.Path.{ap, subst⁻¹}
use mathlib.Core.List.{List, [], ◌∷◌}
use Rattle.kat.specs.Lists.{In, here, there}
use Rattle.claims.specs.Sides.{Decision}
use Rattle.claims.specs.Orders.{Rising}
use Rattle.claims.proofs.SetBytes.{RisingWithin}
use Rattle.query.specs.declared.Facts.{Facts}
use Rattle.query.specs.Answer.{facts_of}
use Rattle.query.specs.Decided.{Decided}
use Rattle.side_tables.specs.SideTable.{side_table}
use Rattle.standings.proofs.LettersOf.{LettersOf}

within_above : (lo hi : ℕ) (l : List ℕ) → RisingWithin lo hi l → (b : ℕ) → In b l → lo ≤ b
within_above lo hi (k ∷ ks) (a, h, r) b (here e) = omega arith
within_above lo hi (k ∷ ks) (a, h, r) b (there i) = let c = within_above (suc k) hi ks r b i in omega arith
within_above lo hi [] _ b x3 = elim x3 [ ]

within_wider : (lo hi hi' : ℕ) (l : List ℕ) → hi ≤ hi' → RisingWithin lo hi l → RisingWithin lo hi' l
within_wider lo hi hi' [] w r = tt
within_wider lo hi hi' (k ∷ ks) w (a, h, r) = (a, omega arith, within_wider (suc k) hi hi' ks w r)

within_rising : (lo hi : ℕ) (l : List ℕ) → RisingWithin lo hi l → Rising l
within_rising lo hi [] r = tt
within_rising lo hi (k ∷ ks) (a, h, r) = ((λ b i. within_above (suc k) hi ks r b i), within_rising (suc k) hi ks r)

module _ {f : Facts} {left right : List ℕ} {D : Decision} (d : Decided f left right D) where
  -- the live atoms are below 64 and rise
  pub live_within : RisingWithin 0 64 D.live
  live_within = within_wider 0 D.atoms 64 D.live d.few_atoms d.live_rising

  pub live_rises : Rising D.live
  live_rises = within_rising 0 64 D.live live_within

  -- the letters
  pub decided_letters : LettersOf f.live f.relations D
  unfolding facts_of
  decided_letters =
      record {
        live_set_lem = ap (λ g. g.live) d.facts;
        live_rising = live_within;
        relation_count_lem = ap (λ g. g.relations) d.facts;
        few_relations_lem = d.few_relations_lem;
      }

  -- a statement on the facts and tables of the decision
  pub by_decided : (P : Facts → List ℕ → List ℕ → Type 0)
      → P (facts_of f.codes D) (side_table D.left) (side_table D.right) → P f left right
  by_decided P h =
      subst⁻¹ (λ g. P g left right) d.facts
      (subst⁻¹ (λ l. P (facts_of f.codes D) l right) d.left_table_lem
      (subst⁻¹ (P (facts_of f.codes D) (side_table D.left)) d.right_table_lem h))
