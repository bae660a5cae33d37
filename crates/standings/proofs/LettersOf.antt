-- A set of live atoms and a number of relations are those of a decision within the limits: then its letters are theirs, all below 64 and 16, and
-- the atoms that are refuting words of length 0 are the same. Both kinds of claim share this.
-- Assumes nothing.
use Prim.Native.Nat.{ℕ, ◌≤◌, ◌<◌}
use native.Mathlib.Omega.{arith}
use mathlib.Core.Path.{◌≡◌, sym, ◌∙◌, ap, ap₂, subst}
use mathlib.Core.Bool.{not, ◌&&◌}
use Rattle.kat.specs.Lists.{In, filter}
use Rattle.kat.specs.Tables.{null}
use Rattle.kat.proofs.Sets.{member_in, filter_same}
use Rattle.claims.specs.Sides.{Decision}
use Rattle.claims.specs.Standings.{System, Letter, refuting_atoms}
use Rattle.claims.specs.Fields.{set_number}
use Rattle.claims.proofs.SetBytes.{RisingWithin, set_read_back}
use Rattle.claims.proofs.Letters.{Fits}
use Rattle.bits.specs.Sets.{members}
use Rattle.bits.proofs.Members.{number_in}
use Rattle.side_tables.specs.SideTable.{side_table}
use Rattle.standings.specs.Steps.{null_at, alone_words}
use Rattle.standings.proofs.Tables.{null_shown}

-- the atoms and relations are those of the decision, at most 64 and 16
pub record LettersOf (live relations : ℕ) (D : Decision) : Type 0 where
  pub live_set_lem : live ≡ set_number 0 D.live
  pub live_rising : RisingWithin 0 64 D.live
  pub relation_count_lem : relations ≡ D.relations
  pub few_relations_lem : D.relations ≤ 16

module _ {live relations : ℕ} {D : Decision} (h : LettersOf live relations D) where
  pub live_members : members live ≡ D.live
  live_members = ap members h.live_set_lem ∙ set_read_back 0 64 D.live h.live_rising

  -- a live atom is below 64
  pub live_below : (a : ℕ) → In a D.live → a < 64
  live_below a i = (number_in 0 64 live a (subst (In a) (sym live_members) i)).1

  -- a letter of a kind with these atoms and relations is within the tables
  pub letter_atom : (W : System) → W.live ≡ members live → (l : Letter) → Fits W l → l.atom < 64
  letter_atom W e l f =
      (number_in 0 64 live l.atom (subst (In l.atom) e (member_in l.atom W.live f.0))).1

  pub letter_relation : (W : System) → W.relations ≡ relations → (l : Letter) → Fits W l → l.relation < 16
  letter_relation W same l f =
      let e : l.relation < W.relations = f.1 in
      let g : relations ≡ D.relations = h.relation_count_lem in
      let m : D.relations ≤ 16 = h.few_relations_lem in
      omega arith

  -- the refuting words of length 0
  pub alone_shown : refuting_atoms D ≡ alone_words (side_table D.left) (side_table D.right) live
  unfolding refuting_atoms alone_words
  alone_shown =
      filter_same (λ a. null D.left a && not (null D.right a)) (λ a. null_at (side_table D.left) a && not (null_at (side_table D.right) a))
      D.live
      (λ a i. sym (ap₂ (λ b c. b && not c) (null_shown D.left a (live_below a i)) (null_shown D.right a (live_below a i))))
      ∙ ap (filter (λ a. null_at (side_table D.left) a && not (null_at (side_table D.right) a))) (sym live_members)
