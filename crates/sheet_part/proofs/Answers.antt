-- The answer to a part: what was read is what document 01 reads there, and it passes where document 01 says so. The idea: the standings listed
-- prove on cells exactly where the standings that they show do (`proves_passes`), and a word refutes on cells exactly where it does
-- (`refutes_passes`).
-- Assumes nothing.
use Prim.Native.Nat.{ℕ, zero, suc, ◌+◌, ◌*◌, ◌-◌, ◌≤◌}
use native.Mathlib.Omega.{arith}
use mathlib.Core.Path.{◌≡◌, sym, ◌∙◌, ap, subst}
use mathlib.Core.Bool.{Bool}
use mathlib.Core.List.{List}
use lib.ListN.{length, take, drop}
use Rattle.std.specs.Prelude.{Result as Answer, Ok, Err}
use Rattle.claims.specs.Sides.{Decision}
use Rattle.claims.specs.Refusals.{Result, ok, refused}
use Rattle.claims.specs.SheetReading.{Said, says_proved, says_refuted, Part}
use Rattle.claims.specs.Passing.{passes, refuting}
use Rattle.query.specs.declared.Facts.{Facts}
use Rattle.query.specs.Decided.{Decided}
use Rattle.sheet_standings.specs.Layout.{field_length}
use Rattle.sheet_standings.specs.CellSystem.{cell_system}
use Rattle.sheet_word.specs.ByteWords.{word_read}
use Rattle.sheet_word.proofs.Refuted.{refutes_passes}
use Rattle.sheet_fields.specs.declared.PartRead.{PartRead}
use Rattle.sheet_fields.specs.declared.PartRead.TheVariants.{Proved as ProvedAt, Refuted as RefutedAt}
use Rattle.sheet_fields.specs.Reads.{ListedAt, Empty, Inside, Says, Reads}
use Rattle.sheet_listed.specs.Listed.{Ready, part_cells}
use Rattle.sheet_proves.specs.Proves.{proves_cells}
use Rattle.sheet_proves.proofs.Passes.{proves_passes}
use Rattle.sheet_part.specs.declared.Tested.TheVariants.{Proved, Refuted}
use Rattle.sheet_part.specs.Tests.{Tests, TestsPart}

-- what stands where, by the answer
module _ (ring : Bool) (bs : List ℕ) (at : ℕ) (heads chain : List ℕ) (p : Answer PartRead ℕ) (h : Inside ring bs at heads chain p) where
  inside_of : {q : Answer PartRead ℕ} → p ≡ q → Inside ring bs at heads chain q
  inside_of e = subst (Inside ring bs at heads chain) e h

  module _ (base n next : ℕ) (e : p ≡ Ok (ProvedAt base n next)) where
    -- the standings that were read are those that the check is given
    pub listed_ready : Ready ring bs base n heads chain
    listed_ready =
        let l : ListedAt ring bs heads chain base n next = inside_of e in
        (l.index, l.few, omega (arith, l.places, l.inside))

    pub listed_few : n ≤ 4096
    listed_few = let l : ListedAt ring bs heads chain base n next = inside_of e in l.few

  pub word_inside : (from to : ℕ) → p ≡ Ok (RefutedAt from to) → (from ≤ to) × (to ≤ length bs)
  word_inside from to e = let l : (from ≤ to) × (to ≤ length bs) × Empty heads chain = inside_of e in (l.0, l.1)

  pub wrong_few : (i : ℕ) → p ≡ Err i → i ≤ 4097
  wrong_few zero e = omega arith
  wrong_few (suc i) e =
      let l : ListedAt ring bs heads chain (at + 4) i (at + 4 + field_length ring * i) = inside_of e in
      omega (arith, l.few)

module _ {f : Facts} {left right : List ℕ} {D : Decision} (d : Decided f left right D) (bs : List ℕ) (at : ℕ) (heads chain : List ℕ) (k : ℕ) where
  -- a part that says proved
  pub proved_tests : (p : Answer PartRead ℕ) → Inside f.ring bs at heads chain p → (r : Result (Part D)) → Reads f.ring D bs k r p
      → (base n next : ℕ) → p ≡ Ok (ProvedAt base n next) → (b : Bool) → b ≡ proves_cells f left right (part_cells f.ring bs base n)
      → Tests D bs k r (Ok (Proved b (n + 1) next))
  unfolding part_cells
  proved_tests p h r s base n next e b g =
      go r (subst (Reads f.ring D bs k r) e s)
    where
      l : ListedAt f.ring bs heads chain base n next
      l = subst (Inside f.ring bs at heads chain) e h

      said : (t : Said D) (after : ℕ) (rest : List ℕ) → Says f.ring D bs k t after rest (Ok (ProvedAt base n next))
          → TestsPart D bs k t after rest (Ok (Proved b (n + 1) next))
      said (says_proved ss) after rest q = (
        g ∙ proves_passes d _ q.good ∙ ap (λ xs. passes D (says_proved xs)) (sym q.shown),
        omega (arith, q.fields),
        l.inside,
        q.behind,
      )
      said (says_refuted _) after rest q = elim q [ ]

      go : (r : Result (Part D)) → Reads f.ring D bs k r (Ok (ProvedAt base n next)) → Tests D bs k r (Ok (Proved b (n + 1) next))
      go (ok x) q = said x.said x.next x.rest q
      go (refused _) q = elim q [ ]

  -- a part that says refuted
  pub refuted_tests : (p : Answer PartRead ℕ) → Inside f.ring bs at heads chain p → (r : Result (Part D)) → Reads f.ring D bs k r p
      → (from to : ℕ) → p ≡ Ok (RefutedAt from to) → (b : Bool)
      → b ≡ refuting (cell_system f.ring f.right f.live f.relations left right) (word_read (take (to - from) (drop from bs)))
      → Tests D bs k r (Ok (Refuted b 2 to))
  refuted_tests p h r s from to e b g = go r (subst (Reads f.ring D bs k r) e s)
    where
      l : (from ≤ to) × (to ≤ length bs) × Empty heads chain
      l = subst (Inside f.ring bs at heads chain) e h

      said : (t : Said D) (after : ℕ) (rest : List ℕ) → Says f.ring D bs k t after rest (Ok (RefutedAt from to))
          → TestsPart D bs k t after rest (Ok (Refuted b 2 to))
      said (says_refuted w) after rest q = (
        g ∙ refutes_passes d (take (to - from) (drop from bs)) w q.word,
        q.fields,
        l.1,
        q.behind,
      )
      said (says_proved _) after rest q = elim q [ ]

      go : (r : Result (Part D)) → Reads f.ring D bs k r (Ok (RefutedAt from to)) → Tests D bs k r (Ok (Refuted b 2 to))
      go (ok x) q = said x.said x.next x.rest q
      go (refused _) q = elim q [ ]

  -- a part with a wrong field
  pub wrong_tests : (p : Answer PartRead ℕ) (r : Result (Part D)) → Reads f.ring D bs k r p → (i : ℕ) → p ≡ Err i → Tests D bs k r (Err i)
  wrong_tests p r s i e = go r (subst (Reads f.ring D bs k r) e s)
    where
      said : (t : Said D) (after : ℕ) (rest : List ℕ) → Says f.ring D bs k t after rest (Err i) → TestsPart D bs k t after rest (Err i)
      said (says_proved ss) after rest q = absurd q
      said (says_refuted w) after rest q = absurd q

      go : (r : Result (Part D)) → Reads f.ring D bs k r (Err i) → Tests D bs k r (Err i)
      go (ok x) q = said x.said x.next x.rest q
      go (refused x) q = q
