-- What the reading of a part of a sheet answers, for every list of bytes. (Document 01, "Sheet and graph bytes" and refusal 13.) Where what is
-- said stands in the sheet, whatever the claim; and, for a claim that is decided, that it is what document 01 reads there.
-- Assumes nothing.
use Rattle.std.specs.Prelude.{ℕ, zero, suc, ◌+◌, ◌*◌, ◌-◌, ◌≤◌, ◌≡◌, Bool, Result as Answer, Ok, Err, List, map, length, take, drop}
use Rattle.std.proofs.Math.Option.{some}
use Rattle.kat.specs.Lists.{In, upto}
use Rattle.kat.specs.Word.{Word}
use Rattle.claims.specs.Sides.{Decision}
use Rattle.claims.specs.Standings.{claim_system}
use Rattle.claims.specs.Refusals.{sheet_field, Result, ok, refused}
use Rattle.claims.specs.SheetReading.{Said, says_proved, says_refuted, Part, word_of}
use Rattle.memory.specs.Memory.{zeros}
use Rattle.sheet_standings.specs.Layout.{field_length, listed_cells}
use Rattle.sheet_standings.specs.CellSystem.{cells_show}
use Rattle.sheet_standings.specs.Good.{GoodCells}
use Rattle.sheet_index.specs.Index.{Indexed, SLOTS}
use Rattle.layout.specs.Layout.{MOST-STANDINGS, VERDICT}
use Rattle.sheet_fields.specs.declared.PartRead.{PartRead}
use Rattle.sheet_fields.specs.declared.PartRead.TheVariants.{Proved, Refuted}

-- count standings lie one behind the other from place base to place next, and the index has them ("Sheet and graph bytes")
pub record ListedAt (ring : Bool) (bs heads chain : List ℕ) (base count next : ℕ) : Type 0 where
  pub few : count ≤ MOST-STANDINGS
  pub places : base + field_length ring * count ≡ next
  pub inside : next ≤ length bs
  pub index : Indexed heads chain (listed_cells ring bs base) count

-- nothing is in the index
abbrev pub Empty : List ℕ → List ℕ → Type 0
Empty heads chain = (heads ≡ zeros SLOTS) × (chain ≡ zeros MOST-STANDINGS)

-- where the standings, or the word, of a part from place at on stand, and what is in the index: the standings; those before a wrong field,
-- which begin behind the verdict's field; nothing for a word or a wrong verdict ("Sheet and graph bytes")
abbrev pub Inside : Bool → List ℕ → ℕ → List ℕ → List ℕ → Answer PartRead ℕ → Type 0
Inside ring bs at heads chain (Ok (Proved base count next)) = ListedAt ring bs heads chain base count next
Inside ring bs at heads chain (Ok (Refuted from to)) = (from ≤ to) × (to ≤ length bs) × Empty heads chain
Inside ring bs at heads chain (Err zero) = Empty heads chain
Inside ring bs at heads chain (Err (suc i)) = ListedAt ring bs heads chain (at + VERDICT) i (at + VERDICT + field_length ring * i)

-- the cells of the standings, in their order ("Sheet and graph bytes")
abbrev pub cells_listed : Bool → List ℕ → ℕ → ℕ → List (List ℕ)
cells_listed ring bs base count = map (listed_cells ring bs base) (upto 0 count)

-- a part that says proved, its first field being field k: its standings are those that the cells show, each of them a standing that a sheet
-- may list ("Sheet and graph bytes")
pub record ProvedAt (ring : Bool) (D : Decision) (bs : List ℕ) (k : ℕ) (ss : List (claim_system D).Standing) (after : ℕ) (rest : List ℕ)
    (base count next : ℕ) : Type 0 where
  pub shown : ss ≡ map (cells_show D.ring D) (cells_listed ring bs base count)
  pub good : (c : List ℕ) → In c (cells_listed ring bs base count) → GoodCells D.ring D c
  pub fields : after ≡ k + suc count
  pub behind : rest ≡ drop next bs

-- a part that says refuted: its word is that of the bytes ("Sheet and graph bytes")
pub record RefutedAt (D : Decision) (bs : List ℕ) (k : ℕ) (w : Word) (after : ℕ) (rest : List ℕ) (from to : ℕ) : Type 0 where
  pub word : word_of D (take (to - from) (drop from bs)) ≡ some w
  pub fields : after ≡ k + 2
  pub behind : rest ≡ drop to bs

-- the answer to a part that was read ("Sheet and graph bytes")
abbrev pub Says : Bool → (D : Decision) → List ℕ → ℕ → Said D → ℕ → List ℕ → Answer PartRead ℕ → Type 0
Says ring D bs k (says_proved ss) after rest (Ok (Proved base count next)) = ProvedAt ring D bs k ss after rest base count next
Says ring D bs k (says_proved ss) after rest (Ok (Refuted from to)) = ⊥
Says ring D bs k (says_proved ss) after rest (Err i) = ⊥
Says ring D bs k (says_refuted w) after rest (Ok (Proved base count next)) = ⊥
Says ring D bs k (says_refuted w) after rest (Ok (Refuted from to)) = RefutedAt D bs k w after rest from to
Says ring D bs k (says_refuted w) after rest (Err i) = ⊥

-- the answer says what is read of the part whose first field is field k; a wrong one is field k + i for i good ones before it (refusal 13)
abbrev pub Reads : Bool → (D : Decision) → List ℕ → ℕ → Result (Part D) → Answer PartRead ℕ → Type 0
Reads ring D bs k (ok p) r = Says ring D bs k p.said p.next p.rest r
Reads ring D bs k (refused x) (Ok (Proved base count next)) = ⊥
Reads ring D bs k (refused x) (Ok (Refuted from to)) = ⊥
Reads ring D bs k (refused x) (Err i) = (x.cause ≡ sheet_field) × (x.place ≡ k + i)
