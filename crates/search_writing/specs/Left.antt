-- What is left to be done of a sheet. (Document 01, "Sheet and graph bytes" and "Refusals with an example each", 11.) A proved claim has fields left
-- from standing i on: put behind what is written, they make the whole sheet at the start of the buffer as it was. A refuted one has letters left:
-- before what is gathered they make the word, and the buffer is as it was. At the end the sheet is written, or the buffer is as it was.
-- Assumes nothing.
use Rattle.std.specs.Prelude.{ℕ, ◌+◌, ◌*◌, ◌-◌, ◌/◌, ◌≤◌, ◌<◌, ◌≡◌, Bool, true, false, cond, List, ◌++◌, length, drop}
use Rattle.kat.specs.Lists.{upto}
use Rattle.claims.specs.Verdicts.{relations_in}
use Rattle.search_store.specs.Store.{Room}
use Rattle.search_contents.specs.Written.{written, over}
use Rattle.search_sheet.specs.SheetWords.{word_sheet, Falling, prefix_in, prefix_bytes, word_bytes, fields_from, proved_sheet, refuted_sheet}
use Rattle.search_writing.specs.declared.Writing.{Writing}

-- standing i is looked at next, with what is done up to a place, or from it on
abbrev pub looks_at : ℕ → ℕ → Writing
looks_at i to = record { going = true; short = false; at = i; to = to; count = 0 }

-- no standing is left to be looked at, and the buffer was too short or not, or the sheet has so many bytes
abbrev pub at_end : Bool → ℕ → ℕ → Writing
at_end short n to = record { going = false; short = short; at = 0; to = to; count = n }

-- a buffer b₀ afterwards: it was too short for the sheet and is as it was, or has the sheet at its start, of so many bytes ("Refusals with an
-- example each", 11)
abbrev pub Ended : List ℕ → List ℕ → Bool → ℕ → List ℕ → Type 0
Ended sheet b₀ true to b = (length b₀ < length sheet) × (b ≡ b₀)
Ended sheet b₀ false to b = (length sheet ≤ length b₀) × (b ≡ written sheet b₀) × (to ≡ length sheet)

-- the end of the sheet of a word with these numbers, of which each second one is a relation ("Sheet and graph bytes")
abbrev pub WordEnded : List ℕ → List ℕ → Writing → List ℕ → Type 0
WordEnded numbers b₀ x b = (x ≡ at_end x.short (length numbers / 2) x.to) × Ended (word_sheet numbers) b₀ x.short x.to b

module _ (ring : Bool) (r : List (List ℕ)) (w b₀ : List ℕ) where
  -- of n standings, those from i on are left, with their fields from place `to` on ("Sheet and graph bytes")
  pub record FieldsLeft (n i to : ℕ) (b : List ℕ) : Type 0 where
    pub room : Room ring r w n
    pub below : i < n
    pub fits : length (proved_sheet ring r w n) ≤ length b₀
    pub free : to + length (fields_from ring r w (upto i n)) ≤ length b
    pub ends : to + length (fields_from ring r w (upto i n)) ≡ length (proved_sheet ring r w n)
    pub left : over to (fields_from ring r w (upto i n)) b ≡ written (proved_sheet ring r w n) b₀

  -- of the word of a place and a last atom, the letters of the prefix that standing i ends are left, and what is behind them stands in the
  -- array from place `to` on ("Sheet and graph bytes")
  pub record LettersLeft (place last i to : ℕ) (word b : List ℕ) : Type 0 where
    pub room : Room ring r w place
    pub falls : Falling ring r w place
    pub below : i < place
    pub free : 2 * (i + 1) ≤ to
    pub inside : to ≤ length word
    pub left : prefix_bytes (prefix_in ring r w (i + 1)) ++ drop to word ≡ word_bytes ring r w place last
    pub same : b ≡ b₀

  -- what holds of the sheet of a proved claim with n standings, whether it goes on or not
  abbrev pub ProofStage : ℕ → Bool → Writing → List ℕ → Type 0
  ProofStage n true x b = FieldsLeft n x.at x.to b
  ProofStage n false x b = Ended (proved_sheet ring r w n) b₀ x.short x.to b

  abbrev pub ProofStands : ℕ → Writing → List ℕ → Type 0
  ProofStands n x b = ProofStage n x.going x b

  -- what holds of the sheet of the word of a place and a last atom, whether it goes on or not
  abbrev pub WordStage : ℕ → ℕ → Bool → Writing → List ℕ → List ℕ → Type 0
  WordStage place last true x word b = LettersLeft place last x.at x.to word b
  WordStage place last false x word b =
      (x.count ≡ relations_in (prefix_in ring r w place)) × Ended (refuted_sheet ring r w place last) b₀ x.short x.to b

  abbrev pub WordStands : ℕ → ℕ → Writing → List ℕ → List ℕ → Type 0
  WordStands place last x word b = WordStage place last x.going x word b

-- a bound on the standings that are still to be looked at
abbrev pub proof_turns : ℕ → Writing → ℕ
proof_turns n x = cond x.going (n - x.at) 0

abbrev pub word_turns : Writing → ℕ
word_turns x = cond x.going (x.at + 1) 0
