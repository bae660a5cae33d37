-- The next case of the input. Nothing can be said of what is read, but that what was left of the part before and what was read after it are
-- the line, its end, and what is left of the part then; and that the case's bytes are those that the line stands for.
-- Assumes nothing.
use Rattle.std.specs.Prelude.{ℕ, ◌≡◌, Bool, true, false, cond, List, [], ◌∷◌, ◌++◌, eqb, take, drop, Some, None, Option}
use Rattle.case_lines.specs.declared.Case.{Case}
use Rattle.case_lines.specs.declared.Found.{Found}
use Rattle.case_lines.specs.declared.Found.TheVariants as founds
use Rattle.case_lines.specs.declared.escape.Next.TheVariants.{Plain}
use Rattle.case_lines.specs.declared.escape.Place.{Place}
use Rattle.case_lines.specs.Escapes.{behind, meant}
use Rattle.case_lines.specs.Fields.{Puts}

-- the bytes of a part from a place on, of those that were read into it
abbrev pub left : List ℕ → ℕ → ℕ → List ℕ
left part at filled = drop at (take filled part)

-- no byte ends the line
unfoldable pub unended : List ℕ → Bool
unended [] = true
unended (b ∷ bs) = cond (eqb b 10) false (unended bs)

-- the bytes of a line put into the text: those of its case, from a place on
pub record Kept (text : List ℕ) (start : Place) (line : List ℕ) (to : ℕ) (text₁ : List ℕ) : Type 0 where
  pub one : unended line ≡ true
  pub bytes : Puts text start.used (meant start.next line) to text₁

-- a line that ends: `bytes` are the line, its end, and `rest`
pub record Ended (text : List ℕ) (start : Place) (bytes rest : List ℕ) (to : ℕ) (text₁ : List ℕ) : Type 0 where
  pub line : List ℕ
  pub parts : bytes ≡ line ++ (10 ∷ rest)
  pub kept : Kept text start line to text₁

-- a line of which there may be more: `bytes` are some of it, and `rest`
pub record Begun (text : List ℕ) (start : Place) (bytes rest : List ℕ) (now : Place) (text₁ : List ℕ) : Type 0 where
  pub line : List ℕ
  pub parts : bytes ≡ line ++ rest
  pub kept : Kept text start line now.used text₁
  pub next : now.next ≡ behind start.next line

-- what stands in a part from a place on
abbrev pub Scanned : List ℕ → ℕ → ℕ → List ℕ → Place → Found → List ℕ → Type 0
Scanned part from filled text start (founds.Line n at) text₁ = Ended text start (left part from filled) (left part at filled) n text₁
Scanned part from filled text start (founds.More p) text₁ = Begun text start (left part from filled) [] p text₁

-- the place at the start of a line
abbrev pub line_start : Place
line_start = record { used = 0; next = Plain }

-- the next case, with `bytes` left of the part before
abbrev pub Told : List ℕ → List ℕ → Option Case → List ℕ → List ℕ → Type 0
Told bytes text (Some c) part₁ text₁ =
    (read : List ℕ) × Ended text line_start (bytes ++ read) (left part₁ c.behind.at c.behind.filled) c.bytes text₁
Told bytes text None part₁ text₁ =
    (read : List ℕ) × (rest : List ℕ) × (p : Place) × Begun text line_start (bytes ++ read) rest p text₁
