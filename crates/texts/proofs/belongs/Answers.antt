-- `texts::belongs` meets its contract. In each arm the kind is known.
-- Assumes nothing.
use Prim.Native.Nat.{ℕ}
use mathlib.Core.Path.{◌≡◌, sym, ◌∙◌, ap}
use Rattle.texts.specs.declared.PartKind.{PartKind}
use Rattle.texts.specs.declared.PartKind.TheVariants.{Line, Spaces, Word}
use Rattle.texts.specs.inner.Parts.{of_part}
use Rattle.texts.proofs.belongs.Goals as goal

-- the test of a kind that is known
known : (kind k : PartKind) (b : ℕ) → kind ≡ k → of_part k b ≡ of_part kind b
known kind k b e = ap (λ (x : PartKind). of_part x b) (sym e)

pub returns-in-Line : goal.returns-in-Line
returns-in-Line c = known _ Line _ c.in-Line.is

pub returns-in-Spaces : goal.returns-in-Spaces
returns-in-Spaces c = known _ Spaces _ c.in-Spaces.is

pub returns-in-Word : goal.returns-in-Word
returns-in-Word c = c.in_word.ensures ∙ known _ Word _ c.in-Word.is
