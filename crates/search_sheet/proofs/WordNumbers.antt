-- The bytes of a word whose numbers are bytes are its numbers: those of the prefix, a letter after the other, and the last atom.
-- Assumes nothing.
use Prim.Native.Nat.{ℕ}
use mathlib.Core.Path.{◌≡◌, refl, ◌∙◌, ap, ap₂}
use mathlib.Core.List.{◌++◌, append_assoc}
use Rattle.kat.specs.Lists.{In, here, there}
use Rattle.kat.specs.Word.{Word, end, at, numbers}
use Rattle.kat.specs.Ring.{Prefix, nothing, then, onto}
use Rattle.claims.specs.Fields.{big_endian}
use Rattle.claims.specs.SheetWriting.{AllBytes}
use Rattle.search_contents.proofs.FieldShown.{one_byte}
use Rattle.search_sheet.specs.SheetWords.{prefix_bytes}

-- a number of what comes behind a prefix is one of the whole word
in_onto : (l : Prefix) (w : Word) {x : ℕ} → In x (numbers w) → In x (numbers (onto l w))
in_onto nothing w i = i
in_onto (then l a r) w i = in_onto l (at a r w) (there (there i))

prefix_numbers : (l : Prefix) (w : Word) → AllBytes (numbers (onto l w)) → prefix_bytes l ++ numbers w ≡ numbers (onto l w)
unfolding prefix_bytes
prefix_numbers nothing w h = refl
prefix_numbers (then l a r) w h =
    append_assoc (prefix_bytes l) (big_endian 1 a ++ big_endian 1 r) (numbers w)
    ∙ ap (λ bs. prefix_bytes l ++ (bs ++ numbers w)) (ap₂ ◌++◌ (one_byte a (h a (in_onto l (at a r w) (here refl))))
    (one_byte r (h r (in_onto l (at a r w) (there (here refl))))))
    ∙ prefix_numbers l (at a r w) h

pub word_numbers : (l : Prefix) (a : ℕ) → AllBytes (numbers (onto l (end a))) → prefix_bytes l ++ big_endian 1 a ≡ numbers (onto l (end a))
word_numbers l a h =
    ap (λ bs. prefix_bytes l ++ bs) (one_byte a (h a (in_onto l (end a) (here refl)))) ∙ prefix_numbers l (end a) h
