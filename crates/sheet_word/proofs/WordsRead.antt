-- Bytes are read as a word exactly where they fit, and then they are the word that they are read as. By two bytes at a time.
-- Assumes nothing.
use Prim.Native.Nat.{ℕ, suc, ◌+◌, ◌-◌, ◌≤◌, ◌<◌}
use native.Mathlib.Omega.{arith}
use mathlib.Core.Path.{◌≡◌, refl, sym, ◌∙◌, ap}
use mathlib.Core.Bool.{Bool, true, false, ◌&&◌}
use mathlib.Core.List.{List, [], ◌∷◌}
use mathlib.Core.Option.{some, none}
use lib.Dec.{ltb}
use lib.ListN.{length, get_or, drop, drop_of_length-le}
use lib.Seq.{drop-cons}
use borrow.Author.Tests.{lt-ltb, le-ltb}
use Rattle.kat.specs.Word.{Word, at}
use Rattle.claims.specs.Sides.{Decision}
use Rattle.claims.specs.Fields.{provided}
use Rattle.claims.specs.SheetReading.{word_of}
use Rattle.sheet_word.specs.ByteWords.{word_fits, word_read}

-- what is read, if the bytes fit
pub word_of_lem : (D : Decision) (ns : List ℕ) → word_of D ns ≡ provided (word_fits D.atoms D.relations ns) (word_read ns)
unfolding word_of word_fits word_read
word_of_lem D [] = refl
word_of_lem D (a ∷ []) = refl
word_of_lem D (a ∷ r ∷ ns) =
    ap (λ o. elim o [ none ↦ none | some w ↦ provided (ltb a D.atoms && ltb r D.relations) (at a r w) ]) (word_of_lem D ns)
    ∙ go (ltb a D.atoms) (ltb r D.relations) (word_fits D.atoms D.relations ns) (word_read ns)
  where
    go : (x y b : Bool) (w : Word)
        → elim (provided b w) [ none ↦ none | some v ↦ provided (x && y) (at a r v) ] ≡ provided (x && (y && b)) (at a r w)
    go x y true w = both x y
      where
        both : (x y : Bool) → provided (x && y) (at a r w) ≡ provided (x && (y && true)) (at a r w)
        both true true = refl
        both true false = refl
        both false y = refl
    go true true false w = refl
    go true false false w = refl
    go false y false w = refl

-- what is left of the bytes: two or more, one, or none
pub two_left : (bs : List ℕ) (i : ℕ) → 1 < length bs - i → drop i bs ≡ get_or bs i 0 ∷ get_or bs (i + 1) 0 ∷ drop (i + 2) bs
two_left bs i h =
    let e : suc i ≡ i + 1 = omega arith in
    let d : suc (i + 1) ≡ i + 2 = omega arith in
    drop-cons bs i 0 (omega arith)
    ∙ ap (λ j. get_or bs i 0 ∷ drop j bs) e
    ∙ ap (λ ns. get_or bs i 0 ∷ ns) (drop-cons bs (i + 1) 0 (omega arith))
    ∙ ap (λ j. get_or bs i 0 ∷ get_or bs (i + 1) 0 ∷ drop j bs) d

pub one_left : (bs : List ℕ) (i : ℕ) → i < length bs → length bs - i ≤ 1 → drop i bs ≡ get_or bs i 0 ∷ []
one_left bs i h k = drop-cons bs i 0 h ∙ ap (λ ns. get_or bs i 0 ∷ ns) (drop_of_length-le bs {i = suc i} (omega arith))

module _ (atoms relations : ℕ) (bs : List ℕ) (i : ℕ) where
  pub fits_more : (1 < length bs - i) → get_or bs i 0 < atoms → get_or bs (i + 1) 0 < relations
      → word_fits atoms relations (drop (i + 2) bs) ≡ word_fits atoms relations (drop i bs)
  unfolding word_fits
  fits_more h a r =
      sym (ap (word_fits atoms relations) (two_left bs i h)
      ∙ rw (lt-ltb (get_or bs i 0) atoms a, lt-ltb (get_or bs (i + 1) 0) relations r))

  pub wrong_atom : (1 < length bs - i) → atoms ≤ get_or bs i 0 → word_fits atoms relations (drop i bs) ≡ false
  unfolding word_fits
  wrong_atom h a = ap (word_fits atoms relations) (two_left bs i h) ∙ rw (le-ltb (get_or bs i 0) atoms a)

  pub wrong_relation : (1 < length bs - i) → get_or bs i 0 < atoms → relations ≤ get_or bs (i + 1) 0 → word_fits atoms relations (drop i bs) ≡ false
  unfolding word_fits
  wrong_relation h a r =
      ap (word_fits atoms relations) (two_left bs i h)
      ∙ rw (lt-ltb (get_or bs i 0) atoms a, le-ltb (get_or bs (i + 1) 0) relations r)

  pub last_atom : i < length bs → length bs - i ≤ 1 → word_fits atoms relations (drop i bs) ≡ ltb (get_or bs i 0) atoms
  unfolding word_fits
  last_atom h k = ap (word_fits atoms relations) (one_left bs i h k)

  pub no_atom : length bs ≤ i → word_fits atoms relations (drop i bs) ≡ false
  unfolding word_fits
  no_atom h = ap (word_fits atoms relations) (drop_of_length-le bs h)
