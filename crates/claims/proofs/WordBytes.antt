-- A word whose numbers are in range is read back from its list of numbers, and numbers that are read as a word are that word's and in
-- range. By the word.
-- Assumes nothing.
use Prim.Native.Nat.{ℕ, ◌+◌, ◌*◌, ◌≤◌, ◌<◌}
use native.Mathlib.Omega.{arith}
use mathlib.Core.Path.{◌≡◌, refl, ◌∙◌, ap, subst}
use mathlib.Core.Bool.{true, ◌&&◌}
use mathlib.Core.List.{List, [], ◌∷◌}
use mathlib.Core.Option.{Option, some, none}
use lib.Dec.{ltb}
use lib.ListN.{length}
use borrow.Author.Tests.{lt-ltb, ltb-true}
use Rattle.kat.specs.Lists.{member}
use Rattle.kat.specs.Word.{Word, end, at, size, numbers}
use Rattle.kat.proofs.Bools.{and_left, and_right}
use Rattle.notation.specs.Sides.{Decision}
use Rattle.verdicts.specs.Standings.{System}
use Rattle.claims.specs.Fields.{provided}
use Rattle.claims.specs.SheetReading.{word_of}
use Rattle.claims.specs.SheetWriting.{InRange}
use Rattle.notation.specs.Words.{Guarded}
use Rattle.claims.proofs.Provided.{provided_some}

pub numbers_length : (w : Word) → length (numbers w) ≡ 2 * size w + 1
numbers_length (end a) = refl
numbers_length (at a r w) = omega (arith, numbers_length w)

pub word_read_back : (D : Decision) (w : Word) → InRange D w → word_of D (numbers w) ≡ some w
unfolding word_of
word_read_back D (end a) h = rw (lt-ltb a D.atoms h)
word_read_back D (at a r w) (h, k, i) =
    rw (word_of, word_read_back D w i, lt-ltb a D.atoms h, lt-ltb r D.relations k)

-- a guarded word is in range where live atoms are
pub guarded_in_range : (S : System) (D : Decision) → ((a : ℕ) → member a S.live ≡ true → a < D.atoms) → S.relations ≤ D.relations
    → (w : Word) → Guarded S.live S.relations w → InRange D w
guarded_in_range S D live rel (end a) h = live a h
guarded_in_range S D live rel (at a r w) (h, k, i) = (live a h, omega arith, guarded_in_range S D live rel w i)

-- what is read as a word is the word's numbers
pub read_numbers : (D : Decision) (ns : List ℕ) (w : Word) → word_of D ns ≡ some w → ns ≡ numbers w
unfolding word_of
read_numbers D [] w e = absurd (let z : ◌≡◌ {A = ℕ} 0 1 = cc in omega arith)
read_numbers D (a ∷ []) w e = ap numbers (provided_some (ltb a D.atoms) (end a) w e).1
read_numbers D (a ∷ r ∷ ns) w e = go (word_of D ns) refl e (read_numbers D ns)
  where
    go : (o : Option Word) → word_of D ns ≡ o
        → elim o [ none ↦ none | some v ↦ provided (ltb a D.atoms && ltb r D.relations) (at a r v) ] ≡ some w
        → ((v : Word) → word_of D ns ≡ some v → ns ≡ numbers v) → a ∷ r ∷ ns ≡ numbers w
    go none o h ih = absurd (let z : ◌≡◌ {A = ℕ} 0 1 = cc in omega arith)
    go (some v) o h ih =
        ap (λ t. a ∷ r ∷ t) (ih v o)
        ∙ ap numbers (provided_some (ltb a D.atoms && ltb r D.relations) (at a r v) w h).1

-- numbers that are read as a word are in range
pub word_in_range : (D : Decision) (ns : List ℕ) (w : Word) → word_of D ns ≡ some w → InRange D w
unfolding word_of
word_in_range D [] w e = absurd (let z : ◌≡◌ {A = ℕ} 0 1 = cc in omega arith)
word_in_range D (a ∷ []) w e =
    let (h, k) = provided_some (ltb a D.atoms) (end a) w e in
    subst (InRange D) k (ltb-true a D.atoms h)
word_in_range D (a ∷ r ∷ ns) w e = go (word_of D ns) refl e (word_in_range D ns)
  where
    go : (o : Option Word) → word_of D ns ≡ o
        → elim o [ none ↦ none | some v ↦ provided (ltb a D.atoms && ltb r D.relations) (at a r v) ] ≡ some w
        → ((v : Word) → word_of D ns ≡ some v → InRange D v) → InRange D w
    go none o h ih = absurd (let z : ◌≡◌ {A = ℕ} 0 1 = cc in omega arith)
    go (some v) o h ih =
        let (b, k) = provided_some (ltb a D.atoms && ltb r D.relations) (at a r v) w h in
        subst (InRange D) k (
          ltb-true a D.atoms (and_left (ltb a D.atoms) (ltb r D.relations) b),
          ltb-true r D.relations (and_right (ltb a D.atoms) (ltb r D.relations) b),
          ih v o,
        )
