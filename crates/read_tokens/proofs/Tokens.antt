-- What a scanner finds at a position are the tokens of the line from there on, one after the other.
-- Assumes nothing.
use Prim.Native.Nat.{ℕ, suc, ◌+◌, ◌≤◌, ◌<◌}
use native.Mathlib.Omega.{arith}
use mathlib.Core.Path.{◌≡◌, refl, sym, ap, ◌∙◌}
use mathlib.Core.Bool.{Bool, true, false, cond, ◌&&◌}
use mathlib.Core.List.{List, [], ◌∷◌}
use lib.Dec.{leb, leb-suc-suc}
use lib.ListN.{length, take, drop, length-drop}
use lib.Seq.{drop-drop, length-take-le}
use borrow.Author.Tests.{eqb-true}
use Rattle.claims.specs.Bytes.{letter}
use Rattle.claims.specs.Tokens as Notation
use Rattle.claims.specs.Tokens.{longer, pieces, word_like, tokens_of, tokens}
use Rattle.read_tokens.specs.declared.Key.{Key}
use Rattle.read_tokens.specs.declared.Token.{Token}
use Rattle.read_tokens.specs.declared.Token.TheVariants.{Word, Mark, Bad, End}
use Rattle.read_tokens.specs.Scan.{is_space, word_byte, is_mark, front, key_of, word_at, token_from, token_at, Spelled}
use Rattle.read_tokens.proofs.Fronts.{front_one, front_within, front_passes, front_over}

-- a word with the key k stands next, and ends at e
pub record ScannedWord (s : List ℕ) (at : ℕ) (k : Key) (e : ℕ) : Type 0 where
  pub spelling : List ℕ
  pub spelled : Spelled spelling
  pub key : k ≡ key_of spelling
  pub read : tokens (drop at s) ≡ Notation.word spelling ∷ tokens (drop e s)
  pub after : at < e
  pub within : e ≤ length s

-- the mark b stands next, and ends at e
pub record ScannedMark (s : List ℕ) (at b e : ℕ) : Type 0 where
  pub read : tokens (drop at s) ≡ Notation.mark b ∷ tokens (drop e s)
  pub after : at < e
  pub within : e ≤ length s

-- what a scanned token says of the line s from `at` on
abbrev pub Scanned : List ℕ → ℕ → Token → Type 0
Scanned s at (Word k e) = ScannedWord s at k e
Scanned s at (Mark b e) = ScannedMark s at b e
Scanned s at Bad = (ts : List Notation.Token) × (tokens (drop at s) ≡ Notation.bad ∷ ts)
Scanned s at End = tokens (drop at s) ≡ []

-- a byte that is no letter and no digit is a piece by itself
other_first : (b : ℕ) (bs : List ℕ) → word_byte b ≡ false → pieces (b ∷ bs) ≡ Notation.other b ∷ pieces bs
unfolding pieces word_byte
other_first b bs e = rw e

-- a byte in front of a run makes it longer by one; in front of anything else it begins a run
run_begun : (b : ℕ) (bs : List ℕ)
    → longer b (pieces bs) ≡ Notation.run (b ∷ take (front word_byte bs) bs) ∷ pieces (drop (front word_byte bs) bs)
unfolding longer pieces front word_byte
run_begun b [] = refl
run_begun b (c ∷ cs) = go (word_byte c) refl (run_begun c cs)
  where
    go : (t : Bool) → word_byte c ≡ t
        → longer c (pieces cs) ≡ Notation.run (c ∷ take (front word_byte cs) cs) ∷ pieces (drop (front word_byte cs) cs)
        → longer b (cond t (longer c (pieces cs)) (Notation.other c ∷ pieces cs))
        ≡ Notation.run (b ∷ take (cond t (suc (front word_byte cs)) 0) (c ∷ cs))
        ∷ pieces (drop (cond t (suc (front word_byte cs)) 0) (c ∷ cs))
    go true e h = rw h
    go false e h = ap (λ ps. Notation.run (b ∷ []) ∷ ps) (sym (other_first c cs e))

run_first : (b : ℕ) (bs : List ℕ) → word_byte b ≡ true
    → pieces (b ∷ bs) ≡ Notation.run (b ∷ take (front word_byte bs) bs) ∷ pieces (drop (front word_byte bs) bs)
unfolding pieces word_byte
run_first b bs e = rw e (run_begun b bs)

-- spaces are passed over
space_no_word : (b : ℕ) → is_space b ≡ true → word_byte b ≡ false
unfolding is_space word_byte
space_no_word b e = rw (eqb-true b 32 e)

space_passed : (b : ℕ) (bs : List ℕ) → is_space b ≡ true → tokens (b ∷ bs) ≡ tokens bs
unfolding tokens tokens_of is_space
space_passed b bs e = rw (other_first b bs (space_no_word b e), e)

spaces_passed : (bs : List ℕ) → tokens bs ≡ tokens (drop (front is_space bs) bs)
unfolding front
spaces_passed [] = refl
spaces_passed (b ∷ bs) = go (is_space b) refl (spaces_passed bs)
  where
    go : (t : Bool) → is_space b ≡ t → tokens bs ≡ tokens (drop (front is_space bs) bs)
        → tokens (b ∷ bs) ≡ tokens (drop (cond t (suc (front is_space bs)) 0) (b ∷ bs))
    go true e h = space_passed b bs e ∙ h
    go false e h = refl

-- a byte that stands for itself
alone_read : (b : ℕ) (bs : List ℕ) → word_byte b ≡ false → is_space b ≡ false
    → tokens (b ∷ bs) ≡ cond (is_mark b) (Notation.mark b) Notation.bad ∷ tokens bs
unfolding tokens tokens_of is_space is_mark
alone_read b bs e f = rw (other_first b bs e, f)

-- a longest run is one token
module _ (b : ℕ) (bs : List ℕ) (e : word_byte b ≡ true) where
  run_of : List ℕ
  run_of = take (front word_byte (b ∷ bs)) (b ∷ bs)

  run_read : tokens (b ∷ bs)
      ≡ cond (word_like run_of) (Notation.word run_of) Notation.bad ∷ tokens (drop (front word_byte (b ∷ bs)) (b ∷ bs))
  unfolding tokens tokens_of run_of
  run_read = rw (front_one word_byte b bs e, run_first b bs e)

  run_like : word_like run_of ≡ (letter b && leb (front word_byte (b ∷ bs)) 16)
  unfolding word_like run_of
  run_like =
      rw (front_one word_byte b bs e, leb-suc-suc (front word_byte bs) 15, length-take-le (front word_byte bs) bs (front_within word_byte bs))

-- the bytes b, bs stand at i
module _ (s : List ℕ) (at i b : ℕ) (bs : List ℕ) (stand : drop i s ≡ b ∷ bs) (later : at ≤ i)
    (same : tokens (drop at s) ≡ tokens (b ∷ bs)) where
  long : i + suc (length bs) ≡ length s
  long = omega (arith, length-drop i s, ap length stand)

  behind : (n : ℕ) → tokens (drop n (b ∷ bs)) ≡ tokens (drop (i + n) s)
  behind n = ap tokens (ap (drop n) (sym stand) ∙ drop-drop n i s)

  scanned_word : word_byte b ≡ true → Scanned s at (word_at s i b (front word_byte (b ∷ bs)))
  unfolding word_at run_of
  scanned_word e = go (letter b && leb (front word_byte (b ∷ bs)) 16) refl
    where
      n : ℕ
      n = front word_byte (b ∷ bs)

      go : (t : Bool) → (letter b && leb n 16) ≡ t → Scanned s at (cond t (Word (key_of (take n (drop i s))) (i + n)) Bad)
      go true t =
          let like : word_like (run_of b bs e) ≡ true = run_like b bs e ∙ t in
          let one : n ≡ suc (front word_byte bs) = front_one word_byte b bs e in
          record {
            spelling = run_of b bs e;
            spelled = record { like = like; bytes = front_passes word_byte (b ∷ bs) };
            key = ap (λ l. key_of (take n l)) stand;
            read = same ∙ (run_read b bs e ∙ rw like (ap (λ ts. Notation.word (run_of b bs e) ∷ ts) (behind n)));
            after = omega arith;
            within = omega (arith, front_within word_byte (b ∷ bs), long);
          }
      go false t =
          let unlike : word_like (run_of b bs e) ≡ false = run_like b bs e ∙ t in
          (tokens (drop n (b ∷ bs)), same ∙ (run_read b bs e ∙ rw unlike))

  scanned_alone : word_byte b ≡ false → is_space b ≡ false → Scanned s at (cond (is_mark b) (Mark b (i + 1)) Bad)
  scanned_alone e f = go (is_mark b) refl
    where
      go : (t : Bool) → is_mark b ≡ t → Scanned s at (cond t (Mark b (i + 1)) Bad)
      go true t =
          record {
            read = same ∙ (alone_read b bs e f ∙ rw t (ap (λ ts. Notation.mark b ∷ ts) (behind 1)));
            after = omega arith;
            within = omega (arith, long);
          }
      go false t = (tokens bs, same ∙ (alone_read b bs e f ∙ rw t))

  scanned_byte : is_space b ≡ false → Scanned s at (token_from s i (b ∷ bs))
  unfolding token_from
  scanned_byte f = go (word_byte b) refl
    where
      go : (t : Bool) → word_byte b ≡ t → Scanned s at (cond t (word_at s i b (front word_byte (b ∷ bs))) (cond (is_mark b) (Mark b (i + 1)) Bad))
      go true e = scanned_word e
      go false e = scanned_alone e f

scanned_from : (s : List ℕ) (at i : ℕ) (bs : List ℕ) → drop i s ≡ bs → at ≤ i → tokens (drop at s) ≡ tokens bs
    → ((b : ℕ) (cs : List ℕ) → bs ≡ b ∷ cs → is_space b ≡ false) → Scanned s at (token_from s i bs)
unfolding token_from tokens tokens_of pieces
scanned_from s at i [] stand later same none = same
scanned_from s at i (b ∷ bs) stand later same none = scanned_byte s at i b bs stand later same (none b bs refl)

-- the token found at a position is the first of those that the line has from there on
pub tokens_scanned : (s : List ℕ) (at : ℕ) → Scanned s at (token_at s at)
unfolding token_at
tokens_scanned s at =
    let i = at + front is_space (drop at s) in
    let e : drop (front is_space (drop at s)) (drop at s) ≡ drop i s = drop-drop (front is_space (drop at s)) at s in
    scanned_from s at i (drop i s) refl (omega arith) (spaces_passed (drop at s) ∙ ap tokens e)
    (λ b cs h. front_over is_space (drop at s) b cs (e ∙ h))
