-- Numbers in bytes and fields of bytes are read back as they were written. The idea: before the last n bytes of m are read, the
-- number read so far is m / 256 ^ n; each further byte is the remainder that makes it m / 256 ^ (n - 1).
-- Assumes nothing.
use Prim.Native.Nat.{ℕ, zero, suc, ◌+◌, ◌*◌, ◌/◌, ◌%◌, ◌^◌, ◌≤◌, ◌<◌}
use native.Mathlib.Nat.{pow-zero, pow-suc, div-one, div-div-eq-div-mul, div-add-mod', div-eq_of_lt, mod-lt}
use native.Mathlib.Omega.{arith}
use mathlib.Core.Path.{◌≡◌, refl, sym, ◌∙◌, ap, subst}
use mathlib.Core.Bool.{Bool, true, false}
use mathlib.Core.List.{List, [], ◌∷◌, ◌++◌}
use lib.Dec.{leb}
use lib.ListN.{length, take, drop, length-append, take-append-drop}
use lib.Seq.{take_at, drop_at, length-take-le}
use borrow.Author.Tests.{le-leb, leb-true, eqb-true}
use Rattle.kat.specs.Lists.{In, here, there}
use Rattle.claims.specs.Fields.{big_endian, from_bytes, field, whole, cut, contents_of, next_field}
use Rattle.claims.specs.SheetReading.{tagged}

-- n bytes are n bytes
pub big_endian_length : (n m : ℕ) → length (big_endian n m) ≡ n
unfolding big_endian
big_endian_length zero m = refl
big_endian_length (suc n) m = ap suc (big_endian_length n m)

-- and each is a byte
pub big_endian_small : (n m : ℕ) {b : ℕ} → In b (big_endian n m) → b < 256
unfolding big_endian
big_endian_small zero m i = elim i [ ]
big_endian_small (suc n) m (here e) = omega (arith, e, mod-lt (m / 256 ^ n) {m = 256} (omega arith))
big_endian_small (suc n) m (there i) = big_endian_small n m i

-- the last n bytes of m, read on from what stands in front of them, give m
bytes_read_on : (n m : ℕ) → from_bytes (m / 256 ^ n) (big_endian n m) ≡ m
unfolding big_endian from_bytes
bytes_read_on zero m = ap (λ k. m / k) (pow-zero 256) ∙ div-one m
bytes_read_on (suc n) m = ap (λ k. from_bytes k (big_endian n m)) split ∙ bytes_read_on n m
  where
    split : m / 256 ^ suc n * 256 + m / 256 ^ n % 256 ≡ m / 256 ^ n
    split =
        ap (λ k. m / k * 256 + m / 256 ^ n % 256) (pow-suc 256 n)
        ∙ ap (λ k. k * 256 + m / 256 ^ n % 256) (sym (div-div-eq-div-mul m (256 ^ n) 256))
        ∙ div-add-mod' (m / 256 ^ n) 256

-- a number that fits n bytes is read back
pub bytes_read_back : (n m : ℕ) → m < 256 ^ n → from_bytes 0 (big_endian n m) ≡ m
bytes_read_back n m h = ap (λ k. from_bytes k (big_endian n m)) (sym (div-eq_of_lt h)) ∙ bytes_read_on n m

-- contents that are there are found, with what stands behind them
contents_found : (tag n : ℕ) (contents rest : List ℕ) → n ≡ length contents → contents_of tag n (contents ++ rest) ≡ whole tag contents rest
unfolding contents_of
contents_found tag n contents rest e =
    let h : n ≤ length (contents ++ rest) = omega (arith, length-append contents rest) in
    rw (contents_of, le-leb n (length (contents ++ rest)) h, take_at contents rest n (sym e), drop_at contents rest n (sym e))

-- a field is read back, with what stands behind it
pub field_read_back : (tag : ℕ) (contents rest : List ℕ) → length contents < 65536
    → next_field (field tag contents ++ rest) ≡ whole tag contents rest
unfolding field big_endian from_bytes next_field
field_read_back tag contents rest h =
    contents_found tag _ contents rest (omega arith)

pub field_length_lem : (tag : ℕ) (contents : List ℕ) → length (field tag contents) ≡ 3 + length contents
unfolding field
field_length_lem tag contents = simp (length-append, big_endian_length) (omega arith)

-- a whole field is what stands before the rest
contents_whole : (t n : ℕ) (bs : List ℕ) (tag : ℕ) (contents rest : List ℕ) → contents_of t n bs ≡ whole tag contents rest
    → (t ≡ tag) × (bs ≡ contents ++ rest) × (length contents ≡ n)
unfolding contents_of
contents_whole t n bs tag contents rest = go (leb n (length bs)) refl
  where
    go : (b : Bool) → leb n (length bs) ≡ b → elim b [ true ↦ whole t (take n bs) (drop n bs) | false ↦ cut ] ≡ whole tag contents rest
        → (t ≡ tag) × (bs ≡ contents ++ rest) × (length contents ≡ n)
    go true h e =
        let p : take n bs ≡ contents = cc in
        let q : drop n bs ≡ rest = cc in
        (cc, rw (← p, ← q) (sym (take-append-drop n bs)), rw (← p) (length-take-le n bs (leb-true n (length bs) h)))
    go false h e = let z : ◌≡◌ {A = ℕ} 0 1 = cc in absurd (omega arith)

-- the field as its header says it, and as it is written if its contents are short
pub next_whole : (bs : List ℕ) (tag : ℕ) (contents rest : List ℕ) → next_field bs ≡ whole tag contents rest
    → (h : ℕ) × (l : ℕ) × (bs ≡ tag ∷ h ∷ l ∷ (contents ++ rest)) × (length contents ≡ h * 256 + l)
unfolding next_field
next_whole [] tag contents rest e = let z : ◌≡◌ {A = ℕ} 0 1 = cc in absurd (omega arith)
next_whole (t ∷ []) tag contents rest e = let z : ◌≡◌ {A = ℕ} 0 1 = cc in absurd (omega arith)
next_whole (t ∷ h ∷ []) tag contents rest e = let z : ◌≡◌ {A = ℕ} 0 1 = cc in absurd (omega arith)
next_whole (t ∷ h ∷ l ∷ bs) tag contents rest e =
    let (p, q, n) = contents_whole t (h * 256 + l) bs tag contents rest e in
    (h, l, rw (← p, ← q), n)

-- a field that begins with the byte t has the tag t
pub next_tag : (t : ℕ) (bs : List ℕ) (tag : ℕ) (contents rest : List ℕ) → tagged t bs ≡ true → next_field bs ≡ whole tag contents rest
    → tag ≡ t
unfolding tagged
next_tag t bs tag contents rest h e =
    let (x, y, p, n) = next_whole bs tag contents rest e in
    eqb-true tag t (subst (λ l. tagged t l ≡ true) p h)

-- a field of bytes that was read is the field as written
pub field_as_written : (tag h l : ℕ) (contents : List ℕ) → length contents ≡ h * 256 + l → h < 256 → l < 256
    → tag ∷ h ∷ l ∷ contents ≡ field tag contents
unfolding field big_endian
field_as_written tag h l contents n p q =
    let x : h ≡ length contents / 256 % 256 = omega arith in
    let y : l ≡ length contents / 1 % 256 = omega arith in
    (λ i. tag ∷ x i ∷ y i ∷ contents)
