-- The contents of a standing, exactly: bytes that are read as a standing are the bytes of that standing, and a sheet may list it. The idea:
-- bytes are the digits of the number that they are, and a number below 2 to the n is the set of its bits, so neither reading forgets
-- anything; where a row is not in the table its bits are tested to be none.
-- Assumes nothing.
use Prim.Native.Nat.{ℕ, zero, suc, ◌+◌, ◌*◌, ◌-◌, ◌/◌, ◌%◌, ◌^◌, ◌<◌}
use native.Mathlib.Nat.{pow-zero, pow-suc, div-one, div-div-eq-div-mul}
use native.Mathlib.Omega.{arith}
use mathlib.Core.Path.{◌≡◌, refl, sym, ◌∙◌, ap, ap₂, subst}
use mathlib.Core.Bool.{Bool, true, false, cond, ◌&&◌}
use mathlib.Core.List.{List, [], ◌∷◌, ◌++◌}
use mathlib.Core.Option.{some}
use lib.Dec.{eqb}
use lib.ListN.{length, take, drop, length-drop, take-append-drop}
use lib.Seq.{length-take-le}
use native.Mathlib.Nat.{mod-lt}
use borrow.Author.Tests.{eqb-true, eqb-false, ltb-true}
use Rattle.kat.specs.Lists.{In, here, there}
use Rattle.kat.specs.Tables.{occurrences}
use Rattle.kat.proofs.Bools.{and_left, and_right}
use Rattle.kat.proofs.Sets.{in_append_left, in_append_right}
use Rattle.notation.specs.Query.{bit}
use Rattle.notation.specs.Sides.{Decision}
use Rattle.verdicts.specs.Standings.{Path}
use Rattle.claims.specs.Fields.{big_endian, from_bytes, set_number, number_set}
use Rattle.claims.specs.SheetBytes.{set_bytes, contents_length, path_bytes}
use Rattle.claims.specs.SheetReading.{set_of, set_fits, path_of}
use Rattle.claims.specs.SheetWriting.{AllBytes, RisingWithin, PathShaped}
use Rattle.claims.proofs.Provided.{provided_some}
use Rattle.claims.proofs.SetBytes.{filter_rising, set_number_double, set_number_odd, picked, picked_suc, picked_even, picked_rising}

-- the bytes, read on from m, are the digits of the number that they are, and m stands in front of them
read_as_written : (n m : ℕ) (bs : List ℕ) → length bs ≡ n → AllBytes bs
    → (from_bytes m bs / 256 ^ n ≡ m) × (big_endian n (from_bytes m bs) ≡ bs)
unfolding from_bytes big_endian
read_as_written zero m [] l b = (ap (λ k. m / k) (pow-zero 256) ∙ div-one m, refl)
read_as_written zero m (x ∷ xs) l b = absurd (omega arith)
read_as_written (suc n) m [] l b = absurd (omega arith)
read_as_written (suc n) m (x ∷ xs) l b =
    let (p, q) = read_as_written n (m * 256 + x) xs (omega arith) (λ y i. b y (there i)) in
    let small : x < 256 = b x (here refl) in
    let N : ℕ = from_bytes (m * 256 + x) xs in
    let front : N / 256 ^ suc n ≡ N / 256 ^ n / 256 =
    ap (λ k. N / k) (pow-suc 256 n) ∙ sym (div-div-eq-div-mul N (256 ^ n) 256) in
    (omega arith, ap₂ ◌∷◌ (omega arith) q)

pub bytes_as_written : (n : ℕ) (bs : List ℕ) → length bs ≡ n → AllBytes bs → big_endian n (from_bytes 0 bs) ≡ bs
bytes_as_written n bs l b = (read_as_written n 0 bs l b).1

-- a number without bits for n and above is the number of the set of its bits
picked_as_written : (lo n m : ℕ) → m < 2 ^ n → set_number lo (picked lo n m) ≡ m
unfolding picked set_number
picked_as_written lo zero m h = let e : 2 ^ 0 ≡ 1 = pow-zero 2 in omega arith
picked_as_written lo (suc n) m h =
    let two : 2 ^ suc n ≡ 2 ^ n * 2 = pow-suc 2 n in
    let back : set_number (suc lo) (picked (suc lo) n (m / 2)) ≡ m / 2 = picked_as_written (suc lo) n (m / 2) (omega arith) in
    ap (set_number lo) (picked_suc lo n m) ∙ go (eqb (m % 2) 1) refl back
  where
    rest : List ℕ
    rest = picked (suc lo) n (m / 2)

    go : (b : Bool) → eqb (m % 2) 1 ≡ b → set_number (suc lo) rest ≡ m / 2 → set_number lo (cond b (lo ∷ rest) rest) ≡ m
    go true p e =
        let odd : m % 2 ≡ 1 = eqb-true (m % 2) 1 p in
        set_number_odd lo (suc lo + n) rest (picked_rising (suc lo) n (m / 2)) ∙ omega arith
    go false p e =
        let even : (m % 2 ≡ 1 → ⊥) = eqb-false (m % 2) 1 p in
        set_number_double lo (suc lo + n) rest (picked_rising (suc lo) n (m / 2)) ∙ omega (arith, mod-lt m {m = 2} (omega arith))

pub set_as_written : (lo hi m : ℕ) → m < 2 ^ (hi - lo) → set_number lo (number_set lo hi m) ≡ m
unfolding number_set picked
set_as_written lo hi m h = picked_as_written lo (hi - lo) m h

pub row_picked : (n m : ℕ) → number_set 0 n m ≡ picked 0 n m
unfolding number_set picked
row_picked n m = let e : n - 0 ≡ n = omega arith in ap (λ k. picked 0 k m) e

-- an even number has no bit for the lowest number
pub even_rising : (lo n m : ℕ) → m % 2 ≡ 0 → RisingWithin (suc lo) (lo + suc n) (picked lo (suc n) m)
even_rising lo n m e =
    let p : m ≡ 2 * (m / 2) = omega arith in
    let q : suc lo + n ≡ lo + suc n = omega arith in
    subst (RisingWithin (suc lo) (lo + suc n)) (sym (picked_even lo n m (m / 2) p))
    (subst (λ hi. RisingWithin (suc lo) hi (picked (suc lo) n (m / 2))) q (picked_rising (suc lo) n (m / 2)))

-- zero has none
pub no_bits : (lo n : ℕ) → picked lo n 0 ≡ []
unfolding picked
no_bits lo zero = refl
no_bits lo (suc n) = picked_even lo n 0 0 refl ∙ no_bits (suc lo) n

-- a set of 8 bytes
pub set_exactly : (n : ℕ) (bs : List ℕ) → length bs ≡ 8 → AllBytes bs → set_fits n bs ≡ true
    → (set_bytes (set_of n bs) ≡ bs) × RisingWithin 1 (suc n) (set_of n bs)
unfolding set_bytes set_of set_fits number_set
set_exactly n bs l b h =
    let e : suc n - 1 ≡ n = omega arith in
    let small : from_bytes 0 bs < 2 ^ (suc n - 1) = subst (λ i. from_bytes 0 bs < 2 ^ i) (sym e) (ltb-true (from_bytes 0 bs) (2 ^ n) h) in (
      ap (big_endian 8) (set_as_written 1 (suc n) (from_bytes 0 bs) small) ∙ bytes_as_written 8 bs l b,
      filter_rising (λ k. bit (k - 1) (from_bytes 0 bs)) 1 (suc n) (omega arith),
    )

pub bytes_take : (n : ℕ) (bs : List ℕ) → AllBytes bs → AllBytes (take n bs)
bytes_take n bs b x i = b x (subst (In x) (take-append-drop n bs) (in_append_left (drop n bs) i))

pub bytes_drop : (n : ℕ) (bs : List ℕ) → AllBytes bs → AllBytes (drop n bs)
bytes_drop n bs b x i = b x (subst (In x) (take-append-drop n bs) (in_append_right (take n bs) i))

-- the contents of a path standing
pub path_exactly : (D : Decision) (bs : List ℕ) (s : Path) → AllBytes bs → path_of D bs ≡ some s → (bs ≡ path_bytes s) × PathShaped D s
unfolding path_of path_bytes contents_length
path_exactly D bs s b e =
    let l : ℕ = occurrences D.left in
    let r : ℕ = occurrences D.right in
    let (h, is) = provided_some _ _ s e in
    let hh : (eqb (length bs) 16 && set_fits l (take 8 bs)) ≡ true = and_left (eqb (length bs) 16 && set_fits l (take 8 bs)) (set_fits r (drop 8 bs)) h in
    let n : length bs ≡ 16 = eqb-true (length bs) 16 (and_left (eqb (length bs) 16) (set_fits l (take 8 bs)) hh) in
    let (p, x) = set_exactly l (take 8 bs) (length-take-le 8 bs (omega arith)) (bytes_take 8 bs b) (and_right (eqb (length bs) 16) (set_fits l (take 8 bs)) hh) in
    let (q, y) = set_exactly r (drop 8 bs) (length-drop 8 bs ∙ omega arith) (bytes_drop 8 bs b) (and_right (eqb (length bs) 16 && set_fits l (take 8 bs)) (set_fits r (drop 8 bs)) h) in
    subst (λ t. (bs ≡ path_bytes t) × PathShaped D t) is
    (sym (take-append-drop 8 bs) ∙ ap₂ ◌++◌ (sym p) (sym q), record { left = x; right = y })
