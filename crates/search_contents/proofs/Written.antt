-- Bytes put one behind the other: bytes put at the end of what was put make one run of bytes, and nothing around them changes.
-- Assumes nothing.
use Prim.Native.Nat.{ℕ, zero, suc, ◌+◌, ◌-◌, ◌/◌, ◌%◌, ◌^◌, ◌≤◌, ◌<◌}
use native.Mathlib.Nat.{div-one, div-div-eq-div-mul, pow-succ'}
use native.Mathlib.Omega.{arith}
use mathlib.Core.Path.{◌≡◌, refl, sym, ◌∙◌, ap, ap₂}
use mathlib.Core.List.{List, [], ◌∷◌, ◌++◌, append_assoc, append-nil}
use lib.ListN.{length, get_or, take, drop, set, take-append-drop, length-append, length-drop, drop_of_length-le}
use lib.Seq.{take_at, drop_at, drop-cons, drop-drop, take_all, length-take-le, set_split, take-set-le, drop-set-add, append_snoc}
use Rattle.claims.specs.Fields.{big_endian}
use Rattle.claims.proofs.Bytes.{big_endian_length}
use Rattle.search_contents.specs.Written.{written, over}

-- the bytes ds behind the bytes bs
pub written_next : (bs ds xs : List ℕ) (at : ℕ) → length bs ≡ at → over at ds (written bs xs) ≡ written (bs ++ ds) xs
unfolding written over
written_next bs ds xs at e =
    ap₂ (λ l r. l ++ (ds ++ drop (length ds) r)) (take_at bs (drop (length bs) xs) at e) (drop_at bs (drop (length bs) xs) at e)
    ∙ ap (λ r. bs ++ (ds ++ r)) (drop-drop (length ds) (length bs) xs ∙ ap (λ n. drop n xs) (sym (length-append bs ds)))
    ∙ sym (append_assoc bs ds (drop (length (bs ++ ds)) xs))

-- from the start on
pub over_start : (bs xs : List ℕ) → over 0 bs xs ≡ written bs xs
unfolding over
over_start bs xs = refl

-- nothing put
pub over_none : (at : ℕ) (xs : List ℕ) → over at [] xs ≡ xs
unfolding over written
over_none at xs = take-append-drop at xs

-- the bytes bs from a place on, and the bytes ds behind them
pub over_next : (at n : ℕ) (bs ds xs : List ℕ) → at ≤ length xs → length bs ≡ n → over (at + n) ds (over at bs xs) ≡ over at (bs ++ ds) xs
unfolding over written
over_next at n bs ds xs h e =
    ap (over (at + n) ds) (sym (append_assoc (take at xs) bs rest))
    ∙ ap₂ (λ l r. l ++ (ds ++ drop (length ds) r)) (take_at (take at xs ++ bs) rest (at + n) front) (drop_at (take at xs ++ bs) rest (at + n) front)
    ∙ append_assoc (take at xs) bs (ds ++ drop (length ds) rest)
    ∙ ap (λ r. take at xs ++ (bs ++ (ds ++ r)))
    (drop-drop (length ds) (length bs) (drop at xs) ∙ ap (λ k. drop k (drop at xs)) (sym (length-append bs ds)))
    ∙ ap (λ l. take at xs ++ l) (sym (append_assoc bs ds (drop (length (bs ++ ds)) (drop at xs))))
  where
    rest : List ℕ
    rest = drop (length bs) (drop at xs)

    front : length (take at xs ++ bs) ≡ at + n
    front = length-append (take at xs) bs ∙ ap₂ ◌+◌ (length-take-le at xs h) e

-- one byte behind the bytes bs
pub over_set : (at k b : ℕ) (bs xs : List ℕ) → length bs ≡ k → at + k < length xs → over at bs (set xs (at + k) b) ≡ over at (bs ++ (b ∷ [])) xs
unfolding over written
over_set at k b bs xs e h =
    ap₂ (λ l r. l ++ (bs ++ drop (length bs) r)) (take-set-le at xs (at + k) b (omega arith))
    (drop-set-add at xs k b ∙ set_split (drop at xs) k b inside)
    ∙ ap (λ r. take at xs ++ (bs ++ r)) (drop_at (take k (drop at xs)) (b ∷ drop (suc k) (drop at xs)) (length bs) front)
    ∙ ap (λ n. take at xs ++ (bs ++ b ∷ drop n (drop at xs))) one_more
    ∙ ap (λ l. take at xs ++ l) (sym (append_snoc bs b (drop (length (bs ++ (b ∷ []))) (drop at xs))))
  where
    inside : k < length (drop at xs)
    inside = omega (arith, length-drop at xs)

    front : length (take k (drop at xs)) ≡ length bs
    front = length-take-le k (drop at xs) (omega (arith, inside)) ∙ sym e

    one_more : suc k ≡ length (bs ++ (b ∷ []))
    one_more = omega (arith, length-append bs (b ∷ []))

-- the first byte
pub written_set : (b : ℕ) (xs : List ℕ) → 0 < length xs → set xs 0 b ≡ written (b ∷ []) xs
unfolding written
written_set b xs h = set_split xs 0 b h

pub length_over : (at : ℕ) (bs xs : List ℕ) → at + length bs ≤ length xs → length (over at bs xs) ≡ length xs
unfolding over written
length_over at bs xs h =
    omega (
      arith,
      length-append (take at xs) (bs ++ drop (length bs) (drop at xs)),
      length-append bs (drop (length bs) (drop at xs)),
      length-take-le at xs (omega arith),
      length-drop (length bs) (drop at xs),
      length-drop at xs,
    )

pub length_written : (bs xs : List ℕ) → length bs ≤ length xs → length (written bs xs) ≡ length xs
unfolding written
length_written bs xs h = omega (arith, length-append bs (drop (length bs) xs), length-drop (length bs) xs)

-- the bytes of a number, the last one first
pub bytes_back : (n m : ℕ) → big_endian (suc n) m ≡ big_endian n (m / 256) ++ (m % 256 ∷ [])
unfolding big_endian
bytes_back zero m = ap (λ k. k % 256 ∷ []) (div-one m)
bytes_back (suc n) m =
    ap₂ ◌∷◌ (ap (λ k. k % 256) (ap (λ k. m / k) (pow-succ' 256 n) ∙ sym (div-div-eq-div-mul m 256 (256 ^ n)))) (bytes_back n m)

-- a number's last byte put, and then the others
pub number_more : (at k m : ℕ) (xs : List ℕ) → 0 < k → at + k ≤ length xs
    → over at (big_endian (k - 1) (m / 256)) (set xs (at + (k - 1)) (m % 256)) ≡ over at (big_endian k m) xs
number_more at k m xs h i =
    let z : suc (k - 1) ≡ k = omega arith in
    over_set at (k - 1) (m % 256) (big_endian (k - 1) (m / 256)) xs (big_endian_length (k - 1) (m / 256)) (omega arith)
    ∙ ap (λ bs. over at bs xs) (sym (bytes_back (k - 1) m) ∙ ap (λ n. big_endian n m) z)

pub number_end : (at k m : ℕ) (xs : List ℕ) → k ≤ 0 → xs ≡ over at (big_endian k m) xs
unfolding big_endian
number_end at k m xs h =
    let z : 0 ≡ k = omega arith in
    sym (over_none at xs) ∙ ap (λ n. over at (big_endian n m) xs) z

-- bytes as they are: one put, and then those behind it
pub bytes_more : (at k : ℕ) (bs xs : List ℕ) → k < length bs → at + length bs ≤ length xs
    → over (at + (k + 1)) (drop (k + 1) bs) (set xs (at + k) (get_or bs k 0)) ≡ over (at + k) (drop k bs) xs
unfolding over written
bytes_more at k bs xs h i =
    let z : at + (k + 1) ≡ at + k + 1 = omega arith in
    let next : suc k ≡ k + 1 = omega arith in
    ap₂ (λ a ys. over a (drop (k + 1) bs) ys) z one
    ∙ over_next (at + k) 1 (b ∷ []) (drop (k + 1) bs) xs (omega arith) refl
    ∙ ap (λ ds. over (at + k) ds xs) (sym (drop-cons bs k 0 h ∙ ap (λ j. b ∷ drop j bs) next))
  where
    b : ℕ
    b = get_or bs k 0

    one : set xs (at + k) b ≡ over (at + k) (b ∷ []) xs
    one =
        let z : suc (at + k) ≡ at + k + 1 = omega arith in
        set_split xs (at + k) b (omega arith) ∙ ap (λ r. take (at + k) xs ++ (b ∷ r)) (ap (λ j. drop j xs) z ∙ sym (drop-drop 1 (at + k) xs))

pub bytes_end : (at k : ℕ) (bs xs : List ℕ) → length bs ≤ k → xs ≡ over at (drop k bs) xs
bytes_end at k bs xs h = sym (over_none at xs) ∙ ap (λ ds. over at ds xs) (sym (drop_of_length-le bs h))

-- what stands from the place on
pub drop_over : (at n : ℕ) (bs xs : List ℕ) → at ≤ length xs → length bs ≡ n → drop at (over at bs xs) ≡ bs ++ drop (at + n) xs
unfolding over written
drop_over at n bs xs h e =
    drop_at (take at xs) (bs ++ drop (length bs) (drop at xs)) at (length-take-le at xs h)
    ∙ ap (λ r. bs ++ r) (drop-drop (length bs) at xs ∙ ap (λ k. drop (at + k) xs) e)

-- a part of a slice, from a place to its end, comes back with bytes put at its start
pub part_written : (at : ℕ) (bs xs ys : List ℕ) → at ≤ length xs → ys ≡ written bs (take (length xs - at) (drop at xs))
    → take at xs ++ (ys ++ drop (length xs - at) (drop at xs)) ≡ over at bs xs
unfolding over
part_written at bs xs ys h e =
    let z : length (drop at xs) ≤ length xs - at = omega (arith, length-drop at xs) in
    ap₂ (λ l r. take at xs ++ (l ++ r)) (e ∙ ap (written bs) (take_all (length xs - at) (drop at xs) z)) (drop_of_length-le (drop at xs) z)
    ∙ ap (λ l. take at xs ++ l) (append-nil (written bs (drop at xs)))
