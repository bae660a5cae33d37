-- A well-shaped standing is read back from its contents in a sheet. Its sets rise within the occurrences of their side, so each is
-- a number that fits its bytes (`SetBytes.antt`, `Bytes.antt`); a table of a ring standing has a row for 0 and for each right
-- occurrence, and the sheet's other rows are empty.
-- Assumes nothing.
use Prim.Native.Nat.{ℕ, zero, suc, ◌+◌, ◌*◌, ◌-◌, ◌%◌, ◌^◌, ◌≤◌, ◌<◌}
use native.Mathlib.Nat.{pow-le-pow_right, zero-mul, suc-mul}
use native.Mathlib.Omega.{arith}
use mathlib.Core.Path.{◌≡◌, refl, sym, ◌∙◌, ap, ap₂, subst}
use mathlib.Core.Bool.{Bool, true, false, cond, ◌&&◌}
use mathlib.Core.List.{List, [], ◌∷◌, ◌++◌, map, append_assoc, append-nil}
use mathlib.Core.Option.{some}
use lib.Dec.{eqb, leb, ltb}
use lib.ListN.{length, take, drop, length-append, get_or-eq_default}
use lib.Seq.{take_at, drop_at}
use borrow.Author.Tests.{lt-ltb, le-leb, eq-eqb, leb-false}
use Rattle.kat.specs.Lists.{In, here, there}
use Rattle.kat.specs.Tables.{occurrences}
use Rattle.kat.proofs.Bools.{and_both}
use Rattle.notation.specs.Width.{width, row_length}
use Rattle.notation.specs.Sides.{Decision}
use Rattle.verdicts.specs.Standings.{Path, Ring, row}
use Rattle.claims.specs.Fields.{big_endian, from_bytes, set_number, number_set, provided}
use Rattle.claims.specs.SheetBytes.{set_bytes, row_bytes, table_bytes, contents_length, path_bytes, ring_bytes}
use Rattle.claims.specs.SheetReading.{set_of, set_fits, path_of, row_numbers, rows_pass, row_of_m, row_of_n, table_of, ring_of}
use Rattle.claims.specs.SheetWriting.{RisingWithin, PathShaped, RingShaped}
use Rattle.claims.proofs.Bytes.{big_endian_length, bytes_read_back}
use Rattle.claims.proofs.SetBytes.{rising_from_below, set_number_even, set_number_small, set_read_back}

-- sets of 8 bytes
pub set_bytes_length : (s : List ℕ) → length (set_bytes s) ≡ 8
unfolding set_bytes
set_bytes_length s = big_endian_length 8 (set_number 1 s)

set_bytes_number : (n : ℕ) (s : List ℕ) → n ≤ 64 → RisingWithin 1 (suc n) s
    → (from_bytes 0 (set_bytes s) ≡ set_number 1 s) × (set_number 1 s < 2 ^ n)
unfolding set_bytes
set_bytes_number n s h r =
    let e : suc n - 1 ≡ n = omega arith in
    let small : set_number 1 s < 2 ^ n = subst (λ i. set_number 1 s < 2 ^ i) e (set_number_small 1 (suc n) s (omega arith) r) in
    let most : 2 ^ n ≤ 2 ^ 64 = pow-le-pow_right (omega arith) h in
    (bytes_read_back 8 (set_number 1 s) (omega arith), small)

pub set_bytes_fit : (n : ℕ) (s : List ℕ) → n ≤ 64 → RisingWithin 1 (suc n) s → set_fits n (set_bytes s) ≡ true
unfolding set_fits
set_bytes_fit n s h r =
    let (e, small) = set_bytes_number n s h r in
    lt-ltb (from_bytes 0 (set_bytes s)) (2 ^ n) (omega arith)

pub set_bytes_read_back : (n : ℕ) (s : List ℕ) → n ≤ 64 → RisingWithin 1 (suc n) s → set_of n (set_bytes s) ≡ s
unfolding set_of
set_bytes_read_back n s h r =
    let (e, small) = set_bytes_number n s h r in
    ap (number_set 1 (suc n)) e ∙ set_read_back 1 (suc n) s r

pub path_bytes_length : (s : Path) → length (path_bytes s) ≡ contents_length false
unfolding path_bytes contents_length
path_bytes_length s = simp (length-append, set_bytes_length)

path_of_parts : (D : Decision) (a b : List ℕ) → length a ≡ 8 → length b ≡ 8
    → set_fits (occurrences D.left) a ≡ true → set_fits (occurrences D.right) b ≡ true
    → path_of D (a ++ b) ≡ some (record { P = set_of (occurrences D.left) a; S = set_of (occurrences D.right) b })
unfolding path_of contents_length
path_of_parts D a b ha hb fa fb = rw (take_at a b 8 ha, drop_at a b 8 ha, length-append a b, ha, hb, fa, fb)

pub path_read_back : (D : Decision) (s : Path) → occurrences D.left ≤ 64 → occurrences D.right ≤ 64 → PathShaped D s
    → path_of D (path_bytes s) ≡ some s
unfolding path_bytes
path_read_back D s l r h =
    path_of_parts D (set_bytes s.P) (set_bytes s.S) (set_bytes_length s.P) (set_bytes_length s.S)
    (set_bytes_fit (occurrences D.left) s.P l h.left) (set_bytes_fit (occurrences D.right) s.S r h.right)
    ∙ rw (set_bytes_read_back (occurrences D.left) s.P l h.left, set_bytes_read_back (occurrences D.right) s.S r h.right)

-- rows of b bytes, as numbers
unfoldable pub row_sets : List (List ℕ) → ℕ → ℕ → List ℕ
row_sets t p zero = []
row_sets t p (suc n) = set_number 0 (row t p) ∷ row_sets t (suc p) n

row_bytes_length : (b : ℕ) (t : List (List ℕ)) (p n : ℕ) → length (row_bytes b t p n) ≡ n * b
unfolding row_bytes
row_bytes_length b t p zero = sym (zero-mul b)
row_bytes_length b t p (suc n) =
    length-append (big_endian b (set_number 0 (row t p))) (row_bytes b t (suc p) n)
    ∙ omega (arith, big_endian_length b (set_number 0 (row t p)), row_bytes_length b t (suc p) n, suc-mul n b)

-- each row of a table, also one that it lacks, fits b bytes
abbrev RowsFit : ℕ → List (List ℕ) → Type 0
RowsFit b t = (q : ℕ) → set_number 0 (row t q) < 256 ^ b

rows_read : (b : ℕ) (t : List (List ℕ)) (p n : ℕ) (rest : List ℕ) → RowsFit b t → row_numbers b n (row_bytes b t p n ++ rest) ≡ row_sets t p n
unfolding row_numbers row_bytes row_sets
rows_read b t p zero rest h = refl
rows_read b t p (suc n) rest h =
    let m : ℕ = set_number 0 (row t p) in
    let tail : List ℕ = row_bytes b t (suc p) n ++ rest in
    let e : big_endian b m ++ row_bytes b t (suc p) n ++ rest ≡ big_endian b m ++ tail =
    append_assoc (big_endian b m) (row_bytes b t (suc p) n) rest in
    let front : take b (big_endian b m ++ tail) ≡ big_endian b m = take_at (big_endian b m) tail b (big_endian_length b m) in
    let behind : drop b (big_endian b m ++ tail) ≡ tail = drop_at (big_endian b m) tail b (big_endian_length b m) in
    ap (row_numbers b (suc n)) e
    ∙ ap₂ (λ x y. from_bytes 0 x ∷ row_numbers b n y) front behind
    ∙ ap₂ (λ x y. x ∷ y) (bytes_read_back b m (h p)) (rows_read b t (suc p) n rest h)

rows_pass_lem : (f : ℕ → ℕ → Bool) (t : List (List ℕ)) (p n : ℕ) → ((q : ℕ) → f q (set_number 0 (row t q)) ≡ true)
    → rows_pass f p (row_sets t p n) ≡ true
unfolding rows_pass row_sets
rows_pass_lem f t p zero h = refl
rows_pass_lem f t p (suc n) h = and_both (h p) (rows_pass_lem f t (suc p) n h)

row_rising : (lo hi : ℕ) (t : List (List ℕ)) → ((x : List ℕ) → In x t → RisingWithin lo hi x) → (q : ℕ) → RisingWithin lo hi (row t q)
row_rising lo hi [] h q = tt
row_rising lo hi (x ∷ xs) h zero = h x (here refl)
row_rising lo hi (x ∷ xs) h (suc q) = row_rising lo hi xs (λ y i. h y (there i)) q

pub row_sets_behind : (x : List ℕ) (t : List (List ℕ)) (p n : ℕ) → row_sets (x ∷ t) (suc p) n ≡ row_sets t p n
unfolding row_sets
row_sets_behind x t p zero = refl
row_sets_behind x t p (suc n) = ap (λ l. set_number 0 (row t p) ∷ l) (row_sets_behind x t (suc p) n)

table_read_back : (hi : ℕ) (t : List (List ℕ)) (n : ℕ) → length t ≤ n → ((x : List ℕ) → In x t → RisingWithin 0 hi x)
    → map (number_set 0 hi) (take (length t) (row_sets t 0 n)) ≡ t
unfolding row_sets
table_read_back hi [] n h k = refl
table_read_back hi (x ∷ t) zero h k = absurd (omega arith)
table_read_back hi (x ∷ t) (suc n) h k =
    rw (row_sets_behind x t 0 n)
    (ap₂ (λ y l. y ∷ l) (set_read_back 0 hi x (k x (here refl))) (table_read_back hi t n (omega arith) (λ y i. k y (there i))))

table_bytes_length : (t : List (List ℕ)) → length (table_bytes t) ≡ width * row_length
unfolding table_bytes
table_bytes_length t = row_bytes_length row_length t 0 width

pub ring_bytes_length : (s : Ring) → length (ring_bytes s) ≡ contents_length true
unfolding ring_bytes contents_length
ring_bytes_length s = simp (length-append, set_bytes_length, table_bytes_length) (omega arith)

row_small : (r : ℕ) (x : List ℕ) → RisingWithin 0 (suc r) x → set_number 0 x < 2 ^ suc r
row_small r x h =
    let e : suc r - 0 ≡ suc r = omega arith in
    subst (λ i. set_number 0 x < 2 ^ i) e (set_number_small 0 (suc r) x (omega arith) h)

rows_fit : (r : ℕ) (t : List (List ℕ)) → r < width → ((x : List ℕ) → In x t → RisingWithin 0 (suc r) x) → RowsFit row_length t
unfolding width row_length
rows_fit r t h k q =
    let most : 2 ^ suc r ≤ 2 ^ 32 = pow-le-pow_right (omega arith) {i = suc r} {j = 32} (omega arith) in
    omega (arith, row_small r (row t q) (row_rising 0 (suc r) t k q))

row_past : (t : List (List ℕ)) (q : ℕ) → length t ≤ q → set_number 0 (row t q) ≡ 0
unfolding set_number
row_past t q h = ap (set_number 0) (get_or-eq_default t [] h)

rows_of_m : (r : ℕ) (t : List (List ℕ)) → length t ≡ suc r → ((x : List ℕ) → In x t → RisingWithin 1 (suc r) x)
    → (q : ℕ) → row_of_m r q (set_number 0 (row t q)) ≡ true
unfolding row_of_m
rows_of_m r t e k q = go (leb q r) refl
  where
    m : ℕ
    m = set_number 0 (row t q)

    rising : RisingWithin 1 (suc r) (row t q)
    rising = row_rising 1 (suc r) t k q

    go : (b : Bool) → leb q r ≡ b → cond b (ltb m (2 ^ suc r) && eqb (m % 2) 0) (eqb m 0) ≡ true
    go true h =
        and_both (lt-ltb m (2 ^ suc r) (row_small r (row t q) (rising_from_below 0 1 (suc r) (row t q) (omega arith) rising)))
        (eq-eqb (m % 2) 0 (set_number_even (suc r) (row t q) rising))
    go false h = eq-eqb m 0 (row_past t q (omega (arith, leb-false q r h)))

rows_of_n : (r : ℕ) (t : List (List ℕ)) → length t ≡ suc r → ((x : List ℕ) → In x t → RisingWithin 0 (suc r) x) → row t 0 ≡ []
    → (q : ℕ) → row_of_n r q (set_number 0 (row t q)) ≡ true
unfolding row_of_n set_number
rows_of_n r t e k f zero = ap (λ x. eqb (set_number 0 x) 0) f
rows_of_n r t e k f (suc p) = rw (row_of_n, le-leb 1 (suc p) (omega arith)) (go (leb (suc p) r) refl)
  where
    m : ℕ
    m = set_number 0 (row t (suc p))

    go : (b : Bool) → leb (suc p) r ≡ b → cond b (ltb m (2 ^ suc r)) (eqb m 0) ≡ true
    go true h = lt-ltb m (2 ^ suc r) (row_small r (row t (suc p)) (row_rising 0 (suc r) t k (suc p)))
    go false h = eq-eqb m 0 (row_past t (suc p) (omega (arith, leb-false (suc p) r h)))

flag_fits : (z : Bool) → leb (cond z 1 0) 1 ≡ true
flag_fits true = refl
flag_fits false = refl

flag_read_back : (z : Bool) → eqb (cond z 1 0) 1 ≡ z
flag_read_back true = refl
flag_read_back false = refl

-- the contents in their parts
abbrev pub parts_ring : Decision → ℕ → ℕ → List ℕ → List ℕ → List ℕ → Ring
parts_ring D x y p M N =
    record {
      first = x;
      Z = eqb y 1;
      P = set_of (occurrences D.left) p;
      M = table_of (occurrences D.right) M;
      N = table_of (occurrences D.right) N;
    }

-- all tests of the contents but that of their length
abbrev pub parts_pass : Decision → ℕ → ℕ → List ℕ → List ℕ → List ℕ → Bool
parts_pass D x y p M N =
    ltb x D.atoms && leb y 1 && set_fits (occurrences D.left) p
    && rows_pass (row_of_m (occurrences D.right)) 0 M && rows_pass (row_of_n (occurrences D.right)) 0 N

pub ring_of_parts : (D : Decision) (x y : ℕ) (p m n : List ℕ) → length p ≡ 8 → length m ≡ width * row_length → length n ≡ width * row_length
    → ring_of D (x ∷ y ∷ (p ++ (m ++ n)))
    ≡ provided (parts_pass D x y p (row_numbers row_length width (m ++ n)) (row_numbers row_length width n))
    (parts_ring D x y p (row_numbers row_length width (m ++ n)) (row_numbers row_length width n))
unfolding ring_of width row_length contents_length
ring_of_parts D x y p m n hp hm hn =
    let l : length (p ++ (m ++ n)) ≡ 264 = simp (length-append) (omega arith) in
    let e : drop 136 (p ++ (m ++ n)) ≡ n =
    ap (drop 136) (sym (append_assoc p m n)) ∙ drop_at (p ++ m) n 136 (simp length-append (omega arith)) in
    rw (take_at p (m ++ n) 8 hp, drop_at p (m ++ n) 8 hp, e, l)

pub ring_read_back : (D : Decision) (s : Ring) → occurrences D.left ≤ 64 → occurrences D.right < width → RingShaped D s
    → ring_of D (ring_bytes s) ≡ some s
unfolding ring_bytes table_bytes table_of
ring_read_back D s l r h =
    ring_of_parts D s.first (cond s.Z 1 0) (set_bytes s.P) (table_bytes s.M) (table_bytes s.N)
    (set_bytes_length s.P) (table_bytes_length s.M) (table_bytes_length s.N)
    ∙ rw (
      rows_read row_length s.M 0 width (table_bytes s.N) (rows_fit R s.M r rising_m),
      ap (row_numbers row_length width) (sym (append-nil (table_bytes s.N))) ∙ rows_read row_length s.N 0 width [] (rows_fit R s.N r h.rows_n),
      lt-ltb s.first D.atoms h.first,
      flag_fits s.Z,
      flag_read_back s.Z,
      set_bytes_fit (occurrences D.left) s.P l h.left,
      rows_pass_lem (row_of_m R) s.M 0 width (rows_of_m R s.M h.size_m h.rows_m),
      rows_pass_lem (row_of_n R) s.N 0 width (rows_of_n R s.N h.size_n h.rows_n h.empty_n),
      set_bytes_read_back (occurrences D.left) s.P l h.left,
      table s.M h.size_m rising_m,
      table s.N h.size_n h.rows_n,
    )
  where
    R : ℕ
    R = occurrences D.right

    rising_m : (x : List ℕ) → In x s.M → RisingWithin 0 (suc R) x
    rising_m x i = rising_from_below 0 1 (suc R) x (omega arith) (h.rows_m x i)

    table : (t : List (List ℕ)) → length t ≡ suc R → ((x : List ℕ) → In x t → RisingWithin 0 (suc R) x)
        → table_of R (row_sets t 0 width) ≡ t
    table t e k =
        subst (λ n. map (number_set 0 (suc R)) (take n (row_sets t 0 width)) ≡ t) e
        (table_read_back (suc R) t width (omega arith) k)
