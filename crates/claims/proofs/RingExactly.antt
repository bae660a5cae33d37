-- The contents of a ring standing, exactly: bytes that are read as one are its bytes, and a sheet may list it. The idea: the rows of a table
-- that there are hold the numbers that were read, and the rows that there are not were tested to hold nothing, so the rows written are
-- those read.
-- Assumes nothing.
use Prim.Native.Nat.{ℕ, zero, suc, ◌+◌, ◌*◌, ◌-◌, ◌%◌, ◌^◌, ◌≤◌, ◌<◌}
use native.Mathlib.Nat.{zero-mul, suc-mul}
use native.Mathlib.Omega.{arith}
use mathlib.Core.Path.{◌≡◌, refl, sym, ◌∙◌, ap, ap₂, subst}
use mathlib.Core.Bool.{Bool, true, false, cond, ◌&&◌}
use mathlib.Core.List.{List, [], ◌∷◌, ◌++◌, map, append_assoc, append-nil}
use mathlib.Core.Option.{some}
use lib.Dec.{eqb, ltb, leb}
use lib.ListN.{length, take, drop, length-append, length-drop, length-map, take-append-drop, drop_of_length-le}
use lib.Pow.{pow_pos}
use lib.Seq.{length-take-le, drop-drop, drop_at}
use borrow.Author.Tests.{eqb-true, ltb-true, leb-true, le-leb, lt-leb}
use Rattle.kat.specs.Lists.{In, here, there}
use Rattle.kat.specs.Tables.{occurrences}
use Rattle.kat.proofs.Bools.{and_left, and_right}
use Rattle.notation.specs.Width.{width, row_length}
use Rattle.notation.specs.Query.{bit}
use Rattle.notation.specs.Sides.{Decision}
use Rattle.verdicts.specs.Standings.{Ring, row}
use Rattle.claims.specs.Fields.{big_endian, from_bytes, set_number, number_set}
use Rattle.claims.specs.SheetBytes.{set_bytes, row_bytes, table_bytes, contents_length, ring_bytes}
use Rattle.claims.specs.SheetReading.{set_of, set_fits, row_numbers, rows_pass, row_of_m, row_of_n, table_of, ring_of}
use Rattle.claims.specs.SheetWriting.{AllBytes, RisingWithin, RingShaped}
use Rattle.claims.proofs.Provided.{provided_some}
use Rattle.claims.proofs.SetBytes.{picked, filter_rising}
use Rattle.claims.proofs.StandingBytes.{row_sets, row_sets_behind, parts_ring, parts_pass, ring_of_parts}
use Rattle.claims.proofs.StandingExactly.{row_picked, bytes_as_written, set_as_written, set_exactly, even_rising, no_bits, bytes_take, bytes_drop}

-- rows whose numbers are those read are the bytes read
rows_as_written : (b : ℕ) (t : List (List ℕ)) (p n : ℕ) (bs : List ℕ) → n * b ≤ length bs → AllBytes bs
    → row_sets t p n ≡ row_numbers b n bs → row_bytes b t p n ++ drop (n * b) bs ≡ bs
unfolding row_sets row_numbers row_bytes
rows_as_written b t p zero bs l a e = ap (λ k. drop k bs) (zero-mul b)
rows_as_written b t p (suc n) bs l a e =
    let m : suc n * b ≡ b + n * b = suc-mul n b ∙ omega arith in
    let first : set_number 0 (row t p) ≡ from_bytes 0 (take b bs) = cc in
    let others : row_sets t (suc p) n ≡ row_numbers b n (drop b bs) = cc in
    let front : big_endian b (set_number 0 (row t p)) ≡ take b bs =
    ap (big_endian b) first ∙ bytes_as_written b (take b bs) (length-take-le b bs (omega arith)) (bytes_take b bs a) in
    let back : row_bytes b t (suc p) n ++ drop (n * b) (drop b bs) ≡ drop b bs =
    rows_as_written b t (suc p) n (drop b bs) (omega (arith, length-drop b bs)) (bytes_drop b bs a) others in
    ap (λ k. (big_endian b (set_number 0 (row t p)) ++ row_bytes b t (suc p) n) ++ drop k bs) m
    ∙ append_assoc (big_endian b (set_number 0 (row t p))) (row_bytes b t (suc p) n) (drop (b + n * b) bs)
    ∙ ap₂ (λ x y. x ++ (row_bytes b t (suc p) n ++ y)) front (sym (drop-drop (n * b) b bs))
    ∙ ap (λ x. take b bs ++ x) back
    ∙ take-append-drop b bs

row_numbers_length : (b n : ℕ) (bs : List ℕ) → length (row_numbers b n bs) ≡ n
unfolding row_numbers
row_numbers_length b zero bs = refl
row_numbers_length b (suc n) bs = ap suc (row_numbers_length b n (drop b bs))

-- of the numbers the first k are as Q says, and the others are 0
abbrev Filling : (ℕ → Type 0) → ℕ → List ℕ → Type 0
Filling Q k [] = Unit {0}
Filling Q zero (m ∷ ms) = (m ≡ 0) × Filling Q zero ms
Filling Q (suc k) (m ∷ ms) = Q m × Filling Q k ms

-- rows that a table lacks are empty
no_rows : (p q n : ℕ) → row_sets [] p n ≡ row_sets [] q n
unfolding row_sets
no_rows p q zero = refl
no_rows p q (suc n) = ap (λ l. set_number 0 [] ∷ l) (no_rows (suc p) (suc q) n)

rows_of_table : (Q : ℕ → Type 0) (g : ℕ → List ℕ) → ((m : ℕ) → Q m → set_number 0 (g m) ≡ m) → (k : ℕ) (ms : List ℕ) → Filling Q k ms
    → row_sets (map g (take k ms)) 0 (length ms) ≡ ms
unfolding row_sets set_number
rows_of_table Q g s k [] f = refl
rows_of_table Q g s zero (m ∷ ms) (e, f) = ap₂ ◌∷◌ (sym e) (no_rows 1 0 (length ms) ∙ rows_of_table Q g s zero ms f)
rows_of_table Q g s (suc k) (m ∷ ms) (e, f) =
    ap₂ ◌∷◌ (s m e) (row_sets_behind (g m) (map g (take k ms)) 0 (length ms) ∙ rows_of_table Q g s k ms f)

row_made_of : (Q : ℕ → Type 0) (g : ℕ → List ℕ) (k : ℕ) (ms : List ℕ) → Filling Q k ms → (x : List ℕ) → In x (map g (take k ms))
    → (m : ℕ) × Q m × (x ≡ g m)
row_made_of Q g zero ms f x i = elim i [ ]
row_made_of Q g (suc k) [] f x i = elim i [ ]
row_made_of Q g (suc k) (m ∷ ms) (q, f) x (here e) = (m, q, e)
row_made_of Q g (suc k) (m ∷ ms) (q, f) x (there i) = row_made_of Q g k ms f x i

-- where the rows pass their tests, those up to r are as Q says and the others are 0
filled : (r : ℕ) (f : ℕ → ℕ → Bool) (Q : ℕ → Type 0) → ((p m : ℕ) → f p m ≡ true → p ≤ r → Q m)
    → ((p m : ℕ) → f p m ≡ true → r < p → m ≡ 0) → (p : ℕ) (ms : List ℕ) (k : ℕ) → k ≡ suc r - p → rows_pass f p ms ≡ true → Filling Q k ms
unfolding rows_pass
filled r f Q inside outside p [] k h e = tt
filled r f Q inside outside p (m ∷ ms) zero h e = (
  outside p m (and_left (f p m) (rows_pass f (suc p) ms) e) (omega arith),
  filled r f Q inside outside (suc p) ms zero (omega arith) (and_right (f p m) (rows_pass f (suc p) ms) e),
)
filled r f Q inside outside p (m ∷ ms) (suc k) h e = (
  inside p m (and_left (f p m) (rows_pass f (suc p) ms) e) (omega arith),
  filled r f Q inside outside (suc p) ms k (omega arith) (and_right (f p m) (rows_pass f (suc p) ms) e),
)

module _ (r : ℕ) where
  -- what the test of a row of M says, and that of a row of N
  abbrev OfM : ℕ → Type 0
  OfM m = (m < 2 ^ suc r) × (m % 2 ≡ 0)

  abbrev OfN : ℕ → Type 0
  OfN m = m < 2 ^ suc r

  M-inside : (p m : ℕ) → row_of_m r p m ≡ true → p ≤ r → OfM m
  unfolding row_of_m
  M-inside p m e h =
      let t : (ltb m (2 ^ suc r) && eqb (m % 2) 0) ≡ true =
      sym (ap (λ b. cond b (ltb m (2 ^ suc r) && eqb (m % 2) 0) (eqb m 0)) (le-leb p r h)) ∙ e in
      (ltb-true m (2 ^ suc r) (and_left (ltb m (2 ^ suc r)) (eqb (m % 2) 0) t), eqb-true (m % 2) 0 (and_right (ltb m (2 ^ suc r)) (eqb (m % 2) 0) t))

  M-outside : (p m : ℕ) → row_of_m r p m ≡ true → r < p → m ≡ 0
  unfolding row_of_m
  M-outside p m e h =
      eqb-true m 0 (sym (ap (λ b. cond b (ltb m (2 ^ suc r) && eqb (m % 2) 0) (eqb m 0)) (lt-leb p r h)) ∙ e)

  N-inside : (q m : ℕ) → row_of_n r q m ≡ true → q ≤ r → OfN m
  unfolding row_of_n
  N-inside q m e h = go (leb 1 q && leb q r) e
    where
      go : (b : Bool) → cond b (ltb m (2 ^ suc r)) (eqb m 0) ≡ true → m < 2 ^ suc r
      go true t = ltb-true m (2 ^ suc r) t
      go false t = let z : m ≡ 0 = eqb-true m 0 t in omega (arith, pow_pos (suc r))

  N-outside : (q m : ℕ) → row_of_n r q m ≡ true → (leb 1 q && leb q r) ≡ false → m ≡ 0
  unfolding row_of_n
  N-outside q m e h = eqb-true m 0 (sym (ap (λ b. cond b (ltb m (2 ^ suc r)) (eqb m 0)) h) ∙ e)

  -- a table that was read from numbers that pass: its size, its rows, and the numbers of its rows
  table_size : (ms : List ℕ) → suc r ≤ length ms → length (table_of r ms) ≡ suc r
  unfolding table_of
  table_size ms h = length-map (take (suc r) ms) (number_set 0 (suc r)) ∙ length-take-le (suc r) ms h

  small_back : (m : ℕ) → m < 2 ^ suc r → set_number 0 (number_set 0 (suc r) m) ≡ m
  small_back m h = let e : suc r - 0 ≡ suc r = omega arith in set_as_written 0 (suc r) m (subst (λ i. m < 2 ^ i) (sym e) h)

  M-rising : (m : ℕ) → OfM m → RisingWithin 1 (suc r) (number_set 0 (suc r) m)
  M-rising m (h, e) =
      let l : 0 + suc r ≡ suc r = omega arith in
      subst (λ hi. RisingWithin 1 hi (number_set 0 (suc r) m)) l
      (subst (RisingWithin 1 (0 + suc r)) (sym (row_picked (suc r) m)) (even_rising 0 r m e))

  N-rising : (m : ℕ) → OfN m → RisingWithin 0 (suc r) (number_set 0 (suc r) m)
  unfolding number_set picked
  N-rising m h = filter_rising (λ k. bit (k - 0) m) 0 (suc r) (omega arith)

  table_rising : (Q : ℕ → Type 0) (lo : ℕ) → ((m : ℕ) → Q m → RisingWithin lo (suc r) (number_set 0 (suc r) m)) → (ms : List ℕ)
      → Filling Q (suc r) ms → (x : List ℕ) → In x (table_of r ms) → RisingWithin lo (suc r) x
  unfolding table_of
  table_rising Q lo rise ms f x i =
      let (m, q, e) = row_made_of Q (number_set 0 (suc r)) (suc r) ms f x i in
      subst (RisingWithin lo (suc r)) (sym e) (rise m q)

  table_back : (Q : ℕ → Type 0) → ((m : ℕ) → Q m → m < 2 ^ suc r) → (ms : List ℕ) (n : ℕ) → length ms ≡ n → Filling Q (suc r) ms
      → row_sets (table_of r ms) 0 n ≡ ms
  unfolding table_of
  table_back Q small ms n l f =
      subst (λ n. row_sets (map (number_set 0 (suc r)) (take (suc r) ms)) 0 n ≡ ms) l
      (rows_of_table Q (number_set 0 (suc r)) (λ m q. small_back m (small m q)) (suc r) ms f)

  table_written : (Q : ℕ → Type 0) → ((m : ℕ) → Q m → m < 2 ^ suc r) → (bs : List ℕ) → width * row_length ≤ length bs → AllBytes bs
      → Filling Q (suc r) (row_numbers row_length width bs)
      → table_bytes (table_of r (row_numbers row_length width bs)) ++ drop (width * row_length) bs ≡ bs
  unfolding table_bytes
  table_written Q small bs l b f =
      let ms : List ℕ = row_numbers row_length width bs in
      rows_as_written row_length (table_of r ms) 0 width bs l b (table_back Q small ms width (row_numbers_length row_length width bs) f)

  -- row 0 of N was tested to hold nothing
  first_empty : (ms : List ℕ) → rows_pass (row_of_n r) 0 ms ≡ true → row (table_of r ms) 0 ≡ []
  unfolding rows_pass table_of
  first_empty [] e = refl
  first_empty (m ∷ ms) e =
      let z : m ≡ 0 = N-outside 0 m (and_left (row_of_n r 0 m) (rows_pass (row_of_n r) 1 ms) e) refl in
      ap (number_set 0 (suc r)) z ∙ row_picked (suc r) 0 ∙ no_bits 0 (suc r)

-- a flag
flag_as_written : (y : ℕ) → leb y 1 ≡ true → cond (eqb y 1) 1 0 ≡ y
flag_as_written zero h = refl
flag_as_written (suc zero) h = refl
flag_as_written (suc (suc y)) h = absurd (omega (arith, leb-true (suc (suc y)) 1 h))

module _ (D : Decision) (s : Ring) (few : occurrences D.right < width) where
  written : (x y : ℕ) (p m n p' m' n' : List ℕ) (z : ℕ) → z ≡ y → p' ≡ p → m' ++ n ≡ m ++ n → n' ≡ n
      → x ∷ y ∷ (p ++ (m ++ n)) ≡ x ∷ z ∷ (p' ++ (m' ++ n'))
  written x y p m n p' m' n' z ey ep em en =
      sym (ap (λ t. x ∷ z ∷ (p' ++ (m' ++ t))) en ∙ ap (λ t. x ∷ z ∷ (p' ++ t)) em ∙ (λ i. x ∷ ey i ∷ (ep i ++ (m ++ n))))

  parts_exactly : (x y : ℕ) (p m n : List ℕ) → length p ≡ 8 → length m ≡ width * row_length → length n ≡ width * row_length
      → AllBytes p → AllBytes (m ++ n) → AllBytes n → ring_of D (x ∷ y ∷ (p ++ (m ++ n))) ≡ some s
      → (x ∷ y ∷ (p ++ (m ++ n)) ≡ ring_bytes s) × RingShaped D s
  unfolding ring_bytes
  parts_exactly x y p m n hp hm hn bp bmn bn e =
      let M : List ℕ = row_numbers row_length width (m ++ n) in
      let N : List ℕ = row_numbers row_length width n in
      let R : ℕ = occurrences D.right in
      let L : ℕ = occurrences D.left in
      let t₁ : Bool = ltb x D.atoms in
      let t₂ : Bool = leb y 1 in
      let t₃ : Bool = set_fits L p in
      let t₄ : Bool = rows_pass (row_of_m R) 0 M in
      let t₅ : Bool = rows_pass (row_of_n R) 0 N in
      let (all, is) = provided_some (parts_pass D x y p M N) (parts_ring D x y p M N) s (sym (ring_of_parts D x y p m n hp hm hn) ∙ e) in
      let h₄ : (t₁ && t₂ && t₃ && t₄) ≡ true = and_left (t₁ && t₂ && t₃ && t₄) t₅ all in
      let h₃ : (t₁ && t₂ && t₃) ≡ true = and_left (t₁ && t₂ && t₃) t₄ h₄ in
      let h₂ : (t₁ && t₂) ≡ true = and_left (t₁ && t₂) t₃ h₃ in
      let pass_m : t₄ ≡ true = and_right (t₁ && t₂ && t₃) t₄ h₄ in
      let pass_n : t₅ ≡ true = and_right (t₁ && t₂ && t₃ && t₄) t₅ all in
      let (set, rising) = set_exactly L p hp bp (and_right (t₁ && t₂) t₃ h₃) in
      let f_m : Filling (OfM R) (suc R) M = filled R (row_of_m R) (OfM R) (M-inside R) (M-outside R) 0 M (suc R) (omega arith) pass_m in
      let f_n : Filling (OfN R) (suc R) N =
      filled R (row_of_n R) (OfN R) (N-inside R) (λ q k t o. N-outside R q k t (rw (lt-leb q R o) (none (leb 1 q)))) 0 N (suc R) (omega arith) pass_n in
      let table_m : table_bytes (table_of R M) ++ n ≡ m ++ n =
      ap (λ t. table_bytes (table_of R M) ++ t) (sym (drop_at m n (width * row_length) hm))
      ∙ table_written R (OfM R) (λ k q. q.0) (m ++ n) (omega (arith, length-append m n)) bmn f_m in
      let table_n : table_bytes (table_of R N) ≡ n =
      sym (append-nil (table_bytes (table_of R N)))
      ∙ ap (λ t. table_bytes (table_of R N) ++ t) (sym (drop_of_length-le n {i = width * row_length} (omega arith)))
      ∙ table_written R (OfN R) (λ k q. q) n (omega arith) bn f_n in
      let flag : cond (eqb y 1) 1 0 ≡ y = flag_as_written y (and_right t₁ t₂ h₂) in
      subst (λ u. (x ∷ y ∷ (p ++ (m ++ n)) ≡ ring_bytes u) × RingShaped D u) is (
        written x y p m n (set_bytes (set_of L p)) (table_bytes (table_of R M)) (table_bytes (table_of R N)) (cond (eqb y 1) 1 0) flag set table_m table_n,
        record {
          first = ltb-true x D.atoms (and_left t₁ t₂ h₂);
          left = rising;
          size_m = table_size R M (omega (arith, row_numbers_length row_length width (m ++ n)));
          rows_m = table_rising R (OfM R) 1 (M-rising R) M f_m;
          size_n = table_size R N (omega (arith, row_numbers_length row_length width n));
          rows_n = table_rising R (OfN R) 0 (N-rising R) N f_n;
          empty_n = first_empty R N pass_n;
        },
      )
    where
      none : (b : Bool) → (b && false) ≡ false
      none true = refl
      none false = refl

  ring_length : (bs : List ℕ) → ring_of D bs ≡ some s → length bs ≡ contents_length true
  unfolding ring_of
  ring_length bs e =
      let (all, is) = provided_some _ _ s e in
      eqb-true (length bs) (contents_length true)
      (and_left _ _ (and_left _ _ (and_left _ _ (and_left _ _ (and_left _ _ all)))))

  split_exactly : (bs : List ℕ) → length bs ≡ contents_length true → AllBytes bs → ring_of D bs ≡ some s
      → (bs ≡ ring_bytes s) × RingShaped D s
  unfolding contents_length
  split_exactly [] l b e = absurd (omega arith)
  split_exactly (x ∷ []) l b e = absurd (omega arith)
  split_exactly (x ∷ y ∷ bs) l b e =
      let w : ℕ = width * row_length in
      let rest : List ℕ = drop 8 bs in
      let split : x ∷ y ∷ bs ≡ x ∷ y ∷ (take 8 bs ++ (take w rest ++ drop w rest)) =
      ap (λ t. x ∷ y ∷ t) (sym (ap (λ t. take 8 bs ++ t) (take-append-drop w rest) ∙ take-append-drop 8 bs)) in
      let bytes : AllBytes bs = λ k i. b k (there (there i)) in
      let long : length rest ≡ w + w = length-drop 8 bs ∙ omega arith in
      let (p, h) =
      parts_exactly x y (take 8 bs) (take w rest) (drop w rest) (length-take-le 8 bs (omega arith)) (length-take-le w rest (omega arith))
      (length-drop w rest ∙ omega arith) (bytes_take 8 bs bytes)
      (subst AllBytes (sym (take-append-drop w rest)) (bytes_drop 8 bs bytes)) (bytes_drop w rest (bytes_drop 8 bs bytes))
      (sym (ap (ring_of D) split) ∙ e)
      in
      (split ∙ p, h)

  -- bytes that are read as a ring standing are its bytes, and a sheet may list it
  pub ring_exactly : (bs : List ℕ) → AllBytes bs → ring_of D bs ≡ some s → (bs ≡ ring_bytes s) × RingShaped D s
  ring_exactly bs b e = split_exactly bs (ring_length bs e) b e
