-- The cells of a ring standing laid out: head and P, then the rows of M, then those of N; and that each has four bytes.
-- Assumes nothing.
use Prim.Native.Nat.{ℕ, zero, suc, ◌+◌, ◌/◌, ◌^◌, ◌≤◌, ◌<◌}
use native.Mathlib.Omega.{arith}
use mathlib.Core.Path.{◌≡◌, refl, sym, ◌∙◌, ap, ap₂, subst}
use mathlib.Core.Logic.{⊎_elim}
use mathlib.Core.Bool.{Bool, true, false, cond, not, ◌||◌}
use mathlib.Core.List.{List, [], ◌∷◌, ◌++◌, append-nil}
use lib.Dec.{eqb}
use lib.ListN.{length, get_or, take, drop, length-append, length-take, length-drop, drop_of_length-le, get_or-eq_default}
use lib.Seq.{take_at, drop_at}
use Rattle.kat.specs.Lists.{upto, filter}
use Rattle.kat.proofs.Bools.{le_or_lt}
use Rattle.claims.specs.Fields.{set_number}
use Rattle.claims.specs.Standings.{Letter}
use Rattle.memory.specs.Memory.{words, zeros}
use Rattle.memory.proofs.Words.{words_at_lem, words_length}
use Rattle.memory.proofs.Zeros.{zeros_words}
use Rattle.side_atoms.proofs.Atoms.{number_small}
use Rattle.standings.specs.Steps.{step_from, step_set, ends_set, null_at, joined}
use Rattle.standings.proofs.Joined.{joined_small}
use Rattle.sheet_standings.specs.Layout.{halves, wide}
use Rattle.sheet_standings.specs.RingCells.{head_cell, first_in, flag_in, row_m, row_n, ring_cells, raised, flag, opened, sent, ring_begin, ring_onward}
use Rattle.sheet_ring.specs.inner.Head.{headed}

-- head and P, and what follows them
pub head_laid : (to rest : List ℕ) (head p : ℕ) → length to ≡ 67 → take 3 (headed to head p) ++ rest ≡ head ∷ (halves p ++ rest)
unfolding headed halves
head_laid [] rest head p h = absurd (omega arith)
head_laid (x ∷ []) rest head p h = absurd (omega arith)
head_laid (x ∷ y ∷ []) rest head p h = absurd (omega arith)
head_laid (x ∷ y ∷ z ∷ to) rest head p h = refl

-- the rows of M and then the rows of N, written behind them
rows_behind : (to rows pairs : List ℕ) → length to ≡ 67 → length rows ≡ 32
    → let u = take 3 to ++ (rows ++ drop 32 (drop 3 to)) in take 35 u ++ (pairs ++ drop 32 (drop 35 u)) ≡ take 3 to ++ (rows ++ pairs)
rows_behind [] rows pairs h i = absurd (omega arith)
rows_behind (x ∷ []) rows pairs h i = absurd (omega arith)
rows_behind (x ∷ y ∷ []) rows pairs h i = absurd (omega arith)
rows_behind (x ∷ y ∷ z ∷ to) rows pairs h i =
    ap₂ (λ a b. x ∷ y ∷ z ∷ (a ++ (pairs ++ drop 32 b))) (take_at rows (drop 32 to) 32 i) (drop_at rows (drop 32 to) 32 i)
    ∙ ap (λ b. x ∷ y ∷ z ∷ (rows ++ (pairs ++ b)))
    (drop_of_length-le (drop 32 to) {i = 32} (omega (arith, length-drop 32 to)))
    ∙ ap (λ b. x ∷ y ∷ z ∷ (rows ++ b)) (append-nil pairs)

pub rows_laid : (to : List ℕ) → length to ≡ 67 → {rows pairs m n : List ℕ} → rows ≡ m → pairs ≡ n → length m ≡ 32
    → let u = take 3 to ++ (rows ++ drop 32 (drop 3 to)) in take 35 u ++ (pairs ++ drop 32 (drop 35 u)) ≡ take 3 to ++ (m ++ n)
rows_laid to h {rows} {pairs} e f i =
    rows_behind to rows pairs h (ap length e ∙ i) ∙ ap₂ (λ x y. take 3 to ++ (x ++ y)) e f

-- cells of four bytes
abbrev Small : List ℕ → Type 0
Small l = (i : ℕ) → get_or l i 0 < 2 ^ 32

words_small : (n : ℕ) (f : ℕ → ℕ) → ((k : ℕ) → f k < 2 ^ 32) → Small (words n f)
words_small n f h i =
    ⊎_elim (λ k. subst (λ w. w < 2 ^ 32) (sym (get_or-eq_default (words n f) 0 (omega (arith, words_length n f)))) (omega arith))
    (λ k. subst (λ w. w < 2 ^ 32) (sym (words_at_lem n f i k)) (h i)) (le_or_lt n i)

append_small : (l m : List ℕ) → Small l → Small m → Small (l ++ m)
append_small [] m h k i = k i
append_small (x ∷ l) m h k zero = h zero
append_small (x ∷ l) m h k (suc i) = append_small l m (λ j. h (suc j)) k i

pub ring_small : (head p : ℕ) (m n : ℕ → ℕ) → head < 2 ^ 32 → p < 2 ^ 64 → ((k : ℕ) → m k < 2 ^ 32) → ((k : ℕ) → n k < 2 ^ 32)
    → Small (ring_cells head p m n)
unfolding ring_cells halves
ring_small head p m n h k x y zero = h
ring_small head p m n h k x y (suc zero) = omega arith
ring_small head p m n h k x y (suc (suc zero)) = omega arith
ring_small head p m n h k x y (suc (suc (suc i))) = append_small (words 32 m) (words 32 n) (words_small 32 m x) (words_small 32 n y) i

pub head_small : (first z : ℕ) → first < 256 → z ≤ 1 → head_cell first z < 2 ^ 32
unfolding head_cell
head_small first z h k = omega arith

flag_small : (b : Bool) → flag b ≤ 1
flag_small true = omega arith
flag_small false = omega arith

pub raised_small : (s : ℕ) → raised s < 2 ^ 32
unfolding raised
raised_small s = omega arith

-- how many cells are cleared behind the rows of M
pub cleared_length : (to : List ℕ) → length to ≡ 67 → {rows m : List ℕ} → rows ≡ m → length m ≡ 32
    → length (take 32 (drop 35 (take 3 to ++ (rows ++ drop 32 (drop 3 to))))) ≡ 32
cleared_length to h {rows} e i =
    let u : List ℕ = take 3 to ++ (rows ++ drop 32 (drop 3 to)) in
    let j : length rows ≡ 32 = ap length e ∙ i in
    length-take 32 (drop 35 u)
    ∙ omega (
      arith,
      length-drop 35 u,
      length-append (take 3 to) (rows ++ drop 32 (drop 3 to)),
      length-append rows (drop 32 (drop 3 to)),
      length-drop 32 (drop 3 to),
      length-drop 3 to,
      length-take 3 to,
    )

pub first_small : (s : List ℕ) → first_in s < 256
unfolding first_in
first_small s = omega arith

-- what is sent on has four bytes
sent_small : (right s : List ℕ) (a : ℕ) → Small s → (o : ℕ) → sent right s a o < 2 ^ 32
unfolding sent opened row_n
sent_small right s a h o = go (eqb o 0)
  where
    go : (b : Bool) → cond b (set_number 0 (filter (λ p. ends_set right (row_m s p / 2) a) (upto 0 32))) (get_or s (35 + o) 0) < 2 ^ 32
    go true = number_small (λ p. ends_set right (row_m s p / 2) a) 0 32 (omega arith)
    go false = h (35 + o)

module _ (left right : List ℕ) (l : Letter) (to mid out : List ℕ) (full : length to ≡ 67) where
  -- the standing of a prefix of one relation
  pub begun : (p z : ℕ) → p < 2 ^ 64 → l.atom < 256 → mid ≡ headed to (head_cell l.atom z) p
      → out ≡ take 3 mid ++ (words 32 (λ q. raised (step_from right q l.atom l.relation)) ++ zeros 32)
      → p ≡ step_from left 0 l.atom l.relation → z ≡ flag (null_at right l.atom)
      → (out ≡ ring_begin left right l) × Small out
  unfolding ring_begin ring_cells
  begun p z hp ha em eo ep ez =
      let rows : ℕ → ℕ = λ q. raised (step_from right q l.atom l.relation) in
      let e : out ≡ ring_cells (head_cell l.atom z) p rows (λ q. 0) =
      eo ∙ ap₂ (λ m n. take 3 m ++ (words 32 rows ++ n)) em (zeros_words 32)
      ∙ head_laid to (words 32 rows ++ words 32 (λ q. 0)) (head_cell l.atom z) p full in
      let s : z ≤ 1 = subst (λ w. w ≤ 1) (sym ez) (flag_small (null_at right l.atom)) in (
        e ∙ ap₂ (λ x y. ring_cells (head_cell l.atom x) y rows (λ q. 0)) ez ep,
        subst Small (sym e)
            (ring_small (head_cell l.atom z) p rows (λ q. 0) (head_small l.atom z ha s) hp
            (λ q. raised_small (step_from right q l.atom l.relation)) (λ q. omega arith)),
      )

  -- the standing of a prefix one relation longer
  pub gone_on : (s : List ℕ) → Small s → (p z : ℕ) → p < 2 ^ 64 → mid ≡ headed to (head_cell (first_in s) z) p
      → out ≡ take 3 mid ++ (words 32 (λ q. raised (step_set right (row_m s q / 2) l.atom l.relation))
      ++ words 32 (λ q. cond (eqb q 0) 0 (joined right l (sent right s l.atom) q (upto 0 32))))
      → p ≡ step_set left (wide s 1) l.atom l.relation → z ≡ flag (not (eqb (flag_in s) 0) || null_at right l.atom)
      → (out ≡ ring_onward left right s l) × Small out
  unfolding ring_onward ring_cells
  gone_on s small p z hp em eo ep ez =
      let rows : ℕ → ℕ = λ q. raised (step_set right (row_m s q / 2) l.atom l.relation) in
      let pairs : ℕ → ℕ = λ q. cond (eqb q 0) 0 (joined right l (sent right s l.atom) q (upto 0 32)) in
      let e : out ≡ ring_cells (head_cell (first_in s) z) p rows pairs =
      eo ∙ ap (λ m. take 3 m ++ (words 32 rows ++ words 32 pairs)) em
      ∙ head_laid to (words 32 rows ++ words 32 pairs) (head_cell (first_in s) z) p full in
      let f : z ≤ 1 = subst (λ w. w ≤ 1) (sym ez) (flag_small (not (eqb (flag_in s) 0) || null_at right l.atom)) in (
        e ∙ ap₂ (λ x y. ring_cells (head_cell (first_in s) x) y rows pairs) ez ep,
        subst Small (sym e)
            (ring_small (head_cell (first_in s) z) p rows pairs (head_small (first_in s) z (first_small s) f) hp
            (λ q. raised_small (step_set right (row_m s q / 2) l.atom l.relation))
            (λ q. pair_small (eqb q 0)
            (joined_small right l (sent right s l.atom) q 32 (upto 0 32) (λ o i. sent_small right s l.atom small o)))),
      )
    where
      pair_small : (b : Bool) {w : ℕ} → w < 2 ^ 32 → cond b 0 w < 2 ^ 32
      pair_small true h = omega arith
      pair_small false h = h
