-- A ring standing put together: cells made of a first atom, Z, P and rows are good where each part is as it may be, and show the standing of
-- those parts. (Document 01, "Standings".) A row of M is a set of occurrences moved up by one bit; both are one set.
-- Assumes nothing.
use Prim.Native.Nat.{ℕ, zero, suc, ◌*◌, ◌-◌, ◌/◌, ◌%◌, ◌^◌, ◌≤◌, ◌<◌}
use native.Mathlib.Nat.{pow-suc, pow-le-pow_right, lt_of_lt_of_le, mod-eq_of_lt}
use native.Mathlib.Omega.{arith}
use mathlib.Core.Path.{◌≡◌, refl, sym, ◌∙◌, ap, ap₂, subst}
use mathlib.Core.Bool.{Bool, true, false, not}
use mathlib.Core.List.{List, map}
use lib.Dec.{eqb}
use lib.ListN.{length}
use Rattle.kat.specs.Lists.{upto}
use Rattle.kat.specs.Tables.{occurrences}
use Rattle.kat.proofs.Sets.{upto_in, map_same}
use Rattle.claims.specs.Fields.{number_set}
use Rattle.claims.specs.Sides.{Decision}
use Rattle.claims.specs.SheetReading.{table_of}
use Rattle.claims.specs.Standings.{Ring}
use Rattle.claims.proofs.SetBytes.{picked, picked_even}
use Rattle.sheet_standings.specs.Layout.{cell_count}
use Rattle.sheet_standings.specs.RingCells.{head_cell, first_in, flag_in, row_m, row_n, ring_cells, raised, flag, ring_shown}
use Rattle.sheet_standings.specs.CellSystem.{cells_fit}
use Rattle.sheet_standings.specs.Good.{GoodCells}
use Rattle.sheet_standings.proofs.RingRows.{ring_length, ring_head, ring_p, ring_m, ring_n, ring_small, rows_m_lem, rows_n_lem, table_rows}
use Rattle.sheet_standings.proofs.RingFits.{RingFacts, facts_fit, fit_facts}

-- a set counted from 0, without 0, is half of it counted from 1
pub doubled_shown : (n m x : ℕ) → m ≡ 2 * x → number_set 0 (suc n) m ≡ number_set 1 (suc n) x
unfolding number_set picked
doubled_shown n m x e =
    let z : suc n - 0 ≡ suc n = omega arith in
    let y : n ≡ suc n - 1 = omega arith in
    ap (λ k. picked 0 k m) z ∙ picked_even 0 n m x e ∙ ap (λ k. picked 1 k x) y

pub lowered_small : (n m : ℕ) → m < 2 ^ suc n → m / 2 < 2 ^ n
lowered_small n m h = let z : 2 ^ suc n ≡ 2 ^ n * 2 = pow-suc 2 n in omega arith

pub lowered_shown : (n m : ℕ) → m % 2 ≡ 0 → number_set 1 (suc n) (m / 2) ≡ number_set 0 (suc n) m
lowered_shown n m h = sym (doubled_shown n m (m / 2) (omega arith))

-- occurrences as a row
module _ (n w : ℕ) (few : n ≤ 31) (h : w < 2 ^ n) where
  raised_double : raised w ≡ 2 * w
  unfolding raised
  raised_double =
      let z : w % 2 ^ 31 ≡ w =
      mod-eq_of_lt (lt_of_lt_of_le h (pow-le-pow_right {n = 2} (omega arith) {i = n} {j = 31} few)) in
      ap (λ k. k * 2) z ∙ omega arith

  pub raised_small : raised w < 2 ^ suc n
  raised_small = let z : 2 ^ suc n ≡ 2 ^ n * 2 = pow-suc 2 n in subst (λ k. k < 2 ^ suc n) (sym raised_double) (omega arith)

  pub raised_even : raised w % 2 ≡ 0
  raised_even = ap (λ k. k % 2) raised_double ∙ omega arith

  pub raised_shown : number_set 0 (suc n) (raised w) ≡ number_set 1 (suc n) w
  raised_shown = doubled_shown n (raised w) w raised_double

-- a flag is 0 or 1
flag_low : (b : Bool) → flag b ≤ 1
flag_low true = omega arith
flag_low false = omega arith

flag_set : (b : Bool) → eqb (flag b) 1 ≡ b
flag_set true = refl
flag_set false = refl

-- Z of a standing as its bit
pub flag_test : (z : ℕ) → z ≤ 1 → not (eqb z 0) ≡ eqb z 1
flag_test zero h = refl
flag_test (suc zero) h = refl
flag_test (suc (suc z)) h = absurd (omega arith)

-- a ring by its fields
abbrev pub made : ℕ → Bool → List ℕ → List (List ℕ) → List (List ℕ) → Ring
made f z p m n = record { first = f; Z = z; P = p; M = m; N = n }

pub ring_equal : (s t : Ring) → s.first ≡ t.first → s.Z ≡ t.Z → s.P ≡ t.P → s.M ≡ t.M → s.N ≡ t.N → s ≡ t
ring_equal s t f z p m n = λ i. made (f i) (z i) (p i) (m i) (n i)

-- what good cells say
module _ (D : Decision) (s : List ℕ) (good : GoodCells true D s) where
  pub good_size : length s ≡ 67
  unfolding cell_count
  good_size = good.size

  pub good_facts : RingFacts D.atoms (occurrences D.left) (occurrences D.right) s
  unfolding cells_fit
  good_facts = fit_facts D.atoms (occurrences D.left) (occurrences D.right) s good_size good.fits

-- the tables that cells show
module _ (D : Decision) (s : List ℕ) (size : length s ≡ 67) (few : occurrences D.right ≤ 31) where
  abbrev r : ℕ
  r = occurrences D.right

  pub shown_m : (ring_shown D s).M ≡ map (λ p. number_set 0 (suc r) (row_m s p)) (upto 0 (suc r))
  shown_m = ap (table_of r) (rows_m_lem s size) ∙ table_rows r 32 (row_m s) (omega arith)

  pub shown_n : (ring_shown D s).N ≡ map (λ q. number_set 0 (suc r) (row_n s q)) (upto 0 (suc r))
  shown_n = ap (table_of r) (rows_n_lem s size) ∙ table_rows r 32 (row_n s) (omega arith)

-- cells made of parts
module _ (D : Decision) (first : ℕ) (b : Bool) (P : ℕ) (m n : ℕ → ℕ) (low : first < 256) where
  abbrev cells : List ℕ
  cells = ring_cells (head_cell first (flag b)) P m n

  pub made_first : first_in cells ≡ first
  unfolding first_in head_cell
  made_first =
      ap (λ k. k / 256 % 256) (ring_head (head_cell first (flag b)) P m n) ∙ omega (arith, flag_low b)

  pub made_flag : flag_in cells ≡ flag b
  unfolding flag_in head_cell
  made_flag = ap (λ k. k % 256) (ring_head (head_cell first (flag b)) P m n) ∙ omega (arith, flag_low b)

  made_m : (p : ℕ) → p < 32 → row_m cells p ≡ m p
  made_m = ring_m (head_cell first (flag b)) P m n

  made_n : (q : ℕ) → q < 32 → row_n cells q ≡ n q
  made_n = ring_n (head_cell first (flag b)) P m n

  module _ (few : occurrences D.right ≤ 31) where
    abbrev right : ℕ
    right = occurrences D.right

    -- the standing that they show
    pub made_shown : (p : List ℕ) (M N : ℕ → List ℕ) → number_set 1 (suc (occurrences D.left)) P ≡ p
        → ((k : ℕ) → k ≤ right → number_set 0 (suc right) (m k) ≡ M k) → ((k : ℕ) → k ≤ right → number_set 0 (suc right) (n k) ≡ N k)
        → ring_shown D cells ≡ made first b p (map M (upto 0 (suc right))) (map N (upto 0 (suc right)))
    made_shown p M N e f g =
        let size : length cells ≡ 67 = ring_length (head_cell first (flag b)) P m n in
        ring_equal (ring_shown D cells) (made first b p (map M (upto 0 (suc right))) (map N (upto 0 (suc right))))
        made_first (ap (λ k. eqb k 1) made_flag ∙ flag_set b)
        (ap (number_set 1 (suc (occurrences D.left))) (ring_p (head_cell first (flag b)) P m n) ∙ e)
        (shown_m D cells size few
        ∙ map_same (λ k. number_set 0 (suc right) (row_m cells k)) M (upto 0 (suc right))
        (λ k i. let (x, y) = upto_in k 0 (suc right) i in
        ap (number_set 0 (suc right)) (made_m k (omega arith)) ∙ f k (omega arith)))
        (shown_n D cells size few
        ∙ map_same (λ k. number_set 0 (suc right) (row_n cells k)) N (upto 0 (suc right))
        (λ k i. let (x, y) = upto_in k 0 (suc right) i in
        ap (number_set 0 (suc right)) (made_n k (omega arith)) ∙ g k (omega arith)))

    -- cells whose parts are as they may be are good
    pub made_good : occurrences D.left ≤ 64 → first < D.atoms → P < 2 ^ occurrences D.left
        → ((p : ℕ) → p < 32 → (m p < 2 ^ suc right) × (m p % 2 ≡ 0)) → ((p : ℕ) → right < p → p < 32 → m p ≡ 0)
        → ((q : ℕ) → q < 32 → n q < 2 ^ suc right) → n 0 ≡ 0 → ((q : ℕ) → right < q → q < 32 → n q ≡ 0) → GoodCells true D cells
    unfolding cell_count cells_fit head_cell
    made_good fits live p f f-past g g-none g-past =
        let size : length cells ≡ 67 = ring_length (head_cell first (flag b)) P m n in
        let P-wide : P < 2 ^ 64 =
        lt_of_lt_of_le p (pow-le-pow_right {n = 2} (omega arith) {i = occurrences D.left} {j = 64} fits) in
        let row_wide : 2 ^ suc right ≤ 2 ^ 32 = pow-le-pow_right {n = 2} (omega arith) {i = suc right} {j = 32} (omega arith) in
        record {
          size = size;
          small = ring_small (head_cell first (flag b)) P m n (omega (arith, flag_low b)) P-wide (λ k h. lt_of_lt_of_le (f k h).0 row_wide)
              (λ k h. lt_of_lt_of_le (g k h) row_wide);
          head = λ e. ring_head (head_cell first (flag b)) P m n ∙ sym (ap₂ head_cell made_first made_flag);
          fits = facts_fit D.atoms (occurrences D.left) right cells size
              (record {
                first_low = subst (λ k. k < D.atoms) (sym made_first) live;
                flag_low = subst (λ k. k ≤ 1) (sym made_flag) (flag_low b);
                P-small = subst (λ k. k < 2 ^ occurrences D.left) (sym (ring_p (head_cell first (flag b)) P m n)) p;
                M-small = λ k h. subst (λ w. w < 2 ^ suc right) (sym (made_m k h)) (f k h).0;
                M-even = λ k h. ap (λ w. w % 2) (made_m k h) ∙ (f k h).1;
                M-past = λ k h l. made_m k l ∙ f-past k h l;
                N-small = λ k h. subst (λ w. w < 2 ^ suc right) (sym (made_n k h)) (g k h);
                N-none = made_n 0 (omega arith) ∙ g-none;
                N-past = λ k h l. made_n k l ∙ g-past k h l;
              });
        }
