-- Words show a ring standing of the definition: M and N as rows of bits. Good words are those that have no bit outside of the side's
-- occurrences; begin and onward give good words, and show what the definition's begin and step give. (Document 01, "Standings".) The rows
-- are filters over the definition's own ranges, so each row is one comparison of tests.
-- Assumes nothing.
use Prim.Native.Nat.{ℕ, zero, suc, ◌+◌, ◌-◌, ◌^◌, ◌≤◌, ◌<◌}
use native.Mathlib.Omega.{arith}
use mathlib.Core.Path.{◌≡◌, refl, sym, ◌∙◌, ap, ap₂}
use mathlib.Core.Logic.{⊎_elim}
use mathlib.Core.Bool.{Bool, true, false, cond, not, ◌&&◌, ◌||◌, and-false, or-false}
use mathlib.Core.List.{List, [], ◌∷◌, map, map-map}
use lib.Dec.{eqb}
use lib.ListN.{length, get_or}
use borrow.Author.Tests.{ne_eqb}
use Rattle.kat.specs.Lists.{upto, filter, some, member}
use Rattle.kat.specs.Tables.{occurrences, reads, next, stop, after, ends}
use Rattle.kat.proofs.Bools.{true_not_false, false_of_not, and_left, and_right, and_both, le_or_lt}
use Rattle.kat.proofs.Sets.{some_in, some_none, filter_none, upto_in, at_upto, filter_same, map_same}
use Rattle.claims.specs.Query.{bit}
use Rattle.claims.specs.Fields.{number_set}
use Rattle.claims.specs.Sides.{Decision}
use Rattle.claims.specs.Standings.{Letter, Ring, row, states, moves, pairs, ring_step}
use Rattle.claims.specs.Standings as ring
use Rattle.bits.proofs.Bit.{bit_none}
use Rattle.bits.proofs.Lists.{some_filter}
use Rattle.side_atoms.proofs.Atoms.{member_filter}
use Rattle.side_tables.specs.SideTable.{side_table}
use Rattle.standings.specs.Steps.{step_from, step_set, enders, null_at}
use Rattle.standings.specs.Steps.{leads}
use Rattle.search_standings.specs.RingWords.{begin_column, opened, onward_column, flag, ring_begin, ring_onward, in_n}
use Rattle.standings.proofs.Tables.{null_shown, ends_bit, from_small, from_shown, set_step_small, set_step_shown}
use Rattle.search_standings.proofs.RingLayout.{ring_length, ring_p, ring_column, ring_first, ring_z}
use Rattle.standings.proofs.Upto.{some_range}
use Rattle.standings.proofs.Moves.{moved_some, leads_moves, leads_past, moves_nowhere}
use Rattle.search_standings.proofs.RingColumns.{begin_bit, begin_past, begin_small, begin_none, onward_bit, onward_small, onward_none, opened_low, opened_high}

-- row p of M and row q of N, for n right occurrences
unfoldable pub row_m : ℕ → List ℕ → ℕ → List ℕ
row_m n u p = filter (λ q. bit p (get_or u q 0)) (upto 1 (suc n))

unfoldable pub row_n : ℕ → List ℕ → ℕ → List ℕ
row_n n u q = filter (in_n u q) (upto 0 (suc n))

-- the standing that the words show, for l left and n right occurrences
unfoldable pub ring_shown : ℕ → ℕ → List ℕ → Ring
ring_shown l n u =
    record {
      first = get_or u 32 0;
      Z = not (eqb (get_or u 33 0) 0);
      P = number_set 1 (suc l) (get_or u 0 0);
      M = map (row_m n u) (upto 0 (suc n));
      N = map (row_n n u) (upto 0 (suc n));
    }

-- words with no bit outside of l left and n right occurrences
pub record GoodRing (l n : ℕ) (u : List ℕ) : Type 0 where
  pub size : length u ≡ 34
  pub P-small : get_or u 0 0 < 2 ^ l
  pub column_small : (q : ℕ) → 1 ≤ q → q < 32 → get_or u q 0 < 2 ^ 64
  pub column_past : (q : ℕ) → n < q → q < 32 → get_or u q 0 ≡ 0
  pub rows_past : (q p : ℕ) → 1 ≤ q → q < 32 → n < p → p < 32 → (bit p (get_or u q 0) ≡ false) × (bit (32 + p) (get_or u q 0) ≡ false)
  pub first_small : get_or u 32 0 < 64
  pub flag_small : get_or u 33 0 < 2

-- a ring by its fields
abbrev made : ℕ → Bool → List ℕ → List (List ℕ) → List (List ℕ) → Ring
made f z p m n = record { first = f; Z = z; P = p; M = m; N = n }

pub ring_equal : (s t : Ring) → s.first ≡ t.first → s.Z ≡ t.Z → s.P ≡ t.P → s.M ≡ t.M → s.N ≡ t.N → s ≡ t
ring_equal s t f z p m n = λ i. made (f i) (z i) (p i) (m i) (n i)

-- a flag is set where its number is not 0, and is below 2
flag_set : (b : Bool) → not (eqb (flag b) 0) ≡ b
flag_set true = refl
flag_set false = refl

flag_two : (b : Bool) → flag b < 2
flag_two true = omega arith
flag_two false = omega arith

-- column q of N, from 1 on
pub in_n_some : (u : List ℕ) (q p : ℕ) → 1 ≤ q → in_n u q p ≡ bit (32 + p) (get_or u q 0)
unfolding in_n
in_n_some u q p h = ap (λ b. cond b false (bit (32 + p) (get_or u q 0))) (ne_eqb q 0 (λ e. omega arith))

pub in_n_none : (u : List ℕ) (p : ℕ) → in_n u 0 p ≡ false
unfolding in_n
in_n_none u p = refl

pub in_n_from : (u : List ℕ) (q p : ℕ) → in_n u q p ≡ true → 1 ≤ q
in_n_from u zero p e = absurd (true_not_false e (in_n_none u p))
in_n_from u (suc q) p e = omega arith

module _ (D : Decision) (l : Letter) (low : l.atom < 64) (letter : l.relation < 16) where
  module _ (few : occurrences D.right ≤ 31) where
    abbrev n : ℕ
    n = occurrences D.right

    abbrev begun : List ℕ
    begun = ring_begin (side_table D.left) (side_table D.right) n l

    begun_p : get_or begun 0 0 ≡ step_from (side_table D.left) 0 l.atom l.relation
    unfolding ring_begin
    begun_p = ring_p _ (begin_column (side_table D.right) n l) _ _

    begun_first : get_or begun 32 0 ≡ l.atom
    unfolding ring_begin
    begun_first = ring_first _ (begin_column (side_table D.right) n l) _ _

    begun_z : get_or begun 33 0 ≡ flag (null_at (side_table D.right) l.atom)
    unfolding ring_begin
    begun_z = ring_z _ (begin_column (side_table D.right) n l) _ _

    begun_column : (q : ℕ) → 1 ≤ q → q < 32 → get_or begun q 0 ≡ begin_column (side_table D.right) n l q
    unfolding ring_begin
    begun_column q h i = ring_column _ (begin_column (side_table D.right) n l) _ _ q h i

    pub ring_good_begin : GoodRing (occurrences D.left) n begun
    unfolding ring_begin
    ring_good_begin =
        record {
          size = ring_length _ (begin_column (side_table D.right) n l) _ _;
          P-small = rw begun_p (from_small D.left l.atom l.relation low letter 0);
          column_small = λ q h i. rw (begun_column q h i) (omega (arith, begin_small (side_table D.right) l n q));
          column_past = λ q h i. begun_column q (omega arith) i ∙ begin_none (side_table D.right) l n q (λ o. leads_past D l low letter o q h);
          rows_past = λ q p h i k j. (
            ap (bit p) (begun_column q h i) ∙ begin_past (side_table D.right) l n q p few k,
            ap (bit (32 + p)) (begun_column q h i) ∙ begin_past (side_table D.right) l n q (32 + p) few (omega arith),
          );
          first_small = rw begun_first low;
          flag_small = rw begun_z (flag_two (null_at (side_table D.right) l.atom));
        }

    begun_m : (p : ℕ) → p ≤ n → row_m n begun p ≡ after D.right (p ∷ []) l.atom l.relation
    unfolding row_m after moves
    begun_m p h =
        filter_same (λ q. bit p (get_or begun q 0)) (λ q. reads D.right 0 q l.relation && some (λ o. next D.right o q l.atom) (p ∷ []))
        (upto 1 (suc n))
        (λ q i. let (a, b) = upto_in q 1 (suc n) i in
        ap (bit p) (begun_column q a (omega arith)) ∙ begin_bit (side_table D.right) l n q p few h
        ∙ leads_moves D l low letter p q (omega arith) a (omega arith)
        ∙ ap (λ c. reads D.right 0 q l.relation && c) (sym (or-false (next D.right p q l.atom))))

    begun_n : (q : ℕ) → q ≤ n → row_n n begun q ≡ []
    unfolding row_n
    begun_n q h =
        filter_same (in_n begun q) (λ p. false) (upto 0 (suc n)) (λ p i. at q p h) ∙ filter_none (λ p. false) (upto 0 (suc n)) (λ p. refl)
      where
        at : (q p : ℕ) → q ≤ n → in_n begun q p ≡ false
        at zero p h = in_n_none begun p
        at (suc q) p h =
            in_n_some begun (suc q) p (omega arith) ∙ ap (bit (32 + p)) (begun_column (suc q) (omega arith) (omega arith))
            ∙ begin_past (side_table D.right) l n (suc q) (32 + p) few (omega arith)

    pub ring_begin_shown : ring_shown (occurrences D.left) n begun ≡ ring.ring_begin D l
    unfolding ring_shown ring.ring_begin states
    ring_begin_shown =
        ring_equal _ _
        begun_first
        (ap (λ w. not (eqb w 0)) begun_z ∙ flag_set (null_at (side_table D.right) l.atom) ∙ null_shown D.right l.atom low)
        (ap (number_set 1 (suc (occurrences D.left))) begun_p ∙ from_shown D.left l.atom l.relation low letter 0 (omega arith))
        (map_same (row_m n begun) (λ p. after D.right (p ∷ []) l.atom l.relation) (upto 0 (suc n))
        (λ p i. let (a, b) = upto_in p 0 (suc n) i in begun_m p (omega arith)))
        (map_same (row_n n begun) (λ q. []) (upto 0 (suc n)) (λ q i. let (a, b) = upto_in q 0 (suc n) i in begun_n q (omega arith)))

    -- a prefix one relation longer
    module _ (fits : occurrences D.left ≤ 64) (s : List ℕ) (good : GoodRing (occurrences D.left) n s) where
      abbrev gone : List ℕ
      gone = ring_onward (side_table D.left) (side_table D.right) s l

      gone_p : get_or gone 0 0 ≡ step_set (side_table D.left) (get_or s 0 0) l.atom l.relation
      unfolding ring_onward
      gone_p = ring_p _ (onward_column (side_table D.right) s l) _ _

      gone_first : get_or gone 32 0 ≡ get_or s 32 0
      unfolding ring_onward
      gone_first = ring_first _ (onward_column (side_table D.right) s l) _ _

      gone_z : get_or gone 33 0 ≡ flag (not (eqb (get_or s 33 0) 0) || null_at (side_table D.right) l.atom)
      unfolding ring_onward
      gone_z = ring_z _ (onward_column (side_table D.right) s l) _ _

      gone_column : (q : ℕ) → 1 ≤ q → q < 32 → get_or gone q 0 ≡ onward_column (side_table D.right) s l q
      unfolding ring_onward
      gone_column q h i = ring_column _ (onward_column (side_table D.right) s l) _ _ q h i

      gone_length : length gone ≡ 34
      unfolding ring_onward
      gone_length = ring_length _ (onward_column (side_table D.right) s l) _ _

      -- an occurrence whose column has a bit
      has_bit : (o i : ℕ) → o < 32 → bit i (get_or s o 0) ≡ true → o ≤ n
      has_bit o i h e =
          ⊎_elim (λ k. k) (λ k. absurd (true_not_false e (ap (bit i) (good.column_past o k h) ∙ bit_none i))) (le_or_lt o n)

      -- bit i of column q one letter on comes from the columns of the occurrences
      from_columns : (q i : ℕ) → 1 ≤ q → q ≤ n
          → some (λ o. leads (side_table D.right) l o q && bit i (get_or s o 0)) (upto 1 32)
          ≡ some (λ o. moves D l o q && bit i (get_or s o 0)) (upto 1 (suc n))
      from_columns q i h k =
          some_range (λ o. leads (side_table D.right) l o q && bit i (get_or s o 0)) (λ o. moves D l o q && bit i (get_or s o 0)) 1 32 1 (suc n)
          (λ o a b e. let x : leads (side_table D.right) l o q ≡ true = and_left _ _ e in
          let y : bit i (get_or s o 0) ≡ true = and_right (leads (side_table D.right) l o q) _ e in
          let z : o ≤ n = has_bit o i b y in
          (a, omega arith, and_both (sym (leads_moves D l low letter o q (omega arith) h k) ∙ x) y))
          (λ o a b e. let x : moves D l o q ≡ true = and_left _ _ e in
          let y : bit i (get_or s o 0) ≡ true = and_right (moves D l o q) _ e in
          (a, omega arith, and_both (leads_moves D l low letter o q (omega arith) h k ∙ x) y))

      none_from : (q i : ℕ) → ((o : ℕ) → 1 ≤ o → o < 32 → bit i (get_or s o 0) ≡ false)
          → some (λ o. leads (side_table D.right) l o q && bit i (get_or s o 0)) (upto 1 32) ≡ false
      none_from q i h =
          false_of_not _ (λ e. let (o, j, t) = some_in (λ o. leads (side_table D.right) l o q && bit i (get_or s o 0)) (upto 1 32) e in
          let (a, b) = upto_in o 1 32 j in
          true_not_false (and_right (leads (side_table D.right) l o q) _ t) (h o a b))

      none_opened : (p : ℕ) → p < 32 → ((o : ℕ) → 1 ≤ o → o < 32 → bit p (get_or s o 0) ≡ false)
          → bit (32 + p) (opened (side_table D.right) s l.atom) ≡ false
      none_opened p k h =
          opened_high (side_table D.right) s l.atom p k
          ∙ false_of_not _ (λ e. let (o, j, t) = some_in (λ q. bit (q - 1) (enders (side_table D.right) l.atom) && bit p (get_or s q 0)) (upto 1 32) e in
          let (a, b) = upto_in o 1 32 j in
          true_not_false (and_right (bit (o - 1) (enders (side_table D.right) l.atom)) _ t) (h o a b))

      gone_bit : (q i : ℕ) → 1 ≤ q → q < 32 → bit i (get_or gone q 0)
          ≡ (some (λ o. leads (side_table D.right) l o q && bit i (get_or s o 0)) (upto 1 32)
          || (leads (side_table D.right) l 0 q && bit i (opened (side_table D.right) s l.atom)))
      gone_bit q i h k = ap (bit i) (gone_column q h k) ∙ onward_bit (side_table D.right) l s q i

      gone_none : (q i : ℕ) → 1 ≤ q → q < 32 → ((o : ℕ) → 1 ≤ o → o < 32 → bit i (get_or s o 0) ≡ false)
          → bit i (opened (side_table D.right) s l.atom) ≡ false → bit i (get_or gone q 0) ≡ false
      gone_none q i h k f e =
          gone_bit q i h k ∙ ap₂ (λ x y. x || (leads (side_table D.right) l 0 q && y)) (none_from q i f) e
          ∙ and-false (leads (side_table D.right) l 0 q)

      pub ring_good_onward : GoodRing (occurrences D.left) n gone
      ring_good_onward =
          record {
            size = gone_length;
            P-small = rw gone_p (set_step_small D.left l.atom l.relation low letter (get_or s 0 0));
            column_small = λ q h i. rw (gone_column q h i) (onward_small (side_table D.right) l s q good.column_small);
            column_past = λ q h i.
                gone_column q (omega arith) i ∙ onward_none (side_table D.right) l s q (λ o. leads_past D l low letter o q h);
            rows_past = λ q p h i k j. (
              gone_none q p h i (λ o a b. (good.rows_past o p a b k j).0) (opened_low (side_table D.right) s l.atom p j),
              gone_none q (32 + p) h i (λ o a b. (good.rows_past o p a b k j).1) (none_opened p j (λ o a b. (good.rows_past o p a b k j).0)),
            );
            first_small = rw gone_first good.first_small;
            flag_small = rw gone_z (flag_two (not (eqb (get_or s 33 0) 0) || null_at (side_table D.right) l.atom));
          }

      -- row p of M
      gone_m : (p : ℕ) → p ≤ n → row_m n gone p ≡ after D.right (row_m n s p) l.atom l.relation
      unfolding row_m after
      gone_m p h =
          filter_same (λ q. bit p (get_or gone q 0))
          (λ q. reads D.right 0 q l.relation
          && some (λ o. next D.right o q l.atom) (filter (λ o. bit p (get_or s o 0)) (upto 1 (suc n)))) (upto 1 (suc n))
          (λ q i. let (a, b) = upto_in q 1 (suc n) i in at q a (omega arith))
        where
          at : (q : ℕ) → 1 ≤ q → q ≤ n → bit p (get_or gone q 0)
              ≡ (reads D.right 0 q l.relation
              && some (λ o. next D.right o q l.atom) (filter (λ o. bit p (get_or s o 0)) (upto 1 (suc n))))
          at q a b =
              gone_bit q p a (omega arith)
              ∙ ap₂ (λ x y. x || (leads (side_table D.right) l 0 q && y)) (from_columns q p a b)
              (opened_low (side_table D.right) s l.atom p (omega arith))
              ∙ ap (λ y. some (λ o. moves D l o q && bit p (get_or s o 0)) (upto 1 (suc n)) || y) (and-false (leads (side_table D.right) l 0 q))
              ∙ or-false (some (λ o. moves D l o q && bit p (get_or s o 0)) (upto 1 (suc n)))
              ∙ moved_some D l q (λ o. bit p (get_or s o 0)) (upto 1 (suc n))
              ∙ ap (λ c. reads D.right 0 q l.relation && c)
              (sym (some_filter (λ o. bit p (get_or s o 0)) (λ o. next D.right o q l.atom) (upto 1 (suc n))))

      -- row q of N
      shown_n : (o p : ℕ) → o ≤ n → p ≤ n → member p (row (map (row_n n s) (upto 0 (suc n))) o) ≡ in_n s o p
      unfolding row_n
      shown_n o p h k =
          ap (member p) (at_upto (row_n n s) [] (suc n) o (omega arith)) ∙ member_filter (in_n s o) 0 (suc n) p (omega arith) (omega arith)

      shown_m : (p : ℕ) → p ≤ n → row (map (row_m n s) (upto 0 (suc n))) p ≡ row_m n s p
      shown_m p h = at_upto (row_m n s) [] (suc n) p (omega arith)

      paired : (q p : ℕ) → 1 ≤ q → q ≤ n → p ≤ n
          → some (λ o. leads (side_table D.right) l o q && bit (32 + p) (get_or s o 0)) (upto 1 32)
          ≡ some (λ o. moves D l o q && member p (row (map (row_n n s) (upto 0 (suc n))) o)) (upto 0 (suc n))
      paired q p h k j = from_columns q (32 + p) h k
          ∙ some_range (λ o. moves D l o q && bit (32 + p) (get_or s o 0))
          (λ o. moves D l o q && member p (row (map (row_n n s) (upto 0 (suc n))) o)) 1 (suc n) 0 (suc n)
          (λ o a b e. (
            omega arith,
            b,
            and_both (and_left (moves D l o q) _ e)
                (shown_n o p (omega arith) j ∙ in_n_some s o p a ∙ and_right (moves D l o q) _ e),
          ))
          (λ o a b e. let y : in_n s o p ≡ true = sym (shown_n o p (omega arith) j) ∙ and_right (moves D l o q) _ e in
          let z : 1 ≤ o = in_n_from s o p y in
          (z, b, and_both (and_left (moves D l o q) _ e) (sym (in_n_some s o p z) ∙ y)))

      ended : (p : ℕ) → p ≤ n → bit (32 + p) (opened (side_table D.right) s l.atom) ≡ ends D.right (row (map (row_m n s) (upto 0 (suc n))) p) l.atom
      unfolding ends row_m
      ended p h =
          opened_high (side_table D.right) s l.atom p (omega arith)
          ∙ some_range (λ q. bit (q - 1) (enders (side_table D.right) l.atom) && bit p (get_or s q 0))
          (λ q. bit p (get_or s q 0) && stop D.right q l.atom) 1 32 1 (suc n)
          (λ q a b e. let y : bit p (get_or s q 0) ≡ true = and_right (bit (q - 1) (enders (side_table D.right) l.atom)) _ e in
          let z : q ≤ n = has_bit q p b y in
          (a, omega arith, and_both y (sym (ends_bit D.right l.atom q low a (omega arith)) ∙ and_left _ (bit p (get_or s q 0)) e)))
          (λ q a b e. (
            a,
            omega arith,
            and_both
                (ends_bit D.right l.atom q low a b ∙ and_right (bit p (get_or s q 0)) (stop D.right q l.atom) e)
                (and_left (bit p (get_or s q 0)) (stop D.right q l.atom) e),
          ))
          ∙ sym (some_filter (λ q. bit p (get_or s q 0)) (λ q. stop D.right q l.atom) (upto 1 (suc n)))
          ∙ ap (some (λ q. stop D.right q l.atom)) (sym (shown_m p h))

      -- (q, p) one letter on
      abbrev pair : ℕ → ℕ → Bool
      pair q p =
          some (λ o. moves D l o q && member p (row (map (row_n n s) (upto 0 (suc n))) o)) (upto 0 (suc n))
          || (moves D l 0 q && ends D.right (row (map (row_m n s) (upto 0 (suc n))) p) l.atom)

      paired_at : (q p : ℕ) → q ≤ n → p ≤ n → in_n gone q p ≡ pair q p
      paired_at zero p h k =
          in_n_none gone p
          ∙ sym (ap₂ (λ x y. x || (y && ends D.right (row (map (row_m n s) (upto 0 (suc n))) p) l.atom))
          (some_none (λ o. moves D l o 0 && member p (row (map (row_n n s) (upto 0 (suc n))) o)) (upto 0 (suc n))
          (λ o. ap (λ b. b && member p (row (map (row_n n s) (upto 0 (suc n))) o)) (moves_nowhere D l low letter o)))
          (moves_nowhere D l low letter 0))
      paired_at (suc q) p h k =
          in_n_some gone (suc q) p (omega arith) ∙ gone_bit (suc q) (32 + p) (omega arith) (omega arith)
          ∙ ap₂ ◌||◌ (paired (suc q) p (omega arith) h k)
          (ap₂ ◌&&◌ (leads_moves D l low letter 0 (suc q) (omega arith) (omega arith) h) (ended p k))

      gone_n : (q : ℕ) → q ≤ n → row_n n gone q ≡ pairs D (ring_shown (occurrences D.left) n s) l q
      unfolding row_n pairs states ring_shown
      gone_n q h =
          filter_same (in_n gone q) (λ p. pair q p) (upto 0 (suc n))
          (λ p i. let (a, b) = upto_in p 0 (suc n) i in paired_at q p h (omega arith))

      pub ring_onward_shown : ring_shown (occurrences D.left) n gone ≡ ring_step D (ring_shown (occurrences D.left) n s) l
      unfolding ring_shown ring_step states
      ring_onward_shown =
          ring_equal _ _
          gone_first
          (ap (λ w. not (eqb w 0)) gone_z ∙ flag_set (not (eqb (get_or s 33 0) 0) || null_at (side_table D.right) l.atom)
          ∙ ap (λ b. not (eqb (get_or s 33 0) 0) || b) (null_shown D.right l.atom low))
          (ap (number_set 1 (suc (occurrences D.left))) gone_p
          ∙ set_step_shown D.left l.atom l.relation low letter fits (get_or s 0 0) good.P-small)
          (map_same (row_m n gone) (λ p. after D.right (row_m n s p) l.atom l.relation) (upto 0 (suc n))
          (λ p i. let (a, b) = upto_in p 0 (suc n) i in gone_m p (omega arith))
          ∙ sym (map-map (λ o. after D.right o l.atom l.relation) (row_m n s) (upto 0 (suc n))))
          (map_same (row_n n gone) (pairs D (ring_shown (occurrences D.left) n s) l) (upto 0 (suc n))
          (λ q i. let (a, b) = upto_in q 0 (suc n) i in gone_n q (omega arith)))
