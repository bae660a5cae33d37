-- Ring standings as cells, begun and one letter on: the cells are good and show the standing of the definition. (Document 01, "Standings".)
-- Row p of M goes on by itself. Bit p of row q of N is set where q is read next from an occurrence o whose row has it, or from 0 where a member
-- of row p of M may end; the definition says the same of members.
-- Assumes nothing.
use Prim.Native.Nat.{ℕ, zero, suc, ◌-◌, ◌/◌, ◌%◌, ◌^◌, ◌≤◌, ◌<◌}
use native.Mathlib.Nat.{mod-lt, pow-le-pow_right, lt_of_lt_of_le}
use native.Mathlib.Omega.{arith}
use mathlib.Core.Path.{◌≡◌, refl, sym, ◌∙◌, ap, ap₂, subst}
use mathlib.Core.Logic.{⊎_elim}
use mathlib.Core.Bool.{Bool, true, false, cond, not, ◌&&◌, ◌||◌}
use mathlib.Core.List.{List, [], ◌∷◌, map, map-map}
use lib.Dec.{eqb}
use lib.ListN.{length}
use lib.Pow.{pow_pos}
use borrow.Author.Tests.{ne_eqb}
use Rattle.kat.specs.Lists.{upto, filter, some, member}
use Rattle.kat.specs.Tables.{occurrences, after, ends}
use Rattle.kat.proofs.Bools.{bool_ext, true_not_false, or_cases, or_left, or_right, and_left, and_right, and_both, le_or_lt}
use Rattle.kat.proofs.Sets.{some_in, in_some, some_none, in_upto, upto_in, at_upto}
use Rattle.claims.specs.Query.{bit}
use Rattle.claims.specs.Fields.{set_number, number_set}
use Rattle.claims.specs.Sides.{Decision}
use Rattle.claims.specs.Standings.{Letter, Ring, row, states, moves, pairs, ring_step}
use Rattle.claims.specs.Standings as ring
use Rattle.bits.proofs.Bit.{bit_none, bit_above, bit_ext}
use Rattle.bits.proofs.Members.{member_number, number_filter, number_none}
use Rattle.bits.proofs.Shifted.{bit_cut}
use Rattle.side_atoms.proofs.Atoms.{bit_of, number_small}
use Rattle.side_tables.specs.SideTable.{side_table}
use Rattle.standings.specs.Steps.{step_from, step_set, ends_set, null_at, leads, joined}
use Rattle.standings.proofs.Tables.{null_shown, from_small, from_shown, set_step_small, set_step_shown, ends_shown}
use Rattle.standings.proofs.Joined.{joined_bit, joined_small, joined_none}
use Rattle.standings.proofs.Moves.{leads_moves, leads_past, moves_nowhere, from_past, set_step_none, ends_none}
use Rattle.sheet_standings.specs.Layout.{wide}
use Rattle.sheet_standings.specs.RingCells.{first_in, flag_in, row_m, row_n, raised, ring_begin, opened, sent, ring_onward, ring_shown}
use Rattle.sheet_standings.specs.Good.{GoodCells}
use Rattle.sheet_standings.proofs.RingFits.{RingFacts}
use Rattle.sheet_standings.proofs.RingParts.{raised_small, raised_even, raised_shown, lowered_small, lowered_shown}
use Rattle.sheet_standings.proofs.RingParts.{good_size, good_facts, shown_m, shown_n, flag_test, made, made_shown, made_good}

-- a number below 2 ^ v without bits from w on is below 2 ^ w
low_bits : (w v m : ℕ) → m < 2 ^ v → w ≤ v → ((i : ℕ) → w ≤ i → i < v → bit i m ≡ false) → m < 2 ^ w
low_bits w v m h k f =
    let cut : m % 2 ^ w < 2 ^ w = mod-lt m (pow_pos w) in
    subst (λ x. x < 2 ^ w)
    (bit_ext v (m % 2 ^ w) m (lt_of_lt_of_le cut (pow-le-pow_right {n = 2} (omega arith) {i = w} {j = v} k)) h
    (λ i j. ⊎_elim (λ a. bit_above w i (m % 2 ^ w) cut a ∙ sym (f i a j)) (λ a. bit_cut w i m a) (le_or_lt w i)))
    cut

module _ (D : Decision) (l : Letter) (low : l.atom < 64) (letter : l.relation < 16) (few : occurrences D.right ≤ 31) where
  abbrev n : ℕ
  n = occurrences D.right

  abbrev left : List ℕ
  left = side_table D.left

  abbrev right : List ℕ
  right = side_table D.right

  -- a row of M begun
  begun : ℕ → ℕ
  begun p = raised (step_from right p l.atom l.relation)

  begun_small : (p : ℕ) → step_from right p l.atom l.relation < 2 ^ n
  begun_small p = from_small D.right l.atom l.relation low letter p

  begun_past : (p : ℕ) → n < p → p < 32 → begun p ≡ 0
  unfolding begun raised
  begun_past p h k = ap raised (from_past D.right l.atom l.relation low letter p h (omega arith))

  pub ring_good_begin : occurrences D.left ≤ 64 → l.atom < D.atoms → GoodCells true D (ring_begin left right l)
  unfolding ring_begin begun
  ring_good_begin fits live =
      made_good D l.atom (null_at right l.atom) (step_from left 0 l.atom l.relation) begun (λ q. 0) (omega arith) few fits live
      (from_small D.left l.atom l.relation low letter 0)
      (λ p h. (raised_small n _ few (begun_small p), raised_even n _ few (begun_small p))) begun_past (λ q h. pow_pos (suc n)) refl
      (λ q h k. refl)

  pub ring_begin_shown : ring_shown D (ring_begin left right l) ≡ ring.ring_begin D l
  unfolding ring_begin begun ring.ring_begin states
  ring_begin_shown =
      made_shown D l.atom (null_at right l.atom) (step_from left 0 l.atom l.relation) begun (λ q. 0) (omega arith) few
      (after D.left (0 ∷ []) l.atom l.relation) (λ p. after D.right (p ∷ []) l.atom l.relation) (λ q. [])
      (from_shown D.left l.atom l.relation low letter 0 (omega arith))
      (λ p h. raised_shown n _ few (begun_small p) ∙ from_shown D.right l.atom l.relation low letter p (omega arith))
      (λ q h. number_none 0 (suc n))
      ∙ ap (λ z. made l.atom z (after D.left (0 ∷ []) l.atom l.relation)
      (map (λ p. after D.right (p ∷ []) l.atom l.relation) (upto 0 (suc n))) (map (λ q. []) (upto 0 (suc n))))
      (null_shown D.right l.atom low)

  -- one letter on, from good cells
  module _ (fits : occurrences D.left ≤ 64) (s : List ℕ) (good : GoodCells true D s) (atoms : D.atoms ≤ 64) where
    size : length s ≡ 67
    size = good_size D s good

    facts : RingFacts D.atoms (occurrences D.left) n s
    facts = good_facts D s good

    abbrev shown : Ring
    shown = ring_shown D s

    -- a row of M one letter on
    gone : ℕ → ℕ
    gone p = raised (step_set right (row_m s p / 2) l.atom l.relation)

    gone_small : (p : ℕ) → step_set right (row_m s p / 2) l.atom l.relation < 2 ^ n
    gone_small p = set_step_small D.right l.atom l.relation low letter (row_m s p / 2)

    gone_past : (p : ℕ) → n < p → p < 32 → gone p ≡ 0
    unfolding gone raised
    gone_past p h k =
        ap (λ w. raised (step_set right (w / 2) l.atom l.relation)) (facts.M-past p h k)
        ∙ ap raised (set_step_none right l.atom l.relation)

    gone_shown : (p : ℕ) → p ≤ n
        → number_set 0 (suc n) (gone p) ≡ after D.right (number_set 0 (suc n) (row_m s p)) l.atom l.relation
    unfolding gone
    gone_shown p h =
        raised_shown n _ few (gone_small p)
        ∙ set_step_shown D.right l.atom l.relation low letter (omega arith) (row_m s p / 2)
        (lowered_small n (row_m s p) (facts.M-small p (omega arith)))
        ∙ ap (λ x. after D.right x l.atom l.relation) (lowered_shown n (row_m s p) (facts.M-even p (omega arith)))

    -- rows and members of the standing that the cells show
    row_m_lem : (p : ℕ) → p ≤ n → row shown.M p ≡ number_set 0 (suc n) (row_m s p)
    row_m_lem p h =
        ap (λ t. row t p) (shown_m D s size few) ∙ at_upto (λ p. number_set 0 (suc n) (row_m s p)) [] (suc n) p (omega arith)

    in_n_lem : (o p : ℕ) → o ≤ n → p ≤ n → member p (row shown.N o) ≡ bit p (row_n s o)
    in_n_lem o p h k =
        ap (λ t. member p (row t o)) (shown_n D s size few)
        ∙ ap (member p) (at_upto (λ q. number_set 0 (suc n) (row_n s q)) [] (suc n) o (omega arith))
        ∙ member_number 0 (suc n) (row_n s o) p (omega arith) (omega arith) ∙ ap (λ i. bit i (row_n s o)) (omega arith)

    -- the pairs that open at the letter's atom
    opened_test : (p : ℕ) → p < 32 → bit p (opened right s l.atom) ≡ ends_set right (row_m s p / 2) l.atom
    unfolding opened
    opened_test p h =
        let z : p ≡ p - 0 = omega arith in
        ap (λ i. bit i (set_number 0 (filter (λ p. ends_set right (row_m s p / 2) l.atom) (upto 0 32)))) z
        ∙ bit_of (λ p. ends_set right (row_m s p / 2) l.atom) 0 32 p (omega arith) (omega arith) h

    opened_bit : (p : ℕ) → p ≤ n → bit p (opened right s l.atom) ≡ ends D.right (row shown.M p) l.atom
    opened_bit p h =
        opened_test p (omega arith)
        ∙ ends_shown D.right l.atom (row_m s p / 2) low (lowered_small n (row_m s p) (facts.M-small p (omega arith)))
        ∙ ap (λ x. ends D.right x l.atom)
        (lowered_shown n (row_m s p) (facts.M-even p (omega arith)) ∙ sym (row_m_lem p h))

    opened_small : opened right s l.atom < 2 ^ suc n
    unfolding opened
    opened_small =
        low_bits (suc n) 32 (opened right s l.atom) (number_small (λ p. ends_set right (row_m s p / 2) l.atom) 0 32 (omega arith))
        (omega arith)
        (λ p h k. opened_test p k ∙ ap (λ w. ends_set right (w / 2) l.atom) (facts.M-past p h k) ∙ ends_none right l.atom)

    sent_none : sent right s l.atom 0 ≡ opened right s l.atom
    unfolding sent
    sent_none = refl

    sent_some : (o : ℕ) → sent right s l.atom (suc o) ≡ row_n s (suc o)
    unfolding sent
    sent_some o = ap (λ b. cond b (opened right s l.atom) (row_n s (suc o))) (ne_eqb (suc o) 0 (λ e. omega arith))

    sent_small : (o : ℕ) → o < 32 → sent right s l.atom o < 2 ^ suc n
    sent_small zero h = subst (λ w. w < 2 ^ suc n) (sym sent_none) opened_small
    sent_small (suc o) h = subst (λ w. w < 2 ^ suc n) (sym (sent_some o)) (facts.N-small (suc o) h)

    -- a row of N one letter on
    paired : ℕ → ℕ
    paired q = cond (eqb q 0) 0 (joined right l (sent right s l.atom) q (upto 0 32))

    paired_none : paired 0 ≡ 0
    unfolding paired
    paired_none = refl

    paired_some : (q : ℕ) → paired (suc q) ≡ joined right l (sent right s l.atom) (suc q) (upto 0 32)
    unfolding paired
    paired_some q =
        ap (λ b. cond b 0 (joined right l (sent right s l.atom) (suc q) (upto 0 32))) (ne_eqb (suc q) 0 (λ e. omega arith))

    paired_small : (q : ℕ) → q < 32 → paired q < 2 ^ suc n
    paired_small zero h = subst (λ w. w < 2 ^ suc n) (sym paired_none) (pow_pos (suc n))
    paired_small (suc q) h =
        subst (λ w. w < 2 ^ suc n) (sym (paired_some q))
        (joined_small right l (sent right s l.atom) (suc q) (suc n) (upto 0 32)
        (λ o i. let (a, b) = upto_in o 0 32 i in sent_small o b))

    paired_past : (q : ℕ) → n < q → q < 32 → paired q ≡ 0
    paired_past zero h k = absurd (omega arith)
    paired_past (suc q) h k =
        paired_some q
        ∙ joined_none right l (sent right s l.atom) (suc q) (upto 0 32) (λ o. leads_past D l low letter o (suc q) h)

    -- (q, p) one letter on
    abbrev pair : ℕ → ℕ → Bool
    pair q p =
        some (λ o. moves D l o q && member p (row shown.N o)) (upto 0 (suc n))
        || (moves D l 0 q && ends D.right (row shown.M p) l.atom)

    -- what reaches (q, p) from o
    onto : (q p : ℕ) → 1 ≤ q → q ≤ n → p ≤ n → (o : ℕ) → o < 32
        → leads right l o q ≡ true → bit p (sent right s l.atom o) ≡ true → pair q p ≡ true
    onto q p h k j zero i a b =
        or_right (some (λ o. moves D l o q && member p (row shown.N o)) (upto 0 (suc n)))
        (and_both (sym (leads_moves D l low letter 0 q (omega arith) h k) ∙ a) (sym (ap (bit p) sent_none ∙ opened_bit p j) ∙ b))
    onto q p h k j (suc o) i a b =
        let e : bit p (row_n s (suc o)) ≡ true = sym (ap (bit p) (sent_some o)) ∙ b in
        let near : suc o ≤ n = ⊎_elim (λ x. x)
        (λ x. absurd (true_not_false e (ap (bit p) (facts.N-past (suc o) x i) ∙ bit_none p))) (le_or_lt (suc o) n) in
        or_left _ (in_some (λ o. moves D l o q && member p (row shown.N o)) (in_upto (suc o) 0 (suc n) (omega arith) (omega arith))
        (and_both (sym (leads_moves D l low letter (suc o) q (omega arith) h k) ∙ a) (in_n_lem (suc o) p near j ∙ e)))

    back : (q p : ℕ) → 1 ≤ q → q ≤ n → p ≤ n → pair q p ≡ true
        → some (λ o. leads right l o q && bit p (sent right s l.atom o)) (upto 0 32) ≡ true
    back q p h k j e =
        ⊎_elim
        (λ a. let (o, i, t) = some_in (λ o. moves D l o q && member p (row shown.N o)) (upto 0 (suc n)) a in
        let (x, y) = upto_in o 0 (suc n) i in
        from o (omega arith) (and_left (moves D l o q) _ t)
        (sym (in_n_lem o p (omega arith) j) ∙ and_right (moves D l o q) _ t))
        (λ a. found 0 (omega arith) (leads_moves D l low letter 0 q (omega arith) h k ∙ and_left (moves D l 0 q) _ a)
        (ap (bit p) sent_none ∙ opened_bit p j ∙ and_right (moves D l 0 q) _ a))
        (or_cases (some (λ o. moves D l o q && member p (row shown.N o)) (upto 0 (suc n))) _ e)
      where
        found : (o : ℕ) → o < 32 → leads right l o q ≡ true → bit p (sent right s l.atom o) ≡ true
            → some (λ o. leads right l o q && bit p (sent right s l.atom o)) (upto 0 32) ≡ true
        found o i a b = in_some (λ o. leads right l o q && bit p (sent right s l.atom o)) (in_upto o 0 32 (omega arith) i) (and_both a b)

        from : (o : ℕ) → o ≤ n → moves D l o q ≡ true → bit p (row_n s o) ≡ true
            → some (λ o. leads right l o q && bit p (sent right s l.atom o)) (upto 0 32) ≡ true
        from zero i a b = absurd (true_not_false b (ap (bit p) facts.N-none ∙ bit_none p))
        from (suc o) i a b =
            found (suc o) (omega arith) (leads_moves D l low letter (suc o) q (omega arith) h k ∙ a) (ap (bit p) (sent_some o) ∙ b)

    paired_bit : (q p : ℕ) → q ≤ n → p ≤ n → bit p (paired q) ≡ pair q p
    paired_bit zero p h k =
        ap (bit p) paired_none ∙ bit_none p
        ∙ sym (ap₂ (λ x y. x || (y && ends D.right (row shown.M p) l.atom))
        (some_none (λ o. moves D l o 0 && member p (row shown.N o)) (upto 0 (suc n))
        (λ o. ap (λ b. b && member p (row shown.N o)) (moves_nowhere D l low letter o)))
        (moves_nowhere D l low letter 0))
    paired_bit (suc q) p h k =
        ap (bit p) (paired_some q) ∙ joined_bit right l (sent right s l.atom) (suc q) p (upto 0 32)
        ∙ bool_ext (some (λ o. leads right l o (suc q) && bit p (sent right s l.atom o)) (upto 0 32)) (pair (suc q) p)
        (λ e. let (o, i, t) = some_in (λ o. leads right l o (suc q) && bit p (sent right s l.atom o)) (upto 0 32) e in
        let (x, y) = upto_in o 0 32 i in
        onto (suc q) p (omega arith) h k o y (and_left (leads right l o (suc q)) _ t) (and_right (leads right l o (suc q)) _ t))
        (λ e. back (suc q) p (omega arith) h k e)

    paired_shown : (q : ℕ) → q ≤ n → number_set 0 (suc n) (paired q) ≡ pairs D shown l q
    unfolding pairs states
    paired_shown q h =
        number_filter 0 (suc n) (paired q) (pair q)
        (λ p a b. ap (λ i. bit i (paired q)) (omega arith) ∙ paired_bit q p h (omega arith))

    abbrev flagged : Bool
    flagged = not (eqb (flag_in s) 0) || null_at right l.atom

    pub ring_good_onward : GoodCells true D (ring_onward left right s l)
    unfolding ring_onward gone paired
    ring_good_onward =
        made_good D (first_in s) flagged (step_set left (wide s 1) l.atom l.relation) gone paired (omega (arith, facts.first_low)) few
        fits facts.first_low (set_step_small D.left l.atom l.relation low letter (wide s 1))
        (λ p h. (raised_small n _ few (gone_small p), raised_even n _ few (gone_small p))) gone_past paired_small paired_none paired_past

    pub ring_onward_shown : ring_shown D (ring_onward left right s l) ≡ ring_step D shown l
    unfolding ring_onward gone paired ring_step states
    ring_onward_shown =
        made_shown D (first_in s) flagged (step_set left (wide s 1) l.atom l.relation) gone paired (omega (arith, facts.first_low)) few
        (after D.left shown.P l.atom l.relation)
        (λ p. after D.right (number_set 0 (suc n) (row_m s p)) l.atom l.relation) (pairs D shown l)
        (set_step_shown D.left l.atom l.relation low letter fits (wide s 1) facts.P-small) gone_shown paired_shown
        ∙ ap₂ (λ z m. made (first_in s) z (after D.left shown.P l.atom l.relation) m (map (pairs D shown l) (upto 0 (suc n))))
        (ap₂ ◌||◌ (flag_test (flag_in s) facts.flag_low) (null_shown D.right l.atom low))
        (sym (map-map (λ o. after D.right o l.atom l.relation) (λ p. number_set 0 (suc n) (row_m s p)) (upto 0 (suc n)))
        ∙ ap (map (λ o. after D.right o l.atom l.relation)) (sym (shown_m D s size few)))
