-- What a table of rows shows: a test on pairs of n events, and no pair past them. Each operation on tables shows the operation of document 01
-- on what they show: one law an operator, bit by bit.
-- Assumes nothing.
use Prim.Native.Nat.{ℕ, zero, suc, ◌-◌, ◌^◌, ◌≤◌, ◌<◌}
use native.Mathlib.Omega.{arith}
use mathlib.Core.Path.{◌≡◌, refl, sym, ◌∙◌, ap, ap₂, subst}
use mathlib.Core.Logic.{⊎_elim}
use mathlib.Core.Bool.{Bool, true, false, cond, not, ◌&&◌, ◌||◌, and-true, and-false}
use mathlib.Core.List.{List}
use lib.Bits.{bit_or}
use lib.Dec.{eqb, ltb}
use lib.ListN.{length, get_or, get_or-eq_default}
use borrow.Author.Tests.{eq-eqb, eqb-true, ltb-true, lt-ltb, le-ltb}
use Rattle.kat.specs.Lists.{upto, some, is_empty}
use Rattle.kat.specs.Closure.{entry, closure}
use Rattle.kat.proofs.Bools.{or_cases, and_left, and_right, and_both, bool_ext, true_not_false, lt_or_le}
use Rattle.kat.proofs.Sets.{some_in, in_some, in_upto, upto_in}
use Rattle.claims.specs.Query.{bit}
use Rattle.memory.specs.Memory.{words, between, changed}
use Rattle.memory.proofs.Words.{words_length, words_at_lem, inside_out, changed_length, changed_at}
use Rattle.memory.proofs.Zeros.{zeros_words}
use Rattle.bits.specs.Sets.{including, union_rows}
use Rattle.bits.proofs.Bit.{bit_none, bit_above, bit-bit_or, bit_pow}
use Rattle.bits.proofs.Lists.{some_filled}
use Rattle.bits.proofs.Members.{some_number, number_filter, empty_test}
use Rattle.bits.proofs.Rows.{bit_including, bit_union}
use Rattle.rows.specs.Rows.{blank, joined, composed, reflexive, joined_where, round, rounds, events_in, diagonal}
use Rattle.rows.proofs.Events.{events_small, events_bit}
use Rattle.rows.proofs.Rounds.{merge, rounds_length, rounds_closure}

pub eqb_turned : (x y : ℕ) → eqb x y ≡ eqb y x
eqb_turned x y = bool_ext (eqb x y) (eqb y x) (λ e. eq-eqb y x (sym (eqb-true x y e))) (λ e. eq-eqb x y (sym (eqb-true y x e)))

-- the table shows the test f on the pairs of n events
pub record Shows (n : ℕ) (t : List ℕ) (f : ℕ → ℕ → Bool) : Type 0 where
  pub long : length t ≡ 64
  pub inside : (x y : ℕ) → x < n → y < n → bit y (get_or t x 0) ≡ f x y
  pub outside : (x y : ℕ) → bit y (get_or t x 0) ≡ true → (x < n) × (y < n)

module _ (n : ℕ) where
  pub shows_same : (t : List ℕ) (f g : ℕ → ℕ → Bool) → ((x y : ℕ) → x < n → y < n → f x y ≡ g x y) → Shows n t f → Shows n t g
  shows_same t f g e s =
      record {
        long = s.long;
        inside = λ x y h k. s.inside x y h k ∙ e x y h k;
        outside = s.outside;
      }

  -- a table by its rows
  pub shows_words : (g : ℕ → ℕ) (f : ℕ → ℕ → Bool) → n ≤ 64 → ((x y : ℕ) → x < n → y < n → bit y (g x) ≡ f x y)
      → ((x y : ℕ) → x < 64 → bit y (g x) ≡ true → (x < n) × (y < n)) → Shows n (words 64 g) f
  shows_words g f fits i o =
      record {
        long = words_length 64 g;
        inside = λ x y h k. ap (bit y) (words_at_lem 64 g x (omega arith)) ∙ i x y h k;
        outside = λ x y e. ⊎_elim
            (λ h. o x y h (sym (ap (bit y) (words_at_lem 64 g x h)) ∙ e))
            (λ h. absurd (true_not_false e (ap (bit y) (get_or-eq_default (words 64 g) 0 {n = x} (omega (arith, words_length 64 g))) ∙ bit_none y)))
            (lt_or_le x 64);
      }

  pub shows_blank : n ≤ 64 → Shows n blank (λ x y. false)
  unfolding blank
  shows_blank fits =
      subst (λ t. Shows n t (λ x y. false)) (sym (zeros_words 64))
      (shows_words (λ k. 0) (λ x y. false) fits (λ x y h k. bit_none y) (λ x y h e. absurd (true_not_false e (bit_none y))))

  module _ (fits : n ≤ 64) (t u : List ℕ) (f g : ℕ → ℕ → Bool) (s : Shows n t f) (r : Shows n u g) where
    -- `|`
    pub shows_joined : Shows n (joined t u) (λ x y. f x y || g x y)
    unfolding joined
    shows_joined =
        shows_words (λ x. bit_or (get_or t x 0) (get_or u x 0)) (λ x y. f x y || g x y) fits
        (λ x y h k. bit-bit_or y (get_or t x 0) (get_or u x 0) ∙ ap₂ ◌||◌ (s.inside x y h k) (r.inside x y h k))
        (λ x y h e. ⊎_elim (s.outside x y) (r.outside x y)
        (or_cases (bit y (get_or t x 0)) (bit y (get_or u x 0)) (sym (bit-bit_or y (get_or t x 0) (get_or u x 0)) ∙ e)))

    -- the rows of a row's members, bit by bit
    abbrev through : ℕ → ℕ → ℕ → Bool
    through x y z = bit (z - 0) (get_or t x 0) && bit y (get_or u z 0)

    composed_bit : (x y : ℕ) → bit y (union_rows u (get_or t x 0)) ≡ some (through x y) (upto 0 64)
    composed_bit x y = bit_union u (get_or t x 0) y ∙ some_number (λ z. bit y (get_or u z 0)) 0 64 (get_or t x 0)

    -- `;`
    pub shows_composed : Shows n (composed t u) (λ x y. some (λ z. f x z && g z y) (upto 0 n))
    unfolding composed
    shows_composed =
        shows_words (λ x. union_rows u (get_or t x 0)) (λ x y. some (λ z. f x z && g z y) (upto 0 n)) fits
        (λ x y h k. composed_bit x y ∙ bool_ext (some (through x y) (upto 0 64)) (some (λ z. f x z && g z y) (upto 0 n)) (into x y h k) (back x y h k))
        (λ x y h e.
        let (z, i, b) = some_in (through x y) (upto 0 64) (sym (composed_bit x y) ∙ e) in
        let (a, c) = parts x y z b in
        ((s.outside x z a).0, (r.outside z y c).1))
      where
        parts : (x y z : ℕ) → through x y z ≡ true → (bit z (get_or t x 0) ≡ true) × (bit y (get_or u z 0) ≡ true)
        parts x y z b =
            let e : z - 0 ≡ z = omega arith in (
              sym (ap (λ j. bit j (get_or t x 0)) e) ∙ and_left (bit (z - 0) (get_or t x 0)) (bit y (get_or u z 0)) b,
              and_right (bit (z - 0) (get_or t x 0)) (bit y (get_or u z 0)) b,
            )

        into : (x y : ℕ) → x < n → y < n → some (through x y) (upto 0 64) ≡ true → some (λ z. f x z && g z y) (upto 0 n) ≡ true
        into x y h k e =
            let (z, i, b) = some_in (through x y) (upto 0 64) e in
            let (a, c) = parts x y z b in
            let l : z < n = (s.outside x z a).1 in
            in_some (λ z. f x z && g z y) {x = z} (in_upto z 0 n (omega arith) l)
            (and_both (sym (s.inside x z h l) ∙ a) (sym (r.inside z y l k) ∙ c))

        back : (x y : ℕ) → x < n → y < n → some (λ z. f x z && g z y) (upto 0 n) ≡ true → some (through x y) (upto 0 64) ≡ true
        back x y h k e =
            let (z, i, b) = some_in (λ z. f x z && g z y) (upto 0 n) e in
            let l : z < n = (upto_in z 0 n i).1 in
            let m : z - 0 ≡ z = omega arith in
            in_some (through x y) {x = z} (in_upto z 0 64 (omega arith) (omega arith))
            (and_both (ap (λ j. bit j (get_or t x 0)) m ∙ s.inside x z h l ∙ and_left (f x z) (g z y) b)
            (r.inside z y l k ∙ and_right (f x z) (g z y) b))

  module _ (fits : n ≤ 64) (t : List ℕ) (f : ℕ → ℕ → Bool) (s : Shows n t f) where
    -- a round leads nowhere past the events
    round_outside : (k : ℕ) (v : List ℕ) → ((x y : ℕ) → bit y (get_or v x 0) ≡ true → (x < n) × (y < n))
        → (x y : ℕ) → bit y (get_or (round v k n) x 0) ≡ true → (x < n) × (y < n)
    unfolding round joined_where
    round_outside k v o x y e = ⊎_elim in_table past (lt_or_le x (length v))
      where
        joins : (b : Bool) → bit y (cond b (get_or v k 0) 0) ≡ true → y < n
        joins true h = (o k y h).1
        joins false h = absurd (true_not_false h (bit_none y))

        cases : (b : Bool) (w : ℕ) → w ≡ get_or v x 0 → between 0 n x ≡ b
            → bit y (cond b (bit_or w (cond (bit k w) (get_or v k 0) 0)) w) ≡ true → (x < n) × (y < n)
        cases true w z i h =
            ⊎_elim (λ j. o x y (sym (ap (bit y) z) ∙ j)) (λ j. ((inside_out 0 n x i).1, joins (bit k w) j))
            (or_cases (bit y w) (bit y (cond (bit k w) (get_or v k 0) 0)) (sym (bit-bit_or y w (cond (bit k w) (get_or v k 0) 0)) ∙ h))
        cases false w z i h = o x y (sym (ap (bit y) z) ∙ h)

        in_table : x < length v → (x < n) × (y < n)
        in_table l =
            cases (between 0 n x) (get_or v x 0) refl refl (sym (ap (bit y) (changed_at (merge (get_or v k 0) k) v n 0 x l)) ∙ e)

        past : length v ≤ x → (x < n) × (y < n)
        past l =
            absurd (true_not_false e (ap (bit y)
            (get_or-eq_default (changed (merge (get_or v k 0) k) v 0 n) 0 {n = x} (omega (arith, changed_length (merge (get_or v k 0) k) v n 0)))
            ∙ bit_none y))

    rounds_outside : (k x y : ℕ) → bit y (get_or (rounds t n k) x 0) ≡ true → (x < n) × (y < n)
    unfolding rounds
    rounds_outside zero x y e = s.outside x y e
    rounds_outside (suc k) x y e = round_outside k (rounds t n k) (rounds_outside k) x y e

    -- `+`
    pub shows_closed : Shows n (rounds t n n) (entry (closure n f))
    shows_closed =
        record {
          long = rounds_length t n n ∙ s.long;
          inside = rounds_closure t n (omega (arith, s.long)) f s.inside;
          outside = rounds_outside n;
        }

    -- `?`
    pub shows_reflexive : Shows n (reflexive t n) (λ x y. f x y || eqb x y)
    unfolding reflexive
    shows_reflexive =
        shows_words (λ x. cond (ltb x n) (including 64 (get_or t x 0) x) (get_or t x 0)) (λ x y. f x y || eqb x y) fits
        (λ x y h k. ap (λ b. bit y (cond b (including 64 (get_or t x 0) x) (get_or t x 0))) (lt-ltb x n h)
        ∙ bit_including 64 (get_or t x 0) x y (omega arith) ∙ ap₂ ◌||◌ (s.inside x y h k) (eqb_turned y x))
        (λ x y h e. go x y (ltb x n) refl h e)
      where
        go : (x y : ℕ) (b : Bool) → ltb x n ≡ b → x < 64 → bit y (cond b (including 64 (get_or t x 0) x) (get_or t x 0)) ≡ true → (x < n) × (y < n)
        go x y true c h e =
            ⊎_elim (s.outside x y) (λ m. let z : y ≡ x = eqb-true y x m in let l : x < n = ltb-true x n c in (omega arith, omega arith))
            (or_cases (bit y (get_or t x 0)) (eqb y x) (sym (bit_including 64 (get_or t x 0) x y (omega arith)) ∙ e))
        go x y false c h e = s.outside x y e

-- the events whose atom is in a set
pub bit_events : (atoms : List ℕ) (n s x : ℕ) → n ≤ 64 → bit x (events_in atoms n s) ≡ (ltb x n && bit (get_or atoms x 0) s)
bit_events atoms n s x fits =
    ⊎_elim (events_bit atoms s n x)
    (λ h. bit_above 64 x (events_in atoms n s) (events_small atoms s n) h ∙ sym (ap (λ b. b && bit (get_or atoms x 0) s) (le-ltb x n (omega arith))))
    (lt_or_le x 64)

-- `[T]`
pub shows_diagonal : (n s : ℕ) (p : ℕ → Bool) → n ≤ 64 → ((x : ℕ) → bit x s ≡ (ltb x n && p x)) → Shows n (diagonal s) (λ x y. eqb x y && p x)
unfolding diagonal
shows_diagonal n s p fits e =
    shows_words n (λ x. cond (bit x s) (2 ^ x) 0) (λ x y. eqb x y && p x) fits
    (λ x y h k. ap (λ b. bit y (cond b (2 ^ x) 0)) (e x ∙ ap (λ b. b && p x) (lt-ltb x n h)) ∙ one x y (p x))
    (λ x y h i. only x y (ltb x n) (p x) refl (sym (ap (λ b. bit y (cond b (2 ^ x) 0)) (e x)) ∙ i))
  where
    one : (x y : ℕ) (b : Bool) → bit y (cond b (2 ^ x) 0) ≡ (eqb x y && b)
    one x y true = bit_pow y x ∙ eqb_turned y x ∙ sym (and-true (eqb x y))
    one x y false = bit_none y ∙ sym (and-false (eqb x y))

    only : (x y : ℕ) (b c : Bool) → ltb x n ≡ b → bit y (cond (b && c) (2 ^ x) 0) ≡ true → (x < n) × (y < n)
    only x y true true h i =
        let l : x < n = ltb-true x n h in
        let z : y ≡ x = eqb-true y x (sym (bit_pow y x) ∙ i) in
        (l, omega arith)
    only x y true false h i = absurd (true_not_false i (bit_none y))
    only x y false c h i = absurd (true_not_false i (bit_none y))

-- some event has its atom in the set exactly where the set of these events is not empty
pub some_event_in : (atoms : List ℕ) (n s : ℕ) → n ≤ 64 → not (eqb (events_in atoms n s) 0) ≡ some (λ x. bit (get_or atoms x 0) s) (upto 0 n)
some_event_in atoms n s fits =
    ap not (sym (empty_test 0 64 (events_in atoms n s) (events_small atoms s n)))
    ∙ ap (λ l. not (is_empty l)) (number_filter 0 64 (events_in atoms n s) (λ x. ltb x n && bit (get_or atoms x 0) s)
    (λ x h k. let z : x - 0 ≡ x = omega arith in ap (λ i. bit i (events_in atoms n s)) z ∙ bit_events atoms n s x fits))
    ∙ sym (some_filled (λ x. ltb x n && bit (get_or atoms x 0) s) (upto 0 64))
    ∙ bool_ext (some (λ x. ltb x n && bit (get_or atoms x 0) s) (upto 0 64)) (some (λ x. bit (get_or atoms x 0) s) (upto 0 n))
    (λ e.
    let (x, i, b) = some_in (λ x. ltb x n && bit (get_or atoms x 0) s) (upto 0 64) e in
    in_some (λ x. bit (get_or atoms x 0) s) {x = x}
    (in_upto x 0 n (omega arith) (ltb-true x n (and_left (ltb x n) (bit (get_or atoms x 0) s) b))) (and_right (ltb x n) (bit (get_or atoms x 0) s) b))
    (λ e.
    let (x, i, b) = some_in (λ x. bit (get_or atoms x 0) s) (upto 0 n) e in
    let l : x < n = (upto_in x 0 n i).1 in
    in_some (λ x. ltb x n && bit (get_or atoms x 0) s) {x = x} (in_upto x 0 64 (omega arith) (omega arith)) (and_both (lt-ltb x n l) b))
