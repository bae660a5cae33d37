-- A table that shows an expression: each bit of its steps, ends and letters is what the tables of the expression say. (Document 01,
-- "Standings".) While an expression is built the table shows the union of all parts that wait: nothing at first; a test changes nothing, nor
-- does a union of two parts; a new occurrence is one more part.
-- Assumes nothing.
use Prim.Native.Nat.{ℕ, suc, ◌+◌, ◌*◌, ◌≤◌, ◌<◌}
use native.Mathlib.Omega.{arith}
use mathlib.Core.Path.{◌≡◌, sym, ◌∙◌, ap, ap₂}
use mathlib.Core.Logic.{⊎_elim}
use mathlib.Core.Bool.{Bool, true, false, ◌&&◌, ◌||◌, and-true, and-false, or-false, or_assoc}
use mathlib.Core.List.{List}
use lib.Dec.{eqb}
use lib.ListN.{length, get_or}
use borrow.Author.Tests.{eq-eqb, ne_eqb}
use Rattle.kat.specs.Expr.{Expr, test, alt, none as nowhere}
use Rattle.kat.specs.Tables.{occurrences, reads, firsts, lasts, follows}
use Rattle.kat.proofs.Bools.{false_of_not}
use Rattle.kat.proofs.Ranges.{firsts_range, lasts_range, follows_range, follows_before, reads_range}
use Rattle.claims.specs.Query.{bit}
use Rattle.bits.proofs.Bit.{bit_none}
use Rattle.bits.proofs.Rows.{bit_including}
use Rattle.side_atoms.specs.Single.{Single}
use Rattle.memory.specs.Memory.{words}
use Rattle.memory.proofs.Words.{same_or_not, words_length, words_at_lem}
use Rattle.side_tables.specs.InPlace.{added}
use Rattle.side_tables.specs.Layout.{ENDS, LETTERS, NULL, TABLE, ROW}
use Rattle.side_tables.proofs.Marks.{with_bit, added_first, added_end, added_own, added_step, added_letter, added_above, added_long}

-- the bits of the table t are those of the tables of U, and no word is told yet ("Standings")
pub record Shows (U : Expr) (t : List ℕ) : Type 0 where
  pub long : length t ≡ TABLE
  pub first : (a q : ℕ) → a < 64 → bit q (get_or t (ROW * a) 0) ≡ firsts U 0 (suc q) a
  pub step : (a p q : ℕ) → a < 64 → p < 64 → bit q (get_or t (ROW * a + 1 + p) 0) ≡ follows U 0 (suc p) (suc q) a
  pub end : (a p : ℕ) → a < 64 → bit p (get_or t (ENDS + a) 0) ≡ lasts U 0 (suc p) a
  pub letter : (r q : ℕ) → r < 16 → bit q (get_or t (LETTERS + r) 0) ≡ reads U 0 (suc q) r
  pub untold : get_or t NULL 0 ≡ 0

-- nothing
pub shows_nothing : Shows nowhere (words TABLE (λ i. 0))
shows_nothing =
    let z : (q i : ℕ) → i < TABLE → bit q (get_or (words TABLE (λ i. 0)) i 0) ≡ false =
    λ q i h. ap (bit q) (words_at_lem TABLE (λ i. 0) i h) ∙ bit_none q in
    record {
      long = words_length TABLE (λ i. 0);
      first = λ a q h. z q (ROW * a) (omega arith);
      step = λ a p q h l. z q (ROW * a + 1 + p) (omega arith);
      end = λ a p h. z p (ENDS + a) (omega arith);
      letter = λ r q h. z q (LETTERS + r) (omega arith);
      untold = words_at_lem TABLE (λ i. 0) NULL (omega arith);
    }

-- the same tables
pub shows_same : {U E : Expr} {t : List ℕ} → Shows U t
    → ((q a : ℕ) → firsts U 0 (suc q) a ≡ firsts E 0 (suc q) a)
    → ((p q a : ℕ) → follows U 0 (suc p) (suc q) a ≡ follows E 0 (suc p) (suc q) a)
    → ((p a : ℕ) → lasts U 0 (suc p) a ≡ lasts E 0 (suc p) a)
    → ((q r : ℕ) → reads U 0 (suc q) r ≡ reads E 0 (suc q) r) → Shows E t
shows_same x f g h i =
    record {
      long = x.long;
      first = λ a q l. x.first a q l ∙ f q a;
      step = λ a p q l m. x.step a p q l m ∙ g p q a;
      end = λ a p l. x.end a p l ∙ h p a;
      letter = λ r q l. x.letter r q l ∙ i q r;
      untold = x.untold;
    }

-- nothing more
pub none_more : (b : Bool) → b ≡ (b || false)
none_more b = sym (or-false b)

-- a test
pub shows_test : {U : Expr} {t : List ℕ} (s : ℕ → Bool) → Shows U t → Shows (alt U (test s)) t
shows_test {U} s x =
    shows_same x (λ q a. none_more (firsts U 0 (suc q) a)) (λ p q a. none_more (follows U 0 (suc p) (suc q) a)) (λ p a. none_more (lasts U 0 (suc p) a))
    (λ q r. none_more (reads U 0 (suc q) r))

-- two parts are one
pub shows_union : {U D E : Expr} {t : List ℕ} → Shows (alt (alt U D) E) t → Shows (alt U (alt D E)) t
shows_union {U} {D} {E} x =
    let z : 0 + (occurrences U + occurrences D) ≡ 0 + occurrences U + occurrences D = omega arith in
    shows_same x
    (λ q a. or_assoc (firsts U 0 (suc q) a) (firsts D (0 + occurrences U) (suc q) a) _
    ∙ ap (λ k. firsts U 0 (suc q) a || (firsts D (0 + occurrences U) (suc q) a || firsts E k (suc q) a)) z)
    (λ p q a. or_assoc (follows U 0 (suc p) (suc q) a) (follows D (0 + occurrences U) (suc p) (suc q) a) _
    ∙ ap (λ k. follows U 0 (suc p) (suc q) a || (follows D (0 + occurrences U) (suc p) (suc q) a || follows E k (suc p) (suc q) a)) z)
    (λ p a. or_assoc (lasts U 0 (suc p) a) (lasts D (0 + occurrences U) (suc p) a) _
    ∙ ap (λ k. lasts U 0 (suc p) a || (lasts D (0 + occurrences U) (suc p) a || lasts E k (suc p) a)) z)
    (λ q r. or_assoc (reads U 0 (suc q) r) (reads D (0 + occurrences U) (suc q) r) _
    ∙ ap (λ k. reads U 0 (suc q) r || (reads D (0 + occurrences U) (suc q) r || reads E k (suc q) r)) z)

-- a word with bit k in it, where a test holds
with_bit_lem : (b : Bool) (k w q : ℕ) → k < 64 → bit q (with_bit b k w) ≡ (bit q w || (eqb q k && b))
with_bit_lem true k w q h = bit_including 64 w k q h ∙ ap (λ c. bit q w || c) (sym (and-true (eqb q k)))
with_bit_lem false k w q h = none_more (bit q w) ∙ ap (λ c. bit q w || c) (sym (and-false (eqb q k)))

-- what an expression with one occurrence after k says of occurrence q + 1
module _ {E : Expr} {F L G S : ℕ → Bool} (x : Single E F L G S) (k q : ℕ) where
  only_own : (f : Bool) (g : Bool) → (q ≡ k → g ≡ f) → ((q ≡ k → ⊥) → g ≡ false) → (eqb q k && f) ≡ g
  only_own f g h i =
      ⊎_elim (λ e. ap (λ b. b && f) (eq-eqb q k e) ∙ sym (h e)) (λ n. ap (λ b. b && f) (ne_eqb q k n) ∙ sym (i n)) (same_or_not q k)

  not_among : (q ≡ k → ⊥) → (k < suc q) × (suc q ≤ k + occurrences E) → ⊥
  not_among n (a, b) = n (omega (arith, x.one))

  own_first : (a : ℕ) → (eqb q k && F a) ≡ firsts E k (suc q) a
  own_first a =
      only_own (F a) (firsts E k (suc q) a) (λ e. ap (λ n. firsts E k (suc n) a) e ∙ x.is_first k a)
      (λ n. false_of_not (firsts E k (suc q) a) (λ h. not_among n (firsts_range E k (suc q) a h)))

  own_last : (a : ℕ) → (eqb q k && L a) ≡ lasts E k (suc q) a
  own_last a =
      only_own (L a) (lasts E k (suc q) a) (λ e. ap (λ n. lasts E k (suc n) a) e ∙ x.is_last k a)
      (λ n. false_of_not (lasts E k (suc q) a) (λ h. not_among n (lasts_range E k (suc q) a h)))

  own_reads : (r : ℕ) → (eqb q k && S r) ≡ reads E k (suc q) r
  own_reads r =
      only_own (S r) (reads E k (suc q) r) (λ e. ap (λ n. reads E k (suc n) r) e ∙ x.is_read k r)
      (λ n. false_of_not (reads E k (suc q) r) (λ h. not_among n (reads_range E k (suc q) r h)))

  own_follows : (a : ℕ) → (eqb q k && G a) ≡ follows E k (suc k) (suc q) a
  own_follows a =
      only_own (G a) (follows E k (suc k) (suc q) a) (λ e. ap (λ n. follows E k (suc k) (suc n) a) e ∙ x.follows_itself k a)
      (λ n. false_of_not (follows E k (suc k) (suc q) a) (λ h. not_among n (follows_range E k (suc k) (suc q) a h)))

  -- after another than itself
  none_follows : (p a : ℕ) → (p ≡ k → ⊥) → follows E k (suc p) (suc q) a ≡ false
  none_follows p a n =
      false_of_not (follows E k (suc p) (suc q) a)
      (λ h. let (i, j) = follows_before E k (suc p) (suc q) a h in n (omega (arith, x.one)))

-- a new occurrence, by the sets of atoms and relations of an expression with one
pub shows_added : {U E : Expr} {F L G S : ℕ → Bool} {t : List ℕ} → Single E F L G S → Shows U t → (k f l g s : ℕ)
    → 0 + occurrences U ≡ k → k < 64 → ((a : ℕ) → a < 64 → bit a f ≡ F a) → ((a : ℕ) → a < 64 → bit a l ≡ L a)
    → ((a : ℕ) → a < 64 → bit a g ≡ G a) → ((r : ℕ) → r < 16 → bit r s ≡ S r) → Shows (alt U E) (added k f l g s t)
shows_added {U} {E} {t = t} y x k f l g s z room isF isL isG isS =
    record {
      long = added_long k f l g s room t x.long;
      first = λ a q h.
          ap (bit q) (added_first k f l g s room t x.long a h) ∙ with_bit_lem (bit a f) k (get_or t (ROW * a) 0) q room
          ∙ ap₂ ◌||◌ (x.first a q h) (ap (λ b. eqb q k && b) (isF a h) ∙ own_first y k q a ∙ ap (λ n. firsts E n (suc q) a) (sym z));
      step = λ a p q h i. ⊎_elim
          (λ e. ap (λ n. bit q (get_or (added k f l g s t) (ROW * a + 1 + n) 0)) e
          ∙ ap (bit q) (added_own k f l g s room t x.long a h) ∙ with_bit_lem (bit a g) k (get_or t (ROW * a + 1 + k) 0) q room
          ∙ ap₂ ◌||◌ (x.step a k q h room) (ap (λ b. eqb q k && b) (isG a h) ∙ own_follows y k q a ∙ ap (λ n. follows E n (suc k) (suc q) a) (sym z))
          ∙ ap (λ n. follows U 0 (suc n) (suc q) a || follows E (0 + occurrences U) (suc n) (suc q) a) (sym e))
          (λ n. ap (bit q) (added_step k f l g s room t x.long a p h i n) ∙ x.step a p q h i
          ∙ none_more (follows U 0 (suc p) (suc q) a)
          ∙ ap (λ b. follows U 0 (suc p) (suc q) a || b) (sym (ap (λ m. follows E m (suc p) (suc q) a) z ∙ none_follows y k q p a n)))
          (same_or_not p k);
      end = λ a p h.
          ap (bit p) (added_end k f l g s room t x.long a h) ∙ with_bit_lem (bit a l) k (get_or t (ENDS + a) 0) p room
          ∙ ap₂ ◌||◌ (x.end a p h) (ap (λ b. eqb p k && b) (isL a h) ∙ own_last y k p a ∙ ap (λ n. lasts E n (suc p) a) (sym z));
      letter = λ r q h.
          ap (bit q) (added_letter k f l g s room t x.long r h) ∙ with_bit_lem (bit r s) k (get_or t (LETTERS + r) 0) q room
          ∙ ap₂ ◌||◌ (x.letter r q h) (ap (λ b. eqb q k && b) (isS r h) ∙ own_reads y k q r ∙ ap (λ n. reads E n (suc q) r) (sym z));
      untold = added_above k f l g s room t x.long ∙ x.untold;
    }
