-- What an expression can have read of a prefix from its start (`ReadsTo`, by the expression alone) is what the ways through its tables read.
-- The idea: a word is in the language exactly when some way reads its prefix and ends on an occurrence that may be last at its last atom
-- (`whole_is_way`). So where a way leaves the left part of a sequence, or a round of `+`, what lies behind is a word.
-- Assumes nothing.
use Prim.Native.Nat.{ℕ, zero, suc, ◌+◌, ◌<◌}
use native.Mathlib.Omega.{arith}
use mathlib.Core.Path.{◌≡◌, refl, sym, ◌∙◌, ap, subst}
use mathlib.Core.Logic.{◌⊎◌, ⊎_elim, ◌↔◌}
use mathlib.Core.Logic.◌⊎◌.{inl, inr}
use mathlib.Core.Bool.{Bool, true, ◌&&◌, true≢false}
use lib.Dec.{eqb}
use borrow.Author.Tests.{eqb-true, eq-eqb}
use Rattle.kat.specs.Expr.{Expr, step, test, alt, seq, plus}
use Rattle.kat.specs.Graph.{Rel}
use Rattle.kat.specs.Word.{end}
use Rattle.kat.specs.Language.{Lang, places}
use Rattle.kat.specs.Ring.{Prefix, nothing, then, onto, join, start}
use Rattle.kat.specs.Tables.{occurrences, reads, null, firsts, lasts, follows, next}
use Rattle.kat.specs.Way.{Way}
use Rattle.kat.specs.Turns.{NonEmpty}
use Rattle.kat.specs.Read.{Whole, ReadsTo}
use Rattle.kat.proofs.Bools.{or_cases, or_left, or_right, and_left, and_right, and_both}
use Rattle.kat.proofs.Growing.{start_own}
use Rattle.kat.proofs.Words.{last_onto}
use Rattle.kat.proofs.Ways.{Ways, opens, grows, ways_range, ways_longer, no_ways, at_start, nowhere, EndedAt, ended_by_way, alt_left, alt_right, alt_split, seq_left, seq_split, seq_join}

-- a prefix and an atom are a word of the language: they are read to the end from the start
pub word_read : (E : Expr) (l : Prefix) (a : ℕ) → Lang E (onto l (end a)) → Rel places E (onto l (end a)) (end a)
word_read E l a h = subst (λ b. Rel places E (onto l (end a)) (end b)) (last_onto l (end a)) h

pub read_word : (E : Expr) (l : Prefix) (a : ℕ) → Rel places E (onto l (end a)) (end a) → Lang E (onto l (end a))
read_word E l a h = subst (λ b. Rel places E (onto l (end a)) (end b)) (sym (last_onto l (end a))) h

-- a word of the language is one that a way reads and that may end there
whole_is_way : (E : Expr) (k : ℕ) (l : Prefix) (a : ℕ) → Lang E (onto l (end a)) ↔ EndedAt E k (at_start E k) l a
whole_is_way E k l a = (
  (λ h. (ended_by_way E k (at_start E k) l a).0 (word_read E l a h)),
  (λ h. read_word E l a ((ended_by_way E k (at_start E k) l a).1 h)),
)

-- a way through `+` has read no round or whole ones, and is in the next
module _ (e : Expr) (k : ℕ) where
  abbrev Rounds : Prefix → Prefix → Type 0
  Rounds u v = (u ≡ nothing) ⊎ Whole (plus e) u v

  abbrev InPlus : Prefix → ℕ → Type 0
  InPlus l q = (u : Prefix) × (v : Prefix) × (l ≡ join u v) × Rounds u v × Ways (firsts e k) e k v q

  rounds_own : (u v : Prefix) (b a : ℕ) → NonEmpty v → (u ≡ nothing) ⊎ Lang (plus e) (onto u (end (start b v)))
      → (u ≡ nothing) ⊎ Lang (plus e) (onto u (end (start a v)))
  rounds_own u v b a h (inl x) = inl x
  rounds_own u v b a h (inr x) = inr (subst (λ y. Lang (plus e) (onto u (end y))) (start_own b a v h) x)

  plus_onward : (l : Prefix) (o a r q : ℕ) → follows e k o q a ≡ true → reads e k q r ≡ true → InPlus l o → InPlus (then l a r) q
  plus_onward l o a r q n m (u, v, x, h, w) =
      (u, then v a r, ap (λ z. then z a r) x, rounds_own u v 0 a (ways_longer e k w) h, grows v o a r q w n m)

  plus_split : {l : Prefix} {q : ℕ} → Ways (firsts e k) (plus e) k l q → InPlus l q
  plus_split (opens a r q n m) = (nothing, then nothing a r, refl, inl refl, opens a r q n m)
  plus_split (grows l o a r q w n m) =
      ⊎_elim
      (λ x. plus_onward l o a r q x m (plus_split w))
      (λ x. (
        l,
        then nothing a r,
        refl,
        inr ((whole_is_way (plus e) k l a).1 (inr (o, w, and_left (lasts e k o a) (firsts e k q a) x))),
        opens a r q (and_right (lasts e k o a) (firsts e k q a) x) m,
      ))
      (or_cases (follows e k o q a) (lasts e k o a && firsts e k q a) n)

  plus_begins : (u : Prefix) (a r q : ℕ) → firsts e k q a ≡ true → reads e k q r ≡ true
      → (u ≡ nothing) ⊎ EndedAt (plus e) k (at_start (plus e) k) u a → Ways (firsts e k) (plus e) k (then u a r) q
  plus_begins u a r q n m (inl x) = subst (λ z. Ways (firsts e k) (plus e) k (then z a r) q) (sym x) (opens a r q n m)
  plus_begins u a r q n m (inr (inl (x, y))) = subst (λ z. Ways (firsts e k) (plus e) k (then z a r) q) (sym x) (opens a r q n m)
  plus_begins u a r q n m (inr (inr (o, w, y))) = grows u o a r q w (or_right (follows e k o q a) (and_both y n)) m

  plus_join : (u : Prefix) {v : Prefix} {q : ℕ} → Rounds u v → Ways (firsts e k) e k v q → Ways (firsts e k) (plus e) k (join u v) q
  plus_join u h (opens a r q n m) =
      plus_begins u a r q n m (⊎_elim (λ x. inl x) (λ x. inr ((whole_is_way (plus e) k u a).0 x)) h)
  plus_join u h (grows v o a r q w n m) =
      grows (join u v) o a r q (plus_join u (rounds_own u v a 0 (ways_longer e k w) h) w)
      (or_left (lasts e k o a && firsts e k q a) n) m

step_split : (s : ℕ → Bool) (k : ℕ) {l : Prefix} {q : ℕ} → Ways (firsts (step s) k) (step s) k l q → ReadsTo (step s) k l q
step_split s k (opens a r q n m) = (a, r, refl, and_right (eqb q (suc k)) (s r) m, eqb-true q (suc k) n)
step_split s k (grows l o a r q w n m) = absurd (true≢false (sym n))

-- what the expression can have read is what the ways through its tables read, for every number of occurrences before it
pub reads_ways : (E : Expr) (k : ℕ) (l : Prefix) (q : ℕ) → ReadsTo E k l q → Ways (firsts E k) E k l q
reads_ways (step s) k l q (a, r, x, h, y) =
    let t : eqb q (suc k) ≡ true = eq-eqb q (suc k) y in
    subst (λ z. Ways (firsts (step s) k) (step s) k z q) (sym x) (opens a r q t (and_both t h))
reads_ways (test s) k l q h = absurd h
reads_ways (alt e f) k l q (inl h) =
    alt_left e f k (λ q a n. or_left (firsts f (k + occurrences e) q a) n) (reads_ways e k l q h)
reads_ways (alt e f) k l q (inr h) =
    alt_right e f k (λ q a n. or_right (firsts e k q a) n) (reads_ways f (k + occurrences e) l q h)
reads_ways (seq e f) k l q (inl h) =
    seq_left e f k (λ q a n. or_left (null e a && firsts f (k + occurrences e) q a) n) (reads_ways e k l q h)
reads_ways (seq e f) k l q (inr (u, v, x, w, h)) =
    subst (λ z. Ways (firsts (seq e f) k) (seq e f) k z q) (sym x)
    (seq_join e f k (at_start e k) (nowhere f (k + occurrences e)) (firsts (seq e f) k)
    (λ q a n. or_left (null e a && firsts f (k + occurrences e) q a) n) (λ q a n. or_right (firsts e k q a) n)
    u (word_read e u (start 0 v) w) (reads_ways f (k + occurrences e) v q h))
reads_ways (plus e) k l q (u, v, x, w, h) =
    subst (λ z. Ways (firsts e k) (plus e) k z q) (sym x) (plus_join e k u w (reads_ways e k v q h))

pub ways_reads : (E : Expr) (k : ℕ) (l : Prefix) (q : ℕ) → Ways (firsts E k) E k l q → ReadsTo E k l q
ways_reads (step s) k l q w = step_split s k w
ways_reads (test s) k l q w = let (lo, hi) = ways_range (test s) k w in absurd (omega arith)
ways_reads (alt e f) k l q w =
    ⊎_elim (λ t. inl (ways_reads e k l q t)) (λ t. inr (ways_reads f (k + occurrences e) l q t))
    (alt_split e f k (at_start e k) (at_start f (k + occurrences e)) (firsts (alt e f) k)
    (λ q a n. or_cases (firsts e k q a) (firsts f (k + occurrences e) q a) n) w)
ways_reads (seq e f) k l q w =
    ⊎_elim (λ t. inl (ways_reads e k l q t))
    (λ t.
    ⊎_elim (λ (u, v, x, h, t). inr (u, v, x, read_word e u (start 0 v) h, ways_reads f (k + occurrences e) v q t))
    (λ t. absurd (no_ways f (k + occurrences e) t)) t)
    (seq_split e f k (at_start e k) (nowhere f (k + occurrences e)) (firsts (seq e f) k)
    (λ q a n. ⊎_elim (λ x. inl x) (λ x. inr (inl x)) (or_cases (firsts e k q a) (null e a && firsts f (k + occurrences e) q a) n)) w)
ways_reads (plus e) k l q w = let (u, v, x, h, t) = plus_split e k w in (u, v, x, h, ways_reads e k v q t)

next_follows : (E : Expr) (o q a : ℕ) → 0 < o → follows E 0 o q a ≡ next E o q a
next_follows E zero q a h = absurd (omega arith)
next_follows E (suc o) q a h = refl

-- the ways that begin with what may come next after p
module _ (E : Expr) (p : ℕ) (N : ℕ → ℕ → Bool) (same : (q a : ℕ) → N q a ≡ next E p q a) where
  pub way_of_ways : {l : Prefix} {q : ℕ} → Ways N E 0 l q → Way E p l q
  way_of_ways (opens a r q n m) = (p, refl, sym (same q a) ∙ n, m)
  way_of_ways (grows l o a r q w n m) =
      let (lo, hi) = ways_range E 0 w in (o, way_of_ways w, sym (next_follows E o q a lo) ∙ n, m)

  pub ways_of_way : (l : Prefix) (q : ℕ) → NonEmpty l → Way E p l q → Ways N E 0 l q
  ways_of_way (then nothing a r) q h (o, e, n, m) = opens a r q (same q a ∙ subst (λ z. next E z q a ≡ true) (sym e) n) m
  ways_of_way (then (then l b s) a r) q h (o, w, n, m) =
      let t : Ways N E 0 (then l b s) o = ways_of_way (then l b s) o tt w in
      let (lo, hi) = ways_range E 0 t in
      grows (then l b s) o a r q t (next_follows E o q a lo ∙ n) m
  ways_of_way nothing q h _ = elim h [ ]

-- the occurrences that can have read the last relation of a prefix are those on which the ways through the tables end
pub read_is_way : (E : Expr) (l : Prefix) (q : ℕ) → NonEmpty l → ReadsTo E 0 l q ↔ Way E 0 l q
read_is_way E l q h = (
  (λ t. way_of_ways E 0 (firsts E 0) (λ q a. refl) (reads_ways E 0 l q t)),
  (λ w. ways_reads E 0 l q (ways_of_way E 0 (firsts E 0) (λ q a. refl) l q h w)),
)

-- only a prefix with a relation can have been read by an occurrence
pub reads_longer : (E : Expr) (k : ℕ) (l : Prefix) (q : ℕ) → ReadsTo E k l q → NonEmpty l
reads_longer E k l q h = ways_longer E k (reads_ways E k l q h)
