-- What an expression can have read of a prefix from behind one of its occurrences (`ReadsFrom`, by the expression alone) is what the ways
-- through its tables read from there, and what it can read to its end from there is what a way reads that may end. Then both for 0 and for
-- the occurrences together. The idea is that of `Read.antt`: where a way leaves a part, what lies behind was read to the end of the part.
-- Assumes nothing.
use Prim.Native.Nat.{ℕ, zero, suc, ◌+◌}
use native.Mathlib.Omega.{arith}
use mathlib.Core.Path.{◌≡◌, refl, sym, ap, subst}
use mathlib.Core.Logic.{◌⊎◌, ⊎_elim, ◌↔◌}
use mathlib.Core.Logic.◌⊎◌.{inl, inr}
use mathlib.Core.Bool.{Bool, true, ◌&&◌, ◌||◌, true≢false}
use Rattle.kat.specs.Expr.{Expr, step, test, alt, seq, plus}
use Rattle.kat.specs.Word.{end, last}
use Rattle.kat.specs.Ring.{Prefix, nothing, then, onto, join, start}
use Rattle.kat.specs.Tables.{occurrences, reads, firsts, lasts, follows, stop}
use Rattle.kat.specs.Rest.{Rest}
use Rattle.kat.specs.Way.{Way}
use Rattle.kat.specs.Turns.{NonEmpty}
use Rattle.kat.specs.Read.{EndsFrom, ReadsFrom, Reached, Ended}
use Rattle.kat.proofs.Bools.{or_cases, or_left, or_right, and_left, and_right, and_both}
use Rattle.kat.proofs.Letters.{last_rest}
use Rattle.kat.proofs.Growing.{start_own}
use Rattle.kat.proofs.Words.{last_onto}
use Rattle.kat.proofs.Runs.{rest_of_reads, reads_of_rest, reads_onto, language_by_ways}
use Rattle.kat.proofs.Ways.{Ways, opens, grows, ways_range, ways_longer, ways_map, behind, EndedAt, ended_by_way, alt_left, alt_right, alt_split, seq_left, seq_right, seq_split, seq_join}
use Rattle.kat.proofs.Read.{reads_ways, ways_reads, way_of_ways, ways_of_way, read_is_way}

-- a way through `+` is still in the round of p, or has ended that and reads on from the start
module _ (e : Expr) (k p : ℕ) where
  abbrev InRound : Prefix → ℕ → Type 0
  InRound l q =
      Ways (follows e k p) e k l q
      ⊎ ((u : Prefix) × (v : Prefix) × (l ≡ join u v) × EndsFrom e k p u v × Ways (firsts e k) (plus e) k v q)

  round_grows : (l : Prefix) (o a r q : ℕ) → (follows e k o q a || (lasts e k o a && firsts e k q a)) ≡ true → reads e k q r ≡ true
      → InRound l o → InRound (then l a r) q
  round_grows l o a r q n m (inl w) =
      ⊎_elim
      (λ x. inl (grows l o a r q w x m))
      (λ x. inr (
        l,
        then nothing a r,
        refl,
        (ended_by_way e k (behind e k p) l a).1 (inr (o, w, and_left (lasts e k o a) (firsts e k q a) x)),
        opens a r q (and_right (lasts e k o a) (firsts e k q a) x) m,
      ))
      (or_cases (follows e k o q a) (lasts e k o a && firsts e k q a) n)
  round_grows l o a r q n m (inr (u, v, x, h, w)) =
      inr (
        u,
        then v a r,
        ap (λ z. then z a r) x,
        subst (λ z. Rest e k p (onto u (end z)) (end z)) (start_own 0 a v (ways_longer (plus e) k w)) h,
        grows v o a r q w n m,
      )

  round_split : {l : Prefix} {q : ℕ} → Ways (follows (plus e) k p) (plus e) k l q → InRound l q
  round_split (opens a r q n m) =
      ⊎_elim
      (λ x. inl (opens a r q x m))
      (λ x. inr (
        nothing,
        then nothing a r,
        refl,
        last_rest e k p (end a) (and_left (lasts e k p a) (firsts e k q a) x),
        opens a r q (and_right (lasts e k p a) (firsts e k q a) x) m,
      ))
      (or_cases (follows e k p q a) (lasts e k p a && firsts e k q a) n)
  round_split (grows l o a r q w n m) = round_grows l o a r q n m (round_split w)

  round_left : {l : Prefix} {q : ℕ} → Ways (follows e k p) e k l q → Ways (follows (plus e) k p) (plus e) k l q
  round_left =
      ways_map e k (plus e) k
      (λ q a n. or_left (lasts e k p a && firsts e k q a) n)
      (λ o q a n. or_left (lasts e k o a && firsts e k q a) n)
      (λ q r m. m)

  round_begins : (u : Prefix) (a r q : ℕ) → firsts e k q a ≡ true → reads e k q r ≡ true
      → EndedAt e k (behind e k p) u a → Ways (follows (plus e) k p) (plus e) k (then u a r) q
  round_begins u a r q n m (inl (x, y)) =
      subst (λ z. Ways (follows (plus e) k p) (plus e) k (then z a r) q) (sym x)
      (opens a r q (or_right (follows e k p q a) (and_both y n)) m)
  round_begins u a r q n m (inr (o, w, y)) =
      grows u o a r q (round_left w) (or_right (follows e k o q a) (and_both y n)) m

  round_join : (u : Prefix) {v : Prefix} {q : ℕ} → EndsFrom e k p u v → Ways (firsts e k) (plus e) k v q
      → Ways (follows (plus e) k p) (plus e) k (join u v) q
  round_join u h (opens a r q n m) = round_begins u a r q n m ((ended_by_way e k (behind e k p) u a).0 h)
  round_join u h (grows v o a r q w n m) =
      grows (join u v) o a r q
      (round_join u (subst (λ z. Rest e k p (onto u (end z)) (end z)) (start_own a 0 v (ways_longer (plus e) k w)) h) w) n m

-- behind a step nothing can be read
step_none : (s : ℕ → Bool) (k p : ℕ) {l : Prefix} {q : ℕ} → Ways (follows (step s) k p) (step s) k l q → ⊥
step_none s k p (opens a r q n m) = true≢false (sym n)
step_none s k p (grows l o a r q w n m) = true≢false (sym n)

-- the same from behind occurrence p, for every number of occurrences before the expression
from_ways : (E : Expr) (k p : ℕ) (l : Prefix) (q : ℕ) → ReadsFrom E k p l q → Ways (follows E k p) E k l q
from_ways (step s) k p l q h = absurd h
from_ways (test s) k p l q h = absurd h
from_ways (alt e f) k p l q (inl h) =
    alt_left e f k (λ q a n. or_left (follows f (k + occurrences e) p q a) n) (from_ways e k p l q h)
from_ways (alt e f) k p l q (inr h) =
    alt_right e f k (λ q a n. or_right (follows e k p q a) n) (from_ways f (k + occurrences e) p l q h)
from_ways (seq e f) k p l q (inl h) =
    seq_left e f k
    (λ q a n. or_left (lasts e k p a && firsts f (k + occurrences e) q a) (or_left (follows f (k + occurrences e) p q a) n))
    (from_ways e k p l q h)
from_ways (seq e f) k p l q (inr (inl (u, v, x, w, h))) =
    subst (λ z. Ways (follows (seq e f) k p) (seq e f) k z q) (sym x)
    (seq_join e f k (behind e k p) (behind f (k + occurrences e) p) (follows (seq e f) k p)
    (λ q a n. or_left (lasts e k p a && firsts f (k + occurrences e) q a) (or_left (follows f (k + occurrences e) p q a) n))
    (λ q a n. or_right (follows e k p q a || follows f (k + occurrences e) p q a) n)
    u w (reads_ways f (k + occurrences e) v q h))
from_ways (seq e f) k p l q (inr (inr h)) =
    seq_right e f k
    (λ q a n. or_left (lasts e k p a && firsts f (k + occurrences e) q a) (or_right (follows e k p q a) n))
    (from_ways f (k + occurrences e) p l q h)
from_ways (plus e) k p l q (inl h) = round_left e k p (from_ways e k p l q h)
from_ways (plus e) k p l q (inr (u, v, x, w, h)) =
    subst (λ z. Ways (follows (plus e) k p) (plus e) k z q) (sym x) (round_join e k p u w (reads_ways (plus e) k v q h))

ways_from : (E : Expr) (k p : ℕ) (l : Prefix) (q : ℕ) → Ways (follows E k p) E k l q → ReadsFrom E k p l q
ways_from (step s) k p l q w = step_none s k p w
ways_from (test s) k p l q w = let (lo, hi) = ways_range (test s) k w in absurd (omega arith)
ways_from (alt e f) k p l q w =
    ⊎_elim (λ t. inl (ways_from e k p l q t)) (λ t. inr (ways_from f (k + occurrences e) p l q t))
    (alt_split e f k (behind e k p) (behind f (k + occurrences e) p) (follows (alt e f) k p)
    (λ q a n. or_cases (follows e k p q a) (follows f (k + occurrences e) p q a) n) w)
ways_from (seq e f) k p l q w =
    ⊎_elim (λ t. inl (ways_from e k p l q t))
    (λ t.
    ⊎_elim (λ (u, v, x, h, t). inr (inl (u, v, x, h, ways_reads f (k + occurrences e) v q t)))
    (λ t. inr (inr (ways_from f (k + occurrences e) p l q t))) t)
    (seq_split e f k (behind e k p) (behind f (k + occurrences e) p) (follows (seq e f) k p)
    (λ q a n.
    ⊎_elim
    (λ x. ⊎_elim (λ y. inl y) (λ y. inr (inr y)) (or_cases (follows e k p q a) (follows f (k + occurrences e) p q a) x))
    (λ x. inr (inl x))
    (or_cases (follows e k p q a || follows f (k + occurrences e) p q a) (lasts e k p a && firsts f (k + occurrences e) q a) n)) w)
ways_from (plus e) k p l q w =
    ⊎_elim (λ t. inl (ways_from e k p l q t)) (λ (u, v, x, h, t). inr (u, v, x, h, ways_reads (plus e) k v q t)) (round_split e k p w)

-- from p, 0 or an occurrence: the occurrences that can have read the last relation of a prefix are those on which the ways from p end
pub reached_is_way : (E : Expr) (p : ℕ) (l : Prefix) (q : ℕ) → NonEmpty l → Reached E p l q ↔ Way E p l q
reached_is_way E zero l q h = read_is_way E l q h
reached_is_way E (suc p) l q h = (
  (λ t. way_of_ways E (suc p) (follows E 0 (suc p)) (λ q a. refl) (from_ways E 0 (suc p) l q t)),
  (λ w. ways_from E 0 (suc p) l q (ways_of_way E (suc p) (follows E 0 (suc p)) (λ q a. refl) l q h w)),
)

-- from p, 0 or an occurrence: a part is read to the end of E, at the atom where the next part begins, exactly when a way from p reads it and
-- ends on an occurrence that may be last there
pub ended_is_way : (E : Expr) (p : ℕ) (u v : Prefix) → Ended E p u v ↔ ((o : ℕ) × Way E p u o × (stop E o (start 0 v) ≡ true))
ended_is_way E zero u v = language_by_ways E u (start 0 v)
ended_is_way E (suc p) u v =
    let c : ℕ = start 0 v in
    let e : last (onto u (end c)) ≡ c = last_onto u (end c) in (
      (λ h.
          (reads_onto E (suc p) u (end c)).0
          (reads_of_rest E (onto u (end c)) (suc p) (omega arith) (subst (λ b. Rest E 0 (suc p) (onto u (end c)) (end b)) (sym e) h))),
      (λ h.
          subst (λ b. Rest E 0 (suc p) (onto u (end c)) (end b)) e
          (rest_of_reads E (onto u (end c)) (suc p) (omega arith) ((reads_onto E (suc p) u (end c)).1 h))),
    )
