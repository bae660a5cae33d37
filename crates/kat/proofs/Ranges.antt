-- The occurrences of an expression that k others stand before are numbered from k + 1 to k + their number: every table is false
-- outside that range. Two parts of one expression have ranges apart, so a number tells which part it belongs to.
-- Assumes nothing.
use Prim.Native.Nat.{ℕ, suc, ◌+◌, ◌≤◌, ◌<◌}
use native.Mathlib.Omega.{arith}
use mathlib.Core.Path.{◌≡◌, sym}
use mathlib.Core.Logic.{⊎_elim}
use mathlib.Core.Bool.{Bool, true, ◌&&◌, ◌||◌, true≢false}
use lib.Dec.{eqb}
use borrow.Author.Tests.{eqb-true}
use Rattle.kat.specs.Expr.{Expr, step, test, alt, seq, plus}
use Rattle.kat.specs.Tables.{occurrences, reads, null, firsts, lasts, follows}
use Rattle.kat.proofs.Bools.{or_cases, and_left, and_right}

-- q is one of the n numbers after k
abbrev pub Among : ℕ → ℕ → ℕ → Type 0
Among k n q = (k < q) × (q ≤ k + n)

pub among_left : (k m n q : ℕ) → Among k m q → Among k (m + n) q
among_left k m n q (a, b) = (a, omega arith)

pub among_right : (k m n q : ℕ) → Among (k + m) n q → Among k (m + n) q
among_right k m n q (a, b) = (omega arith, omega arith)

pub apart : (k m n q : ℕ) → Among k m q → Among (k + m) n q → ⊥
apart k m n q (a, b) (c, d) = omega arith

among_own : (k q : ℕ) → eqb q (suc k) ≡ true → Among k 1 q
among_own k q e = let h : q ≡ suc k = eqb-true q (suc k) e in (omega arith, omega arith)

-- one of two parts
among_either : (k m n q : ℕ) (a b : Bool) → (a ≡ true → Among k m q) → (b ≡ true → Among (k + m) n q) → (a || b) ≡ true → Among k (m + n) q
among_either k m n q a b f g e =
    ⊎_elim (λ h. among_left k m n q (f h)) (λ h. among_right k m n q (g h)) (or_cases a b e)

pub reads_range : (E : Expr) (k q r : ℕ) → reads E k q r ≡ true → Among k (occurrences E) q
reads_range (step s) k q r e = among_own k q (and_left (eqb q (suc k)) (s r) e)
reads_range (test s) k q r e = absurd (true≢false (sym e))
reads_range (alt e f) k q r h =
    among_either k (occurrences e) (occurrences f) q (reads e k q r) (reads f (k + occurrences e) q r)
    (reads_range e k q r) (reads_range f (k + occurrences e) q r) h
reads_range (seq e f) k q r h =
    among_either k (occurrences e) (occurrences f) q (reads e k q r) (reads f (k + occurrences e) q r)
    (reads_range e k q r) (reads_range f (k + occurrences e) q r) h
reads_range (plus e) k q r h = reads_range e k q r h

pub firsts_range : (E : Expr) (k q a : ℕ) → firsts E k q a ≡ true → Among k (occurrences E) q
firsts_range (step s) k q a e = among_own k q e
firsts_range (test s) k q a e = absurd (true≢false (sym e))
firsts_range (alt e f) k q a h =
    among_either k (occurrences e) (occurrences f) q (firsts e k q a) (firsts f (k + occurrences e) q a)
    (firsts_range e k q a) (firsts_range f (k + occurrences e) q a) h
firsts_range (seq e f) k q a h =
    among_either k (occurrences e) (occurrences f) q (firsts e k q a) (null e a && firsts f (k + occurrences e) q a)
    (firsts_range e k q a)
    (λ g. firsts_range f (k + occurrences e) q a (and_right (null e a) (firsts f (k + occurrences e) q a) g)) h
firsts_range (plus e) k q a h = firsts_range e k q a h

pub lasts_range : (E : Expr) (k p a : ℕ) → lasts E k p a ≡ true → Among k (occurrences E) p
lasts_range (step s) k p a e = among_own k p e
lasts_range (test s) k p a e = absurd (true≢false (sym e))
lasts_range (alt e f) k p a h =
    among_either k (occurrences e) (occurrences f) p (lasts e k p a) (lasts f (k + occurrences e) p a)
    (lasts_range e k p a) (lasts_range f (k + occurrences e) p a) h
lasts_range (seq e f) k p a h =
    among_either k (occurrences e) (occurrences f) p (lasts e k p a && null f a) (lasts f (k + occurrences e) p a)
    (λ g. lasts_range e k p a (and_left (lasts e k p a) (null f a) g)) (lasts_range f (k + occurrences e) p a) h
lasts_range (plus e) k p a h = lasts_range e k p a h

-- the occurrence that follows
pub follows_range : (E : Expr) (k p q a : ℕ) → follows E k p q a ≡ true → Among k (occurrences E) q
follows_range (step s) k p q a e = absurd (true≢false (sym e))
follows_range (test s) k p q a e = absurd (true≢false (sym e))
follows_range (alt e f) k p q a h =
    among_either k (occurrences e) (occurrences f) q (follows e k p q a) (follows f (k + occurrences e) p q a)
    (follows_range e k p q a) (follows_range f (k + occurrences e) p q a) h
follows_range (seq e f) k p q a h =
    ⊎_elim
    (λ g. among_either k (occurrences e) (occurrences f) q (follows e k p q a) (follows f (k + occurrences e) p q a)
    (follows_range e k p q a) (follows_range f (k + occurrences e) p q a) g)
    (λ g. among_right k (occurrences e) (occurrences f) q
    (firsts_range f (k + occurrences e) q a (and_right (lasts e k p a) (firsts f (k + occurrences e) q a) g)))
    (or_cases (follows e k p q a || follows f (k + occurrences e) p q a) (lasts e k p a && firsts f (k + occurrences e) q a) h)
follows_range (plus e) k p q a h =
    ⊎_elim (λ g. follows_range e k p q a g)
    (λ g. firsts_range e k q a (and_right (lasts e k p a) (firsts e k q a) g))
    (or_cases (follows e k p q a) (lasts e k p a && firsts e k q a) h)

-- the occurrence that is followed
pub follows_before : (E : Expr) (k p q a : ℕ) → follows E k p q a ≡ true → Among k (occurrences E) p
follows_before (step s) k p q a e = absurd (true≢false (sym e))
follows_before (test s) k p q a e = absurd (true≢false (sym e))
follows_before (alt e f) k p q a h =
    among_either k (occurrences e) (occurrences f) p (follows e k p q a) (follows f (k + occurrences e) p q a)
    (follows_before e k p q a) (follows_before f (k + occurrences e) p q a) h
follows_before (seq e f) k p q a h =
    ⊎_elim
    (λ g. among_either k (occurrences e) (occurrences f) p (follows e k p q a) (follows f (k + occurrences e) p q a)
    (follows_before e k p q a) (follows_before f (k + occurrences e) p q a) g)
    (λ g. among_left k (occurrences e) (occurrences f) p
    (lasts_range e k p a (and_left (lasts e k p a) (firsts f (k + occurrences e) q a) g)))
    (or_cases (follows e k p q a || follows f (k + occurrences e) p q a) (lasts e k p a && firsts f (k + occurrences e) q a) h)
follows_before (plus e) k p q a h =
    ⊎_elim (λ g. follows_before e k p q a g)
    (λ g. lasts_range e k p a (and_left (lasts e k p a) (firsts e k q a) g))
    (or_cases (follows e k p q a) (lasts e k p a && firsts e k q a) h)
