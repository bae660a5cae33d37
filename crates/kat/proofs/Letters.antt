-- The other way round: what the tables allow, the expression does. An atom that `null` allows is read by staying; a letter that `firsts`
-- allows, before a residual, is read by the expression; and the same for a residual with `lasts` and `follows`. Ranges tell which part
-- of an expression an occurrence belongs to.
-- Assumes nothing.
use Prim.Native.Nat.{ℕ, suc, ◌+◌}
use mathlib.Core.Path.{◌≡◌, refl, sym, subst}
use mathlib.Core.Logic.{⊎_elim}
use mathlib.Core.Logic.◌⊎◌.{inl, inr}
use mathlib.Core.Bool.{Bool, true, ◌&&◌, ◌||◌, true≢false}
use lib.Dec.{eqb}
use borrow.Author.Tests.{eqb-true}
use Rattle.kat.specs.Expr.{Expr, step, test, alt, seq, plus}
use Rattle.kat.specs.Graph.{Rel, once, more}
use Rattle.kat.specs.Word.{Word, at, first}
use Rattle.kat.specs.Language.{places}
use Rattle.kat.specs.Tables.{occurrences, reads, null, firsts, lasts, follows}
use Rattle.kat.specs.Rest.{Rest}
use Rattle.kat.proofs.Bools.{or_cases, and_left, and_right}
use Rattle.kat.proofs.Ranges.{Among, apart, reads_range, firsts_range, follows_range}
use Rattle.kat.proofs.Residuals.{rest_range}

-- a number of the left part is allowed by the left part's table, one of the right part by the right part's
keep_left : (k m n q : ℕ) (a b : Bool) → Among k m q → (b ≡ true → Among (k + m) n q) → (a || b) ≡ true → a ≡ true
keep_left k m n q a b h g e = ⊎_elim (λ x. x) (λ x. absurd (apart k m n q h (g x))) (or_cases a b e)

keep_right : (k m n q : ℕ) (a b : Bool) → Among (k + m) n q → (a ≡ true → Among k m q) → (a || b) ≡ true → b ≡ true
keep_right k m n q a b h g e = ⊎_elim (λ x. absurd (apart k m n q (g x) h)) (λ x. x) (or_cases a b e)

pub null_rel : (E : Expr) (u : Word) → null E (first u) ≡ true → Rel places E u u
null_rel (step s) u h = absurd (true≢false (sym h))
null_rel (test s) u h = (refl, h)
null_rel (alt e f) u h =
    ⊎_elim (λ n. inl (null_rel e u n)) (λ n. inr (null_rel f u n)) (or_cases (null e (first u)) (null f (first u)) h)
null_rel (seq e f) u h = (
  u,
  null_rel e u (and_left (null e (first u)) (null f (first u)) h),
  null_rel f u (and_right (null e (first u)) (null f (first u)) h),
)
null_rel (plus e) u h = once (null_rel e u h)

module _ (e f : Expr) (k q r : ℕ) where
  pub reads_left : Among k (occurrences e) q → (reads e k q r || reads f (k + occurrences e) q r) ≡ true → reads e k q r ≡ true
  reads_left h m =
      keep_left k (occurrences e) (occurrences f) q (reads e k q r) (reads f (k + occurrences e) q r) h
      (reads_range f (k + occurrences e) q r) m

  pub reads_right : Among (k + occurrences e) (occurrences f) q → (reads e k q r || reads f (k + occurrences e) q r) ≡ true
      → reads f (k + occurrences e) q r ≡ true
  reads_right h m =
      keep_right k (occurrences e) (occurrences f) q (reads e k q r) (reads f (k + occurrences e) q r) h (reads_range e k q r) m

pub letter_rel : (E : Expr) (k q a r : ℕ) (u v : Word)
    → firsts E k q a ≡ true → reads E k q r ≡ true → Rest E k q u v → Rel places E (at a r u) v
letter_rel (step s) k q a r u v n m (e, uv) = (r, and_right (eqb q (suc k)) (s r) m, (refl, uv))
letter_rel (test s) k q a r u v n m t = absurd t
letter_rel (alt e f) k q a r u v n m (inl t) =
    let h : Among k (occurrences e) q = rest_range e k q u v t in
    inl (letter_rel e k q a r u v
    (keep_left k (occurrences e) (occurrences f) q (firsts e k q a) (firsts f (k + occurrences e) q a) h
    (firsts_range f (k + occurrences e) q a) n)
    (reads_left e f k q r h m) t)
letter_rel (alt e f) k q a r u v n m (inr t) =
    let h : Among (k + occurrences e) (occurrences f) q = rest_range f (k + occurrences e) q u v t in
    inr (letter_rel f (k + occurrences e) q a r u v
    (keep_right k (occurrences e) (occurrences f) q (firsts e k q a) (firsts f (k + occurrences e) q a) h
    (firsts_range e k q a) n)
    (reads_right e f k q r h m) t)
letter_rel (seq e f) k q a r u v n m (inl (z, t, g)) =
    let h : Among k (occurrences e) q = rest_range e k q u z t in (
      z,
      letter_rel e k q a r u z
          (keep_left k (occurrences e) (occurrences f) q (firsts e k q a) (null e a && firsts f (k + occurrences e) q a) h
          (λ x. firsts_range f (k + occurrences e) q a (and_right (null e a) (firsts f (k + occurrences e) q a) x)) n)
          (reads_left e f k q r h m) t,
      g,
    )
letter_rel (seq e f) k q a r u v n m (inr t) =
    let h : Among (k + occurrences e) (occurrences f) q = rest_range f (k + occurrences e) q u v t in
    let n' : (null e a && firsts f (k + occurrences e) q a) ≡ true =
    keep_right k (occurrences e) (occurrences f) q (firsts e k q a) (null e a && firsts f (k + occurrences e) q a) h
    (firsts_range e k q a) n
    in (
      at a r u,
      null_rel e (at a r u) (and_left (null e a) (firsts f (k + occurrences e) q a) n'),
      letter_rel f (k + occurrences e) q a r u v (and_right (null e a) (firsts f (k + occurrences e) q a) n') (reads_right e f k q r h m) t,
    )
letter_rel (plus e) k q a r u v n m (z, t, inl zv) = once (letter_rel e k q a r u v n m (subst (Rest e k q u) zv t))
letter_rel (plus e) k q a r u v n m (z, t, inr g) = more (letter_rel e k q a r u z n m t) g

pub last_rest : (E : Expr) (k p : ℕ) (u : Word) → lasts E k p (first u) ≡ true → Rest E k p u u
last_rest (step s) k p u h = (eqb-true p (suc k) h, refl)
last_rest (test s) k p u h = absurd (true≢false (sym h))
last_rest (alt e f) k p u h =
    ⊎_elim (λ n. inl (last_rest e k p u n)) (λ n. inr (last_rest f (k + occurrences e) p u n))
    (or_cases (lasts e k p (first u)) (lasts f (k + occurrences e) p (first u)) h)
last_rest (seq e f) k p u h =
    ⊎_elim
    (λ n. inl (
      u,
      last_rest e k p u (and_left (lasts e k p (first u)) (null f (first u)) n),
      null_rel f u (and_right (lasts e k p (first u)) (null f (first u)) n),
    ))
    (λ n. inr (last_rest f (k + occurrences e) p u n))
    (or_cases (lasts e k p (first u) && null f (first u)) (lasts f (k + occurrences e) p (first u)) h)
last_rest (plus e) k p u h = (u, last_rest e k p u h, inl refl)

pub letter_rest : (E : Expr) (k p q a r : ℕ) (u v : Word)
    → follows E k p q a ≡ true → reads E k q r ≡ true → Rest E k q u v → Rest E k p (at a r u) v
letter_rest (step s) k p q a r u v n m t = absurd (true≢false (sym n))
letter_rest (test s) k p q a r u v n m t = absurd t
letter_rest (alt e f) k p q a r u v n m (inl t) =
    let h : Among k (occurrences e) q = rest_range e k q u v t in
    inl (letter_rest e k p q a r u v
    (keep_left k (occurrences e) (occurrences f) q (follows e k p q a) (follows f (k + occurrences e) p q a) h
    (follows_range f (k + occurrences e) p q a) n)
    (reads_left e f k q r h m) t)
letter_rest (alt e f) k p q a r u v n m (inr t) =
    let h : Among (k + occurrences e) (occurrences f) q = rest_range f (k + occurrences e) q u v t in
    inr (letter_rest f (k + occurrences e) p q a r u v
    (keep_right k (occurrences e) (occurrences f) q (follows e k p q a) (follows f (k + occurrences e) p q a) h
    (follows_range e k p q a) n)
    (reads_right e f k q r h m) t)
letter_rest (seq e f) k p q a r u v n m (inl (z, t, g)) =
    let h : Among k (occurrences e) q = rest_range e k q u z t in
    let n' : (follows e k p q a || follows f (k + occurrences e) p q a) ≡ true =
    keep_left k (occurrences e) (occurrences f) q (follows e k p q a || follows f (k + occurrences e) p q a)
    (lasts e k p a && firsts f (k + occurrences e) q a) h
    (λ x. firsts_range f (k + occurrences e) q a (and_right (lasts e k p a) (firsts f (k + occurrences e) q a) x)) n
    in
    inl (
      z,
      letter_rest e k p q a r u z
          (keep_left k (occurrences e) (occurrences f) q (follows e k p q a) (follows f (k + occurrences e) p q a) h
          (follows_range f (k + occurrences e) p q a) n')
          (reads_left e f k q r h m) t,
      g,
    )
letter_rest (seq e f) k p q a r u v n m (inr t) =
    let h : Among (k + occurrences e) (occurrences f) q = rest_range f (k + occurrences e) q u v t in
    let m' : reads f (k + occurrences e) q r ≡ true = reads_right e f k q r h m in
    ⊎_elim
    (λ x. inr (letter_rest f (k + occurrences e) p q a r u v
    (keep_right k (occurrences e) (occurrences f) q (follows e k p q a) (follows f (k + occurrences e) p q a) h
    (follows_range e k p q a) x)
    m' t))
    (λ x. inl (
      at a r u,
      last_rest e k p (at a r u) (and_left (lasts e k p a) (firsts f (k + occurrences e) q a) x),
      letter_rel f (k + occurrences e) q a r u v (and_right (lasts e k p a) (firsts f (k + occurrences e) q a) x) m' t,
    ))
    (or_cases (follows e k p q a || follows f (k + occurrences e) p q a) (lasts e k p a && firsts f (k + occurrences e) q a) n)
letter_rest (plus e) k p q a r u v n m (z, t, g) =
    ⊎_elim
    (λ x. (z, letter_rest e k p q a r u z x m t, g))
    (λ x. (
      at a r u,
      last_rest e k p (at a r u) (and_left (lasts e k p a) (firsts e k q a) x),
      inr (letter_rel (plus e) k q a r u v (and_right (lasts e k p a) (firsts e k q a) x) m (z, t, g)),
    ))
    (or_cases (follows e k p q a) (lasts e k p a && firsts e k q a) n)
