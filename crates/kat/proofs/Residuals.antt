-- A word is in the language of an expression exactly when the occurrence tables read it. The idea is by residuals: `Rest e k p u v` of
-- `specs/Rest.antt` is what e can still read from u to v after its occurrence p. An expression either ends where it stands, if `null`
-- allows it, or reads one letter that `firsts` allows and goes on with a residual; a residual either ends, if `lasts` allows it, or reads
-- one letter that `follows` allows. Both are shown by the expression alone, and the theorem then by the word; no run is ever cut in two.
-- Assumes nothing.
use Prim.Native.Nat.{ℕ, suc, ◌+◌}
use native.Mathlib.Omega.{arith}
use mathlib.Core.Path.{◌≡◌, refl, sym, ◌∙◌, subst}
use mathlib.Core.Logic.{◌⊎◌, ⊎_elim}
use mathlib.Core.Logic.◌⊎◌.{inl, inr}
use mathlib.Core.Bool.{Bool, true, false, ◌&&◌, ◌||◌}
use borrow.Author.Tests.{eq-eqb}
use Rattle.kat.specs.Expr.{Expr, step, test, alt, seq, plus}
use Rattle.kat.specs.Graph.{Rel, Plus, once, more}
use Rattle.kat.specs.Word.{Word, end, at, first}
use Rattle.kat.specs.Language.{places}
use Rattle.kat.specs.Tables.{occurrences, reads, null, firsts, lasts, follows}
use Rattle.kat.specs.Rest.{Rest}
use Rattle.kat.proofs.Bools.{or_left, or_right, and_both}
use Rattle.kat.proofs.Ranges.{Among, among_left, among_right}

-- one letter is read, by an occurrence that N allows and that reads it, and A goes on
pub data Goes (N R : ℕ → ℕ → Bool) (A : ℕ → Word → Type 0) : Word → Type 0 where
  letter : {a r : ℕ} {u : Word} (q : ℕ) → N q a ≡ true → R q r ≡ true → A q u → Goes N R A (at a r u)

goes_map : {N N' R R' : ℕ → ℕ → Bool} {A A' : ℕ → Word → Type 0} (u : Word)
    → ((q : ℕ) → N q (first u) ≡ true → N' q (first u) ≡ true) → ((q r : ℕ) → R q r ≡ true → R' q r ≡ true)
    → ((q : ℕ) (w : Word) → A q w → A' q w) → Goes N R A u → Goes N' R' A' u
goes_map w f g h (letter {r = r} {u = u} q n m t) = letter q (f q n) (g q r m) (h q u t)

pub rest_range : (E : Expr) (k p : ℕ) (u v : Word) → Rest E k p u v → Among k (occurrences E) p
rest_range (step s) k p u v (e, h) = (omega arith, omega arith)
rest_range (test s) k p u v h = absurd h
rest_range (alt e f) k p u v (inl h) = among_left k (occurrences e) (occurrences f) p (rest_range e k p u v h)
rest_range (alt e f) k p u v (inr h) = among_right k (occurrences e) (occurrences f) p (rest_range f (k + occurrences e) p u v h)
rest_range (seq e f) k p u v (inl (z, h, g)) = among_left k (occurrences e) (occurrences f) p (rest_range e k p u z h)
rest_range (seq e f) k p u v (inr h) = among_right k (occurrences e) (occurrences f) p (rest_range f (k + occurrences e) p u v h)
rest_range (plus e) k p u v (z, h, g) = rest_range e k p u z h

-- it ends here, or reads one letter and goes on
abbrev pub Cut : Bool → (ℕ → ℕ → Bool) → Expr → ℕ → Word → Word → Type 0
Cut b N e k u v = ((b ≡ true) × (u ≡ v)) ⊎ Goes N (reads e k) (λ q w. Rest e k q w v) u

cut_step : (s : ℕ → Bool) (k : ℕ) (u v : Word) → Rel places (step s) u v → Cut false (firsts (step s) k) (step s) k u v
cut_step s k (end a) v (r, hs, h) = absurd h
cut_step s k (at a t u) v (r, hs, (et, eu)) =
    inr (letter (suc k) (eq-eqb (suc k) (suc k) refl) (and_both (eq-eqb (suc k) (suc k) refl) (subst (λ q. s q ≡ true) (sym et) hs)) (refl, eu))

cut_plus : (e : Expr) (k : ℕ) → ((u v : Word) → Rel places e u v → Cut (null e (first u)) (firsts e k) e k u v)
    → {u v : Word} → Plus (Rel places e) u v → Cut (null e (first u)) (firsts e k) (plus e) k u v
cut_plus e k c (once {x = u} {y = v} h) =
    ⊎_elim (λ n. inl n)
    (λ g. inr (goes_map u (λ q n. n) (λ q r m. m) (λ q w t. (v, t, inl refl)) g)) (c u v h)
cut_plus e k c (more {x = u} {y = z} {z = v} h p) =
    ⊎_elim
    (λ (n, uz). subst (λ w. Cut (null e (first w)) (firsts e k) (plus e) k w v) (sym uz) (cut_plus e k c p))
    (λ g. inr (goes_map u (λ q n. n) (λ q r m. m) (λ q w t. (z, t, inr p)) g)) (c u z h)

pub cut_rel : (E : Expr) (k : ℕ) (u v : Word) → Rel places E u v → Cut (null E (first u)) (firsts E k) E k u v
cut_rel (step s) k u v h = cut_step s k u v h
cut_rel (test s) k u v (e, hs) = inl (hs, e)
cut_rel (alt e f) k u v (inl h) =
    ⊎_elim (λ (n, uv). inl (or_left (null f (first u)) n, uv))
    (λ g. inr (goes_map u (λ q n. or_left (firsts f (k + occurrences e) q (first u)) n)
    (λ q r m. or_left (reads f (k + occurrences e) q r) m) (λ q w t. inl t) g))
    (cut_rel e k u v h)
cut_rel (alt e f) k u v (inr h) =
    ⊎_elim (λ (n, uv). inl (or_right (null e (first u)) n, uv))
    (λ g. inr (goes_map u (λ q n. or_right (firsts e k q (first u)) n)
    (λ q r m. or_right (reads e k q r) m) (λ q w t. inr t) g))
    (cut_rel f (k + occurrences e) u v h)
cut_rel (seq e f) k u v (z, h, g) =
    ⊎_elim
    (λ (n, uz).
    ⊎_elim
    (λ (m, uv). inl (and_both n m, uv))
    (λ j. inr (goes_map u (λ q m. or_right (firsts e k q (first u)) (and_both n m))
    (λ q r m. or_right (reads e k q r) m) (λ q w t. inr t) j))
    (cut_rel f (k + occurrences e) u v (subst (λ w. Rel places f w v) (sym uz) g)))
    (λ j. inr (goes_map u (λ q n. or_left (null e (first u) && firsts f (k + occurrences e) q (first u)) n)
    (λ q r m. or_left (reads f (k + occurrences e) q r) m) (λ q w t. inl (z, t, g)) j))
    (cut_rel e k u z h)
cut_rel (plus e) k u v h = cut_plus e k (cut_rel e k) h

-- what a residual can do: end where `lasts` allows it, or read one letter that `follows` allows
pub cut_rest : (E : Expr) (k p : ℕ) (u v : Word) → Rest E k p u v → Cut (lasts E k p (first u)) (follows E k p) E k u v
cut_rest (step s) k p u v (e, h) = inl (eq-eqb p (suc k) e, h)
cut_rest (test s) k p u v h = absurd h
cut_rest (alt e f) k p u v (inl h) =
    ⊎_elim (λ (n, uv). inl (or_left (lasts f (k + occurrences e) p (first u)) n, uv))
    (λ g. inr (goes_map u (λ q n. or_left (follows f (k + occurrences e) p q (first u)) n)
    (λ q r m. or_left (reads f (k + occurrences e) q r) m) (λ q w t. inl t) g))
    (cut_rest e k p u v h)
cut_rest (alt e f) k p u v (inr h) =
    ⊎_elim (λ (n, uv). inl (or_right (lasts e k p (first u)) n, uv))
    (λ g. inr (goes_map u (λ q n. or_right (follows e k p q (first u)) n)
    (λ q r m. or_right (reads e k q r) m) (λ q w t. inr t) g))
    (cut_rest f (k + occurrences e) p u v h)
cut_rest (seq e f) k p u v (inl (z, h, g)) =
    ⊎_elim
    (λ (n, uz).
    ⊎_elim
    (λ (m, uv). inl (or_left (lasts f (k + occurrences e) p (first u)) (and_both n m), uv))
    (λ j. inr (goes_map u
    (λ q m. or_right (follows e k p q (first u) || follows f (k + occurrences e) p q (first u)) (and_both n m))
    (λ q r m. or_right (reads e k q r) m) (λ q w t. inr t) j))
    (cut_rel f (k + occurrences e) u v (subst (λ w. Rel places f w v) (sym uz) g)))
    (λ j. inr (goes_map u
    (λ q n. or_left (lasts e k p (first u) && firsts f (k + occurrences e) q (first u))
    (or_left (follows f (k + occurrences e) p q (first u)) n))
    (λ q r m. or_left (reads f (k + occurrences e) q r) m) (λ q w t. inl (z, t, g)) j))
    (cut_rest e k p u z h)
cut_rest (seq e f) k p u v (inr h) =
    ⊎_elim (λ (n, uv). inl (or_right (lasts e k p (first u) && null f (first u)) n, uv))
    (λ g. inr (goes_map u
    (λ q n. or_left (lasts e k p (first u) && firsts f (k + occurrences e) q (first u))
    (or_right (follows e k p q (first u)) n))
    (λ q r m. or_right (reads e k q r) m) (λ q w t. inr t) g))
    (cut_rest f (k + occurrences e) p u v h)
cut_rest (plus e) k p u v (z, h, g) =
    ⊎_elim
    (λ (n, uz).
    ⊎_elim
    (λ zv. inl (n, uz ∙ zv))
    (λ t.
    ⊎_elim
    (λ (m, uv). inl (n, uv))
    (λ j. inr (goes_map u (λ q m. or_right (follows e k p q (first u)) (and_both n m)) (λ q r m. m) (λ q w o. o) j))
    (cut_rel (plus e) k u v (subst (λ w. Plus (Rel places e) w v) (sym uz) t)))
    g)
    (λ j. inr (goes_map u (λ q n. or_left (lasts e k p (first u) && firsts e k q (first u)) n) (λ q r m. m)
    (λ q w t. (z, t, g)) j))
    (cut_rest e k p u z h)
