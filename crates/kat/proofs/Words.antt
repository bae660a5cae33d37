-- Words and prefixes: a word is the prefix without its last atom, and that atom; first and last atoms; and how the covering of a ring
-- depends on the atom that stands in for the first one where there is no relation.
-- Assumes nothing.
use Prim.Native.Nat.{ℕ, zero, suc}
use mathlib.Core.Path.{◌≡◌, refl, sym, ◌∙◌, subst}
use mathlib.Core.Logic.{◌↔◌}
use mathlib.Core.Bool.{true}
use Rattle.kat.specs.Expr.{Expr}
use Rattle.kat.specs.Word.{Word, end, at, first, last}
use Rattle.kat.specs.Language.{Lang}
use Rattle.kat.specs.Ring.{Prefix, nothing, then, onto, body, join, times, start, round, Covered}
use Rattle.kat.specs.Tables.{null}
use Rattle.kat.proofs.Shapes.{nothing_is_not_longer}
use Rattle.kat.proofs.Runs.{language_is_read}
use Rattle.kat.proofs.Turns.{join_nothing}
use Rattle.kat.specs.Turns.{NonEmpty}
use Rattle.kat.proofs.Growing.{start_own}

pub first_onto : (l : Prefix) (w : Word) → first (onto l w) ≡ start (first w) l
first_onto nothing w = refl
first_onto (then l a r) w = first_onto l (at a r w)

pub last_onto : (l : Prefix) (w : Word) → last (onto l w) ≡ last w
last_onto nothing w = refl
last_onto (then l a r) w = last_onto l (at a r w)

body_after : (k l : Prefix) (w : Word) → body k (onto l w) ≡ body (join k l) w
body_after k nothing w = refl
body_after k (then l a r) w = body_after k l (at a r w)

pub body_onto : (l : Prefix) (a : ℕ) → body nothing (onto l (end a)) ≡ l
body_onto l a = body_after nothing l (end a) ∙ join_nothing l

onto_body : (l : Prefix) (w : Word) → onto (body l w) (end (last w)) ≡ onto l w
onto_body l (end a) = refl
onto_body l (at a r w) = onto_body (then l a r) w

-- a word is its body and its last atom
pub word_of_body : (w : Word) → onto (body nothing w) (end (last w)) ≡ w
word_of_body w = onto_body nothing w

-- a single atom is a word exactly where `null` says so
pub atom_is_word : (E : Expr) (a : ℕ) → Lang E (end a) ↔ (null E a ≡ true)
atom_is_word E a = language_is_read E (end a)

times_nothing : (n : ℕ) → times n nothing ≡ nothing
times_nothing zero = refl
times_nothing (suc n) = times_nothing n

nothing_cut : (u v : Prefix) → nothing ≡ join u v → join v u ≡ nothing
nothing_cut nothing nothing e = refl
nothing_cut (then u a r) nothing e = absurd (nothing_is_not_longer e)
nothing_cut u (then v a r) e = absurd (nothing_is_not_longer e)

-- a ring without a relation is covered exactly when its atom is a word
pub covered_nothing : (E : Expr) (b : ℕ) → Covered E b nothing ↔ (null E b ≡ true)
covered_nothing E b = (
  (λ (u, v, e, n, h).
      (atom_is_word E b).0
      (subst (λ x. Lang E (onto x (end b))) (times_nothing n) (subst (λ x. Lang E (round b n x)) (nothing_cut u v e) h))),
  (λ h. (nothing, nothing, refl, zero, (atom_is_word E b).1 h)),
)

turned_longer : (u v : Prefix) → NonEmpty (join u v) → NonEmpty (join v u)
turned_longer u nothing h = subst NonEmpty (sym (join_nothing u)) h
turned_longer nothing (then v a r) h = tt
turned_longer (then u c k) (then v a r) h = tt

-- a ring with a relation has its own first atom
pub covered_own : (E : Expr) (b c : ℕ) (l : Prefix) → NonEmpty l → Covered E b l → Covered E c l
covered_own E b c l h (u, v, e, n, w) = (
  u,
  v,
  e,
  n,
  subst (λ a. Lang E (onto (times n (join v u)) (end a)))
      (start_own b c (join v u) (turned_longer u v (subst NonEmpty e h))) w,
)
