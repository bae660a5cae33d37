-- Words by their prefixes. A word of a query with one relation or more is a prefix and an atom; it refutes exactly when the standing
-- of that prefix completes with the atom. The standing of a prefix is one, and has a left occurrence wherever it goes on or completes.
-- Assumes nothing.
use Prim.Native.Nat.{ℕ, suc, ◌+◌, ◌≤◌}
use native.Mathlib.Nat.{zero-add}
use native.Mathlib.Omega.{arith}
use mathlib.Core.Path.{◌≡◌, refl, sym, ◌∙◌, ap, subst}
use mathlib.Core.Logic.{⊎_elim}
use mathlib.Core.Bool.{true}
use Rattle.kat.specs.Lists.{In}
use Rattle.kat.specs.Word.{Word, end, at, size}
use Rattle.kat.specs.Ring.{Prefix, nothing, then, onto}
use Rattle.kat.proofs.Sets.{member_in, in_member}
use Rattle.kat.proofs.Bools.{bool_cases, true_not_false}
use Rattle.verdicts.specs.Standings.{System, Letter}
use Rattle.verdicts.specs.Passing.{completes, refuting}
use Rattle.notation.specs.Words.{Guarded}
use Rattle.verdicts.specs.Verdicts.{relations_in, StandingOf, begun, grown, Holds}
use Rattle.verdicts.specs.Lawful.{Lawful}
use Rattle.verdicts.proofs.Letters.{Fits}
use Rattle.verdicts.specs.Orders.{letter_of}

pub size_onto : (l : Prefix) (w : Word) → size (onto l w) ≡ relations_in l + size w
size_onto nothing w = sym (zero-add (size w))
size_onto (then l a r) w = size_onto l (at a r w) ∙ omega arith

module _ (S : System) where
  pub standing_long : {l : Prefix} {s : S.Standing} → StandingOf S l s → 1 ≤ relations_in l
  standing_long (begun h k) = omega arith
  standing_long (grown p h k) = omega arith

  pub standing_one : {l : Prefix} {s t : S.Standing} → StandingOf S l s → StandingOf S l t → s ≡ t
  standing_one (begun h k) (begun h' k') = refl
  standing_one (begun h k) (grown q h' k') = elim q [ ]
  standing_one (grown p h k) (begun h' k') = elim p [ ]
  standing_one (grown {a = a} {r = r} p h k) (grown q h' k') = ap (λ s. S.onward s (letter_of a r)) (standing_one p q)

  pub guarded_onto : {l : Prefix} {s : S.Standing} (w : Word) → StandingOf S l s → Guarded S.live S.relations w
      → Guarded S.live S.relations (onto l w)
  guarded_onto w (begun h k) g = (h, k, g)
  guarded_onto w (grown {a = a} {r = r} p h k) g = guarded_onto (at a r w) p (h, k, g)

  pub refuting_onto : {l : Prefix} {s : S.Standing} (w : Word) → StandingOf S l s → refuting S (onto l w) ≡ completes S s w
  unfolding refuting completes
  refuting_onto w (begun h k) = rw h refl
  refuting_onto w (grown {a = a} {r = r} p h k) = refuting_onto (at a r w) p ∙ rw h refl

-- a word as the prefix l, with the standing s, and the atom b
pub record Cut (S : System) (v : Word) : Type 0 where
  pub l : Prefix
  pub s : S.Standing
  pub b : ℕ
  pub word : v ≡ onto l (end b)
  pub standing : StandingOf S l s

module _ (S : System) where
  cut_after : (l : Prefix) (s : S.Standing) (w : Word) → StandingOf S l s → Guarded S.live S.relations w → Cut S (onto l w)
  cut_after l s (end b) p g = record { l = l; s = s; b = b; word = refl; standing = p }
  cut_after l s (at a r w) p (h, k, g) =
      cut_after (then l a r) (S.onward s (letter_of a r)) w (grown p h k) g

  pub cut_word : (v : Word) → Guarded S.live S.relations v → 1 ≤ size v → Cut S v
  cut_word (end a) g n = absurd (omega arith)
  cut_word (at a r w) (h, k, g) n = cut_after (then nothing a r) (S.begin (letter_of a r)) w (begun h k) g

  pub cut_size : (v : Word) (c : Cut S v) → relations_in c.l ≡ size v
  cut_size v c = sym (ap size c.word ∙ size_onto c.l (end c.b) ∙ omega arith)

  pub cut_final : (v : Word) (c : Cut S v) → refuting S v ≡ true → In c.b (S.finals c.s)
  unfolding completes
  cut_final v c e =
      member_in c.b (S.finals c.s)
      (sym (ap (refuting S) c.word ∙ refuting_onto S (end c.b) c.standing) ∙ e)

  -- a prefix with an atom that completes it
  pub finals_refute : {l : Prefix} {s : S.Standing} (b : ℕ) → StandingOf S l s → In b (S.finals s) → refuting S (onto l (end b)) ≡ true
  unfolding completes
  finals_refute b p i = refuting_onto S (end b) p ∙ in_member b i

module _ (S : System) (laws : Lawful S) where
  pub finals_guarded : {l : Prefix} {s : S.Standing} (b : ℕ) → StandingOf S l s → In b (S.finals s)
      → Guarded S.live S.relations (onto l (end b))
  finals_guarded {s = s} b p i = guarded_onto S (end b) p (in_member b (laws.finals_live s b i))

  -- a standing that completes a word, or from which another is possible, is possible
  pub completing_possible : (s : S.Standing) (b : ℕ) → In b (S.finals s) → S.possible s ≡ true
  completing_possible s b i = ⊎_elim (λ h. h) (λ h. elim (subst (In b) (laws.dead_ends s h) i) [ ]) (bool_cases (S.possible s))

  pub before_possible : (s : S.Standing) (l : Letter) → S.possible (S.onward s l) ≡ true → S.possible s ≡ true
  before_possible s l e =
      ⊎_elim (λ h. h) (λ h. absurd (true_not_false e (laws.dead_stays s l h))) (bool_cases (S.possible s))

module _ (S : System) where
  pub holds_begin : (l : Letter) → Fits S l → S.possible (S.begin l) ≡ true → Holds S 1 (S.begin l)
  holds_begin l (h, k) e = (then nothing l.atom l.relation, begun h k, refl, e)

  pub holds_onward : (n : ℕ) (s : S.Standing) (l : Letter) → Holds S n s → Fits S l → S.possible (S.onward s l) ≡ true
      → Holds S (suc n) (S.onward s l)
  holds_onward n s l (m, p, q, h) (i, j) e = (then m l.atom l.relation, grown p i j, ap suc q, e)
