-- A proved sheet passes exactly where its standings are closed in plain words. The idea: the levels and steps of the plain words are the
-- letters of the test, where a standing after which no left occurrence is possible has nothing to list.
-- Assumes nothing.
use native.Mathlib.Omega.{arith}
use mathlib.Core.Path.{◌≡◌, refl, sym, subst}
use mathlib.Core.Logic.{◌↔◌, ⊎_elim}
use mathlib.Core.Logic.◌⊎◌.{inl, inr}
use mathlib.Core.Bool.{true}
use mathlib.Core.List.{List}
use Rattle.kat.specs.Lists.{In}
use Rattle.kat.specs.Word.{Word, end}
use Rattle.kat.specs.Ring.{Prefix}
use Rattle.kat.proofs.Sets.{in_member}
use Rattle.kat.proofs.Bools.{bool_cases, true_not_false}
use Rattle.notation.specs.Sides.{Decision}
use Rattle.notation.specs.Words.{Guarded, Refutes}
use Rattle.verdicts.specs.Standings.{System}
use Rattle.verdicts.specs.Passing.{refuting, proving}
use Rattle.verdicts.specs.Verdicts.{relations_in, StandingOf, begun, grown}
use Rattle.verdicts.specs.Orders.{letter_of}
use Rattle.verdicts.specs.Lawful.{Lawful}
use Rattle.verdicts.specs.Closed.{OneStepAfter, Closed}
use Rattle.verdicts.proofs.Prefixes
use Rattle.verdicts.proofs.Passing.{Listed, ClosedByLetters, passes_closed, closed_passes, passing_proved_refutes_none}
use Rattle.verdicts.proofs.Plain.{none_in_nil}

module _ (D : Decision) (S : System) (laws : Lawful S) (ss : List S.Standing)
    (by_words : (w : Word) → Refutes D w ↔ (Guarded S.live S.relations w × (refuting S w ≡ true))) where
  -- where a left occurrence is possible, what is listed or not possible is listed
  is_listed : (s : S.Standing) → S.possible s ≡ true → Listed S laws ss s → In s ss
  is_listed s o (inl p) = absurd (true_not_false o p)
  is_listed s o (inr i) = i

  some_relation : {l : Prefix} {s : S.Standing} → StandingOf S l s → relations_in l ≡ 0 → ⊥
  some_relation (begun h k) e = omega arith
  some_relation (grown st h k) e = omega arith

  module _ (c : ClosedByLetters S laws ss) where
    first_listed : {l : Prefix} {s : S.Standing} → StandingOf S l s → relations_in l ≡ 1 → S.possible s ≡ true → In s ss
    first_listed (begun {a = a} {r = r} h k) e o = is_listed _ o (c.begins (letter_of a r) (h, k))
    first_listed (grown st h k) e o = absurd (some_relation st (omega arith))

    step_listed : (s t : S.Standing) → In s ss → OneStepAfter S s t → In t ss
    step_listed s t i (a, r, h, k, e, o) =
        subst (λ u. In u ss) (sym e)
        (is_listed (S.onward s (letter_of a r)) (subst (λ u. S.possible u ≡ true) e o) (c.goes_on s (letter_of a r) i (h, k)))

  -- listed, or no left occurrence is possible
  either_listed : (s : S.Standing) → (S.possible s ≡ true → In s ss) → Listed S laws ss s
  either_listed s h = ⊎_elim (λ o. inr (h o)) (λ o. inl o) (bool_cases (S.possible s))

  letters_closed : Closed D S ss → ClosedByLetters S laws ss
  unfolding refuting
  letters_closed c =
      record {
        none_alone = none_in_nil S.alone
            (λ a i. c.none_of_length_0 (end a) refl ((by_words (end a)).1 (in_member a (laws.alone_live a i), in_member a i)));
        begins = λ l h. either_listed (S.begin l) (λ o. c.level_1 (S.begin l) (Prefixes.holds_begin S l h o));
        goes_on = λ s l i h. either_listed (S.onward s l)
            (λ o. c.one_step_after s (S.onward s l) i (l.atom, l.relation, h.0, h.1, refl, o));
        completes_none = c.none_completes;
      }

  -- a proved sheet passes exactly where its standings are closed
  pub closed_exactly : (proving S ss ≡ true) ↔ Closed D S ss
  closed_exactly = (
    (λ e.
        let c : ClosedByLetters S laws ss = passes_closed S laws ss e in
        record {
          none_of_length_0 = λ w z h.
              let (g, t) = (by_words w).0 h in true_not_false t (passing_proved_refutes_none S laws ss e w g);
          level_1 = λ s (l, st, n, o). first_listed c st n o;
          one_step_after = step_listed c;
          none_completes = c.completes_none;
        }),
    (λ c. closed_passes S laws ss (letters_closed c)),
  )
