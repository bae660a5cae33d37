-- Verdicts are those that the guarded words fix: the second demand, whole. For every decision of a query and every allowance, what the
-- search answers is said here by the languages: proved with the count of all distinct standings of prefixes, where no word of any length
-- refutes; refuted with the refuting word that no other precedes; or spent, level by level.
-- Assumes nothing.
use Prim.Native.Nat.{ℕ}
use mathlib.Core.Path.{◌≡◌, refl, sym, subst}
use mathlib.Core.Logic.{◌↔◌}
use mathlib.Core.Bool.{Bool, true, false}
use mathlib.Core.List.{List}
use lib.ListN.{length}
use Rattle.kat.specs.Word.{Word}
use Rattle.kat.proofs.Bools.{true_not_false}
use Rattle.notation.specs.Sides.{Decision}
use Rattle.verdicts.specs.Standings.{System, path_system, ring_system, system_of}
use Rattle.verdicts.specs.Search.{Verdict, proved, refuted, spent, verdict}
use Rattle.claims.specs.SheetBytes.{sheet_bytes, path_bytes, ring_bytes}
use Rattle.verdicts.specs.Passing.{refuting}
use Rattle.notation.specs.Refusals.{Refusal, Result, ok, refused}
use Rattle.notation.specs.Words.{Guarded, Refutes}
use Rattle.verdicts.specs.Verdicts.{ProvedBy, RefutedBy, SpentAt}
use Rattle.claims.specs.Calls.{proved_with, refuted_by, Given, answer_of, searched}
use Rattle.notation.proofs.Results.{refused_not_ok}
use Rattle.verdicts.specs.Orders.{Rising}
use Rattle.verdicts.proofs.Lawful.{path_lawful, ring_lawful}
use Rattle.verdicts.specs.Lawful.{Lawful}
use Rattle.verdicts.proofs.Verdict.{proved_is_proved, refuted_is_least, spent_is_spent}
use Rattle.verdicts.proofs.Refuting.{refutes_path, refutes_ring}
use Rattle.claims.specs.Demands.{MeansProved, MeansRefuted, MeansSpent, AnswerMeans}

-- for any lawful kind of standing whose refuting words are those of the languages
module _ (D : Decision) (S : System) (laws : Lawful S) (allowance : ℕ)
    (by_words : (w : Word) → Refutes D w ↔ (Guarded S.live S.relations w × (refuting S w ≡ true))) where
  -- each plain statement, said by the languages
  pub proved_by_words : (ss : List S.Standing) → ProvedBy S allowance ss → MeansProved D S allowance (length ss)
  proved_by_words ss p =
      record {
        none_refutes = λ w r. let (t, u) = (by_words w).0 r in true_not_false u (p.0 w t);
        standings = ss;
        distinct = p.1;
        all = p.2;
        count = refl;
        allowed = p.3;
      }

  pub refuted_by_words : (w : Word) → RefutedBy S allowance w → MeansRefuted D S allowance w
  refuted_by_words w p =
      record {
        refutes = (by_words w).1 (p.0, p.1);
        none_shorter = λ v r j. let (t, u) = (by_words v).0 r in true_not_false u (p.2 v t j);
        none_before = λ v r j. let (t, u) = (by_words v).0 r in p.3 v t j u;
        allowed = p.4;
      }

  pub spent_at_by_words : (n : ℕ) → SpentAt S allowance n → MeansSpent D S allowance n
  spent_at_by_words n p =
      record {
        more = p.0;
        none_shorter = λ v r j. let (t, u) = (by_words v).0 r in true_not_false u (p.1 v t j);
        fresh = p.2;
      }

  answer_means : (contents : S.Standing → List ℕ) (v : Verdict S) → verdict S allowance ≡ v → (g : Given) → answer_of S contents v ≡ ok g
      → AnswerMeans D S allowance g.answer
  unfolding answer_of
  answer_means contents (proved ss) e g h =
      let made : Given = record { answer = proved_with (length ss); sheet = sheet_bytes S contents (proved ss) } in
      let k : made ≡ g = cc in
      subst (λ (z : Given). AnswerMeans D S allowance z.answer) k (proved_by_words ss (proved_is_proved S laws allowance ss e))
  answer_means contents (refuted w) e g h =
      let made : Given = record { answer = refuted_by w; sheet = sheet_bytes S contents (refuted w) } in
      let k : made ≡ g = cc in
      subst (λ (z : Given). AnswerMeans D S allowance z.answer) k (refuted_by_words w (refuted_is_least S laws allowance w e))
  answer_means contents spent e g h = refused_not_ok h

  refusal_means : (contents : S.Standing → List ℕ) (v : Verdict S) → verdict S allowance ≡ v → (r : Refusal)
      → answer_of S contents v ≡ refused r → (n : ℕ) × MeansSpent D S allowance n
  unfolding answer_of
  refusal_means contents (proved ss) e r h = refused_not_ok (sym h)
  refusal_means contents (refuted w) e r h = refused_not_ok (sym h)
  refusal_means contents spent e r h = let (n, p) = spent_is_spent S laws allowance e in (n, spent_at_by_words n p)

module _ (D : Decision) (rising : Rising D.live) (allowance : ℕ) where
  -- an answer means what it says
  pub answer_by_words : (g : Given) → searched D allowance ≡ ok g → AnswerMeans D (system_of D.ring D) allowance g.answer
  unfolding searched
  answer_by_words g h = go D.ring refl h
    where
      go : (b : Bool) → D.ring ≡ b
          → ◌≡◌ {A = Result Given}
          (elim b [
            | false ↦ answer_of (path_system D) path_bytes (verdict (path_system D) allowance)
            | true ↦ answer_of (ring_system D) ring_bytes (verdict (ring_system D) allowance)
          ]) (ok g) → AnswerMeans D (system_of b D) allowance g.answer
      go false k f =
          answer_means D (path_system D) (path_lawful D rising) allowance (refutes_path D k) path_bytes (verdict (path_system D) allowance) refl g f
      go true k f =
          answer_means D (ring_system D) (ring_lawful D rising) allowance (refutes_ring D k) ring_bytes (verdict (ring_system D) allowance) refl g f

  -- a refusal of the search means that the allowance is spent
  pub spent_by_words : (r : Refusal) → searched D allowance ≡ refused r → (n : ℕ) × MeansSpent D (system_of D.ring D) allowance n
  unfolding searched
  spent_by_words r h = go D.ring refl h
    where
      go : (b : Bool) → D.ring ≡ b
          → ◌≡◌ {A = Result Given}
          (elim b [
            | false ↦ answer_of (path_system D) path_bytes (verdict (path_system D) allowance)
            | true ↦ answer_of (ring_system D) ring_bytes (verdict (ring_system D) allowance)
          ]) (refused r) → (n : ℕ) × MeansSpent D (system_of b D) allowance n
      go false k f =
          refusal_means D (path_system D) (path_lawful D rising) allowance (refutes_path D k) path_bytes (verdict (path_system D) allowance) refl r f
      go true k f =
          refusal_means D (ring_system D) (ring_lawful D rising) allowance (refutes_ring D k) ring_bytes (verdict (ring_system D) allowance) refl r f
