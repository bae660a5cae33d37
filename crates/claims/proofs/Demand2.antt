-- Verdicts, end to end: the second demand as one theorem. For every list of bytes that is an accepted query and every allowance, exactly one
-- of three statements holds: no word refutes and there are so many standings; this word refutes and no other comes first; the allowance
-- is spent at some level. And the search answers that one: an answer, or refusal 10, if and only if its statement holds. The same for the
-- result of the search call where memory and buffer are enough. The idea: the statements of `Verdicts` and those of the languages are the
-- same, since the words that refute are the same, and of the former `Verdict` shows that one holds and settles the answer.
-- Assumes nothing.
use Prim.Native.Nat.{ℕ, ◌≤◌}
use native.Mathlib.Omega.{arith}
use mathlib.Core.Path.{◌≡◌, refl, sym, ◌∙◌, ap, subst}
use mathlib.Core.Logic.{◌⊎◌, ◌↔◌, ⊎_elim}
use mathlib.Core.Logic.◌⊎◌.{inl, inr}
use mathlib.Core.Bool.{Bool, true, false}
use mathlib.Core.List.{List}
use lib.ListN.{length}
use Rattle.kat.specs.Word.{Word}
use Rattle.kat.proofs.Bools.{bool_cases}
use Rattle.notation.specs.Query.{Query}
use Rattle.notation.specs.Sides.{Decision}
use Rattle.verdicts.specs.Standings.{System, path_system, ring_system, system_of}
use Rattle.verdicts.specs.Search.{proved, refuted, spent, verdict}
use Rattle.claims.specs.SheetBytes.{path_bytes, ring_bytes}
use Rattle.verdicts.specs.Passing.{refuting}
use Rattle.notation.specs.Refusals.{spent_allowance, Refusal, Result, ok, refused, refuse}
use Rattle.notation.specs.Words.{Guarded, Refutes}
use Rattle.verdicts.specs.Verdicts.{ProvedBy, RefutedBy, SpentAt, Answered, ExactlyOne}
use Rattle.verdicts.specs.Orders.{Rising}
use Rattle.verdicts.specs.Lawful.{Lawful}
use Rattle.claims.specs.Calls.{Answer, proved_with, refuted_by, Given, answer_of, searched, Asked, asked, Lent, Done, search_call}
use Rattle.notation.specs.RefusalOrder.{Accepted}
use Rattle.claims.specs.CallOrder.{sought, Ready}
use Rattle.claims.specs.Demands.{MeansProved, MeansRefuted, MeansSpent, AnswerMeans, OneMeaning, FixedByWords, answer_alone}
use Rattle.claims.specs.Sheets.{sheet_length}
use Rattle.notation.proofs.LineOrder.{ok_not_refused, same_value}
use Rattle.verdicts.proofs.Lawful.{path_lawful, ring_lawful, decision_rising}
use Rattle.claims.proofs.Limits.{asked_read}
use Rattle.verdicts.proofs.Refuting.{refutes_path, refutes_ring}
use Rattle.verdicts.proofs.Verdict.{exactly_one, is_proved, is_refuted, is_spent}
use Rattle.claims.proofs.SearchOrder.{asked_only_accepted, search_refuses, spent_next, else_answered}
use Rattle.claims.proofs.SheetLength.{searched_sheet_fits}
use Rattle.claims.proofs.VerdictsByWords.{proved_by_words, refuted_by_words, spent_at_by_words, answer_by_words, spent_by_words}

-- what the three statements settle: that one holds and no two, and the answer of each
record Settled (D : Decision) (S : System) (allowance : ℕ) (r : Result Answer) : Type 0 where
  exactly_one_holds : OneMeaning D S allowance
  if_proved : (c : ℕ) → MeansProved D S allowance c → r ≡ ok (proved_with c)
  if_refuted : (w : Word) → MeansRefuted D S allowance w → r ≡ ok (refuted_by w)
  if_spent : (n : ℕ) → MeansSpent D S allowance n → r ≡ refuse spent_allowance 0

-- for any lawful kind of standing whose refuting words are those of the languages
module _ (D : Decision) (S : System) (laws : Lawful S) (allowance : ℕ)
    (by_words : (w : Word) → Refutes D w ↔ (Guarded S.live S.relations w × (refuting S w ≡ true))) where
  none_refuting : (v : Word) → Guarded S.live S.relations v → (Refutes D v → ⊥) → refuting S v ≡ false
  none_refuting v g none = ⊎_elim (λ t. absurd (none ((by_words v).1 (g, t)))) (λ f. f) (bool_cases (refuting S v))

  -- what the languages say, as a plain statement
  words_proved : (c : ℕ) → MeansProved D S allowance c → (ss : List S.Standing) × ProvedBy S allowance ss × (length ss ≡ c)
  words_proved c p = (
    p.standings,
    ((λ v g. none_refuting v g (p.none_refutes v)), p.distinct, p.all, subst (λ n. n ≤ allowance) (sym p.count) p.allowed),
    p.count,
  )

  words_refuted : (w : Word) → MeansRefuted D S allowance w → RefutedBy S allowance w
  words_refuted w p = (
    ((by_words w).0 p.refutes).0,
    ((by_words w).0 p.refutes).1,
    (λ v g s. none_refuting v g (λ r. p.none_shorter v r s)),
    (λ v g s t. p.none_before v ((by_words v).1 (g, t)) s),
    p.allowed,
  )

  words_spent : (n : ℕ) → MeansSpent D S allowance n → SpentAt S allowance n
  words_spent n p = (p.more, (λ v g s. none_refuting v g (λ r. p.none_shorter v r s)), p.fresh)

  one_meaning : OneMeaning D S allowance
  one_meaning =
      let x : ExactlyOne S allowance = exactly_one S laws allowance in
      record {
        one = go x.one;
        not_proved_and_refuted = λ c w p q.
            let (ss, h, n) = words_proved c p in x.not_proved_and_refuted ss w h (words_refuted w q);
        not_proved_and_spent = λ c n p q. let (ss, h, m) = words_proved c p in x.not_proved_and_spent ss n h (words_spent n q);
        not_refuted_and_spent = λ w n p q. x.not_refuted_and_spent w n (words_refuted w p) (words_spent n q);
      }
    where
      go : Answered S allowance
          → ((c : ℕ) × MeansProved D S allowance c)
          ⊎ (((w : Word) × MeansRefuted D S allowance w) ⊎ ((n : ℕ) × MeansSpent D S allowance n))
      go (inl (ss, p)) = inl (length ss, proved_by_words D S laws allowance by_words ss p)
      go (inr (inl (w, p))) = inr (inl (w, refuted_by_words D S laws allowance by_words w p))
      go (inr (inr (n, p))) = inr (inr (n, spent_at_by_words D S laws allowance by_words n p))

  settled : (contents : S.Standing → List ℕ) → Settled D S allowance (answer_alone (answer_of S contents (verdict S allowance)))
  unfolding answer_of
  settled contents =
      record {
        exactly_one_holds = one_meaning;
        if_proved = λ c p.
            let (ss, h, n) = words_proved c p in
            let (ts, e, k) = is_proved S laws allowance ss h in
            ap (λ v. answer_alone (answer_of S contents v)) e ∙ ap (λ m. ok (proved_with m)) (k ∙ n);
        if_refuted = λ w p.
            ap (λ v. answer_alone (answer_of S contents v)) (is_refuted S laws allowance w (words_refuted w p));
        if_spent = λ n p. ap (λ v. answer_alone (answer_of S contents v)) (is_spent S laws allowance n (words_spent n p));
      }

module _ (D : Decision) (rising : Rising D.live) (allowance : ℕ) where
  search_settled : Settled D (system_of D.ring D) allowance (answer_alone (searched D allowance))
  unfolding searched
  search_settled = go D.ring refl
    where
      go : (b : Bool) → D.ring ≡ b
          → Settled D (system_of b D) allowance
          (answer_alone (elim b [
            | false ↦ answer_of (path_system D) path_bytes (verdict (path_system D) allowance)
            | true ↦ answer_of (ring_system D) ring_bytes (verdict (ring_system D) allowance)
          ]))
      go false k = settled D (path_system D) (path_lawful D rising) allowance (refutes_path D k) path_bytes
      go true k = settled D (ring_system D) (ring_lawful D rising) allowance (refutes_ring D k) ring_bytes

  -- an answer, or a refusal, was that of the search
  answer_of_search : (s : Result Given) (x : Answer) → answer_alone s ≡ ok x → (g : Given) × (s ≡ ok g) × (g.answer ≡ x)
  answer_of_search (ok g) x e = (g, refl, same_value g.answer x e)
  answer_of_search (refused r) x e = absurd (ok_not_refused x r (sym e))

  refusal_of_search : (s : Result Given) (r : Refusal) → answer_alone s ≡ refused r → s ≡ refused r
  refusal_of_search (ok g) r e = absurd (ok_not_refused g.answer r e)
  refusal_of_search (refused q) r e = ap (λ z. refused z) (let h : q ≡ r = cc in h)

  answer_is : (x : Answer) → answer_alone (searched D allowance) ≡ ok x → AnswerMeans D (system_of D.ring D) allowance x
  answer_is x e =
      let (g, h, k) = answer_of_search (searched D allowance) x e in
      subst (λ z. AnswerMeans D (system_of D.ring D) allowance z) k (answer_by_words D rising allowance g h)

  -- the search answers what the words fix
  pub search_fixed_by_words : FixedByWords D (system_of D.ring D) allowance (answer_alone (searched D allowance))
  search_fixed_by_words =
      record {
        exactly_one = search_settled.exactly_one_holds;
        proved = λ c. (answer_is (proved_with c), search_settled.if_proved c);
        refuted = λ w. (answer_is (refuted_by w), search_settled.if_refuted w);
        spent = (
          (λ e. spent_by_words D rising allowance _ (refusal_of_search (searched D allowance) _ e)),
          (λ (n, p). search_settled.if_spent n p),
        );
      }

module _ (bs : List ℕ) (a : Asked) (accepted : asked bs ≡ ok a) where
  live_rises : Rising a.decided.live
  live_rises =
      subst (λ (D : Decision). Rising D.live) (sym (asked_read bs accepted).2) (decision_rising a.query a.claim)

  -- for every accepted query and every allowance: one of the three holds, no two, and the search gives the one that holds
  pub searched_exactly_by_words : (allowance : ℕ)
      → FixedByWords a.decided (system_of a.decided.ring a.decided) allowance (answer_alone (searched a.decided allowance))
  searched_exactly_by_words allowance = search_fixed_by_words a.decided live_rises allowance

  -- where memory and buffer are enough, the result of the call is that of the search
  pub call_is_searched : (allowance : ℕ) (m : Lent) → Ready a.decided allowance m
      → ((g : Given) → searched a.decided allowance ≡ ok g → length g.sheet ≤ length m.buffer)
      → (search_call bs allowance m).result ≡ answer_alone (searched a.decided allowance)
  call_is_searched allowance m =
      let (q, c, e) = asked_only_accepted bs a accepted in
      subst (λ (b : Asked). Ready b.decided allowance m
      → ((g : Given) → searched b.decided allowance ≡ ok g → length g.sheet ≤ length m.buffer)
      → (search_call bs allowance m).result ≡ answer_alone (searched b.decided allowance)) (sym e)
      (λ r room. go q c r room (searched (sought c) allowance) refl)
    where
      go : (q : Query) (c : Accepted bs q) → Ready (sought c) allowance m
          → ((g : Given) → searched (sought c) allowance ≡ ok g → length g.sheet ≤ length m.buffer)
          → (s : Result Given) → searched (sought c) allowance ≡ s
          → (search_call bs allowance m).result ≡ answer_alone (searched (sought c) allowance)
      go q c r room (ok g) e =
          ap (λ (d : Done). d.result) (else_answered bs allowance m q c r g e (room g e)) ∙ sym (ap answer_alone e)
      go q c r room (refused s) e =
          let f : searched (sought c) allowance ≡ refuse spent_allowance 0 = search_refuses (sought c) allowance s e in
          ap (λ (d : Done). d.result) (spent_next bs allowance m q c r f) ∙ sym (ap answer_alone f)

  -- and so the call gives the one that holds
  pub call_exactly_by_words : (allowance : ℕ) (m : Lent) → Ready a.decided allowance m
      → ((g : Given) → searched a.decided allowance ≡ ok g → length g.sheet ≤ length m.buffer)
      → FixedByWords a.decided (system_of a.decided.ring a.decided) allowance (search_call bs allowance m).result
  call_exactly_by_words allowance m ready room =
      subst (λ r. FixedByWords a.decided (system_of a.decided.ring a.decided) allowance r)
      (sym (call_is_searched allowance m ready room)) (searched_exactly_by_words allowance)

  -- a buffer for a proof that uses the whole allowance is enough: 4 and 19 bytes, or 269 for a ring claim, for each standing of it
  pub fits_full : (allowance : ℕ) (m : Lent) → Ready a.decided allowance m
      → sheet_length (proved_with allowance) a.decided.ring ≤ length m.buffer
      → (g : Given) → searched a.decided allowance ≡ ok g → length g.sheet ≤ length m.buffer
  fits_full allowance m ready full g e =
      let h = searched_sheet_fits a.decided allowance g e live_rises ready.some_allowance in omega arith

  pub call_with_full_buffer_exactly_by_words : (allowance : ℕ) (m : Lent) → Ready a.decided allowance m
      → sheet_length (proved_with allowance) a.decided.ring ≤ length m.buffer
      → FixedByWords a.decided (system_of a.decided.ring a.decided) allowance (search_call bs allowance m).result
  call_with_full_buffer_exactly_by_words allowance m ready full =
      call_exactly_by_words allowance m ready (fits_full allowance m ready full)
