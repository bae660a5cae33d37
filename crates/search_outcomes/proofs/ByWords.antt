-- The outcome of a search is the one that the words fix, each way round. The idea: the call goes one of five ways, each with what holds of the
-- words there; what an outcome means is read off its way, and a meaning that holds leaves one way only, since of the three statements no two
-- hold and each has one answer (claims' `searched_exactly_by_words`).
-- Assumes nothing.
use Rattle.std.specs.Prelude.{Ok, Err}
use Prim.Native.Nat.{ℕ, ◌≤◌, ◌<◌}
use native.Mathlib.Omega.{arith}
use mathlib.Core.Path.{◌≡◌, refl, sym, ◌∙◌, ap, ap₂, subst}
use mathlib.Core.Logic.{◌⊎◌}
use mathlib.Core.Logic.◌⊎◌.{inl, inr}
use mathlib.Core.List.{List, ◌++◌}
use mathlib.Core.Option.{some}
use lib.ListN.{length, drop}
use Rattle.kat.specs.Word.{Word, size}
use Rattle.kat.proofs.Bools.{le_or_lt}
use Rattle.claims.specs.Query.{Query}
use Rattle.claims.specs.Sides.{Decision, decision}
use Rattle.claims.specs.Standings.{System, claim_system}
use Rattle.claims.specs.Search.{Verdict, proved, refuted, spent, verdict}
use Rattle.claims.specs.SheetBytes.{standing_bytes, sheet_bytes}
use Rattle.claims.specs.SheetWriting.{refuted_sheet}
use Rattle.claims.specs.Refusals.{bad_allowance, short_memory, spent_allowance, short_buffer, Result, ok, refused, refuse, afterwards}
use Rattle.claims.specs.RefusalOrder.{Accepted}
use Rattle.claims.specs.Calls.{Answer, proved_with, refuted_by, Given, answer_of, searched, Lent, Done, needed_records, needed_words, search_call}
use Rattle.claims.specs.CallOrder.{asked_as, sought, Ready, Short}
use Rattle.claims.specs.Demands.{MeansProved, MeansRefuted, MeansSpent, AnswerMeans, FixedByWords, answer_alone}
use Rattle.claims.specs.Sheets.{sheet_length, LeavesOwnSheet}
use Rattle.claims.proofs.Results.{refused_not_ok}
use Rattle.claims.proofs.LineOrder.{same_value}
use Rattle.claims.proofs.Precedence.{read_accepts}
use Rattle.claims.proofs.ByKind.{searched_by_kind}
use Rattle.claims.proofs.SearchOrder.{asked_accepted, search_refuses, allowance_next, memory_next, spent_next, buffer_last, else_answered}
use Rattle.claims.proofs.SheetLength.{searched_sheet_length, answer_leaves_own_sheet}
use Rattle.claims.proofs.Demand2.{searched_exactly_by_words}
use Rattle.refusals.specs.Causes.{cause_of}
use Rattle.refusals.specs.declared.Reason.{Reason}
use Rattle.refusals.specs.declared.Reason.TheVariants.{BadAllowance, ShortMemory, SpentAllowance, ShortBuffer}
use Rattle.refusals.proofs.Causes.{one_reason}
use Rattle.search_outcomes.specs.declared.Verdict.TheVariants.{Proved, Refuted}
use Rattle.search_outcomes.specs.Outcomes.{Outcome, refused_at, Says, Sized, given_by, SearchGives}
use Rattle.search_outcomes.specs.ByWords.{Fits, ByWords, SearchedByWords}

-- the outcome that says a refusal
says_refused : (r : Outcome) (why : Reason) → Says (refuse (cause_of why) 0) r → r ≡ refused_at why 0
says_refused (Err x) why (e, f) = let h : x.why ≡ why = one_reason x.why why e in (λ i. Err (record { why = h i; place = f i }))
says_refused (Ok v) why x = elim x [ ]

-- the refuted sheet that an answer comes with is that of its word
sheet_of_word_lem : (S : System) (contents : S.Standing → List ℕ) (v : Verdict S) (w : Word) (sheet : List ℕ)
    → answer_of S contents v ≡ ok (record { answer = refuted_by w; sheet = sheet }) → sheet ≡ refuted_sheet w
unfolding answer_of sheet_bytes
sheet_of_word_lem S contents (proved ss) w sheet e =
    let h : proved_with (length ss) ≡ refuted_by w = ap (λ (g : Given). g.answer) (same_value _ _ e) in
    absurd (let z : ◌≡◌ {A = ℕ} 0 1 = cc in omega arith)
sheet_of_word_lem S contents (refuted u) w sheet e =
    let p = same_value _ _ e in
    let h : refuted_by u ≡ refuted_by w = ap (λ (g : Given). g.answer) p in
    let same : u ≡ w = cc in
    sym (ap (λ (g : Given). g.sheet) p) ∙ ap refuted_sheet same
sheet_of_word_lem S contents spent w sheet e = refused_not_ok e

module _ (D : Decision) (allowance : ℕ) (m : Lent) where
  -- the ways of a call, each with what holds of the words there
  data Way : Type 0 where
    out : (allowance < 1) ⊎ (4096 < allowance) → Way
    short : 1 ≤ allowance → allowance ≤ 4096 → Short D allowance m → Way
    exhausted : Ready D allowance m → (n : ℕ) → MeansSpent D (claim_system D) allowance n → Way
    unwritten : Ready D allowance m → (x : Answer) → AnswerMeans D (claim_system D) allowance x
        → length m.buffer < sheet_length x D.ring → Way
    answered : Ready D allowance m → (x : Answer) → AnswerMeans D (claim_system D) allowance x → Fits D m x → Way

  -- the result of each
  abbrev told : Way → Result Answer
  told (out h) = refuse bad_allowance 0
  told (short h k s) = refuse short_memory 0
  told (exhausted r n p) = refuse spent_allowance 0
  told (unwritten r x p h) = refuse short_buffer 0
  told (answered r x p h) = ok x

  not_out_lem : {A : Type 0} → Ready D allowance m → (allowance < 1) ⊎ (4096 < allowance) → A
  not_out_lem r (inl h) = absurd (omega (arith, r.some_allowance))
  not_out_lem r (inr h) = absurd (omega (arith, r.small_allowance))

  not_short : {A : Type 0} → Ready D allowance m → Short D allowance m → A
  not_short r (inl h) = absurd (omega (arith, r.records_enough))
  not_short r (inr h) = absurd (omega (arith, r.words_enough))

  not_out_and_in : {A : Type 0} → 1 ≤ allowance → allowance ≤ 4096 → (allowance < 1) ⊎ (4096 < allowance) → A
  not_out_and_in h k (inl o) = absurd (omega arith)
  not_out_and_in h k (inr o) = absurd (omega arith)

  -- what an outcome of a way means
  if_out : (w : Way) → Says (told w) (refused_at BadAllowance 0) → (allowance < 1) ⊎ (4096 < allowance)
  unfolding cause_of
  if_out (out h) s = h
  if_out (short h k t) (e, f) = absurd (let z : ◌≡◌ {A = ℕ} 0 1 = cc in omega arith)
  if_out (exhausted r n p) (e, f) = absurd (let z : ◌≡◌ {A = ℕ} 0 1 = cc in omega arith)
  if_out (unwritten r x p h) (e, f) = absurd (let z : ◌≡◌ {A = ℕ} 0 1 = cc in omega arith)
  if_out (answered r (proved_with c) p h) s = absurd s
  if_out (answered r (refuted_by v) p h) s = absurd s

  if_short : (w : Way) → Says (told w) (refused_at ShortMemory 0) → (1 ≤ allowance) × (allowance ≤ 4096) × Short D allowance m
  unfolding cause_of
  if_short (out h) (e, f) = absurd (let z : ◌≡◌ {A = ℕ} 0 1 = cc in omega arith)
  if_short (short h k t) s = (h, k, t)
  if_short (exhausted r n p) (e, f) = absurd (let z : ◌≡◌ {A = ℕ} 0 1 = cc in omega arith)
  if_short (unwritten r x p h) (e, f) = absurd (let z : ◌≡◌ {A = ℕ} 0 1 = cc in omega arith)
  if_short (answered r (proved_with c) p h) s = absurd s
  if_short (answered r (refuted_by v) p h) s = absurd s

  if_spent : (w : Way) → Says (told w) (refused_at SpentAllowance 0)
      → Ready D allowance m × ((n : ℕ) × MeansSpent D (claim_system D) allowance n)
  unfolding cause_of
  if_spent (out h) (e, f) = absurd (let z : ◌≡◌ {A = ℕ} 0 1 = cc in omega arith)
  if_spent (short h k t) (e, f) = absurd (let z : ◌≡◌ {A = ℕ} 0 1 = cc in omega arith)
  if_spent (exhausted r n p) s = (r, (n, p))
  if_spent (unwritten r x p h) (e, f) = absurd (let z : ◌≡◌ {A = ℕ} 0 1 = cc in omega arith)
  if_spent (answered r (proved_with c) p h) s = absurd s
  if_spent (answered r (refuted_by v) p h) s = absurd s

  if_unwritten : (w : Way) → Says (told w) (refused_at ShortBuffer 0)
      → Ready D allowance m
      × ((x : Answer) × AnswerMeans D (claim_system D) allowance x × (length m.buffer < sheet_length x D.ring))
  unfolding cause_of
  if_unwritten (out h) (e, f) = absurd (let z : ◌≡◌ {A = ℕ} 0 1 = cc in omega arith)
  if_unwritten (short h k t) (e, f) = absurd (let z : ◌≡◌ {A = ℕ} 0 1 = cc in omega arith)
  if_unwritten (exhausted r n p) (e, f) = absurd (let z : ◌≡◌ {A = ℕ} 0 1 = cc in omega arith)
  if_unwritten (unwritten r x p h) s = (r, (x, p, h))
  if_unwritten (answered r (proved_with c) p h) s = absurd s
  if_unwritten (answered r (refuted_by v) p h) s = absurd s

  if_proved : (w : Way) (n bytes : ℕ) → Says (told w) (Ok (Proved n bytes))
      → Ready D allowance m × MeansProved D (claim_system D) allowance n × Fits D m (proved_with n)
  if_proved (out h) n bytes s = absurd s
  if_proved (short h k t) n bytes s = absurd s
  if_proved (exhausted r k p) n bytes s = absurd s
  if_proved (unwritten r x p h) n bytes s = absurd s
  if_proved (answered r (proved_with c) p h) n bytes s =
      (r, subst (λ k. MeansProved D (claim_system D) allowance k) (sym s) p, subst (λ k. Fits D m (proved_with k)) (sym s) h)
  if_proved (answered r (refuted_by v) p h) n bytes s = absurd s

  if_refuted : (w : Way) (n bytes : ℕ) → Says (told w) (Ok (Refuted n bytes))
      → Ready D allowance m
      × ((v : Word) × (size v ≡ n) × MeansRefuted D (claim_system D) allowance v × Fits D m (refuted_by v))
  if_refuted (out h) n bytes s = absurd s
  if_refuted (short h k t) n bytes s = absurd s
  if_refuted (exhausted r k p) n bytes s = absurd s
  if_refuted (unwritten r x p h) n bytes s = absurd s
  if_refuted (answered r (proved_with c) p h) n bytes s = absurd s
  if_refuted (answered r (refuted_by v) p h) n bytes s = (r, (v, sym s, p, h))

  -- and which way a meaning leaves
  then_out : (w : Way) → (allowance < 1) ⊎ (4096 < allowance) → told w ≡ refuse bad_allowance 0
  then_out (out h) o = refl
  then_out (short h k t) o = not_out_and_in h k o
  then_out (exhausted r n p) o = not_out_lem r o
  then_out (unwritten r x p h) o = not_out_lem r o
  then_out (answered r x p h) o = not_out_lem r o

  then_short : (w : Way) → 1 ≤ allowance → allowance ≤ 4096 → Short D allowance m → told w ≡ refuse short_memory 0
  then_short (out h) i j t = not_out_and_in i j h
  then_short (short h k s) i j t = refl
  then_short (exhausted r n p) i j t = not_short r t
  then_short (unwritten r x p h) i j t = not_short r t
  then_short (answered r x p h) i j t = not_short r t

  -- by what the words fix of the search
  module _ (s : Result Answer) (fixed : FixedByWords D (claim_system D) allowance s) where
    is_answer : (x : Answer) → AnswerMeans D (claim_system D) allowance x → s ≡ ok x
    is_answer (proved_with c) p = (fixed.proved c).1 p
    is_answer (refuted_by w) p = (fixed.refuted w).1 p

    one_answer : (x y : Answer) → AnswerMeans D (claim_system D) allowance x → AnswerMeans D (claim_system D) allowance y → x ≡ y
    one_answer x y p q = same_value x y (sym (is_answer x p) ∙ is_answer y q)

    not_spent : {A : Type 0} (x : Answer) (n : ℕ) → AnswerMeans D (claim_system D) allowance x → MeansSpent D (claim_system D) allowance n → A
    not_spent (proved_with c) n p q = absurd (fixed.exactly_one.not_proved_and_spent c n p q)
    not_spent (refuted_by w) n p q = absurd (fixed.exactly_one.not_refuted_and_spent w n p q)

    not_unwritten : {A : Type 0} (x y : Answer) → AnswerMeans D (claim_system D) allowance x → AnswerMeans D (claim_system D) allowance y
        → length m.buffer < sheet_length x D.ring → Fits D m y → A
    not_unwritten x y p q h f =
        let g : Fits D m x = subst (λ z. Fits D m z) (one_answer y x q p) f in absurd (omega arith)

    then_spent : (w : Way) → Ready D allowance m → (n : ℕ) → MeansSpent D (claim_system D) allowance n → told w ≡ refuse spent_allowance 0
    then_spent (out h) r n q = not_out_lem r h
    then_spent (short h k t) r n q = not_short r t
    then_spent (exhausted _ k p) r n q = refl
    then_spent (unwritten _ x p h) r n q = not_spent x n p q
    then_spent (answered _ x p h) r n q = not_spent x n p q

    then_unwritten : (w : Way) → Ready D allowance m → (y : Answer) → AnswerMeans D (claim_system D) allowance y
        → length m.buffer < sheet_length y D.ring → told w ≡ refuse short_buffer 0
    then_unwritten (out h) r y q l = not_out_lem r h
    then_unwritten (short h k t) r y q l = not_short r t
    then_unwritten (exhausted _ k p) r y q l = not_spent y k q p
    then_unwritten (unwritten _ x p h) r y q l = refl
    then_unwritten (answered _ x p h) r y q l = not_unwritten y x q p l h

    then_answered : (w : Way) → Ready D allowance m → (y : Answer) → AnswerMeans D (claim_system D) allowance y → Fits D m y → told w ≡ ok y
    then_answered (out h) r y q f = not_out_lem r h
    then_answered (short h k t) r y q f = not_short r t
    then_answered (exhausted _ k p) r y q f = not_spent y k q p
    then_answered (unwritten _ x p h) r y q f = not_unwritten x y p q h f
    then_answered (answered _ x p h) r y q f = ap ok (one_answer x y p q)

module _ (text : List ℕ) (q : Query) (a : Accepted text q) (allowance : ℕ) (m : Lent) where
  fixed : FixedByWords (sought a) (claim_system (sought a)) allowance (answer_alone (searched (sought a) allowance))
  fixed = searched_exactly_by_words text (asked_as q a.claim) (asked_accepted text q a) allowance

  answer_means : (x : Answer) → answer_alone (searched (sought a) allowance) ≡ ok x → AnswerMeans (sought a) (claim_system (sought a)) allowance x
  answer_means (proved_with c) e = (fixed.proved c).0 e
  answer_means (refuted_by w) e = (fixed.refuted w).0 e

  -- the call goes one of the ways
  abbrev Goes : Type 0
  Goes = (w : Way (sought a) allowance m) × ((search_call text allowance m).result ≡ told (sought a) allowance m w)

  goes : Goes
  goes = spans (le_or_lt 1 allowance) (le_or_lt allowance 4096)
    where
      fits : Ready (sought a) allowance m → (g : Given) → searched (sought a) allowance ≡ ok g
          → (length g.sheet ≤ length m.buffer) ⊎ (length m.buffer < length g.sheet) → Goes
      fits r g e (inl h) = (
        answered r g.answer (answer_means g.answer (ap answer_alone e))
            (subst (λ n. n ≤ length m.buffer) (searched_sheet_length (sought a) allowance g e) h),
        ap (λ (d : Done). d.result) (else_answered text allowance m q a r g e h),
      )
      fits r g e (inr h) = (
        unwritten r g.answer (answer_means g.answer (ap answer_alone e))
            (subst (λ n. length m.buffer < n) (searched_sheet_length (sought a) allowance g e) h),
        ap (λ (d : Done). d.result) (buffer_last text allowance m q a r g e h),
      )

      finds : Ready (sought a) allowance m → (s : Result Given) → searched (sought a) allowance ≡ s → Goes
      finds r (ok g) e = fits r g e (le_or_lt (length g.sheet) (length m.buffer))
      finds r (refused s) e =
          let f : searched (sought a) allowance ≡ refuse spent_allowance 0 = search_refuses (sought a) allowance s e in
          let (n, p) = fixed.spent.0 (ap answer_alone f) in
          (exhausted r n p, ap (λ (d : Done). d.result) (spent_next text allowance m q a r f))

      holds : 1 ≤ allowance → allowance ≤ 4096
          → (needed_records (sought a) allowance ≤ length m.records) ⊎ (length m.records < needed_records (sought a) allowance)
          → (needed_words (sought a) allowance ≤ length m.words) ⊎ (length m.words < needed_words (sought a) allowance) → Goes
      holds h k (inr s) t = (short h k (inl s), ap (λ (d : Done). d.result) (memory_next text allowance m q a h k (inl s)))
      holds h k (inl s) (inr t) = (short h k (inr t), ap (λ (d : Done). d.result) (memory_next text allowance m q a h k (inr t)))
      holds h k (inl s) (inl t) =
          finds (record { some_allowance = h; small_allowance = k; records_enough = s; words_enough = t })
          (searched (sought a) allowance) refl

      spans : (1 ≤ allowance) ⊎ (allowance < 1) → (allowance ≤ 4096) ⊎ (4096 < allowance) → Goes
      spans (inr h) k = (out (inl h), ap (λ (d : Done). d.result) (allowance_next text allowance m q a (inl h)))
      spans (inl h) (inr k) = (out (inr k), ap (λ (d : Done). d.result) (allowance_next text allowance m q a (inr k)))
      spans (inl h) (inl k) =
          holds h k (le_or_lt (needed_records (sought a) allowance) (length m.records))
          (le_or_lt (needed_words (sought a) allowance) (length m.words))

  -- the sheet that is given has the length of the answer's
  given_is : given_by text allowance ≡ searched (sought a) allowance
  unfolding given_by
  given_is = ap (λ x. afterwards x (λ y. searched y.decided allowance)) (asked_accepted text q a)

  answer_length : (x : Answer) → AnswerMeans (sought a) (claim_system (sought a)) allowance x → (g : Given) → searched (sought a) allowance ≡ ok g
      → length g.sheet ≡ sheet_length x (sought a).ring
  answer_length x p g e =
      searched_sheet_length (sought a) allowance g e
      ∙ ap (λ y. sheet_length y (sought a).ring)
      (same_value g.answer x (sym (ap answer_alone e) ∙ is_answer (sought a) allowance m _ fixed x p))

  proved_length : (n bytes : ℕ) → Sized (Ok (Proved n bytes)) (searched (sought a) allowance) → MeansProved (sought a) (claim_system (sought a)) allowance n
      → bytes ≡ sheet_length (proved_with n) (sought a).ring
  proved_length n bytes z p = go (searched (sought a) allowance) refl z
    where
      go : (s : Result Given) → searched (sought a) allowance ≡ s → Sized (Ok (Proved n bytes)) s → bytes ≡ sheet_length (proved_with n) (sought a).ring
      go (ok g) e h = h ∙ answer_length (proved_with n) p g e
      go (refused s) e h = absurd h

  refuted_length : (w : Word) (n bytes : ℕ) → Sized (Ok (Refuted n bytes)) (searched (sought a) allowance)
      → MeansRefuted (sought a) (claim_system (sought a)) allowance w → bytes ≡ sheet_length (refuted_by w) (sought a).ring
  refuted_length w n bytes z p = go (searched (sought a) allowance) refl z
    where
      go : (s : Result Given) → searched (sought a) allowance ≡ s → Sized (Ok (Refuted n bytes)) s → bytes ≡ sheet_length (refuted_by w) (sought a).ring
      go (ok g) e h = h ∙ answer_length (refuted_by w) p g e
      go (refused s) e h = absurd h

  -- the outcome that says an answer, with that length
  says_proved_lem : (r : Outcome) (n : ℕ) → Says (ok (proved_with n)) r → Sized r (searched (sought a) allowance)
      → MeansProved (sought a) (claim_system (sought a)) allowance n → r ≡ Ok (Proved n (sheet_length (proved_with n) (sought a).ring))
  says_proved_lem (Ok (Proved k bytes)) n e z p = ap₂ (λ c b. Ok (Proved c b)) e (proved_length k bytes z (subst (λ j. MeansProved (sought a) (claim_system (sought a)) allowance j) (sym e) p) ∙ ap (λ j. sheet_length (proved_with j) (sought a).ring) e)
  says_proved_lem (Ok (Refuted _ _)) n e z p = elim e [ ]
  says_proved_lem (Err _) n e z p = elim e [ ]

  says_refuted_lem : (r : Outcome) (w : Word) → Says (ok (refuted_by w)) r → Sized r (searched (sought a) allowance)
      → MeansRefuted (sought a) (claim_system (sought a)) allowance w → r ≡ Ok (Refuted (size w) (sheet_length (refuted_by w) (sought a).ring))
  says_refuted_lem (Ok (Refuted k bytes)) w e z p = ap₂ (λ c b. Ok (Refuted c b)) e (refuted_length w k bytes z p)
  says_refuted_lem (Err _) w e z p = elim e [ ]
  says_refuted_lem (Ok (Proved _ _)) w e z p = elim e [ ]

  -- the refuted sheet of an answer is left at the start of the buffer
  left : (v : Word) → (search_call text allowance m).result ≡ ok (refuted_by v)
      → (search_call text allowance m).lent.buffer ≡ refuted_sheet v ++ drop (length (refuted_sheet v)) m.buffer
  left v e =
      let L : LeavesOwnSheet text allowance (refuted_by v) m.buffer (search_call text allowance m).lent.buffer =
      answer_leaves_own_sheet text allowance m (refuted_by v) e
      in
      let E : Decision = L.asks.decided in
      L.leaves
      ∙ ap (λ z. z ++ drop (length z) m.buffer)
      (sheet_of_word_lem (claim_system E) (standing_bytes E.ring E) (verdict (claim_system E) allowance) v L.sheet
      (sym (searched_by_kind E allowance) ∙ L.own))

  by_words : (after : Lent) (r : Outcome) → SearchGives text allowance m r after → ByWords (sought a) allowance m after r
  unfolding cause_of
  by_words after r gives = go goes.0 goes.1
    where
      go : (w : Way (sought a) allowance m) → (search_call text allowance m).result ≡ told (sought a) allowance m w
          → ByWords (sought a) allowance m after r
      go w e =
          let said : Says (told (sought a) allowance m w) r = subst (λ s. Says s r) e gives.says in
          let sized : Sized r (searched (sought a) allowance) = subst (λ s. Sized r s) given_is gives.sized in
          record {
            exactly_one = fixed.exactly_one;
            allowance_out = (
              (λ h. if_out (sought a) allowance m w (subst (λ o. Says (told (sought a) allowance m w) o) h said)),
              (λ o. says_refused r BadAllowance (subst (λ s. Says s r) (then_out (sought a) allowance m w o) said)),
            );
            memory_short = (
              (λ h. if_short (sought a) allowance m w (subst (λ o. Says (told (sought a) allowance m w) o) h said)),
              (λ (i, j, t). says_refused r ShortMemory (subst (λ s. Says s r) (then_short (sought a) allowance m w i j t) said)),
            );
            proved = λ n bytes. (
              (λ h.
                  let (ready, p, f) = if_proved (sought a) allowance m w n bytes (subst (λ o. Says (told (sought a) allowance m w) o) h said) in
                  (ready, p, f, proved_length n bytes (subst (λ o. Sized o (searched (sought a) allowance)) h sized) p)),
              (λ (ready, p, f, l).
                  says_proved_lem r n (subst (λ s. Says s r) (then_answered (sought a) allowance m _ fixed w ready (proved_with n) p f) said) sized p
                  ∙ ap (λ b. Ok (Proved n b)) (sym l)),
            );
            refuted = λ n bytes. (
              (λ h.
                  let (ready, (v, k, p, f)) = if_refuted (sought a) allowance m w n bytes (subst (λ o. Says (told (sought a) allowance m w) o) h said) in
                  (ready, (v, k, p, f, refuted_length v n bytes (subst (λ o. Sized o (searched (sought a) allowance)) h sized) p))),
              (λ (ready, (v, k, p, f, l)).
                  says_refuted_lem r v (subst (λ s. Says s r) (then_answered (sought a) allowance m _ fixed w ready (refuted_by v) p f) said) sized p
                  ∙ ap₂ (λ c b. Ok (Refuted c b)) k (sym l)),
            );
            spent = (
              (λ h. if_spent (sought a) allowance m w (subst (λ o. Says (told (sought a) allowance m w) o) h said)),
              (λ (ready, (n, p)). says_refused r SpentAllowance (subst (λ s. Says s r) (then_spent (sought a) allowance m _ fixed w ready n p) said)),
            );
            buffer_short = (
              (λ h. if_unwritten (sought a) allowance m w (subst (λ o. Says (told (sought a) allowance m w) o) h said)),
              (λ (ready, (x, p, l)). says_refused r ShortBuffer (subst (λ s. Says s r) (then_unwritten (sought a) allowance m _ fixed w ready x p l) said)),
            );
            word = λ v p h.
                let (ready, (u, k, pu, f)) = if_refuted (sought a) allowance m w (size v) _ (subst (λ o. Says (told (sought a) allowance m w) o) h said) in
                let same : refuted_by u ≡ refuted_by v = one_answer (sought a) allowance m _ fixed (refuted_by u) (refuted_by v) pu p in
                ap (λ (l : Lent). l.buffer) gives.leaves
                ∙ left v (e ∙ then_answered (sought a) allowance m _ fixed w ready (refuted_by v) p (subst (λ z. Fits (sought a) m z) same f));
          }

-- whatever the allowance and the lent memory, the outcome of the search of an accepted query is the one that the words fix
pub search_by_words : (text : List ℕ) (allowance : ℕ) (before after : Lent) (r : Outcome) → SearchGives text allowance before r after
    → SearchedByWords text allowance before after r
search_by_words text allowance before after r gives q c e f =
    let a : Accepted text q = (read_accepts text q).0 e in
    let g : some a.claim ≡ some c = sym a.claimed ∙ f in
    let same : a.claim ≡ c = cc in
    subst (λ k. ByWords (decision q k) allowance before after r) same (by_words text q a allowance before after r gives)
