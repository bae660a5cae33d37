-- How the reading of a part ends, for every list of numbers: at a wrong verdict, at a missing or wrong word, with the word, or behind the
-- standings that were read, each from a field of its own, at most 4,096 of them. The idea: one induction over the standings; all that is
-- said of the reading of a sheet follows from these ends.
-- Assumes nothing.
use Prim.Native.Nat.{ℕ, zero, suc, ◌+◌, ◌≤◌}
use native.Mathlib.Omega.{arith}
use mathlib.Core.Path.{◌≡◌, refl, sym, ◌∙◌, ap, subst}
use mathlib.Core.Bool.{Bool, true, false, not}
use mathlib.Core.List.{List, [], ◌∷◌, ◌++◌, append_assoc, append-nil}
use mathlib.Core.Option.{Option, some, none}
use lib.Dec.{eqb}
use lib.ListN.{length}
use borrow.Author.Tests.{eqb-true, leb-true}
use Rattle.kat.specs.Lists.{some as some_of, is_empty}
use Rattle.kat.specs.Word.{Word}
use Rattle.kat.proofs.Bools.{and_left, and_right, true_not_false, not_true_false}
use Rattle.notation.specs.Bytes.{same}
use Rattle.notation.specs.Sides.{Decision}
use Rattle.verdicts.specs.Standings.{claim_system}
use Rattle.claims.specs.Fields.{Field, whole, cut, next_field, after_field, provided}
use Rattle.notation.specs.Refusals.{sheet_field, Result, ok, refused, refuse}
use Rattle.claims.specs.SheetReading.{Said, says_proved, says_refuted, Part, standing_of, word_of, tagged, verdict_is, word_in, standing_in, standings_in, word_from, part_from, part_in, only_part, sheet_in}
use Rattle.claims.proofs.Bytes.{next_tag}
use Rattle.notation.proofs.Results.{refused_not_ok, onward_ok, same_is_equal}
use Rattle.claims.proofs.Provided.{provided_some}
use Rattle.notation.proofs.LineOrder.{same_value}

-- the verdict's field is whole, has tag 1 and says v
verdict_whole : (v : ℕ) (f : Field) → verdict_is v f ≡ true → f ≡ whole 1 (v ∷ []) (after_field f)
unfolding verdict_is
verdict_whole v cut e = absurd (true_not_false e refl)
verdict_whole v (whole tag contents rest) e =
    let t : tag ≡ 1 = eqb-true tag 1 (and_left (eqb tag 1) (same contents (v ∷ [])) e) in
    let s : contents ≡ v ∷ [] = same_is_equal contents (v ∷ []) (and_right (eqb tag 1) (same contents (v ∷ [])) e) in
    (λ i. whole (t i) (s i) rest)

module _ (D : Decision) where
  abbrev Listed : Type 0
  Listed = List (claim_system D).Standing

  -- the word's field is whole and has tag 2
  word_whole : (f : Field) (w : Word) → word_in D f ≡ some w
      → (ns : List ℕ) × (f ≡ whole 2 ns (after_field f)) × (word_of D ns ≡ some w)
  unfolding word_in
  word_whole cut w e = absurd (let z : ◌≡◌ {A = ℕ} 0 1 = cc in omega arith)
  word_whole (whole tag contents rest) w e = go (eqb tag 2) refl e
    where
      go : (b : Bool) → eqb tag 2 ≡ b → elim b [ true ↦ word_of D contents | false ↦ none ] ≡ some w
          → (ns : List ℕ) × (whole tag contents rest ≡ whole 2 ns rest) × (word_of D ns ≡ some w)
      go true p h = (contents, ap (λ t. whole t contents rest) (eqb-true tag 2 p), h)
      go false p h = absurd (let z : ◌≡◌ {A = ℕ} 0 1 = cc in omega arith)

  -- a standing's field is whole, and its standing none of those before it
  standing_whole : (listed : Listed) (f : Field) (s : (claim_system D).Standing) → standing_in D listed f ≡ some s
      → (tag : ℕ) × (c : List ℕ) × (f ≡ whole tag c (after_field f)) × (standing_of D.ring D c ≡ some s)
      × (some_of ((claim_system D).equal s) listed ≡ false)
  unfolding standing_in
  standing_whole listed cut s e = absurd (let z : ◌≡◌ {A = ℕ} 0 1 = cc in omega arith)
  standing_whole listed (whole tag c rest) s e = go (standing_of D.ring D c) refl e
    where
      go : (o : Option (claim_system D).Standing) → standing_of D.ring D c ≡ o
          → elim o [ none ↦ none | some t ↦ provided (not (some_of ((claim_system D).equal t) listed)) t ] ≡ some s
          → (t : ℕ) × (d : List ℕ) × (whole tag c rest ≡ whole t d rest) × (standing_of D.ring D d ≡ some s)
          × (some_of ((claim_system D).equal s) listed ≡ false)
      go none p h = absurd (let z : ◌≡◌ {A = ℕ} 0 1 = cc in omega arith)
      go (some t) p h =
          let (n, q) = provided_some (not (some_of ((claim_system D).equal t) listed)) t s h in (
            tag,
            c,
            refl,
            p ∙ ap some q,
            subst (λ u. some_of ((claim_system D).equal u) listed ≡ false) q (not_true_false (some_of ((claim_system D).equal t) listed) n),
          )

  -- the standings ss are read from the bytes one after the other, none equal to one before it, and rest is what stands behind them
  abbrev pub Taken : Listed → List ℕ → Listed → List ℕ → Type 0
  Taken listed bs [] rest = bs ≡ rest
  Taken listed bs (s ∷ ss) rest =
      (c : List ℕ) × (after : List ℕ) × (next_field bs ≡ whole 3 c after) × (standing_of D.ring D c ≡ some s)
      × (some_of ((claim_system D).equal s) listed ≡ false) × Taken (listed ++ (s ∷ [])) after ss rest

  -- the reading of standings ends behind them, or at the next one
  pub data StandingsEnd (n k : ℕ) (listed : Listed) (bs : List ℕ) (r : Result (Part D)) : Type 0 where
    behind : (ss : Listed) (rest : List ℕ) → Taken listed bs ss rest → length ss ≤ n → tagged 3 rest ≡ false
        → r ≡ ok (record { said = says_proved (listed ++ ss); next = k + length ss; rest = rest }) → StandingsEnd n k listed bs r
    stopped : (ss : Listed) (rest : List ℕ) → Taken listed bs ss rest → length ss ≤ n
        → r ≡ refuse sheet_field (k + length ss) → StandingsEnd n k listed bs r

  none_more : (n k : ℕ) (listed : Listed) (bs : List ℕ) (r : Result (Part D)) → tagged 3 bs ≡ false
      → r ≡ ok (record { said = says_proved listed; next = k; rest = bs }) → StandingsEnd n k listed bs r
  none_more n k listed bs r h e =
      let p : k ≡ k + 0 = omega arith in
      let q : listed ≡ listed ++ [] = sym (append-nil listed) in
      behind [] bs refl (omega arith) h (e ∙ (λ i. ok (record { said = says_proved (q i); next = p i; rest = bs })))

  here_stopped : (n k : ℕ) (listed : Listed) (bs : List ℕ) (r : Result (Part D)) → r ≡ refuse sheet_field k → StandingsEnd n k listed bs r
  here_stopped n k listed bs r e = let p : k ≡ k + 0 = omega arith in stopped [] bs refl (omega arith) (e ∙ ap (refuse sheet_field) p)

  one_more : (n k : ℕ) (listed : Listed) (s : (claim_system D).Standing) (bs c after : List ℕ) (r : Result (Part D))
      → next_field bs ≡ whole 3 c after → standing_of D.ring D c ≡ some s → some_of ((claim_system D).equal s) listed ≡ false
      → StandingsEnd n (suc k) (listed ++ (s ∷ [])) after r → StandingsEnd (suc n) k listed bs r
  one_more n k listed s bs c after r f g h (behind ss rest t l e q) =
      let p : suc k + length ss ≡ k + length (s ∷ ss) = omega arith in
      behind (s ∷ ss) rest (c, after, f, g, h, t) (omega arith) e
      (q ∙ (λ i. ok (record { said = says_proved (append_assoc listed (s ∷ []) ss i); next = p i; rest = rest })))
  one_more n k listed s bs c after r f g h (stopped ss rest t l q) =
      let p : suc k + length ss ≡ k + length (s ∷ ss) = omega arith in
      stopped (s ∷ ss) rest (c, after, f, g, h, t) (omega arith) (q ∙ ap (refuse sheet_field) p)

  pub standings_end : (n k : ℕ) (listed : Listed) (bs : List ℕ) → StandingsEnd n k listed bs (standings_in D n k listed bs)
  unfolding standings_in
  standings_end zero k listed bs = go (tagged 3 bs) refl
    where
      go : (b : Bool) → tagged 3 bs ≡ b
          → StandingsEnd 0 k listed bs
          (elim b [ true ↦ refuse sheet_field k | false ↦ ok (record { said = says_proved listed; next = k; rest = bs }) ])
      go true h = here_stopped 0 k listed bs _ refl
      go false h = none_more 0 k listed bs _ h refl
  standings_end (suc n) k listed bs =
      go (tagged 3 bs) refl (standing_in D listed (next_field bs)) refl
      (λ s. standings_end n (suc k) (listed ++ (s ∷ [])) (after_field (next_field bs)))
    where
      go : (b : Bool) → tagged 3 bs ≡ b → (o : Option (claim_system D).Standing) → standing_in D listed (next_field bs) ≡ o
          → ((s : (claim_system D).Standing)
          → StandingsEnd n (suc k) (listed ++ (s ∷ [])) (after_field (next_field bs)) (standings_in D n (suc k) (listed ++ (s ∷ [])) (after_field (next_field bs))))
          → StandingsEnd (suc n) k listed bs (elim b [
            | false ↦ ok (record { said = says_proved listed; next = k; rest = bs })
            | true ↦ elim o [ none ↦ refuse sheet_field k | some s ↦ standings_in D n (suc k) (listed ++ (s ∷ [])) (after_field (next_field bs)) ]
          ])
      go false h o p ih = none_more (suc n) k listed bs _ h refl
      go true h none p ih = here_stopped (suc n) k listed bs _ refl
      go true h (some s) p ih =
          let (tag, c, f, g, e) = standing_whole listed (next_field bs) s p in
          one_more n k listed s bs c (after_field (next_field bs)) _
          (f ∙ ap (λ t. whole t c (after_field (next_field bs))) (next_tag 3 bs tag c (after_field (next_field bs)) h f)) g e (ih s)

  -- the reading of a part ends at its verdict, at its word, with its word, or as the reading of its standings does
  pub data PartEnd (k : ℕ) (bs : List ℕ) (r : Result (Part D)) : Type 0 where
    verdictless : r ≡ refuse sheet_field k → PartEnd k bs r
    wordless : (rest : List ℕ) → next_field bs ≡ whole 1 (2 ∷ []) rest → r ≡ refuse sheet_field (suc k) → PartEnd k bs r
    word : (w : Word) (ns behind rest : List ℕ) → next_field bs ≡ whole 1 (2 ∷ []) behind → next_field behind ≡ whole 2 ns rest
        → word_of D ns ≡ some w → r ≡ ok (record { said = says_refuted w; next = suc (suc k); rest = rest }) → PartEnd k bs r
    standings : (rest : List ℕ) → next_field bs ≡ whole 1 (1 ∷ []) rest → StandingsEnd 4096 (suc k) [] rest r → PartEnd k bs r

  -- at most n are at most any larger number
  or_more : (m n k : ℕ) (listed : Listed) (bs : List ℕ) (r : Result (Part D)) → m ≤ n → StandingsEnd m k listed bs r → StandingsEnd n k listed bs r
  or_more m n k listed bs r h (behind ss rest t l e q) = behind ss rest t (omega arith) e q
  or_more m n k listed bs r h (stopped ss rest t l q) = stopped ss rest t (omega arith) q

  pub part_end : (k : ℕ) (bs : List ℕ) → PartEnd k bs (part_in D k bs)
  unfolding part_in part_from word_from
  part_end k bs =
      go _ (verdict_is 1 (next_field bs)) refl (verdict_is 2 (next_field bs)) refl (word_in D (next_field behind)) refl (leb-true _ 4096 refl)
    where
      behind : List ℕ
      behind = after_field (next_field bs)

      go : (n : ℕ) (b : Bool) → verdict_is 1 (next_field bs) ≡ b → (c : Bool) → verdict_is 2 (next_field bs) ≡ c
          → (o : Option Word) → word_in D (next_field behind) ≡ o → n ≤ 4096
          → PartEnd k bs (elim b [
            | true ↦ standings_in D n (suc k) [] behind
            | false ↦ elim c [
              | true ↦ elim o [
                | none ↦ refuse sheet_field (suc k)
                | some w ↦ ok (record { said = says_refuted w; next = suc (suc k); rest = after_field (next_field behind) })
              ]
              | false ↦ refuse sheet_field k
            ]
          ])
      go n true p c q o e h =
          standings behind (verdict_whole 1 (next_field bs) p) (or_more n 4096 (suc k) [] behind _ h (standings_end n (suc k) [] behind))
      go n false p false q o e h = verdictless refl
      go n false p true q none e h = wordless behind (verdict_whole 2 (next_field bs) q) refl
      go n false p true q (some w) e h =
          let (ns, f, g) = word_whole (next_field behind) w e in
          word w ns behind (after_field (next_field behind)) (verdict_whole 2 (next_field bs) q) f g refl

  -- a sheet that is read is one part and nothing behind it
  pub sheet_is_part : (bs : List ℕ) (s : Said D) → sheet_in D bs ≡ ok s → (k : ℕ) × (part_in D 1 bs ≡ ok (record { said = s; next = k; rest = [] }))
  unfolding sheet_in only_part
  sheet_is_part bs s e = let (p, f, g) = onward_ok (part_in D 1 bs) (only_part D) e in go p p.rest f g
    where
      go : (p : Part D) (rest : List ℕ) → part_in D 1 bs ≡ ok (record { said = p.said; next = p.next; rest = rest })
          → elim (is_empty rest) [ true ↦ ok p.said | false ↦ refuse sheet_field p.next ] ≡ ok s
          → (k : ℕ) × (part_in D 1 bs ≡ ok (record { said = s; next = k; rest = [] }))
      go p [] f g = (p.next, f ∙ ap (λ t. ok (record { said = t; next = p.next; rest = [] })) (same_value p.said s g))
      go p (x ∷ xs) f g = refused_not_ok g

  -- the word of a refuted sheet was read from numbers, in the last of two fields
  pub word_was_read : (bs : List ℕ) (w : Word) → sheet_in D bs ≡ ok (says_refuted w) → (ns : List ℕ) × (word_of D ns ≡ some w)
  word_was_read bs w e = let (k, f) = sheet_is_part bs (says_refuted w) e in go f (part_end 1 bs)
    where
      said_of : Result (Part D) → Said D
      said_of (ok p) = p.said
      said_of (refused r) = says_proved []

      go : {k : ℕ} → part_in D 1 bs ≡ ok (record { said = says_refuted w; next = k; rest = [] }) → PartEnd 1 bs (part_in D 1 bs)
          → (ns : List ℕ) × (word_of D ns ≡ some w)
      go f (verdictless g) = refused_not_ok (sym g ∙ f)
      go f (wordless rest h g) = refused_not_ok (sym g ∙ f)
      go f (word v ns after rest h i j g) =
          let q : says_refuted v ≡ says_refuted w = ap said_of (sym g ∙ f) in
          (ns, j ∙ ap some (let z : v ≡ w = cc in z))
      go f (standings after h (behind ss rest t l i g)) =
          let q : says_proved ss ≡ says_refuted w = ap said_of (sym g ∙ f) in
          absurd (let z : ◌≡◌ {A = ℕ} 0 1 = cc in omega arith)
      go f (standings after h (stopped ss rest t l g)) = refused_not_ok (sym g ∙ f)
