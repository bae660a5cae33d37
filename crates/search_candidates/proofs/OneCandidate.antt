-- One letter behind a place: where its candidate is noted, the search goes on with the letters that are left. A candidate of a path claim is
-- noted at once where it is not possible or the allowance is spent; else it is offered, looked up, and kept or counted where it is new.
-- Assumes nothing.
use Prim.Native.Nat.{ℕ, ◌+◌, ◌*◌, ◌≤◌, ◌<◌}
use native.Mathlib.Omega.{arith}
use mathlib.Core.Path.{◌≡◌, refl, sym, ◌∙◌, subst, subst⁻¹}
use mathlib.Core.Logic.{⊎_elim}
use mathlib.Core.Logic.◌⊎◌.{inl, inr}
use mathlib.Core.Bool.{Bool, true, false}
use mathlib.Core.List.{List, [], ◌∷◌}
use lib.Count.{count_trailing_zeros}
use lib.ListN.{get_or, take}
use Rattle.claims.specs.Standings.{Letter}
use Rattle.search_standings.specs.declared.Shape.{Shape}
use Rattle.memory.specs.Memory.{words}
use Rattle.search_standings.specs.Systems.{width}
use Rattle.search_store.specs.Store.{standing_in}
use Rattle.search_grow.specs.Masks.{TriedAt, letters_left, letter_weight}
use Rattle.search_grow.specs.Kept.{State, state, Inside, Ready, words_at, Noted, NotedBehind}
use Rattle.search_grow.proofs.Adding.{inside_none, still_ready}
use Rattle.search_grow.proofs.Letters.{letters_take, weight_less}
use Rattle.search_grow.proofs.Noting.{first_word, note_impossible, note_spent}
use Rattle.search_grow.proofs.OneLetter.{behind_words, offered}
use Rattle.search_grow.proofs.Turns.{behind_turn}
use Rattle.search_course.specs.declared.Course.{Course}
use Rattle.search_course.specs.declared.Move.{Move}
use Rattle.search_course.specs.Turns.{turn_weight, advanced, quietly, offers, Tries, masks_now, At, Stepped}
use Rattle.search_course.proofs.Phases.{at_begins, at_grows, weight_begins, weight_grows, masks_begin, masks_grow}

-- the number falls from letter to letter
pub letter_falls : (t : Course) → Tries t → (rest relation count : ℕ) → letter_weight rest relation < letter_weight t.rest t.relation
    → turn_weight (advanced t rest relation count) < turn_weight t
letter_falls t tries rest relation count h =
    ⊎_elim (λ e. omega (arith, h, weight_begins t e, weight_begins (advanced t rest relation count) e))
    (λ e. omega (arith, h, weight_grows t e, weight_grows (advanced t rest relation count) e)) tries

-- the two words of a path standing on its way
pub two_words_in : (to : List ℕ) (ring : Bool) → ring ≡ false → get_or to 0 0 ∷ get_or to 1 0 ∷ [] ≡ standing_in ring to
unfolding standing_in width words
two_words_in to ring z = rw z refl

module _ (k : Shape) (left right first later : List ℕ) (cap : ℕ) (t : Course) (r : List (List ℕ)) (w : List ℕ)
    (a : At k left right first later cap t r w) where
  -- a step that offers nothing and changes no memory
  pub quiet_steps : (u : Course) → u.count ≡ t.count → At k left right first later cap u r w × (turn_weight u < turn_weight t) → (m : Move)
      → m ≡ quietly u → Stepped k left right first later cap t m r w w × (turn_weight m.course < turn_weight t)
  quiet_steps u e f m same =
      subst⁻¹ (λ z. Stepped k left right first later cap t z r w w × (turn_weight z.course < turn_weight t)) same (
        (
          subst (λ n. Inside k.ring cap (state r w t.count) (state r w n)) (sym e) (inside_none k.ring cap (state r w t.count) a.ready.counted),
          f.0,
        ),
        f.1,
      )

module _ (k : Shape) (left right first later : List ℕ) (cap : ℕ) (t : Course) (r : List (List ℕ)) (w : List ℕ)
    (a : At k left right first later cap t r w) (tries : Tries t) where
  abbrev s : State
  s = state r w t.count

  -- the candidate of a letter was noted
  pub letter_noted : (l : Letter) (rest relation count : ℕ) (r' : List (List ℕ)) (w' : List ℕ)
      → relation ≤ k.relations
      → letters_left (masks_now first later t) k.relations t.rest t.relation
      ≡ l ∷ letters_left (masks_now first later t) k.relations rest relation
      → Ready k.ring cap (state r' w' count) → t.count ≤ count → NotedBehind k left right cap s (state r' w' count) t.place (l ∷ [])
      → At k left right first later cap (advanced t rest relation count) r' w'
  letter_noted l rest relation count r' w' few eq ready low noted =
      ⊎_elim
      (λ e.
      let b = a.begins e in
      at_begins k left right first later cap (advanced t rest relation count) r' w' ready e
      (record {
        place = b.place;
        at = b.at;
        hi = b.hi;
        relation = few;
        on =
            λ u g.
            b.on u
            (behind_turn k left right cap s 0 (letters_left first k.relations t.rest t.relation) s (state r' w' count) (l ∷ [])
            (letters_left first k.relations rest relation) (letters_left first k.relations t.rest t.relation)
            (under first (masks_begin first later t e))
            (subst (λ x. NotedBehind k left right cap s (state r' w' count) x (l ∷ [])) b.place noted) (λ x y. y) u g);
      }))
      (λ e.
      let g = a.grows e in
      at_grows k left right first later cap (advanced t rest relation count) r' w' ready e
      (record {
        place = g.place;
        low = g.low;
        inside = g.inside;
        within = g.within;
        below = omega (arith, g.below);
        relation = few;
        on =
            λ u f.
            g.on u
            (behind_turn k left right cap s t.place (letters_left later k.relations t.rest t.relation) s (state r' w' count) (l ∷ [])
            (letters_left later k.relations rest relation) (letters_left later k.relations t.rest t.relation)
            (under later (masks_grow first later t e)) noted (λ x y. y) u f);
      })) tries
    where
      under : (masks : List ℕ) → masks_now first later t ≡ masks
          → letters_left masks k.relations t.rest t.relation ≡ l ∷ letters_left masks k.relations rest relation
      under masks e =
          subst (λ m. letters_left m k.relations t.rest t.relation ≡ l ∷ letters_left m k.relations rest relation) e eq

  -- a standing on its way that was noted is the candidate of its letter
  module _ (x y : ℕ) (small : y < 16) (to : List ℕ)
      (words : take (width k.ring) to ≡ words_at k left right r w t.place (record { atom = x; relation = y })) where
    abbrev here : Letter
    here = record { atom = x; relation = y }

    pub noted_letter : (u : State) → Inside k.ring cap s u
        → Noted k left right cap s u (standing_in k.ring to) t.place (16 * x + y) → NotedBehind k left right cap s u t.place (here ∷ [])
    noted_letter u inside f =
        record { adds = λ old h. offered k left right cap s u old t.place x y to h small inside words (f old h) }

    -- nothing is kept
    pub letter_impossible : get_or to 0 0 ≡ 0 → NotedBehind k left right cap s s t.place (here ∷ [])
    letter_impossible z =
        noted_letter s (inside_none k.ring cap s a.ready.counted)
        (λ old h.
        note_impossible k left right cap s old t.place (16 * x + y) (standing_in k.ring to) (first_word k.ring to ∙ z))

    pub letter_spent : cap < t.count → NotedBehind k left right cap s s t.place (here ∷ [])
    letter_spent z =
        noted_letter s (inside_none k.ring cap s a.ready.counted)
        (λ old h. note_spent k left right cap s old t.place (16 * x + y) (standing_in k.ring to) z)

  -- the next letter that is tried, as it was sought
  module _ (masks : List ℕ) (same : masks ≡ masks_now first later t) (rest relation : ℕ) (some : rest ≡ 0 → ⊥) (few : k.relations ≤ 16)
      (left_over : letters_left masks k.relations t.rest t.relation ≡ letters_left masks k.relations rest relation)
      (is_tried : (relation < k.relations) × TriedAt masks (count_trailing_zeros 64 rest) relation)
      (less : letter_weight rest relation ≤ letter_weight t.rest t.relation) (to : List ℕ)
      (words : take (width k.ring) to ≡ words_at k left right r w t.place (record { atom = count_trailing_zeros 64 rest; relation = relation })) where
    abbrev l : Letter
    l = record { atom = count_trailing_zeros 64 rest; relation = relation }

    abbrev number : ℕ
    number = 16 * count_trailing_zeros 64 rest + relation

    small : relation < 16
    small = omega (arith, is_tried.0)

    then_rest : letters_left (masks_now first later t) k.relations t.rest t.relation
        ≡ l ∷ letters_left (masks_now first later t) k.relations rest (relation + 1)
    then_rest =
        subst (λ m. letters_left m k.relations t.rest t.relation ≡ l ∷ letters_left m k.relations rest (relation + 1)) same
        (left_over ∙ letters_take masks k.relations rest relation some is_tried.0 is_tried.1)

    falls : (count : ℕ) → turn_weight (advanced t rest (relation + 1) count) < turn_weight t
    falls count = letter_falls t tries rest (relation + 1) count (omega (arith, less, weight_less rest relation small))

    on_with : (count : ℕ) (w' : List ℕ) → Ready k.ring cap (state r w' count) → t.count ≤ count
        → NotedBehind k left right cap s (state r w' count) t.place (l ∷ [])
        → At k left right first later cap (advanced t rest (relation + 1) count) r w'
    on_with count w' = letter_noted l rest (relation + 1) count r w' (omega (arith, is_tried.0)) then_rest

    -- a ring claim's candidate was noted
    pub ring_steps_lem : k.ring ≡ true → (n : ℕ) (w' : List ℕ) → Inside true cap s (state r w' n)
        → Noted k left right cap s (state r w' n) (standing_in true to) t.place number → (m : Move)
        → m ≡ quietly (advanced t rest (relation + 1) n)
        → Stepped k left right first later cap t m r w w' × (turn_weight m.course < turn_weight t)
    ring_steps_lem e n w' inside noted m same =
        subst⁻¹ (λ z. Stepped k left right first later cap t z r w w' × (turn_weight z.course < turn_weight t)) same (
          (
            within,
            on_with n w' (still_ready k.ring cap s (state r w' n) within a.ready) inside.low
                (noted_letter (count_trailing_zeros 64 rest) relation small to words (state r w' n) within
                (subst (λ b. Noted k left right cap s (state r w' n) (standing_in b to) t.place number) (sym e) noted)),
          ),
          falls n,
        )
      where
        within : Inside k.ring cap s (state r w' n)
        within = subst (λ b. Inside b cap s (state r w' n)) (sym e) inside

    -- a candidate that is not kept
    pub passed_over : NotedBehind k left right cap s s t.place (l ∷ []) → (m : Move) → m ≡ quietly (advanced t rest (relation + 1) t.count)
        → Stepped k left right first later cap t m r w w × (turn_weight m.course < turn_weight t)
    passed_over noted m same =
        quiet_steps k left right first later cap t r w a (advanced t rest (relation + 1) t.count) refl
        (on_with t.count w a.ready (omega arith) noted, falls t.count) m same

    -- a path claim's candidate is offered
    pub path_offers : k.ring ≡ false → (get_or to 0 0 ≡ 0 → ⊥) → t.count ≤ cap → (m : Move)
        → m ≡ offers (advanced t rest (relation + 1) t.count) t.count (get_or to 0 0) (get_or to 1 0) number
        → Stepped k left right first later cap t m r w w × (turn_weight m.course < turn_weight t)
    path_offers e possible within m same =
        subst⁻¹ (λ z. Stepped k left right first later cap t z r w w × (turn_weight z.course < turn_weight t)) same (
          (
            refl,
            (
              l,
              record {
                path = e;
                tries = tries;
                same = refl;
                seek = refl;
                within = within;
                possible = possible;
                relation_small = small;
                letter = refl;
                words = two_words_in to k.ring e ∙ behind_words k left right r w t.place l to words;
                relation = omega (arith, is_tried.0);
                rest = then_rest;
              },
            ),
          ),
          falls t.count,
        )
