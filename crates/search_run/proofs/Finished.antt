-- What the search gives and leaves behind is what document 01's search does: what the levels find is the answer of the search, the report says
-- it, and the needed memory is cleared.
-- Assumes nothing.
use Prim.Native.Nat.{ℕ, suc, ◌*◌, ◌≤◌}
use native.Mathlib.Omega.{arith}
use mathlib.Core.Path.{◌≡◌, refl, sym, ◌∙◌, ap, ap₂, subst⁻¹}
use mathlib.Core.Bool.{Bool, true, false, cond}
use mathlib.Core.List.{List, [], ◌∷◌, ◌++◌, map}
use lib.Dec.{leb}
use lib.ListN.{length, drop}
use Rattle.kat.specs.Word.{end}
use Rattle.kat.specs.Ring.{onto}
use Rattle.claims.specs.Width.{width, beside_columns, ring_words}
use Rattle.claims.specs.Sides.{Decision}
use Rattle.claims.specs.Refusals.{short_buffer, Result, ok, refused, refuse}
use Rattle.claims.specs.Calls.{Given, proved_with, refuted_by, answer_of, searched, Slot, Lent, needed_records, needed_words, cleared, left_behind, Done, finish}
use Rattle.claims.specs.CallOrder.{zero_slot}
use Rattle.query.specs.declared.Facts.{Facts}
use Rattle.query.specs.Answer.{facts_of}
use Rattle.search_standings.specs.Systems.{word_system}
use Rattle.search_contents.specs.FieldWords.{contents_words}
use Rattle.search_store.specs.Store.{Room}
use Rattle.search_sheet.proofs.Steps.{room_below}
use Rattle.search_sheet.proofs.PrefixIn.{holds_falls, prefix_kept}
use Rattle.search_sheet.proofs.SheetKept.{proved_sheet_lem, refuted_sheet_lem}
use Rattle.search_grow.specs.Kept.{state, Inside, Ready, standings, prefixes}
use Rattle.search_course.specs.declared.Finding.{Finding as Found}
use Rattle.search_course.specs.declared.Finding.TheVariants.{Proved as FoundProof, Refuted as FoundWord, Spent}
use Rattle.search_course.specs.Answers.{Answered}
use Rattle.search_outcomes.specs.Outcomes.{Outcome, Gives}
use Rattle.search_shape.specs.inner.Memory.{row_slot, lent_rows}
use Rattle.query.specs.Decided.{Decided}
use Rattle.search_shape.specs.inner.Tried.{shape_of, first_letters, later_letters, words_verdict}
use Rattle.search_outcomes.specs.inner.Found.{Reportable, proved_in, refuted_in, found_in, told, put, Reports}
use Rattle.search_run.proofs.Answers.{OnWords, decided_on_words}
use Rattle.search_records.proofs.Cleared.{cleared_same, map_cleared}
use Rattle.search_run.proofs.Cleared.{ClearedBy}

-- the end of a search, part by part
finish_parts : (D : Decision) (cap : ℕ) (m : Lent) (g : Result Given)
    → ◌≡◌ {A = Done} (finish D cap m g)
    (record {
      result = told g m.buffer;
      lent = record {
        records = cleared zero_slot (needed_records D cap) m.records;
        words = cleared 0 (needed_words D cap) m.words;
        buffer = put g m.buffer;
      };
    })
unfolding finish told put left_behind
finish_parts D cap m (refused r) = refl
finish_parts D cap m (ok g) = go (leb (length g.sheet) (length m.buffer))
  where
    go : (b : Bool)
        → ◌≡◌ {A = Done} (elim b [
          | false ↦ record { result = refuse short_buffer 0; lent = left_behind D cap [] m }
          | true ↦ record { result = ok g.answer; lent = left_behind D cap g.sheet m }
        ])
        (record {
          result = elim b [ false ↦ refuse short_buffer 0 | true ↦ ok g.answer ];
          lent = record {
            records = cleared zero_slot (needed_records D cap) m.records;
            words = cleared 0 (needed_words D cap) m.words;
            buffer = elim b [ false ↦ m.buffer | true ↦ g.sheet ++ drop (length g.sheet) m.buffer ];
          };
        })
    go false = refl
    go true = refl

needed_records_lem : (D : Decision) (cap : ℕ) (b : Bool) → D.ring ≡ b → needed_records D cap ≡ cond b 0 cap
unfolding needed_records
needed_records_lem D cap false e = ap (λ x. elim x [ false ↦ cap | true ↦ 0 ]) e
needed_records_lem D cap true e = ap (λ x. elim x [ false ↦ cap | true ↦ 0 ]) e

needed_words_lem : (D : Decision) (cap : ℕ) (b : Bool) → D.ring ≡ b → needed_words D cap ≡ cond b (40 * cap) 0
unfolding needed_words ring_words width beside_columns
needed_words_lem D cap false e = ap (λ x. elim x [ false ↦ 0 | true ↦ 40 * cap ]) e
needed_words_lem D cap true e = ap (λ x. elim x [ false ↦ 0 | true ↦ 40 * cap ]) e

-- the memory after the levels, and then cleared, is the memory before, cleared
module _ (ring : Bool) (cap : ℕ) (r₀ r₁ r₂ : List (List ℕ)) (w₀ w₁ w₂ : List ℕ)
    (inside : Inside ring cap (state r₀ w₀ 0) (state r₁ w₁ 0)) (wiped : ClearedBy ring cap r₁ r₂ w₁ w₂) (room : Room ring r₀ w₀ cap) where
  records_left : map row_slot r₂ ≡ cleared zero_slot (cond ring 0 cap) (map row_slot r₀)
  unfolding cleared row_slot
  records_left = go ring refl
    where
      go : (b : Bool) → ring ≡ b → map row_slot r₂ ≡ cleared zero_slot (cond b 0 cap) (map row_slot r₀)
      go true e =
          ap (map row_slot) (wiped.0 ∙ ap (λ b. cleared (0 ∷ 0 ∷ 0 ∷ 0 ∷ []) (cond b 0 cap) r₁) e ∙ inside.other_records e)
      go false e =
          ap (map row_slot) (wiped.0 ∙ ap (λ b. cleared (0 ∷ 0 ∷ 0 ∷ 0 ∷ []) (cond b 0 cap) r₁) e
          ∙ cleared_same (0 ∷ 0 ∷ 0 ∷ 0 ∷ []) cap r₁ r₀ inside.records_past)
          ∙ map_cleared row_slot (0 ∷ 0 ∷ 0 ∷ 0 ∷ []) cap r₀ (room.path e)

  words_left : w₂ ≡ cleared 0 (cond ring (40 * cap) 0) w₀
  unfolding cleared
  words_left = go ring refl
    where
      go : (b : Bool) → ring ≡ b → w₂ ≡ cleared 0 (cond b (40 * cap) 0) w₀
      go true e =
          wiped.1 ∙ ap (λ b. cleared 0 (cond b (40 * cap) 0) w₁) e ∙ cleared_same 0 (40 * cap) w₁ w₀ inside.words_past
      go false e = wiped.1 ∙ ap (λ b. cleared 0 (cond b (40 * cap) 0) w₁) e ∙ inside.other_words e

-- the room after the levels
pub room_kept : (ring : Bool) (cap : ℕ) (r₀ r₁ : List (List ℕ)) (w₀ w₁ : List ℕ) → Ready ring cap (state r₀ w₀ 0)
    → Inside ring cap (state r₀ w₀ 0) (state r₁ w₁ 0) → Room ring r₁ w₁ cap
room_kept ring cap r₀ r₁ w₀ w₁ ready inside =
    record {
      path = λ e. let h = ready.room.path e in omega (arith, inside.records_length);
      turn = λ e. let h = ready.room.turn e in omega (arith, inside.words_length);
    }

module _ (f : Facts) (left right : List ℕ) (cap : ℕ) (r₀ r₁ : List (List ℕ)) (w₀ w₁ : List ℕ) (x : Found)
    (ready : Ready f.ring cap (state r₀ w₀ 0)) (inside : Inside f.ring cap (state r₀ w₀ 0) (state r₁ w₁ 0))
    (answered : Answered (shape_of f) left right (first_letters f left right) (later_letters f left right) (suc (suc cap)) cap r₁ w₁ x) where
  -- what was found can be reported
  pub reportable : Reportable f.ring r₁ w₁ x
  reportable = go x answered
    where
      room : Room f.ring r₁ w₁ cap
      room = room_kept f.ring cap r₀ r₁ w₀ w₁ ready inside

      go : (y : Found) → Answered (shape_of f) left right (first_letters f left right) (later_letters f left right) (suc (suc cap)) cap r₁ w₁ y
          → Reportable f.ring r₁ w₁ y
      go (FoundProof n) (seen, e, keeps, few) = (room_below few room, omega (arith, ready.allowance))
      go (FoundWord place a) (seen, n, e, keeps, low, few) =
          (room_below (omega arith) room, (λ i h. holds_falls keeps i (omega arith)), omega (arith, ready.allowance))
      go Spent e = tt

  -- it is the answer of the search
  found_is : {D : Decision} → OnWords f left right D cap → searched D cap ≡ found_in f.ring r₁ w₁ x
  unfolding found_in proved_in refuted_in answer_of words_verdict
  found_is {D} on = on.answer ∙ go x answered
    where
      go : (y : Found) → Answered (shape_of f) left right (first_letters f left right) (later_letters f left right) (suc (suc cap)) cap r₁ w₁ y
          → answer_of (word_system (shape_of f) left right) (contents_words f.ring) (words_verdict f left right cap) ≡ found_in f.ring r₁ w₁ y
      go (FoundProof n) (seen, e, keeps, few) =
          ap (answer_of (word_system (shape_of f) left right) (contents_words f.ring)) e
          ∙ ap₂ (λ c bs. ok (record { answer = proved_with c; sheet = bs })) keeps.standings_count
          (sym (proved_sheet_lem (shape_of f) left right r₁ w₁ n (standings (shape_of f) left right seen) (prefixes (shape_of f) left right seen) keeps))
      go (FoundWord place a) (seen, n, e, keeps, low, few) =
          ap (answer_of (word_system (shape_of f) left right) (contents_words f.ring)) e
          ∙ ap₂ (λ p bs. ok (record { answer = refuted_by (onto p (end a)); sheet = bs })) (sym (prefix_kept keeps place low))
          (sym (refuted_sheet_lem (shape_of f) left right r₁ w₁ n (standings (shape_of f) left right seen) (prefixes (shape_of f) left right seen) keeps
          place a low (on.word_bytes _ e)))
      go Spent e = ap (answer_of (word_system (shape_of f) left right) (contents_words f.ring)) e

  -- the outcome, and all that is lent afterwards
  pub run_gives : (r₂ : List (List ℕ)) (w₂ b₀ b₁ : List ℕ) (o : Outcome) → Reports (found_in f.ring r₁ w₁ x) b₀ o b₁
      → ClearedBy f.ring cap r₁ r₂ w₁ w₂ → (D : Decision) → Decided f left right D
      → Gives (searched D cap) (finish D cap (lent_rows r₀ w₀ b₀) (searched D cap)) o (lent_rows r₂ w₂ b₁)
  unfolding lent_rows facts_of
  run_gives r₂ w₂ b₀ b₁ o (s, e, z) wiped D d =
      let on : OnWords f left right D cap = decided_on_words d cap in
      let same : searched D cap ≡ found_in f.ring r₁ w₁ x = found_is on in
      let kind : D.ring ≡ f.ring = sym (ap (λ (g : Facts). g.ring) d.facts) in
      subst⁻¹ (λ g. Gives g (finish D cap (lent_rows r₀ w₀ b₀) g) o (lent_rows r₂ w₂ b₁)) same
      (subst⁻¹ (λ y. Gives (found_in f.ring r₁ w₁ x) y o (lent_rows r₂ w₂ b₁)) (finish_parts D cap (lent_rows r₀ w₀ b₀) (found_in f.ring r₁ w₁ x))
      (record {
        says = s;
        leaves = parts
            (records_left f.ring cap r₀ r₁ r₂ w₀ w₁ w₂ inside wiped ready.room
            ∙ ap (λ n. cleared zero_slot n (map row_slot r₀)) (sym (needed_records_lem D cap f.ring kind)))
            (words_left f.ring cap r₀ r₁ r₂ w₀ w₁ w₂ inside wiped ready.room
            ∙ ap (λ n. cleared 0 n w₀) (sym (needed_words_lem D cap f.ring kind)))
            e;
        sized = z;
      }))
    where
      parts : {a a' : List Slot} {u u' c c' : List ℕ} → a ≡ a' → u ≡ u' → c ≡ c'
          → ◌≡◌ {A = Lent} (record { records = a; words = u; buffer = c }) (record { records = a'; words = u'; buffer = c' })
      parts p q t = λ i. record { records = p i; words = q i; buffer = t i }

-- the memory that is cleared is what the claim's kind needs
pub cleared_by : (ring : Bool) (cap : ℕ) (r r' : List (List ℕ)) (w w' : List ℕ) (n m : ℕ) → n ≡ cond ring 0 cap → m ≡ cond ring (40 * cap) 0
    → r' ≡ cleared (0 ∷ 0 ∷ 0 ∷ 0 ∷ []) n r → w' ≡ cleared 0 m w → ClearedBy ring cap r r' w w'
cleared_by ring cap r r' w w' n m a b e f = rw (sym a, sym b) (e, f)

-- there are so many
pub records_there : (ring : Bool) (cap : ℕ) (r : List (List ℕ)) (w : List ℕ) (n : ℕ) → Room ring r w cap → n ≡ cond ring 0 cap → n ≤ length r
records_there true cap r w n room e = omega arith
records_there false cap r w n room e = omega (arith, room.path refl)

pub words_there : (ring : Bool) (cap : ℕ) (r : List (List ℕ)) (w : List ℕ) (n : ℕ) → Room ring r w cap → n ≡ cond ring (40 * cap) 0 → n ≤ length w
words_there true cap r w n room e = omega (arith, room.turn refl)
words_there false cap r w n room e = omega arith
