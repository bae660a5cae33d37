-- One turn whole: a step, and what becomes of the candidate that it offers. A record that is found is kept already; a new one is put behind the last,
-- or counted where the allowance is full.
-- Assumes nothing.
use Prim.Native.Nat.{ℕ, ◌+◌, ◌-◌, ◌≤◌, ◌<◌}
use native.Mathlib.Omega.{arith}
use mathlib.Core.Path.{◌≡◌, refl, sym, ◌∙◌, ap, subst, subst⁻¹}
use mathlib.Core.Logic.{⊎_elim}
use mathlib.Core.Bool.{Bool, true, false, cond}
use mathlib.Core.List.{List, [], ◌∷◌}
use lib.ListN.{length, get_or, set, take}
use Rattle.std.specs.Prelude.{Option, Some, None}
use borrow.Author.Tests.{lt-ltb, le-ltb}
use Rattle.kat.proofs.Bools.{lt_or_le}
use Rattle.claims.specs.Standings.{Letter}
use Rattle.search_standings.specs.declared.Shape.{Shape}
use Rattle.search_standings.specs.Systems.{width}
use Rattle.search_records.specs.Rows.{row_of, record_at, FoundIn}
use Rattle.search_store.specs.Store.{standing_at, standing_in, Place, records_after, words_after}
use Rattle.search_store.proofs.Standing.{path_equal, path_first, path_second, records_path, words_path}
use Rattle.search_grow.specs.Kept.{State, state, Inside, words_at, Noted}
use Rattle.search_grow.proofs.Adding.{inside_none, inside_count, still_ready, room_less}
use Rattle.search_grow.proofs.Noting.{inside_appended, note_found, note_over, note_kept}
use Rattle.search_course.specs.declared.Course.{Course}
use Rattle.search_course.specs.declared.Offer.{Offer}
use Rattle.search_course.specs.Turns.{turn_weight, advanced, Tries, Tryable, Small, puts, settled, record_of, At, Offers}
use Rattle.search_candidates.proofs.OneCandidate.{letter_noted, noted_letter, two_words_in}

-- a letter may be tried
pub small_tryable : (ring : Bool) (relations cap words : ℕ) (t : Course) → Small ring relations cap words t → Tries t
    → Tryable ring relations cap words t
small_tryable ring relations cap words t s tries =
    ⊎_elim
    (λ e.
    let b = s.begins e in
    record {
      relations_few = s.relations_few;
      relation = b.3;
      allowance = s.allowance;
      room = s.room;
      counted = s.counted;
      place = omega (arith, b.0);
      at = omega (arith, b.1);
      hi = omega (arith, b.2);
    })
    (λ e.
    let b = s.grows e in
    record {
      relations_few = s.relations_few;
      relation = b.3;
      allowance = s.allowance;
      room = s.room;
      counted = s.counted;
      place = omega (arith, b.0, b.1, b.2);
      at = omega (arith, s.allowance, b.1, b.2);
      hi = omega (arith, s.allowance, b.2);
    }) tries

-- the standing looked at stands before its place
pub at_before : (ring : Bool) (relations cap words : ℕ) (t : Course) → Small ring relations cap words t → Tries t → t.at ≡ t.place - 1
at_before ring relations cap words t s tries =
    ⊎_elim (λ e. omega (arith, (s.begins e).0, (s.begins e).1)) (λ e. omega (arith, (s.grows e).0)) tries

-- two words of a path claim stand where they were found
found_words : (r : List (List ℕ)) (w : List ℕ) (n p v : ℕ) (found : Option ℕ) → FoundIn r n p v found
    → Place (standing_at false r w) n (standing_in false (p ∷ v ∷ [])) found
unfolding record_at
found_words r w n p v (Some i) f = (f.0, path_equal r w i (p ∷ v ∷ []) f.1 f.2)
found_words r w n p v None f = λ i l h. f i l (path_first r w i (p ∷ v ∷ []) h) (path_second r w i (p ∷ v ∷ []) h)

found_place : (ring : Bool) → ring ≡ false → (r : List (List ℕ)) (w : List ℕ) (n p v : ℕ) (found : Option ℕ) → FoundIn r n p v found
    → Place (standing_at ring r w) n (standing_in ring (p ∷ v ∷ [])) found
found_place ring e r w n p v found f =
    subst (λ b. Place (standing_at b r w) n (standing_in b (p ∷ v ∷ [])) found) (sym e) (found_words r w n p v found f)

-- two words are all of a path standing
two_taken : (ring : Bool) (p v : ℕ) → ring ≡ false → take (width ring) (p ∷ v ∷ []) ≡ p ∷ v ∷ []
unfolding width
two_taken ring p v e = rw e refl

module _ (k : Shape) (left right first later : List ℕ) (cap : ℕ) (t : Course) (r : List (List ℕ)) (w : List ℕ)
    (a : At k left right first later cap t r w) where
  abbrev s : State
  s = state r w t.count

  -- the numbers are small
  pub at_small : k.relations ≤ 16 → Small k.ring k.relations cap (length w) t
  at_small few =
      record {
        relations_few = few;
        allowance = a.ready.allowance;
        room = a.ready.room.turn;
        counted = a.ready.counted;
        begins = λ e. let b = a.begins e in (b.place, b.at, b.hi, b.relation);
        completes = λ e. let b = a.completes e in (b.place, b.inside, omega (arith, b.ends, b.within), b.low);
        grows = λ e. let b = a.grows e in (b.place, b.inside, b.within, b.relation);
      }

  -- what a turn leaves
  abbrev Turned : Course → List (List ℕ) → List ℕ → Type 0
  Turned d r' w' = Inside k.ring cap s (state r' w' d.count) × At k left right first later cap d r' w'

  abbrev Result : Course → List (List ℕ) → List ℕ → Type 0
  Result d r' w' =
      Inside k.ring cap s (state r' w' d.count) × At k left right first later cap d r' w' × (turn_weight d < turn_weight t)

  -- a candidate that is offered
  module _ (u : Course) (o : Offer) (l : Letter) (x : Offers k left right first later cap t u o r w l) where
    -- it is looked up among records that are there, and the count stays small
    pub seek_inside : o.seek ≤ length r
    seek_inside = omega (arith, x.seek, x.within, a.ready.room.path x.path)

    pub count_small : u.count ≤ 4097
    count_small = omega (arith, ap (λ (z : Course). z.count) x.same, x.within, a.ready.allowance)

    abbrev on : ℕ → Course
    on n = advanced t u.rest u.relation n

    abbrev pair : List ℕ
    pair = o.p ∷ o.s ∷ []

    abbrev row : List ℕ
    row = o.p ∷ o.s ∷ t.place ∷ o.letter ∷ []

    in_words : take (width k.ring) pair ≡ words_at k left right r w t.place l
    in_words = two_taken k.ring o.p o.s x.path ∙ x.words

    -- noted so, it leads on
    leads_on_lem : (n : ℕ) (r' : List (List ℕ)) → Inside k.ring cap s (state r' w n)
        → Noted k left right cap s (state r' w n) (standing_in k.ring pair) t.place o.letter → Turned (on n) r' w
    leads_on_lem n r' inside noted = (
      inside,
      letter_noted k left right first later cap t r w a x.tries l u.rest u.relation n r' w x.relation x.rest
          (still_ready k.ring cap s (state r' w n) inside a.ready) inside.low
          (noted_letter k left right first later cap t r w a x.tries l.atom l.relation x.relation_small pair in_words (state r' w n) inside
          (subst (λ z. Noted k left right cap s (state r' w n) (standing_in k.ring pair) t.place z) x.letter noted)),
    )

    possible : get_or (standing_in k.ring pair) 0 0 ≡ 0 → ⊥
    possible e = x.possible (ap (λ z. get_or z 0 0) (two_words_in pair k.ring x.path) ∙ e)

    seen_on : (i : ℕ) → FoundIn r t.count o.p o.s (Some i) → Turned (on t.count) r w
    seen_on i f =
        leads_on_lem t.count r (inside_none k.ring cap s a.ready.counted)
        (λ old low.
        note_found k left right cap s old t.place o.letter (standing_in k.ring pair) i
        (found_place k.ring x.path r w t.count o.p o.s (Some i) f) x.within)

    full_on : FoundIn r t.count o.p o.s None → t.count ≡ cap → Turned (on (t.count + 1)) r w
    full_on f e =
        leads_on_lem (t.count + 1) r
        (inside_count k.ring cap s (state r w (t.count + 1)) refl refl (omega arith) (omega arith))
        (λ old low. note_over k left right cap s old t.place o.letter pair possible (found_place k.ring x.path r w t.count o.p o.s None f) e)

    new_on : FoundIn r t.count o.p o.s None → t.count < cap → Turned (on (t.count + 1)) (set r t.count row) w
    new_on f less =
        leads_on_lem (t.count + 1) (set r t.count row)
        (inside_appended k.ring cap r w t.count pair t.place o.letter (set r t.count row) w records_so words_so less)
        (λ old low.
        note_kept k left right cap s old t.place o.letter pair possible (found_place k.ring x.path r w t.count o.p o.s None f) low
        (room_less k.ring r w (t.count + 1) cap (omega arith) a.ready.room) less (set r t.count row) w records_so words_so)
      where
        records_so : set r t.count row ≡ records_after k.ring r t.count pair t.place o.letter
        records_so = records_path k.ring r t.count pair t.place o.letter x.path

        words_so : w ≡ words_after k.ring w t.count pair t.place o.letter
        words_so = words_path k.ring w t.count pair t.place o.letter x.path

    -- the records once it is put or not
    abbrev records_with : Bool → List (List ℕ)
    records_with put = cond put (set r t.count row) r

    offered_on : (found : Option ℕ) → FoundIn r t.count o.p o.s found
        → Turned (settled found (on t.count)) (records_with (puts cap found (on t.count))) w
        × (turn_weight (settled found (on t.count)) ≡ turn_weight (on t.count))
    unfolding turn_weight
    offered_on (Some i) f = (seen_on i f, refl)
    offered_on None f = (
      ⊎_elim (λ less. subst⁻¹ (λ b. Turned (on (t.count + 1)) (records_with b) w) (lt-ltb t.count cap less) (new_on f less))
          (λ more.
          subst⁻¹ (λ b. Turned (on (t.count + 1)) (records_with b) w) (le-ltb t.count cap more) (full_on f (omega (arith, x.within))))
          (lt_or_le t.count cap),
      refl,
    )

    -- a turn: what holds before it holds behind it, and the number falls
    pub turn_on : (w' : List ℕ) → w' ≡ w → turn_weight u < turn_weight t → (found : Option ℕ) → FoundIn r o.seek o.p o.s found
        → (d : Course) → d ≡ settled found u → (put : Bool) → put ≡ puts cap found u
        → (r' : List (List ℕ)) → r' ≡ cond put (set r o.seek (row_of (record_of u o))) r → Result d r' w'
    turn_on w' old less found f d g put h r' e =
        let (turned, weight) = offered_on found (subst (λ n. FoundIn r n o.p o.s found) x.seek f) in
        subst⁻¹ (Result d r') old
        (subst⁻¹ (λ z. Result z r' w) (g ∙ ap (settled found) x.same)
        (subst⁻¹ (λ y. Result (settled found (on t.count)) y w)
        (e ∙ ap (λ b. cond b (set r o.seek (row_of (record_of u o))) r) h
        ∙ ap (λ z. cond (puts cap found z) (set r o.seek (row_of (record_of z o))) r) x.same
        ∙ ap (λ n. cond (puts cap found (on t.count)) (set r n row) r) x.seek)
        (turned.0, turned.1, omega (arith, less, weight, ap turn_weight x.same))))
