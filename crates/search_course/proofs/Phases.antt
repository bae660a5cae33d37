-- From turn to turn between the phases: what holds before each turn, by its phase; the level that begins where the last one ends; the next
-- standing of a level; and the number that falls.
-- Assumes nothing.
use Prim.Native.Nat.{ℕ, suc, ◌+◌, ◌*◌, ◌-◌, ◌≤◌, ◌<◌, ◌^◌}
use native.Mathlib.Omega.{arith}
use mathlib.Core.Path.{◌≡◌, refl, sym, ◌∙◌, ap, subst}
use mathlib.Core.Logic.{⊎_elim}
use mathlib.Core.List.{List, []}
use borrow.Author.Tests.{ne_eqb}
use Rattle.search_standings.specs.declared.Shape.{Shape}
use Rattle.search_grow.specs.Masks.{letters_left, letter_weight}
use Rattle.search_grow.specs.Kept.{State, state, Ready, NotedBehind}
use Rattle.search_grow.proofs.Letters.{letters_start, weight_small}
use Rattle.search_grow.proofs.Turns.{behind_end, places_turn, places_end}
use Rattle.search_course.specs.declared.Course.{Course}
use Rattle.search_course.specs.Answers.{Answered}
use Rattle.search_course.specs.Turns.{finding_of, turn_weight, level_weight, Tries, masks_now, first_ones, later_ones, RunsOn, Beginning, Completing, Growing, At}
use Rattle.search_course.proofs.Advance.{running_spent, running_proved}

-- the number that falls, by the phase
pub weight_begins : (t : Course) → t.phase ≡ 0 → turn_weight t ≡ 300000000000 + letter_weight t.rest t.relation
unfolding turn_weight
weight_begins t e = rw e refl

pub weight_completes : (t : Course) → t.phase ≡ 1 → turn_weight t ≡ 67108864 * (4100 - t.lo) + (16777216 + (4100 - t.at))
unfolding turn_weight
weight_completes t e = rw e refl

pub weight_grows : (t : Course) → t.phase ≡ 2
    → turn_weight t ≡ 67108864 * (4100 - t.lo) + (2048 * (4100 - t.at) + letter_weight t.rest t.relation)
unfolding turn_weight
weight_grows t e = rw e refl

pub weight_ends : (t : Course) → 3 ≤ t.phase → turn_weight t ≡ 0
unfolding turn_weight
weight_ends t h =
    rw (ne_eqb t.phase 0 (λ e. omega arith), ne_eqb t.phase 1 (λ e. omega arith), ne_eqb t.phase 2 (λ e. omega arith)) refl

-- where a level begins
pub ends_level : (u : Course) (lo : ℕ) → 3 ≤ u.phase → turn_weight u ≤ level_weight lo
unfolding level_weight
ends_level u lo h = omega (arith, weight_ends u h)

pub completes_level : (u : Course) → u.phase ≡ 1 → turn_weight u ≤ level_weight u.lo
unfolding level_weight
completes_level u e = omega (arith, weight_completes u e)

-- the number falls from a level to the next one
pub begin_falls : (t u : Course) (hi : ℕ) → t.phase ≡ 0 → turn_weight u ≤ level_weight hi → turn_weight u < turn_weight t
unfolding level_weight
begin_falls t u hi e h = omega (arith, h, weight_begins t e)

pub grow_falls : (t u : Course) → t.phase ≡ 2 → t.lo < t.hi → t.hi ≤ 4097 → turn_weight u ≤ level_weight t.hi → turn_weight u < turn_weight t
unfolding level_weight
grow_falls t u e l m h = omega (arith, h, weight_grows t e)

-- and from a standing to the next one
pub standing_falls : (t u : Course) → t.phase ≡ 2 → u.phase ≡ 2 → u.lo ≡ t.lo → u.at ≡ t.at + 1 → t.at ≤ 4097 → u.rest < 2 ^ 64
    → turn_weight u < turn_weight t
standing_falls t u e f g h l m =
    omega (arith, weight_grows t e, weight_grows u f, weight_small u.rest u.relation m)

-- the masks, by the phase
pub masks_begin : (first later : List ℕ) (t : Course) → t.phase ≡ 0 → masks_now first later t ≡ first
unfolding masks_now
masks_begin first later t e = rw e refl

pub masks_grow : (first later : List ℕ) (t : Course) → t.phase ≡ 2 → masks_now first later t ≡ later
unfolding masks_now
masks_grow first later t e = rw e refl

module _ (k : Shape) (left right first later : List ℕ) (cap : ℕ) where
  -- what holds before a turn, by its phase
  module _ (t : Course) (r : List (List ℕ)) (w : List ℕ) (ready : Ready k.ring cap (state r w t.count)) where
    pub at_begins : t.phase ≡ 0 → Beginning k left right first later cap t (state r w t.count) → At k left right first later cap t r w
    at_begins e b =
        record {
          ready = ready;
          begins = λ _. b;
          completes = λ z. absurd (omega arith);
          grows = λ z. absurd (omega arith);
          answered = λ z. absurd (omega arith);
        }

    pub at_completes : t.phase ≡ 1 → Completing k left right first later cap t (state r w t.count) → At k left right first later cap t r w
    at_completes e b =
        record {
          ready = ready;
          begins = λ z. absurd (omega arith);
          completes = λ _. b;
          grows = λ z. absurd (omega arith);
          answered = λ z. absurd (omega arith);
        }

    pub at_grows : t.phase ≡ 2 → Growing k left right first later cap t (state r w t.count) → At k left right first later cap t r w
    at_grows e b =
        record {
          ready = ready;
          begins = λ z. absurd (omega arith);
          completes = λ z. absurd (omega arith);
          grows = λ _. b;
          answered = λ z. absurd (omega arith);
        }

    pub at_answered : 3 ≤ t.phase
        → Answered k left right (first_ones k left right first later cap) (later_ones k left right first later cap) (suc (suc cap)) cap r w (finding_of t)
        → At k left right first later cap t r w
    at_answered e b =
        record {
          ready = ready;
          begins = λ z. absurd (omega arith);
          completes = λ z. absurd (omega arith);
          grows = λ z. absurd (omega arith);
          answered = λ _. b;
        }

  -- nothing is left to note
  none_behind : (s : State) (place : ℕ) (masks : List ℕ) (rest relation : ℕ) → letters_left masks k.relations rest relation ≡ []
      → NotedBehind k left right cap s s place (letters_left masks k.relations rest relation)
  none_behind s place masks rest relation e =
      behind_end k left right cap s place (letters_left masks k.relations rest relation) s (letters_left masks k.relations rest relation) e
      (λ u h. h)

  module _ (t : Course) (r : List (List ℕ)) (w : List ℕ) where
    abbrev s : State
    s = state r w t.count

    -- the next level
    module _ (ready : Ready k.ring cap s) (low : t.hi ≤ t.count) (on : RunsOn k left right first later cap s t.hi) where
      pub level_spent : cap < t.count
          → At k left right first later cap
          (record {
            phase = 5;
            lo = t.lo;
            hi = t.hi;
            at = t.at;
            place = t.place;
            rest = t.rest;
            relation = t.relation;
            count = t.count;
            last = t.last;
          }) r w
      unfolding finding_of
      level_spent h =
          at_answered _ r w ready (omega arith)
          (running_spent k left right (first_ones k left right first later cap) (later_ones k left right first later cap) (suc (suc cap)) cap s t.hi on low h
          ready.counted)

      pub level_proved : t.count ≤ cap → t.hi ≡ t.count
          → At k left right first later cap
          (record {
            phase = 3;
            lo = t.lo;
            hi = t.hi;
            at = t.at;
            place = t.place;
            rest = t.rest;
            relation = t.relation;
            count = t.count;
            last = t.last;
          }) r w
      unfolding finding_of
      level_proved h e =
          at_answered _ r w ready (omega arith)
          (running_proved k left right (first_ones k left right first later cap) (later_ones k left right first later cap) (suc (suc cap)) cap s t.hi on low h e)

      pub level_completes : t.count ≤ cap → (t.hi ≡ t.count → ⊥)
          → At k left right first later cap
          (record {
            phase = 1;
            lo = t.hi;
            hi = t.count;
            at = t.hi;
            place = t.hi + 1;
            rest = t.rest;
            relation = t.relation;
            count = t.count;
            last = t.last;
          }) r w
      level_completes h z =
          at_completes _ r w ready refl
          (record {
            place = refl;
            low = omega arith;
            inside = omega arith;
            ends = refl;
            within = h;
            running = on;
            passed = λ seen q. refl;
          })

    -- on to the next standing of the level, with these atoms
    abbrev on_to : ℕ → Course
    on_to atoms =
        record {
          phase = t.phase;
          lo = t.lo;
          hi = t.hi;
          at = t.place;
          place = t.place + 1;
          rest = atoms;
          relation = 0;
          count = t.count;
          last = t.last;
        }

    -- no letter is left behind a place
    module _ (a : At k left right first later cap t r w)
        (none : letters_left (masks_now first later t) k.relations t.rest t.relation ≡ []) where
      begin_none : t.phase ≡ 0 → letters_left first k.relations t.rest t.relation ≡ []
      begin_none e = ap (λ m. letters_left m k.relations t.rest t.relation) (sym (masks_begin first later t e)) ∙ none

      grow_none : t.phase ≡ 2 → letters_left later k.relations t.rest t.relation ≡ []
      grow_none e = ap (λ m. letters_left m k.relations t.rest t.relation) (sym (masks_grow first later t e)) ∙ none

      pub begin_over : t.phase ≡ 0 → RunsOn k left right first later cap s t.hi
      begin_over e =
          let b = a.begins e in
          subst (RunsOn k left right first later cap s) (sym b.hi) (b.on s (none_behind s 0 first t.rest t.relation (begin_none e)))

      pub grow_over : t.phase ≡ 2 → t.place ≡ t.hi → RunsOn k left right first later cap s t.hi
      grow_over e z =
          let g = a.grows e in
          g.on s (none_behind s t.place later t.rest t.relation (grow_none e)) s
          (places_end k left right cap s (t.place + 1) (t.hi + 1) (later_ones k left right first later cap) s (t.place + 1) (omega arith) (λ u h. h))

      pub grow_on : t.phase ≡ 2 → (t.place ≡ t.hi → ⊥) → k.live < 2 ^ 64
          → At k left right first later cap (on_to k.live) r w
      grow_on e z small =
          let g = a.grows e in
          at_grows _ r w a.ready e
          (record {
            place = refl;
            low = omega (arith, g.low, g.place);
            inside = omega (arith, g.inside, g.place);
            within = g.within;
            below = g.below;
            relation = omega arith;
            on =
                λ u f v h.
                g.on s (none_behind s t.place later t.rest t.relation (grow_none e)) v
                (places_turn k left right cap s (t.place + 1) (t.hi + 1) (later_ones k left right first later cap) s u (t.place + 1)
                (omega (arith, g.inside, g.place))
                (subst (NotedBehind k left right cap s u (t.place + 1)) (sym (letters_start later k.relations k.live small)) f) (λ x y. y) v h);
          })

      -- the level is over
      pub level_over : Tries t → t.place ≡ t.hi → t.hi ≤ 4097 → (u : Course) → turn_weight u ≤ level_weight t.hi
          → (Ready k.ring cap s → t.hi ≤ t.count → RunsOn k left right first later cap s t.hi → At k left right first later cap u r w)
          → At k left right first later cap u r w × (turn_weight u < turn_weight t)
      level_over tries z small u h f =
          ⊎_elim
          (λ e. (
            f a.ready (omega (arith, (a.begins e).hi)) (begin_over e),
            begin_falls t u t.hi e h,
          ))
          (λ e. (
            f a.ready (a.grows e).below (grow_over e z),
            grow_falls t u e (omega (arith, (a.grows e).low, (a.grows e).inside)) small h,
          )) tries

      -- the next standing of the level
      pub standing_on : Tries t → (t.place ≡ t.hi → ⊥) → t.place ≤ 4097 → (live : ℕ) → live ≡ k.live → live < 2 ^ 64
          → At k left right first later cap (on_to live) r w × (turn_weight (on_to live) < turn_weight t)
      standing_on tries z small live same less =
          ⊎_elim (λ e. absurd (z ((a.begins e).place ∙ sym (a.begins e).hi)))
          (λ e. (
            subst (λ x. At k left right first later cap (on_to x) r w) (sym same) (grow_on e z (subst (λ x. x < 2 ^ 64) same less)),
            standing_falls t (on_to live) e e refl (a.grows e).place (omega (arith, (a.grows e).place)) less,
          )) tries
