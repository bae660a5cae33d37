-- One turn over lent records: what each of its calls asks holds, and together they give what a turn leaves. And the loop over turns.
-- Assumes nothing.
use Prim.Native.Nat.{ℕ, suc, ◌≤◌, ◌<◌}
use native.Mathlib.Omega.{arith}
use mathlib.Core.Path.{◌≡◌, refl, sym, ◌∙◌, ap, subst, subst⁻¹}
use mathlib.Core.Bool.{Bool, cond}
use mathlib.Core.List.{List}
use lib.ListN.{length, get_or, set}
use Rattle.std.specs.Prelude.{Option, Some, None}
use Rattle.search_standings.specs.declared.Shape.{Shape}
use Rattle.search_records.specs.declared.Record.{Record}
use Rattle.search_records.specs.Records.{blank, Found}
use Rattle.search_records.specs.Rows.{row_of, rows, record_at, FoundIn}
use Rattle.search_records.proofs.Rows.{rows_length, rows_at, rows_kept, rows_found}
use Rattle.search_grow.specs.Masks.{letters_in}
use Rattle.search_grow.specs.Kept.{state, Inside, Ready}
use Rattle.search_grow.proofs.Adding.{inside_none, inside_more, inside_memory}
use Rattle.search_course.specs.declared.Course.{Course}
use Rattle.search_course.specs.declared.Move.{Move}
use Rattle.search_course.specs.declared.Offer.{Offer}
use Rattle.search_course.specs.declared.Finding.{Finding}
use Rattle.search_course.specs.Answers.{Answered}
use Rattle.search_course.specs.Turns.{finding_of, turn_weight, Small, puts, settled, record_of, At, Leads, Stepped}
use Rattle.search_levels.proofs.OneTurn.{at_small, seek_inside, count_small, turn_on}

module _ (k : Shape) (left right first later : List ℕ) (cap : ℕ) (t : Course) (rs : List Record) (w : List ℕ)
    (pre : (k.relations ≤ 16) × (t.phase < 3) × At k left right first later cap t (rows rs) w) where
  pub step_asks : Small k.ring k.relations cap (length w) t × (t.phase < 3)
  step_asks = (at_small k left right first later cap t (rows rs) w pre.2 pre.0, pre.1)

  -- after a step
  module _ (from : Record) (here : from ≡ get_or rs t.at blank) (m : Move) (w' : List ℕ)
      (step : (r : List (List ℕ)) → from ≡ record_at r t.at → At k left right first later cap t r w
      → Stepped k left right first later cap t m r w w' × (turn_weight m.course < turn_weight t)) where
    stepped : Stepped k left right first later cap t m (rows rs) w w' × (turn_weight m.course < turn_weight t)
    stepped = step (rows rs) (here ∙ rows_at rs t.at) pre.2

    -- nothing is offered
    pub unoffered : m.offer ≡ None → Inside k.ring cap (state (rows rs) w t.count) (state (rows rs) w' m.course.count)
        × At k left right first later cap m.course (rows rs) w' × (turn_weight m.course < turn_weight t)
    unoffered e =
        let q = subst (λ x. Leads k left right first later cap t m.course x (rows rs) w w') e stepped.0 in
        (q.0, q.1, stepped.1)

    -- a candidate is offered
    module _ (o : Offer) (is : m.offer ≡ Some o) where
      leads : Leads k left right first later cap t m.course (Some o) (rows rs) w w'
      leads = subst (λ x. Leads k left right first later cap t m.course x (rows rs) w w') is stepped.0

      pub find_asks : o.seek ≤ length rs
      find_asks =
          let (l, x) = leads.1 in
          subst (λ n. o.seek ≤ n) (rows_length rs) (seek_inside k left right first later cap t (rows rs) w pre.2 m.course o l x)

      pub settle_asks : m.course.count ≤ 4097
      settle_asks = let (l, x) = leads.1 in count_small k left right first later cap t (rows rs) w pre.2 m.course o l x

      -- and at the end
      pub turned : (found : Option ℕ) → Found rs o.seek o.p o.s found → (put : Bool) → put ≡ puts cap found m.course
          → (rs' : List Record) → rs' ≡ cond put (set rs o.seek (record_of m.course o)) rs → (d : Course) → d ≡ settled found m.course
          → Inside k.ring cap (state (rows rs) w t.count) (state (rows rs') w' d.count)
          × At k left right first later cap d (rows rs') w' × (turn_weight d < turn_weight t)
      turned found f put h rs' e d g =
          let (l, x) = leads.1 in
          turn_on k left right first later cap t (rows rs) w pre.2 m.course o l x w' leads.0 stepped.1 found
          (rows_found rs o.seek o.p o.s found f) d g put h (rows rs') (ap rows e ∙ rows_kept rs put o.seek (record_of m.course o))

-- the loop over turns, from its start to its end
module _ (k : Shape) (left right first later : List ℕ) (cap : ℕ) (rs₀ : List Record) (w₀ : List ℕ) where
  -- what holds between two turns
  abbrev pub Between : Course → List Record → List ℕ → Type 0
  Between t rs w =
      Inside k.ring cap (state (rows rs₀) w₀ 0) (state (rows rs) w t.count) × At k left right first later cap t (rows rs) w

  pub loop_starts : Ready k.ring cap (state (rows rs₀) w₀ 0) → (t : Course)
      → ((l : Shape) (f g : List ℕ) (c : ℕ) (r : List (List ℕ)) (w : List ℕ) → k.live ≡ l.live → Ready l.ring c (state r w 0)
      → (t.count ≡ 0) × At l left right f g c t r w) → Between t rs₀ w₀
  loop_starts ready t start =
      let s = start k first later cap (rows rs₀) w₀ refl ready in (
        subst (λ n. Inside k.ring cap (state (rows rs₀) w₀ 0) (state (rows rs₀) w₀ n)) (sym s.0)
            (inside_none k.ring cap (state (rows rs₀) w₀ 0) ready.counted),
        s.1,
      )

  module _ (t : Course) (rs : List Record) (w : List ℕ) (between : Between t rs w) where
    pub loop_goes : (u : Course) (rs' : List Record) (w' : List ℕ)
        → Inside k.ring cap (state (rows rs) w t.count) (state (rows rs') w' u.count)
        × At k left right first later cap u (rows rs') w' × (turn_weight u < turn_weight t) → Between u rs' w'
    loop_goes u rs' w' turned =
        (inside_more k.ring cap (state (rows rs₀) w₀ 0) (state (rows rs) w t.count) (state (rows rs') w' u.count) between.0 turned.0, turned.1)

    pub loop_records : length rs ≡ length rs₀
    loop_records = sym (rows_length rs) ∙ between.0.records_length ∙ rows_length rs₀

    pub loop_words : length w ≡ length w₀
    loop_words = between.0.words_length

    pub loop_ends : 3 ≤ t.phase → (x : Finding) → x ≡ finding_of t
        → Inside k.ring cap (state (rows rs₀) w₀ 0) (state (rows rs) w 0)
        × Answered k left right (letters_in first k.live k.relations) (letters_in later k.live k.relations) (suc (suc cap)) cap (rows rs) w x
    loop_ends h x e = (
      inside_memory k.ring cap (state (rows rs₀) w₀ 0) (state (rows rs) w t.count) 0 (omega arith) between.0,
      subst
          (Answered k left right (letters_in first k.live k.relations) (letters_in later k.live k.relations) (suc (suc cap)) cap (rows rs) w)
          (sym e) (between.1.answered h),
    )
