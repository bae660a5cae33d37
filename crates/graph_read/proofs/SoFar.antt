-- The fields read so far: what they make is held, and what is left to read, from where they end, is the whole reading. One field more keeps
-- this; a wrong one and the end decide.
-- Assumes nothing.
use Prim.Native.Nat.{ℕ, zero, suc, ◌+◌, ◌-◌, ◌≤◌, ◌<◌}
use native.Mathlib.Omega.{arith}
use mathlib.Core.Path.{◌≡◌, refl, sym, ◌∙◌, ap, subst}
use mathlib.Core.Bool.{Bool, false}
use mathlib.Core.List.{List, [], ◌∷◌}
use mathlib.Core.Option.{Option, some, none}
use lib.ListN.{length, drop, length-drop, drop_of_length-le}
use Rattle.claims.specs.Fields.{next_field, after_field}
use Rattle.claims.specs.Refusals.{graph_field, Result, ok, refused, refuse}
use Rattle.claims.specs.GraphBytes.{Listed, Ranges, with_field, fields_in, graph_in}
use Rattle.memory.specs.Memory.{zeros}
use Rattle.graph_read.specs.Reading.{left_words, Says}
use Rattle.std.specs.Prelude.{Some, None, Option as StdOption, Ok, Err, Result as StdResult}
use Rattle.graph_read.specs.declared.Turn.{Turn}
use Rattle.graph_read.specs.inner.Steps.{Held, Turns, Leaves}
use Rattle.graph_read.proofs.ListedWords.{nothing, nothing_listed}

-- the fields before place at make a graph with n events, field k starts there, and at most fuel may follow
pub record SoFar (R : Ranges) (bs : List ℕ) (at n : ℕ) (edged : Bool) (k : ℕ) (ws : List ℕ) : Type 0 where
  pub graph : Listed
  pub fuel : ℕ
  pub held : Held graph n edged ws
  pub inside : at ≤ length bs
  pub room : length bs ≤ at + fuel
  pub count : k ≤ at + 1
  pub left : fields_in R fuel k graph (drop at bs) ≡ graph_in R bs

-- nothing read yet
pub so_far_none : (R : Ranges) (bs ws : List ℕ) → ws ≡ zeros 1088 → SoFar R bs 0 0 false 1 ws
unfolding graph_in
so_far_none R bs ws e =
    record {
      graph = nothing;
      fuel = length bs;
      held = record { events = refl; few = omega arith; edge = refl; listed = e ∙ nothing_listed };
      inside = omega arith;
      room = omega arith;
      count = omega arith;
      left = refl;
    }

-- no bytes are left
fields_end : (R : Ranges) (f k : ℕ) (G : Listed) → fields_in R f k G [] ≡ ok G
unfolding fields_in
fields_end R zero k G = refl
fields_end R (suc f) k G = refl

-- how the reading goes on with the next field
abbrev onward : Ranges → ℕ → ℕ → List ℕ → Option Listed → Result Listed
onward R f k rest o = elim o [ none ↦ refuse graph_field k | some H ↦ fields_in R f (suc k) H rest ]

fields_more : (R : Ranges) (f k : ℕ) (G : Listed) (bs : List ℕ) → 0 < length bs
    → fields_in R (suc f) k G bs ≡ onward R f k (after_field (next_field bs)) (with_field R G (next_field bs))
unfolding fields_in
fields_more R f k G [] h = absurd (omega arith)
fields_more R f k G (b ∷ bs) h = refl

module _ {R : Ranges} {bs : List ℕ} {at n : ℕ} {edged : Bool} {k : ℕ} {ws : List ℕ} (so : SoFar R bs at n edged k ws) where
  -- the end
  pub so_far_end : length bs ≤ at → Says (graph_in R bs) (Ok n) × Leaves (Ok n) ws (left_words (graph_in R bs))
  unfolding left_words
  so_far_end h =
      let e : graph_in R bs ≡ ok so.graph =
      sym so.left ∙ ap (fields_in R so.fuel k so.graph) (drop_of_length-le bs h) ∙ fields_end R so.fuel k so.graph in (
        subst (λ r. Says r (Ok n)) (sym e) so.held.events,
        so.held.listed ∙ sym (ap left_words e),
      )

  module _ (h : at < length bs) where
    step : (f : ℕ) → so.fuel ≡ suc f
        → graph_in R bs ≡ onward R f k (after_field (next_field (drop at bs))) (with_field R so.graph (next_field (drop at bs)))
    step f e =
        sym so.left ∙ ap (λ m. fields_in R m k so.graph (drop at bs)) e
        ∙ fields_more R f k so.graph (drop at bs) (omega (arith, length-drop at bs))

    abbrev less : ℕ
    less = so.fuel - 1

    one : so.fuel ≡ suc less
    one = omega (arith, so.room)

    abbrev with : Option Listed
    with = with_field R so.graph (next_field (drop at bs))

    -- a wrong field
    pub so_far_wrong : (us : List ℕ) {t : StdOption Turn} → t ≡ None → Turns bs at with us t → Says (graph_in R bs) (Err k)
    so_far_wrong us e s =
        go with refl (subst (Turns bs at with us) e s)
      where
        go : (o : Option Listed) → with ≡ o → Turns bs at o us None → Says (graph_in R bs) (Err k)
        go none f s =
            subst (λ r. Says r (Err k)) (sym (step less one ∙ ap (onward R less k (after_field (next_field (drop at bs)))) f)) (refl, refl)
        go (some H) f s = absurd s

    -- a good field
    pub so_far_on : (us : List ℕ) {t : StdOption Turn} {u : Turn} → t ≡ Some u → Turns bs at with us t
        → SoFar R bs u.next u.events u.edged (k + 1) us × (at < u.next)
    so_far_on us {t} {u} e s = go with refl (subst (Turns bs at with us) e s)
      where
        go : (o : Option Listed) → with ≡ o → Turns bs at o us (Some u) → SoFar R bs u.next u.events u.edged (k + 1) us × (at < u.next)
        go none f s = absurd s
        go (some H) f (p, q, rest, held) =
            let z : suc k ≡ k + 1 = omega arith in (
              record {
                graph = H;
                fuel = less;
                held = held;
                inside = q;
                room = omega (arith, so.room);
                count = omega (arith, so.count);
                left = sym (step less one ∙ ap (onward R less k (after_field (next_field (drop at bs)))) f
                    ∙ ap (λ j. fields_in R less j H (after_field (next_field (drop at bs)))) z ∙ ap (fields_in R less (k + 1) H) rest);
              },
              p,
            )

-- what is answered and left in memory, after a whole reading and after a wrong field
pub read_whole : (r : Result Listed) (ws : List ℕ) {a : StdResult ℕ ℕ} {n : ℕ} → a ≡ Ok n → Says r a → Leaves a ws (left_words r)
    → Says r (Ok n) × (ws ≡ left_words r)
read_whole r ws e s l = (subst (Says r) e s, subst (λ a. Leaves a ws (left_words r)) e l)

pub read_wrong : (r : Result Listed) (ws : List ℕ) {a : StdResult ℕ ℕ} {k : ℕ} → a ≡ Err k → Says r a → ws ≡ zeros 1088
    → Says r (Err k) × (ws ≡ left_words r)
unfolding left_words
read_wrong (ok G) ws {a} {k} e s z = absurd (subst (Says (ok G)) e s)
read_wrong (refused x) ws {a} {k} e s z = (subst (Says (refused x)) e s, z)

-- the number of relations by another name
pub as_many : (bs : List ℕ) (a m k : ℕ) (x : StdResult ℕ ℕ) (ws : List ℕ) → m ≡ k
    → Says (graph_in (record { atoms = a; relations = m }) bs) x × (ws ≡ left_words (graph_in (record { atoms = a; relations = m }) bs))
    → Says (graph_in (record { atoms = a; relations = k }) bs) x × (ws ≡ left_words (graph_in (record { atoms = a; relations = k }) bs))
as_many bs a m k x ws e h =
    subst (λ (n : ℕ). Says (graph_in (record { atoms = a; relations = n }) bs) x × (ws ≡ left_words (graph_in (record { atoms = a; relations = n }) bs))) e h
