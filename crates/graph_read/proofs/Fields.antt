-- The field at a place, and the graph with it. The idea: what the reader of fields answers is the definition's next field, so a cut field and
-- another tag make nothing of the graph, and a field's contents make what they make.
-- Assumes nothing.
use Prim.Native.Nat.{ℕ, ◌+◌, ◌-◌, ◌≤◌}
use native.Mathlib.Omega.{arith}
use mathlib.Core.Path.{◌≡◌, refl, sym, ◌∙◌, ap, subst}
use mathlib.Core.Bool.{Bool, true, false}
use mathlib.Core.List.{List}
use mathlib.Core.Option.{Option as OptionOf, some, none}
use lib.ListN.{length, take, drop}
use borrow.Author.Tests.{eq-eqb, ne_eqb}
use Rattle.std.specs.Prelude.{Option, Some, None}
use Rattle.claims.specs.Fields.{Field as FieldRead, whole, cut, next_field, after_field}
use Rattle.claims.specs.GraphBytes.{Listed, Ranges, with_event, with_edge, with_field}
use Rattle.fields.specs.Places.{Stands}
use Rattle.fields.specs.declared.Field.{Field}
use Rattle.graph_read.specs.declared.Turn.{Turn}
use Rattle.graph_read.specs.inner.Steps.{Takes, Turns}

-- the answer after a good field
abbrev on : ℕ → ℕ → Bool → Option Turn
on next n edged = Some (record { next = next; events = n; edged = edged })

-- a whole field at a place, as the reader answers it
pub record WholeAt (bs : List ℕ) (at tag start end : ℕ) : Type 0 where
  pub is : next_field (drop at bs) ≡ whole tag (take (end - start) (drop start bs)) (drop end bs)
  pub begins : start ≡ at + 3
  pub order : start ≤ end
  pub inside : end ≤ length bs

module _ (bs : List ℕ) (at : ℕ) where
  pub whole_here : {answer : Option Field} {field : Field} → answer ≡ Some field → Stands bs at (next_field (drop at bs)) answer
      → WholeAt bs at field.tag field.from field.to
  whole_here {answer} {field} e s = go (next_field (drop at bs)) refl (subst (Stands bs at (next_field (drop at bs))) e s)
    where
      go : (read : FieldRead) → next_field (drop at bs) ≡ read → Stands bs at read (Some field) → WholeAt bs at field.tag field.from field.to
      go cut f s = absurd s
      go (whole t contents rest) f (a, b, c, d, g, k) =
          record {
            is = f ∙ ap (λ u. whole u contents rest) (sym a) ∙ ap (λ u. whole field.tag u rest) g
                ∙ ap (whole field.tag (take (field.to - field.from) (drop field.from bs))) k;
            begins = b;
            order = c;
            inside = d;
          }

  pub cut_here : {answer : Option Field} → answer ≡ None → Stands bs at (next_field (drop at bs)) answer → next_field (drop at bs) ≡ cut
  cut_here {answer} e s = go (next_field (drop at bs)) (subst (Stands bs at (next_field (drop at bs))) e s)
    where
      go : (field : FieldRead) → Stands bs at field None → field ≡ cut
      go cut s = refl
      go (whole t contents rest) s = absurd s

  turns_not : {o : OptionOf Listed} (ws : List ℕ) → o ≡ none → Turns bs at o ws None
  turns_not ws e = subst (λ o. Turns bs at o ws None) (sym e) tt

  -- no whole field
  pub cut_not : (R : Ranges) (G : Listed) (ws : List ℕ) → next_field (drop at bs) ≡ cut
      → Turns bs at (with_field R G (next_field (drop at bs))) ws None
  unfolding with_field
  cut_not R G ws e = turns_not ws (ap (with_field R G) e)

  module _ (R : Ranges) (G : Listed) (ws : List ℕ) {tag start end : ℕ} (w : WholeAt bs at tag start end) where
    abbrev contents : List ℕ
    contents = take (end - start) (drop start bs)

    -- another tag
    pub tag_not : (tag ≡ 1 → ⊥) → (tag ≡ 2 → ⊥) → Turns bs at (with_field R G (next_field (drop at bs))) ws None
    unfolding with_field
    tag_not p q = turns_not ws (ap (with_field R G) w.is ∙ rw (with_field, ne_eqb tag 1 p, ne_eqb tag 2 q))

    event_field_lem : tag ≡ 1 → with_field R G (next_field (drop at bs)) ≡ with_event R G contents
    unfolding with_field
    event_field_lem e = ap (with_field R G) w.is ∙ rw (with_field, eq-eqb tag 1 e)

    edge_field_lem : tag ≡ 2 → with_field R G (next_field (drop at bs)) ≡ with_edge R G contents
    unfolding with_field
    edge_field_lem e =
        let n : tag ≡ 1 → ⊥ = omega arith in
        ap (with_field R G) w.is ∙ rw (with_field, ne_eqb tag 1 n, eq-eqb tag 2 e)

    -- contents that are taken, and contents that are not
    turns_by : (o : OptionOf Listed) (n : ℕ) (edged : Bool) → Takes o true n edged ws → Turns bs at o ws (on end n edged)
    turns_by none n edged t = t
    turns_by (some H) n edged t = (omega (arith, w.begins, w.order), w.inside, ap after_field w.is, t)

    turns_off : (o : OptionOf Listed) (n : ℕ) (edged : Bool) → Takes o false n edged ws → Turns bs at o ws None
    turns_off none n edged t = tt
    turns_off (some H) n edged t = t

    module _ (n : ℕ) (edged : Bool) where
      pub event_on : tag ≡ 1 → (b : Bool) → b ≡ true → Takes (with_event R G contents) b n edged ws
          → Turns bs at (with_field R G (next_field (drop at bs))) ws (on end n edged)
      event_on e b t k =
          subst (λ o. Turns bs at o ws (on end n edged)) (sym (event_field_lem e))
          (turns_by (with_event R G contents) n edged (subst (λ v. Takes (with_event R G contents) v n edged ws) t k))

      pub event_off : tag ≡ 1 → (b : Bool) → b ≡ false → Takes (with_event R G contents) b n edged ws
          → Turns bs at (with_field R G (next_field (drop at bs))) ws None
      event_off e b t k =
          subst (λ o. Turns bs at o ws None) (sym (event_field_lem e))
          (turns_off (with_event R G contents) n edged (subst (λ v. Takes (with_event R G contents) v n edged ws) t k))

      pub edge_on : tag ≡ 2 → (b : Bool) → b ≡ true → Takes (with_edge R G contents) b n edged ws
          → Turns bs at (with_field R G (next_field (drop at bs))) ws (on end n edged)
      edge_on e b t k =
          subst (λ o. Turns bs at o ws (on end n edged)) (sym (edge_field_lem e))
          (turns_by (with_edge R G contents) n edged (subst (λ v. Takes (with_edge R G contents) v n edged ws) t k))

      pub edge_off : tag ≡ 2 → (b : Bool) → b ≡ false → Takes (with_edge R G contents) b n edged ws
          → Turns bs at (with_field R G (next_field (drop at bs))) ws None
      edge_off e b t k =
          subst (λ o. Turns bs at o ws None) (sym (edge_field_lem e))
          (turns_off (with_edge R G contents) n edged (subst (λ v. Takes (with_edge R G contents) v n edged ws) t k))
