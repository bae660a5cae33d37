-- What the reader's answer says of the field at a place: that it is cut, or where its contents stand and where it ends.
-- Assumes nothing.
use Prim.Native.Nat.{ℕ, ◌+◌, ◌-◌, ◌≤◌}
use native.Mathlib.Omega.{arith}
use mathlib.Core.Path.{◌≡◌, refl, sym, ◌∙◌, ap, subst}
use mathlib.Core.Bool.{Bool}
use mathlib.Core.List.{List}
use lib.Dec.{eqb}
use lib.ListN.{length, take, drop, length-drop}
use lib.Seq.{length-take-le}
use Rattle.std.specs.Prelude.{Option, Some, None}
use Rattle.claims.specs.Fields.{Field as FieldRead, whole, cut, next_field}
use Rattle.claims.specs.SheetBytes.{contents_length}
use Rattle.fields.specs.Places.{Stands}
use Rattle.fields.specs.declared.Field.{Field}
use Rattle.sheet_fits.specs.inner.Steps.{sized}

-- a whole field at a place, as the reader answers it
pub record WholeAt (bs : List ℕ) (at : ℕ) (field : FieldRead) (tag start end : ℕ) : Type 0 where
  pub contents : List ℕ
  pub rest : List ℕ
  pub is : field ≡ whole tag contents rest
  pub begins : start ≡ at + 3
  pub order : start ≤ end
  pub inside : end ≤ length bs
  pub part : contents ≡ take (end - start) (drop start bs)
  pub behind : rest ≡ drop end bs

pub whole_here : (bs : List ℕ) (at : ℕ) {answer : Option Field} {f : Field} → answer ≡ Some f
    → Stands bs at (next_field (drop at bs)) answer → WholeAt bs at (next_field (drop at bs)) f.tag f.from f.to
whole_here bs at {answer} {f} e s = go (next_field (drop at bs)) (subst (Stands bs at (next_field (drop at bs))) e s)
  where
    go : (field : FieldRead) → Stands bs at field (Some f) → WholeAt bs at field f.tag f.from f.to
    go cut s = absurd s
    go (whole t contents rest) (a, b, c, d, g, h) =
        record {
          contents = contents;
          rest = rest;
          is = ap (λ u. whole u contents rest) (sym a);
          begins = b;
          order = c;
          inside = d;
          part = g;
          behind = h;
        }

pub cut_here : (bs : List ℕ) (at : ℕ) {answer : Option Field} → answer ≡ None → Stands bs at (next_field (drop at bs)) answer
    → next_field (drop at bs) ≡ cut
cut_here bs at e s = go (next_field (drop at bs)) (subst (Stands bs at (next_field (drop at bs))) e s)
  where
    go : (field : FieldRead) → Stands bs at field None → field ≡ cut
    go cut s = refl
    go (whole t contents rest) s = absurd s

module _ {bs : List ℕ} {at : ℕ} {field : FieldRead} {tag start end : ℕ} (w : WholeAt bs at field tag start end) where
  pub contents_size : length w.contents ≡ end - start
  contents_size =
      let o : start ≤ end = w.order in
      let i : end ≤ length bs = w.inside in
      ap length w.part ∙ length-take-le (end - start) (drop start bs) (omega (arith, length-drop start bs))

  -- whether it is as long as a standing's
  pub sized_whole : (ring : Bool) → eqb (end - start) (contents_length ring) ≡ sized ring field
  unfolding sized
  sized_whole ring = sym (ap (sized ring) w.is ∙ ap (λ n. eqb n (contents_length ring)) contents_size)
