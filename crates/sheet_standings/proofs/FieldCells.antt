-- A field that stands at a place of the bytes: what its header says, and where its contents and the rest lie. Contents of another length than
-- a standing's are no standing. (Document 01, "Sheet and graph bytes".)
-- Assumes nothing.
use Prim.Native.Nat.{ℕ, ◌+◌, ◌*◌, ◌-◌, ◌≤◌}
use native.Mathlib.Omega.{arith}
use mathlib.Core.Path.{◌≡◌, refl, sym, ◌∙◌, ap, ap₂}
use mathlib.Core.Bool.{Bool, true, false}
use mathlib.Core.List.{List, ◌∷◌, ◌++◌}
use mathlib.Core.Option.{none}
use lib.ListN.{length, get_or, take, drop, length-append, length-drop}
use lib.Seq.{get_or-drop, drop-drop, take-append_seam, drop-append_seam}
use borrow.Author.Tests.{ne_eqb}
use Rattle.claims.specs.Sides.{Decision}
use Rattle.claims.specs.Fields.{whole, next_field}
use Rattle.claims.specs.SheetBytes.{contents_length}
use Rattle.claims.specs.SheetReading.{path_of, ring_of, standing_of}
use Rattle.claims.proofs.Bytes.{next_whole}

-- the header at place at says the length of the contents, which lie behind it ("Sheet and graph bytes")
pub record FieldAt (bs : List ℕ) (at : ℕ) (contents rest : List ℕ) : Type 0 where
  pub says : get_or bs (at + 1) 0 * 256 + get_or bs (at + 2) 0 ≡ length contents
  pub room : at + 3 + length contents ≤ length bs
  pub part : contents ≡ take (length contents) (drop (at + 3) bs)
  pub behind : rest ≡ drop (at + 3 + length contents) bs

module _ (bs : List ℕ) (at : ℕ) (tag h l : ℕ) (contents rest : List ℕ) (is : drop at bs ≡ tag ∷ h ∷ l ∷ (contents ++ rest)) where
  header : (i : ℕ) → get_or bs (at + i) 0 ≡ get_or (tag ∷ h ∷ l ∷ (contents ++ rest)) i 0
  header i = sym (get_or-drop at bs i 0) ∙ ap (λ xs. get_or xs i 0) is

  after_header : drop (at + 3) bs ≡ contents ++ rest
  after_header = sym (drop-drop 3 at bs) ∙ ap (drop 3) is

  size : length bs ≡ at + 3 + length contents + length rest
  size =
      let a : length bs - at ≡ length (tag ∷ h ∷ l ∷ (contents ++ rest)) = sym (length-drop at bs) ∙ ap length is in
      omega (arith, length-append contents rest)

-- a whole field that begins at place at ("Sheet and graph bytes")
pub field_at : (bs : List ℕ) (at tag : ℕ) (contents rest : List ℕ) → next_field (drop at bs) ≡ whole tag contents rest → FieldAt bs at contents rest
field_at bs at tag contents rest e =
    let (h, l, is, n) = next_whole (drop at bs) tag contents rest e in
    record {
      says = ap₂ (λ a b. a * 256 + b) (header bs at tag h l contents rest is 1) (header bs at tag h l contents rest is 2) ∙ sym n;
      room = omega (arith, size bs at tag h l contents rest is);
      part = sym (ap (take (length contents)) (after_header bs at tag h l contents rest is) ∙ take-append_seam contents rest);
      behind =
          sym (sym (drop-drop (length contents) (at + 3) bs) ∙ ap (drop (length contents)) (after_header bs at tag h l contents rest is)
          ∙ drop-append_seam contents rest);
    }

-- contents of another length are no standing ("Sheet and graph bytes")
pub contents_other : (ring : Bool) (D : Decision) (contents : List ℕ) → (length contents ≡ contents_length ring → ⊥)
    → standing_of ring D contents ≡ none
unfolding path_of ring_of
contents_other false D contents h = rw (ne_eqb (length contents) (contents_length false) h) refl
contents_other true D contents h = rw (ne_eqb (length contents) (contents_length true) h) refl
