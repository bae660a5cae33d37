-- A field at a place of the bytes: what its header says, and where it is cut.
-- Assumes nothing.
use Prim.Native.Nat.{ℕ, ◌+◌, ◌*◌, ◌-◌, ◌≤◌, ◌<◌}
use native.Mathlib.Omega.{arith}
use native.Mathlib.Numerals.{add-one}
use mathlib.Core.Path.{◌≡◌, refl, sym, ◌∙◌, ap, ap₂, subst⁻¹}
use mathlib.Core.Bool.{Bool, true, false}
use mathlib.Core.List.{List, [], ◌∷◌}
use lib.Dec.{leb, eqb}
use lib.ListN.{length, take, drop, get_or, length-drop, drop_of_length-le}
use lib.Seq.{drop-cons, drop-drop}
use borrow.Author.Tests.{le-leb, lt-leb}
use Rattle.std.specs.Prelude.{Some, None}
use Rattle.claims.specs.Fields.{Field as FieldRead, whole, cut, contents_of, next_field}
use Rattle.claims.specs.SheetReading.{tagged}
use Rattle.fields.specs.Places.{Stands}
use Rattle.fields.specs.declared.Field.{Field}

-- the byte at a place, and what is behind it
pub byte_first : (bs : List ℕ) (at next : ℕ) → at < length bs → next ≡ at + 1 → drop at bs ≡ get_or bs at 0 ∷ drop next bs
byte_first bs at next h e = drop-cons bs at 0 h ∙ ap (λ i. get_or bs at 0 ∷ drop i bs) (sym (e ∙ add-one at))

-- three bytes from a place on, and what is behind them
pub header_first : (bs : List ℕ) (at : ℕ) → at + 3 ≤ length bs
    → drop at bs ≡ get_or bs at 0 ∷ get_or bs (at + 1) 0 ∷ get_or bs (at + 2) 0 ∷ drop (at + 3) bs
header_first bs at h =
    byte_first bs at (at + 1) (omega arith) refl
    ∙ ap (λ l. get_or bs at 0 ∷ l) (byte_first bs (at + 1) (at + 2) (omega arith) (omega arith)
    ∙ ap (λ l. get_or bs (at + 1) 0 ∷ l) (byte_first bs (at + 2) (at + 3) (omega arith) (omega arith)))

short_list : (bs : List ℕ) → length bs < 3 → next_field bs ≡ cut
unfolding next_field
short_list [] h = refl
short_list (a ∷ []) h = refl
short_list (a ∷ b ∷ []) h = refl
short_list (a ∷ b ∷ c ∷ bs) h = absurd (omega arith)

module _ (bs : List ℕ) (at : ℕ) where
  -- fewer bytes than a header
  pub header_cut : length bs < at + 3 → Stands bs at (next_field (drop at bs)) None
  header_cut h = subst⁻¹ (λ f. Stands bs at f None) (short_list (drop at bs) (omega (arith, length-drop at bs))) tt

  header_read : at + 3 ≤ length bs
      → next_field (drop at bs) ≡ contents_of (get_or bs at 0) (get_or bs (at + 1) 0 * 256 + get_or bs (at + 2) 0) (drop (at + 3) bs)
  unfolding next_field
  header_read h = ap next_field (header_first bs at h)

  -- with the tag t and the length n
  module _ (t n : ℕ) (h : at + 3 ≤ length bs) (s : t ≡ get_or bs at 0) (e : n ≡ get_or bs (at + 1) 0 * 256 + get_or bs (at + 2) 0) where
    length_read : next_field (drop at bs) ≡ contents_of t n (drop (at + 3) bs)
    length_read = header_read h ∙ ap₂ (λ a k. contents_of a k (drop (at + 3) bs)) (sym s) (sym e)

    picked : Bool → FieldRead
    picked b = elim b [ true ↦ whole t (take n (drop (at + 3) bs)) (drop n (drop (at + 3) bs)) | false ↦ cut ]

    -- fewer bytes than its length says
    pub contents_cut : length bs - (at + 3) < n → Stands bs at (next_field (drop at bs)) None
    unfolding contents_of picked
    contents_cut l =
        subst⁻¹ (λ f. Stands bs at f None)
        (length_read ∙ ap picked (lt-leb n (length (drop (at + 3) bs)) (omega (arith, length-drop (at + 3) bs)))) tt

    -- a whole field
    abbrev here : Field
    here = record { tag = t; from = at + 3; to = at + 3 + n }

    pub field_whole : n ≤ length bs - (at + 3) → Stands bs at (next_field (drop at bs)) (Some here)
    unfolding contents_of picked
    field_whole l =
        subst⁻¹ (λ f. Stands bs at f (Some here))
        (length_read ∙ ap picked (le-leb n (length (drop (at + 3) bs)) (omega (arith, length-drop (at + 3) bs))))
        (refl, refl, omega arith, omega arith, ap (λ k. take k (drop (at + 3) bs)) size, drop-drop n (at + 3) bs)
      where
        size : n ≡ at + 3 + n - (at + 3)
        size = omega arith

-- the tag at a place
pub tag_at : (bs : List ℕ) (at t b : ℕ) → at < length bs → b ≡ get_or bs at 0 → tagged t (drop at bs) ≡ eqb b t
unfolding tagged
tag_at bs at t b h e = ap (tagged t) (byte_first bs at (at + 1) h refl) ∙ ap (λ k. eqb k t) (sym e)

pub tag_past : (bs : List ℕ) (at t : ℕ) → length bs ≤ at → tagged t (drop at bs) ≡ false
unfolding tagged
tag_past bs at t h = ap (tagged t) (drop_of_length-le bs h)
