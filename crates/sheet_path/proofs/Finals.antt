-- The atoms with which a path standing completes a refuting word: some atom, and one atom.
-- Assumes nothing.
use Prim.Native.Nat.{ℕ, ◌^◌, ◌<◌}
use mathlib.Core.Path.{◌≡◌, sym, ◌∙◌, ap, ap₂}
use mathlib.Core.Bool.{Bool, not, ◌&&◌}
use mathlib.Core.List.{List}
use Rattle.kat.specs.Lists.{is_empty, filter, some, member}
use Rattle.kat.proofs.Bools.{bool_ext, and_left, and_right, and_both}
use Rattle.kat.proofs.Sets.{member_in, in_member, filter_in, in_filter}
use Rattle.claims.specs.Query.{bit}
use Rattle.bits.specs.Sets.{members}
use Rattle.bits.proofs.Lists.{some_filled}
use Rattle.bits.proofs.Members.{member_bit}
use Rattle.standings.specs.Steps.{ends_set}
use Rattle.sheet_standings.specs.Layout.{wide}
use Rattle.sheet_standings.specs.PathCells.{path_ends, path_finals}

member_kept : (f : ℕ → Bool) (a : ℕ) (l : List ℕ) → member a (filter f l) ≡ (member a l && f a)
member_kept f a l =
    bool_ext (member a (filter f l)) (member a l && f a)
    (λ h. let (i, t) = filter_in f l (member_in a (filter f l) h) in and_both (in_member a i) t)
    (λ h. in_member a (in_filter f (member_in a l (and_left (member a l) (f a) h)) (and_right (member a l) (f a) h)))

module _ (left right : List ℕ) where
  -- at atom a a left word may end and no right word, where one of p was read last on the left and one of s on the right
  abbrev pub refuting : ℕ → ℕ → ℕ → Bool
  refuting p s a = ends_set left p a && not (ends_set right s a)

  module _ (live : ℕ) (at : List ℕ) (p s : ℕ) (ep : p ≡ wide at 0) (es : s ≡ wide at 2) where
    pub finals_some : some (refuting p s) (members live) ≡ not (is_empty (path_finals left right live at))
    unfolding path_finals path_ends
    finals_some =
        some_filled (refuting p s) (members live) ∙ ap₂ (λ x y. not (is_empty (filter (refuting x y) (members live)))) ep es

    pub finals_member : (a : ℕ) → live < 2 ^ 64 → (bit a live && refuting p s a) ≡ member a (path_finals left right live at)
    unfolding path_finals path_ends
    finals_member a h =
        ap (λ b. b && refuting p s a) (sym (member_bit 64 live a h)) ∙ sym (member_kept (refuting p s) a (members live))
        ∙ ap₂ (λ x y. member a (filter (refuting x y) (members live))) ep es
