-- The lowest member of a set that passes a test, by a walk of the set from its lowest member on; the lowest member of a set, as its trailing
-- zeros; and the set of the live atoms that are refuting words of length 0, as one word.
-- Assumes nothing.
use Prim.Native.Nat.{ℕ, ◌-◌, ◌^◌, ◌<◌}
use native.Mathlib.Omega.{arith}
use mathlib.Core.Path.{◌≡◌, sym, ◌∙◌, ap, ap₂}
use mathlib.Core.Logic.{⊎_elim}
use mathlib.Core.Bool.{Bool, true, false, cond, not, ◌&&◌}
use mathlib.Core.List.{List, ◌∷◌}
use lib.Bits.{bit_and}
use lib.Count.{count_trailing_zeros}
use lib.ListN.{get_or, take}
use Rattle.kat.specs.Lists.{filter}
use Rattle.kat.proofs.Sets.{filter_same}
use Rattle.claims.specs.Query.{bit}
use Rattle.claims.specs.Fields.{number_set}
use Rattle.memory.proofs.Words.{same_or_not}
use Rattle.bits.specs.Sets.{members}
use Rattle.bits.proofs.Bit.{bit-bit_and}
use Rattle.bits.proofs.Members.{number_in, number_and, number_none}
use Rattle.bits.proofs.Lowest.{Lowest, lowest}
use Rattle.side_atoms.proofs.Atoms.{bit_not}
use Rattle.standings.specs.Steps.{null_at, ends_set}
use Rattle.search_standings.specs.PathWords.{path_ends, path_finals}
use Rattle.search_standings.specs.First.{first_or, alone_at, first_alone}
use Rattle.side_tables.specs.Layout.{NULL}
use Rattle.search_path.proofs.Two.{first_read, second_read}

module _ (f : ℕ → Bool) (w d : ℕ) where
  -- nothing left
  pub first_end : (s : ℕ) → s ≡ 0 → first_or d (filter f (number_set 0 w s)) ≡ d
  first_end s e = ap (λ k. first_or d (filter f (number_set 0 w k))) e ∙ ap (λ l. first_or d (filter f l)) (number_none 0 w)

  -- the lowest member passes, or the rest decides
  pub first_hit : {s : ℕ} → Lowest w s → f (count_trailing_zeros w s) ≡ true → first_or d (filter f (number_set 0 w s)) ≡ count_trailing_zeros w s
  first_hit {s} l h =
      ap (λ m. first_or d (filter f m)) l.members
      ∙ ap (λ b. first_or d (cond b (count_trailing_zeros w s ∷ filter f (number_set 0 w (bit_and s (s - 1)))) (filter f (number_set 0 w (bit_and s (s - 1)))))) h

  pub first_miss : {s : ℕ} → Lowest w s → f (count_trailing_zeros w s) ≡ false
      → first_or d (filter f (number_set 0 w (bit_and s (s - 1)))) ≡ first_or d (filter f (number_set 0 w s))
  first_miss {s} l h =
      sym (ap (λ m. first_or d (filter f m)) l.members
      ∙ ap (λ b. first_or d (cond b (count_trailing_zeros w s ∷ filter f (number_set 0 w (bit_and s (s - 1)))) (filter f (number_set 0 w (bit_and s (s - 1)))))) h)

-- the lowest member, or 64
pub lowest_first : (s : ℕ) → s < 2 ^ 64 → count_trailing_zeros 64 s ≡ first_or 64 (members s)
unfolding count_trailing_zeros
lowest_first s h =
    ⊎_elim (λ e. ap (count_trailing_zeros 64) e ∙ sym (ap (λ k. first_or 64 (members k)) e ∙ ap (first_or 64) (number_none 0 64)))
    (λ n. sym (ap (first_or 64) (lowest 64 s h n).members)) (same_or_not s 0)

module _ (left right : List ℕ) where
  -- the live atoms that are left words and no right words
  pub alone_set : (live on off : ℕ) → on ≡ get_or left NULL 0 → off ≡ get_or right NULL 0 → off < 2 ^ 64
      → members (bit_and live (bit_and on (2 ^ 64 - 1 - off))) ≡ filter (alone_at left right) (members live)
  unfolding alone_at null_at
  alone_set live on off p q h =
      number_and 0 64 live (bit_and on (2 ^ 64 - 1 - off))
      ∙ filter_same (λ a. bit (a - 0) (bit_and on (2 ^ 64 - 1 - off))) (alone_at left right) (members live)
      (λ a i. let (u, v, x) = number_in 0 64 live a i in
      let z : a - 0 ≡ a = omega arith in
      ap (λ j. bit j (bit_and on (2 ^ 64 - 1 - off))) z ∙ bit-bit_and a on (2 ^ 64 - 1 - off)
      ∙ ap₂ ◌&&◌ (ap (bit a) p) (bit_not 64 a off h v ∙ ap (λ j. not (bit a j)) q))

  pub alone_first : (live on off : ℕ) → on ≡ get_or left NULL 0 → off ≡ get_or right NULL 0 → off < 2 ^ 64
      → bit_and live (bit_and on (2 ^ 64 - 1 - off)) < 2 ^ 64
      → count_trailing_zeros 64 (bit_and live (bit_and on (2 ^ 64 - 1 - off))) ≡ first_alone left right live
  unfolding first_alone
  alone_first live on off p q h k =
      lowest_first (bit_and live (bit_and on (2 ^ 64 - 1 - off))) k ∙ ap (first_or 64) (alone_set live on off p q h)

  -- at atom a a left word may end and no right word, where one of p was read last on the left and one of s on the right
  abbrev pub refuting : ℕ → ℕ → ℕ → Bool
  refuting p s a = ends_set left p a && not (ends_set right s a)

  pub finals_read : (at : List ℕ) (p s live : ℕ) → p ≡ get_or at 0 0 → s ≡ get_or at 1 0
      → filter (refuting p s) (members live) ≡ path_finals left right live (take 2 at)
  unfolding path_finals path_ends
  finals_read at p s live e f =
      filter_same (refuting p s) (path_ends left right (take 2 at)) (members live)
      (λ a i. ap₂ (λ x y. refuting x y a) (e ∙ sym (first_read at)) (f ∙ sym (second_read at)))
