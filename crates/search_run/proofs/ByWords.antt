-- The verdict of a decision within the limits is the verdict on words over the letters that are tried, and every standing that it lists is good.
-- Assumes nothing.
use Prim.Native.Nat.{ℕ, suc, ◌≤◌, ◌<◌}
use native.Mathlib.Omega.{arith}
use mathlib.Core.Path.{◌≡◌, refl, sym, ◌∙◌, ap₂}
use mathlib.Core.Bool.{true, false}
use mathlib.Core.List.{List, [], ◌∷◌}
use Rattle.kat.specs.Lists.{In, here, there, filter}
use Rattle.kat.specs.Tables.{occurrences}
use Rattle.kat.proofs.Sets.{filter_in}
use Rattle.claims.specs.Orders.{Rising}
use Rattle.claims.specs.Sides.{Decision}
use Rattle.claims.specs.Standings.{System, letters, path_system, ring_system}
use Rattle.claims.specs.Search.{verdict}
use Rattle.claims.specs.Alike.{path_letter, ring_letter}
use Rattle.claims.specs.SheetWriting.{RisingWithin}
use Rattle.claims.proofs.Letters.{letters_in_lem}
use Rattle.side_tables.specs.SideTable.{side_table}
use Rattle.query.specs.declared.Facts.{Facts}
use Rattle.query.specs.Answer.{facts_of}
use Rattle.search_standings.specs.declared.Shape.{Shape}
use Rattle.search_standings.specs.Systems.{word_system}
use Rattle.search_standings.specs.Over.{verdict_over, shown}
use Rattle.standings.proofs.Shows.{Shows, AllFit}
use Rattle.search_standings.proofs.VerdictShown.{verdict_over_shown}
use Rattle.search_standings.proofs.GoodStandings.{AllListedGood, verdict_over_good}
use Rattle.standings.proofs.LettersOf.{LettersOf}
use Rattle.search_standings.proofs.PathShown.{TwoWords, path_of, path_shows}
use Rattle.search_standings.proofs.RingShown.{ring_shown, GoodRing}
use Rattle.search_standings.proofs.RingVerdict.{ring_shows}
use Rattle.search_grow.specs.Masks.{tried, letters_in}
use Rattle.search_alike.proofs.Letters.{letters_by_live, letters_by_path_masks, letters_by_ring_masks}
use Rattle.search_alike.proofs.Verdicts.{path_verdict_over_kept, ring_verdict_over_kept}
use Rattle.search_shape.specs.inner.Tried.{shape_of, first_letters, later_letters, words_verdict}
use Rattle.search_shape.proofs.Tried.{path_first, ring_first}

-- lists that rise within a range
within_above : (lo hi : ℕ) (l : List ℕ) → RisingWithin lo hi l → (b : ℕ) → In b l → lo ≤ b
within_above lo hi (k ∷ ks) (a, h, r) b (here e) = omega arith
within_above lo hi (k ∷ ks) (a, h, r) b (there i) = let c = within_above (suc k) hi ks r b i in omega arith
within_above lo hi [] _ b x3 = elim x3 [ ]

pub within_below : (lo hi : ℕ) (l : List ℕ) → RisingWithin lo hi l → (b : ℕ) → In b l → b < hi
within_below lo hi (k ∷ ks) (a, h, r) b (here e) = omega arith
within_below lo hi (k ∷ ks) (a, h, r) b (there i) = within_below (suc k) hi ks r b i
within_below lo hi [] _ b x3 = elim x3 [ ]

pub within_wider : (lo hi hi' : ℕ) (l : List ℕ) → hi ≤ hi' → RisingWithin lo hi l → RisingWithin lo hi' l
within_wider lo hi hi' [] w r = tt
within_wider lo hi hi' (k ∷ ks) w (a, h, r) = (a, omega arith, within_wider (suc k) hi hi' ks w r)

pub within_rising : (lo hi : ℕ) (l : List ℕ) → RisingWithin lo hi l → Rising l
within_rising lo hi [] r = tt
within_rising lo hi (k ∷ ks) (a, h, r) = ((λ b i. within_above (suc k) hi ks r b i), within_rising (suc k) hi ks r)

-- letters that are tried are letters
letters_in_fit : (k : Shape) (left right masks : List ℕ) → AllFit (word_system k left right) (letters_in masks k.live k.relations)
unfolding letters_in letters
letters_in_fit k left right masks l i =
    letters_in_lem (word_system k left right) l (filter_in (tried masks) (letters (word_system k left right)) i).0

-- for the facts and the tables of a decision
module _ (n : ℕ) (D : Decision) (few_left : occurrences D.left ≤ 64) (few_right : occurrences D.right ≤ 64)
    (few_right_of_rings : D.ring ≡ true → occurrences D.right ≤ 31) (few_relations_lem : D.relations ≤ 16)
    (within : RisingWithin 0 64 D.live) where
  rising : Rising D.live
  rising = within_rising 0 64 D.live within

  abbrev f : Facts
  f = facts_of n D

  abbrev left : List ℕ
  left = side_table D.left

  abbrev right : List ℕ
  right = side_table D.right

  abbrev W : System
  W = word_system (shape_of f) left right

  shape_of_lem : LettersOf (shape_of f).live (shape_of f).relations D
  unfolding facts_of
  shape_of_lem = record { live_set_lem = refl; live_rising = within; relation_count_lem = refl; few_relations_lem = few_relations_lem }

  later_fit : AllFit W (later_letters f left right)
  unfolding later_letters
  later_fit = letters_in_fit (shape_of f) left right _

  first_fit : AllFit W (first_letters f left right)
  unfolding first_letters
  first_fit = letters_in_fit (shape_of f) left right _

  module _ (path : D.ring ≡ false) where
    path_letters : later_letters f left right ≡ filter (path_letter D) (letters (path_system D))
    unfolding later_letters letters_in tried facts_of
    path_letters = letters_by_path_masks D few_left few_right (shape_of f) refl refl within refl few_relations_lem path

    path_first_letters : first_letters f left right ≡ later_letters f left right
    unfolding facts_of
    path_first_letters = path_first f left right path

    path_words : Shows (path_system D) W (path_of D) (TwoWords (occurrences D.left) (occurrences D.right))
    unfolding facts_of
    path_words = path_shows (shape_of f) path shape_of_lem few_left few_right

    -- the verdict of a path claim is that on words
    pub path_by_words : (allowance : ℕ)
        → verdict (path_system D) allowance ≡ shown (path_of D) (words_verdict f left right allowance)
    unfolding words_verdict
    path_by_words allowance =
        sym (path_verdict_over_kept D rising allowance)
        ∙ ap₂ (λ ls ms. verdict_over (path_system D) ls ms (suc (suc allowance)) allowance) (sym path_letters ∙ sym path_first_letters) (sym path_letters)
        ∙ verdict_over_shown path_words (first_letters f left right)
        (later_letters f left right) (suc (suc allowance)) allowance first_fit later_fit

    pub path_words_good : (allowance : ℕ)
        → AllListedGood W (TwoWords (occurrences D.left) (occurrences D.right)) (words_verdict f left right allowance)
    unfolding words_verdict
    path_words_good allowance =
        verdict_over_good path_words (first_letters f left right)
        (later_letters f left right) (suc (suc allowance)) allowance first_fit later_fit

  module _ (ring : D.ring ≡ true) where
    ring_letters : later_letters f left right ≡ filter (ring_letter D) (letters (ring_system D))
    unfolding later_letters letters_in tried facts_of
    ring_letters = letters_by_ring_masks D few_left few_right (shape_of f) refl refl within refl few_relations_lem ring

    ring_first_letters : first_letters f left right ≡ letters (ring_system D)
    unfolding letters_in tried facts_of
    ring_first_letters =
        ring_first f left right ring
        ∙ letters_by_live (ring_system D) f.live f.relations refl within refl few_relations_lem

    ring_words_lem : Shows (ring_system D) W (ring_shown (occurrences D.left) (occurrences D.right)) (GoodRing (occurrences D.left) (occurrences D.right))
    unfolding facts_of
    ring_words_lem = ring_shows (shape_of f) ring shape_of_lem refl few_left (few_right_of_rings ring)

    -- the verdict of a ring claim is that on words
    pub ring_by_words : (allowance : ℕ)
        → verdict (ring_system D) allowance
        ≡ shown (ring_shown (occurrences D.left) (occurrences D.right)) (words_verdict f left right allowance)
    unfolding words_verdict
    ring_by_words allowance =
        sym (ring_verdict_over_kept D rising allowance)
        ∙ ap₂ (λ ls ms. verdict_over (ring_system D) ls ms (suc (suc allowance)) allowance) (sym ring_first_letters) (sym ring_letters)
        ∙ verdict_over_shown ring_words_lem (first_letters f left right)
        (later_letters f left right) (suc (suc allowance)) allowance first_fit later_fit

    pub ring_words_good : (allowance : ℕ)
        → AllListedGood W (GoodRing (occurrences D.left) (occurrences D.right)) (words_verdict f left right allowance)
    unfolding words_verdict
    ring_words_good allowance =
        verdict_over_good ring_words_lem (first_letters f left right)
        (later_letters f left right) (suc (suc allowance)) allowance first_fit later_fit
