-- The entries that the memory keeps: none at first; one more where a standing is appended; and what a search for a standing says of them.
-- Assumes nothing.
use Prim.Native.Nat.{ℕ, zero, suc, ◌+◌, ◌/◌, ◌%◌, ◌≤◌, ◌<◌}
use native.Mathlib.Omega.{arith}
use mathlib.Core.Path.{◌≡◌, refl, sym, ◌∙◌, ap, subst}
use mathlib.Core.Bool.{Bool, true, false, ◌||◌}
use mathlib.Core.List.{List, [], ◌∷◌, ◌++◌}
use Rattle.std.specs.Prelude.{Some, None}
use lib.ListN.{length, get_or, length-append, get_or-append}
use lib.Seq.{get_or_at}
use borrow.Author.Count.{below_more}
use Rattle.kat.specs.Lists.{some}
use Rattle.kat.specs.Ring.{Prefix, nothing, then}
use Rattle.kat.proofs.Bools.{or_left, or_right, false_of_not}
use Rattle.claims.specs.Bytes.{same}
use Rattle.claims.proofs.Results.{same_is_equal, same_self}
use Rattle.memory.proofs.Words.{words_same}
use Rattle.search_standings.specs.Systems.{width}
use Rattle.search_store.specs.Store.{field_at, standing_at, parent_at, letter_at, standing_in, Room, Place, records_after, words_after, prefix_at, Holds}
use Rattle.search_store.proofs.Appended.{field_below, standing_here, parent_here, letter_here}

-- nothing is kept
pub holds_none : (ring : Bool) (r : List (List ℕ)) (w : List ℕ) → Holds ring r w 0 [] []
holds_none ring r w =
    record {
      standings_count = refl;
      prefixes_count = refl;
      standing = λ i h. absurd (omega arith);
      parent = λ i h. absurd (omega arith);
      prefix = λ i h. absurd (omega arith);
    }

-- the prefix of a place stays where more prefixes come behind
pub prefix_stays : (ps qs : List Prefix) (place : ℕ) → place ≤ length ps → prefix_at (ps ++ qs) place ≡ prefix_at ps place
unfolding prefix_at
prefix_stays ps qs zero h = refl
prefix_stays ps qs (suc i) h = get_or-append ps qs nothing i (omega arith)

width_small : (ring : Bool) → suc (width ring) < 40
unfolding width
width_small true = omega arith
width_small false = omega arith

module _ (ring : Bool) (r : List (List ℕ)) (w : List ℕ) (n : ℕ) (s : List ℕ) (parent letter : ℕ) (room : Room ring r w (n + 1)) where
  abbrev r' : List (List ℕ)
  r' = records_after ring r n s parent letter

  abbrev w' : List ℕ
  w' = words_after ring w n s parent letter

  standing_below : (i : ℕ) → i < n → standing_at ring r' w' i ≡ standing_at ring r w i
  unfolding standing_at
  standing_below i h =
      words_same (width ring) (width ring) (field_at ring r' w' i) (field_at ring r w i) refl
      (λ j k. field_below r w n s parent letter ring room i j h (omega (arith, width_small ring)))

  parent_below : (i : ℕ) → i < n → parent_at ring r' w' i ≡ parent_at ring r w i
  unfolding parent_at
  parent_below i h = field_below r w n s parent letter ring room i (width ring) h (omega (arith, width_small ring))

  letter_below : (i : ℕ) → i < n → letter_at ring r' w' i ≡ letter_at ring r w i
  unfolding letter_at
  letter_below i h = field_below r w n s parent letter ring room i (suc (width ring)) h (width_small ring)

  -- one standing more, whose parent is a place that is kept
  pub holds_more : (ss : List (List ℕ)) (ps : List Prefix) → parent ≤ n → Holds ring r w n ss ps
      → Holds ring r' w' (n + 1) (ss ++ (standing_in ring s ∷ [])) (ps ++ (then (prefix_at ps parent) (letter / 16) (letter % 16) ∷ []))
  holds_more ss ps low h =
      record {
        standings_count = length-append ss (standing_in ring s ∷ []) ∙ ap (λ k. k + 1) h.standings_count;
        prefixes_count = length-append ps (here ∷ []) ∙ ap (λ k. k + 1) h.prefixes_count;
        standing =
            below_more _ n
            (λ i k.
            standing_below i k ∙ h.standing i k
            ∙ sym (get_or-append ss (standing_in ring s ∷ []) [] i (omega (arith, h.standings_count))))
            (standing_here r w n s parent letter ring room ∙ sym (get_or_at ss (standing_in ring s) [] [] n h.standings_count));
        parent =
            below_more _ n (λ i k. subst (λ p. p ≤ i) (sym (parent_below i k)) (h.parent i k))
            (subst (λ p. p ≤ n) (sym (parent_here r w n s parent letter ring room)) low);
        prefix =
            below_more _ n
            (λ i k.
            get_or-append ps (here ∷ []) nothing i (omega (arith, h.prefixes_count)) ∙ h.prefix i k
            ∙ lengthened i (parent_at ring r w i) (letter_at ring r w i) (omega (arith, h.parent i k, h.prefixes_count))
            ∙ sym (ap (λ p. then (prefix_at (ps ++ (here ∷ [])) p) (letter_at ring r' w' i / 16) (letter_at ring r' w' i % 16)) (parent_below i k)
            ∙ ap (λ l. then (prefix_at (ps ++ (here ∷ [])) (parent_at ring r w i)) (l / 16) (l % 16)) (letter_below i k)))
            (get_or_at ps here [] nothing n h.prefixes_count ∙ lengthened n parent letter (omega (arith, h.prefixes_count))
            ∙ sym (ap (λ p. then (prefix_at (ps ++ (here ∷ [])) p) (letter_at ring r' w' n / 16) (letter_at ring r' w' n % 16))
            (parent_here r w n s parent letter ring room)
            ∙ ap (λ l. then (prefix_at (ps ++ (here ∷ [])) parent) (l / 16) (l % 16)) (letter_here r w n s parent letter ring room)));
      }
    where
      here : Prefix
      here = then (prefix_at ps parent) (letter / 16) (letter % 16)

      lengthened : (i p l : ℕ) → p ≤ length ps
          → then (prefix_at ps p) (l / 16) (l % 16) ≡ then (prefix_at (ps ++ (here ∷ [])) p) (l / 16) (l % 16)
      lengthened i p l k = ap (λ q. then q (l / 16) (l % 16)) (sym (prefix_stays ps (here ∷ []) p k))

-- a test that one of a list passes, by its place; and that none passes
module _ (p : List ℕ → Bool) where
  some_at : (ss : List (List ℕ)) (i : ℕ) → i < length ss → p (get_or ss i []) ≡ true → some p ss ≡ true
  some_at [] i h e = absurd (omega arith)
  some_at (x ∷ xs) zero h e = or_left (some p xs) e
  some_at (x ∷ xs) (suc i) h e = or_right (p x) (some_at xs i (omega arith) e)

  none_at : (ss : List (List ℕ)) → ((i : ℕ) → i < length ss → p (get_or ss i []) ≡ false) → some p ss ≡ false
  none_at [] f = refl
  none_at (x ∷ xs) f = ap (λ b. b || some p xs) (f 0 (omega arith)) ∙ none_at xs (λ i h. f (suc i) (omega arith))

module _ (ring : Bool) (r : List (List ℕ)) (w : List ℕ) (n : ℕ) (ss : List (List ℕ)) (ps : List Prefix) (h : Holds ring r w n ss ps)
    (s : List ℕ) where
  -- a place was found: the standing is kept
  pub found_kept : (p : ℕ) → Place (standing_at ring r w) n s (Some p) → some (same s) ss ≡ true
  found_kept p place =
      some_at (same s) ss p (omega (arith, place.0, h.standings_count))
      (ap (λ t. same s t) (sym (h.standing p place.0) ∙ place.1) ∙ same_self s)

  -- none was found: it is not
  pub none_kept : Place (standing_at ring r w) n s None → some (same s) ss ≡ false
  none_kept place =
      none_at (same s) ss
      (λ i k.
      false_of_not (same s (get_or ss i []))
      (λ z.
      place i (omega (arith, h.standings_count))
      (h.standing i (omega (arith, h.standings_count)) ∙ sym (same_is_equal s (get_or ss i []) z))))
