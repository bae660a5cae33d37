-- The candidates in their order: letter by letter behind a place, atom by atom, place by place. The candidates behind place 0 are the first
-- level; those behind the places of a level are the next level.
-- Assumes nothing.
use Prim.Native.Nat.{ℕ, zero, suc, ◌+◌, ◌-◌, ◌≤◌, ◌<◌}
use native.Mathlib.Omega.{arith}
use mathlib.Core.Path.{◌≡◌, refl, sym, ◌∙◌, ap, ap₂}
use mathlib.Core.Bool.{Bool, true, false, cond}
use mathlib.Core.List.{List, [], ◌∷◌, ◌++◌, map}
use lib.Bits.{bit_and}
use lib.Count.{count_trailing_zeros}
use lib.ListN.{length, get_or, drop, drop_of_length-le, get_or-map}
use lib.Seq.{drop-cons}
use Rattle.kat.specs.Lists.{counted, upto, filter}
use Rattle.kat.specs.Ring.{nothing, then}
use Rattle.claims.specs.Standings.{Letter, letters_at, letters_of}
use Rattle.claims.specs.Search.{Entry, first_level, lengthened}
use Rattle.bits.specs.Sets.{members}
use Rattle.bits.proofs.Members.{number_none}
use Rattle.bits.proofs.Lowest.{Lowest}
use Rattle.search_standings.specs.declared.Shape.{Shape}
use Rattle.search_standings.specs.Systems.{onward_words, word_system}
use Rattle.search_standings.specs.Over.{next_level_over}
use Rattle.search_store.specs.Store.{prefix_at}
use Rattle.search_grow.specs.Masks.{tried}
use Rattle.search_grow.specs.Kept.{Seen, standings, prefixes, words_behind, candidate, candidates, candidates_of}

-- a range, from its lower end on
pub upto_more : (i e : ℕ) → i < e → upto i e ≡ i ∷ upto (i + 1) e
upto_more i e h = ap (counted i) longer ∙ ap (λ j. i ∷ counted j (e - (i + 1))) next
  where
    longer : e - i ≡ suc (e - (i + 1))
    longer = omega arith

    next : suc i ≡ i + 1
    next = omega arith

pub upto_none : (i e : ℕ) → e ≤ i → upto i e ≡ []
upto_none i e h = ap (counted i) empty
  where
    empty : e - i ≡ 0
    empty = omega arith

filter_append : {A : Type 0} (p : A → Bool) (xs ys : List A) → filter p (xs ++ ys) ≡ filter p xs ++ filter p ys
filter_append p [] ys = refl
filter_append p (x ∷ xs) ys = go (p x) (filter_append p xs ys)
  where
    go : (b : Bool) → filter p (xs ++ ys) ≡ filter p xs ++ filter p ys
        → cond b (x ∷ filter p (xs ++ ys)) (filter p (xs ++ ys)) ≡ cond b (x ∷ filter p xs) (filter p xs) ++ filter p ys
    go true e = ap (λ l. x ∷ l) e
    go false e = e

-- a letter
abbrev pub letter_of : ℕ → ℕ → Letter
letter_of a r = record { atom = a; relation = r }

-- the letters of one atom that are tried, from relation r on
abbrev pub rest_at : List ℕ → ℕ → ℕ → ℕ → List Letter
rest_at masks relations a r = filter (tried masks) (letters_at (upto r relations) a)

-- the letters of some atoms that are tried
abbrev pub rest_of : List ℕ → ℕ → ℕ → List Letter
rest_of masks relations atoms = filter (tried masks) (letters_of (members atoms) (upto 0 relations))

module _ (masks : List ℕ) (relations : ℕ) where
  pub rest_more : (a r : ℕ) → r < relations
      → rest_at masks relations a r ≡ filter (tried masks) (letter_of a r ∷ []) ++ rest_at masks relations a (r + 1)
  unfolding letters_at
  rest_more a r h =
      ap (λ rs. filter (tried masks) (map (letter_of a) rs)) (upto_more r relations h)
      ∙ filter_append (tried masks) (letter_of a r ∷ []) (map (letter_of a) (upto (r + 1) relations))

  pub rest_none : (a r : ℕ) → relations ≤ r → rest_at masks relations a r ≡ []
  unfolding letters_at
  rest_none a r h = ap (λ rs. filter (tried masks) (map (letter_of a) rs)) (upto_none r relations h)

  pub atoms_more : {s : ℕ} → Lowest 64 s
      → rest_of masks relations s ≡ rest_at masks relations (count_trailing_zeros 64 s) 0 ++ rest_of masks relations (bit_and s (s - 1))
  unfolding letters_of
  atoms_more {s} l =
      ap (λ as'. filter (tried masks) (letters_of as' (upto 0 relations))) l.members
      ∙ filter_append (tried masks) (letters_at (upto 0 relations) (count_trailing_zeros 64 s))
      (letters_of (members (bit_and s (s - 1))) (upto 0 relations))

  pub atoms_none : (s : ℕ) → s ≡ 0 → rest_of masks relations s ≡ []
  unfolding letters_of
  atoms_none s e =
      ap (λ t. filter (tried masks) (letters_of (members t) (upto 0 relations))) e
      ∙ ap (λ as'. filter (tried masks) (letters_of as' (upto 0 relations))) (number_none 0 64)

-- one letter is tried, or not
module _ (masks : List ℕ) (l : Letter) where
  pub is_tried : tried masks l ≡ true → filter (tried masks) (l ∷ []) ≡ l ∷ []
  is_tried h = ap (λ b. cond b (l ∷ []) []) h

  pub not_tried : tried masks l ≡ false → filter (tried masks) (l ∷ []) ≡ []
  not_tried h = ap (λ b. cond b (l ∷ []) []) h

module _ (k : Shape) (left right : List ℕ) (old : Seen k left right) (ls : List Letter) where
  pub places_more : (i e : ℕ) → i < e
      → candidates_of k left right old ls (upto i e) ≡ candidates k left right old i ls ++ candidates_of k left right old ls (upto (i + 1) e)
  unfolding candidates_of
  places_more i e h = ap (candidates_of k left right old ls) (upto_more i e h)

  pub places_none : (i e : ℕ) → e ≤ i → candidates_of k left right old ls (upto i e) ≡ []
  unfolding candidates_of
  places_none i e h = ap (candidates_of k left right old ls) (upto_none i e h)

module _ (k : Shape) (left right : List ℕ) where
  -- behind the empty prefix
  pub first_candidates : (old : Seen k left right) (ls : List Letter) → candidates k left right old 0 ls ≡ first_level (word_system k left right) ls
  unfolding candidate words_behind prefix_at first_level
  first_candidates old [] = refl
  first_candidates old (l ∷ ls) = ap (λ es. candidate k left right old 0 l ∷ es) (first_candidates old ls)

  abbrev nowhere : Entry (word_system k left right)
  nowhere = record { standing = []; prefix = nothing }

  -- behind entry i
  one_candidate : (old : Seen k left right) (i : ℕ) (e : Entry (word_system k left right)) (ls : List Letter)
      → get_or (standings k left right old) i [] ≡ e.standing → get_or (prefixes k left right old) i nothing ≡ e.prefix
      → candidates k left right old (suc i) ls ≡ lengthened (word_system k left right) e ls
  unfolding candidate words_behind prefix_at lengthened
  one_candidate old i e [] a b = refl
  one_candidate old i e (l ∷ ls) a b =
      ap₂ (λ s p. record { standing = onward_words k left right s l; prefix = then p l.atom l.relation } ∷ candidates k left right old (suc i) ls) a b
      ∙ ap (λ es. record { standing = onward_words k left right e.standing l; prefix = then e.prefix l.atom l.relation } ∷ es)
      (one_candidate old i e ls a b)

  pub next_candidates : (old : Seen k left right) (ls : List Letter) (d i : ℕ) → d ≡ length old - i
      → candidates_of k left right old ls (upto (i + 1) (length old + 1)) ≡ next_level_over (word_system k left right) ls (drop i old)
  unfolding next_level_over
  next_candidates old ls zero i h =
      places_none k left right old ls (i + 1) (length old + 1) (omega arith)
      ∙ sym (ap (next_level_over (word_system k left right) ls) (drop_of_length-le old {i = i} (omega arith)))
  next_candidates old ls (suc d) i h =
      places_more k left right old ls (i + 1) (length old + 1) (omega arith)
      ∙ ap₂ ◌++◌ here (next_candidates old ls d (i + 1) (omega arith))
      ∙ sym (ap (next_level_over (word_system k left right) ls) (drop-cons old i nowhere (omega arith) ∙ ap (λ j. get_or old i nowhere ∷ drop j old) next))
    where
      next : suc i ≡ i + 1
      next = omega arith

      here : candidates k left right old (i + 1) ls ≡ lengthened (word_system k left right) (get_or old i nowhere) ls
      here =
          ap (λ j. candidates k left right old j ls) (sym next)
          ∙ one_candidate old i (get_or old i nowhere) ls (get_or-map (λ e. e.standing) old i nowhere) (get_or-map (λ e. e.prefix) old i nowhere)
