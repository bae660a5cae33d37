-- One letter behind a place: what the code computes from the memory is the candidate of the definition, wherever the memory keeps the entries.
-- Assumes nothing.
use Prim.Native.Nat.{ℕ, zero, suc, ◌+◌, ◌*◌, ◌-◌, ◌/◌, ◌%◌, ◌≤◌, ◌<◌}
use native.Mathlib.Omega.{arith}
use mathlib.Core.Path.{◌≡◌, refl, sym, ◌∙◌, ap, ap₂, subst}
use mathlib.Core.Logic.◌⊎◌.{inl}
use mathlib.Core.List.{List, [], ◌∷◌, ◌++◌, map-append}
use lib.ListN.{length, get_or, take, length-take, length-append, length-map, get_or-append}
use Rattle.kat.specs.Ring.{Prefix, then}
use Rattle.claims.specs.Standings.{Letter}
use Rattle.claims.specs.Search.{Entry}
use Rattle.search_standings.specs.declared.Shape.{Shape}
use Rattle.search_standings.specs.Systems.{width, begin_words, onward_words, word_system}
use Rattle.search_kinds.proofs.ByKind.{begin_length, onward_length}
use Rattle.search_store.specs.Store.{standing_at, standing_in, prefix_at}
use Rattle.search_store.proofs.Standing.{first_words}
use Rattle.search_grow.specs.Kept.{State, Inside, Seen, standings, prefixes, Keeps, Kept, grow, entry_of, words_behind, words_at, candidate, Adds}
use Rattle.search_grow.proofs.Adding.{adds_from}

module _ (k : Shape) (left right : List ℕ) (r : List (List ℕ)) (w : List ℕ) where
  -- by the place
  pub behind_nothing : (place : ℕ) (l : Letter) (to : List ℕ) → place ≡ 0 → to ≡ begin_words k left right l
      → to ≡ words_at k left right r w place l
  unfolding words_at
  behind_nothing place l to e h = rw e h

  behind_next : (i : ℕ) (l : Letter) (to from : List ℕ) → from ≡ standing_at k.ring r w i → to ≡ onward_words k left right from l
      → to ≡ words_at k left right r w (suc i) l
  unfolding words_at
  behind_next i l to from e h = h ∙ ap (λ s. onward_words k left right s l) e

  pub behind_standing : (place : ℕ) (l : Letter) (to from : List ℕ) → (place ≡ 0 → ⊥) → from ≡ standing_at k.ring r w (place - 1)
      → to ≡ onward_words k left right from l → to ≡ words_at k left right r w place l
  behind_standing zero l to from z e h = absurd (z refl)
  behind_standing (suc i) l to from z e h = behind_next i l to from (e ∙ ap (standing_at k.ring r w) before) h
    where
      before : suc i - 1 ≡ i
      before = omega arith

  -- it has as many words as a standing
  behind_length : (place : ℕ) (l : Letter) → length (words_at k left right r w place l) ≡ width k.ring
  unfolding words_at
  behind_length zero l = begin_length k left right l
  behind_length (suc i) l = onward_length k left right (standing_at k.ring r w i) l

  pub behind_words : (place : ℕ) (l : Letter) (to : List ℕ) → take (width k.ring) to ≡ words_at k left right r w place l
      → standing_in k.ring to ≡ words_at k left right r w place l
  unfolding standing_in
  behind_words place l to h =
      sym (first_words (width k.ring) to
      (omega (arith, length-take (width k.ring) to, ap length h, behind_length place l)))
      ∙ h

-- the numbers of a letter
pub letter_atom : (a r : ℕ) → r < 16 → (16 * a + r) / 16 ≡ a
letter_atom a r h = omega arith

pub letter_relation : (a r : ℕ) → r < 16 → (16 * a + r) % 16 ≡ r
letter_relation a r h = omega arith

module _ (k : Shape) (left right : List ℕ) where
  -- where the memory keeps the entries, it has the old ones' standings
  kept_words : (s : State) (old more : Seen k left right) (place : ℕ) (l : Letter) → place ≤ length old → Keeps k left right s (old ++ more)
      → words_at k left right s.records s.words place l ≡ words_behind k left right (standings k left right old) place l
  unfolding words_at words_behind
  kept_words s old more zero l h q = refl
  kept_words s old more (suc i) l h q =
      ap (λ t. onward_words k left right t l)
      (q.standing i (omega (arith, q.standings_count, length-map (old ++ more) (λ e. e.standing), length-append old more))
      ∙ ap (λ ss. get_or ss i []) (map-append (λ e. e.standing) old more)
      ∙ get_or-append (standings k left right old) (standings k left right more) [] i (omega (arith, length-map old (λ e. e.standing))))

  noted_entry : (old : Seen k left right) (place a r : ℕ) (ws : List ℕ) → r < 16
      → ws ≡ words_behind k left right (standings k left right old) place (record { atom = a; relation = r })
      → entry_of k left right old ws place (16 * a + r) ≡ candidate k left right old place (record { atom = a; relation = r })
  unfolding candidate
  noted_entry old place a r ws z e =
      ap₂ (λ t p. entry t (then (prefix_at (prefixes k left right old) place) p ((16 * a + r) % 16))) e (letter_atom a r z)
      ∙ ap (λ q. entry (words_behind k left right (standings k left right old) place (record { atom = a; relation = r }))
      (then (prefix_at (prefixes k left right old) place) a q)) (letter_relation a r z)
    where
      entry : List ℕ → Prefix → Entry (word_system k left right)
      entry t p = record { standing = t; prefix = p }

  -- the candidate that was noted
  pub offered : (cap : ℕ) (s t : State) (old : Seen k left right) (place a r : ℕ) (to : List ℕ) → place ≤ length old → r < 16
      → Inside k.ring cap s t
      → take (width k.ring) to ≡ words_at k left right s.records s.words place (record { atom = a; relation = r })
      → Adds k left right cap old s t (entry_of k left right old (standing_in k.ring to) place (16 * a + r) ∷ [])
      → Adds k left right cap old s t (candidate k left right old place (record { atom = a; relation = r }) ∷ [])
  offered cap s t old place a r to h z i e f =
      adds_from k left right cap old s t (candidate k left right old place (record { atom = a; relation = r }) ∷ []) i
      (λ more c q.
      subst (λ x. Kept k left right cap t (grow k left right (old ++ more) (x ∷ []))) (same more q) (f more (inl (c, q))))
    where
      same : (more : Seen k left right) → Keeps k left right s (old ++ more)
          → entry_of k left right old (standing_in k.ring to) place (16 * a + r)
          ≡ candidate k left right old place (record { atom = a; relation = r })
      same more q =
          noted_entry old place a r (standing_in k.ring to) z
          (behind_words k left right s.records s.words place (record { atom = a; relation = r }) to e
          ∙ kept_words s old more place (record { atom = a; relation = r }) h q)
