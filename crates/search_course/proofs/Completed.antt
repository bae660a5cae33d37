-- What a level completes: the first of its entries that completes a refuting word, with its lowest atom, decides; where an entry completes none,
-- those behind it do.
-- Assumes nothing.
use Prim.Native.Nat.{ℕ, suc, ◌+◌, ◌≤◌, ◌<◌, ◌^◌}
use native.Mathlib.Omega.{arith}
use mathlib.Core.Path.{◌≡◌, refl, sym, ◌∙◌, ap, subst}
use mathlib.Core.Logic.{⊎_elim}
use mathlib.Core.Bool.{Bool, true, false, cond, not, ◌&&◌}
use mathlib.Core.List.{List, [], ◌∷◌}
use mathlib.Core.Option.{some, none}
use lib.ListN.{length, get_or, drop, drop_of_length-le, length-map, get_or-map}
use lib.Seq.{drop-cons}
use Rattle.kat.specs.Lists.{In, here, there}
use Rattle.kat.specs.Word.{end}
use Rattle.kat.specs.Ring.{nothing, onto}
use Rattle.kat.proofs.Bools.{true_not_false, and_left, lt_or_le}
use Rattle.claims.specs.Search.{Entry, completed}
use Rattle.claims.specs.Query.{bit}
use Rattle.bits.proofs.Bit.{bit_above}
use Rattle.search_standings.specs.declared.Shape.{Shape}
use Rattle.search_standings.specs.Systems.{finals_words, word_system}
use Rattle.search_standings.specs.PathWords.{path_finals, path_ends}
use Rattle.search_standings.specs.RingWords.{ring_finals, ring_covered}
use Rattle.standings.specs.Steps.{ends_set}
use Rattle.search_standings.specs.First.{first_or}
use Rattle.search_standings.proofs.First.{first_some, first_none, picked_below}
use Rattle.search_store.specs.Store.{standing_at, prefix_at}
use Rattle.search_grow.specs.Kept.{State, Seen, prefixes, Keeps}
use Rattle.search_course.specs.Answers.{word_at}

module _ (k : Shape) (left right : List ℕ) where
  -- the atoms that complete a word are below 64
  path_below : (live : ℕ) (s : List ℕ) (a : ℕ) → In a (path_finals left right live s) → a < 64
  unfolding path_finals
  path_below live s a i = picked_below (path_ends left right s) live a i

  ring_below : (n live : ℕ) → live < 2 ^ 64 → (s : List ℕ) (a : ℕ) → In a (ring_finals left right n live s) → a < 64
  unfolding ring_finals
  ring_below n live small s a i =
      go (bit (get_or s 32 0) live && ends_set left (get_or s 0 0) (get_or s 32 0) && not (ring_covered right n s))
      (λ e.
      and_left (bit (get_or s 32 0) live) (ends_set left (get_or s 0 0) (get_or s 32 0))
      (and_left (bit (get_or s 32 0) live && ends_set left (get_or s 0 0) (get_or s 32 0)) (not (ring_covered right n s)) e))
      i
    where
      live_below : bit (get_or s 32 0) live ≡ true → get_or s 32 0 < 64
      live_below e =
          ⊎_elim (λ l. l) (λ l. absurd (true_not_false e (bit_above 64 (get_or s 32 0) live small l))) (lt_or_le (get_or s 32 0) 64)

      go : (b : Bool) → (b ≡ true → bit (get_or s 32 0) live ≡ true) → In a (cond b (get_or s 32 0 ∷ []) []) → a < 64
      go true f (here e) = subst (λ x. x < 64) (sym e) (live_below (f refl))
      go true f (there j) = elim j [ ]
      go false f j = elim j [ ]

  by_kind : (b : Bool) → k.live < 2 ^ 64 → (s : List ℕ) (a : ℕ)
      → In a (elim b [ false ↦ path_finals left right k.live s | true ↦ ring_finals left right k.right k.live s ]) → a < 64
  by_kind true small s a i = ring_below k.right k.live small s a i
  by_kind false small s a i = path_below k.live s a i

  finals_below : k.live < 2 ^ 64 → (s : List ℕ) (a : ℕ) → In a (finals_words k left right s) → a < 64
  unfolding finals_words
  finals_below small s a i = by_kind k.ring small s a i

  -- an entry that completes a word, and one that does not
  completes_here : (e : Entry (word_system k left right)) (es : Seen k left right) (a : ℕ) (rest : List ℕ)
      → finals_words k left right e.standing ≡ a ∷ rest → completed (word_system k left right) (e ∷ es) ≡ some (onto e.prefix (end a))
  unfolding completed
  completes_here e es a rest h = rw (h, completed) refl

  completes_later : (e : Entry (word_system k left right)) (es : Seen k left right) → finals_words k left right e.standing ≡ []
      → completed (word_system k left right) (e ∷ es) ≡ completed (word_system k left right) es
  unfolding completed
  completes_later e es h = rw (h, completed) refl

  abbrev nowhere : Entry (word_system k left right)
  nowhere = record { standing = []; prefix = nothing }

  module _ (s : State) (seen : Seen k left right) (q : Keeps k left right s seen) (i : ℕ) (inside : i < s.count) where
    size : length seen ≡ s.count
    size = sym (length-map seen (λ e. e.standing)) ∙ q.standings_count

    split : drop i seen ≡ get_or seen i nowhere ∷ drop (i + 1) seen
    split = drop-cons seen i nowhere (omega (arith, size)) ∙ ap (λ j. get_or seen i nowhere ∷ drop j seen) next
      where
        next : suc i ≡ i + 1
        next = omega arith

    standing_of_lem : standing_at k.ring s.records s.words i ≡ (get_or seen i nowhere).standing
    standing_of_lem = q.standing i inside ∙ get_or-map (λ e. e.standing) seen i nowhere

    prefix_of : (get_or seen i nowhere).prefix ≡ prefix_at (prefixes k left right seen) (i + 1)
    unfolding prefix_at
    prefix_of = sym (get_or-map (λ e. e.prefix) seen i nowhere) ∙ ap (λ j. get_or (nothing ∷ prefixes k left right seen) j nothing) next
      where
        next : suc i ≡ i + 1
        next = omega arith

    pub hit_here : (a : ℕ) → a ≡ first_or 64 (finals_words k left right (standing_at k.ring s.records s.words i)) → a < 64
        → completed (word_system k left right) (drop i seen) ≡ some (word_at k left right seen (i + 1) a)
    hit_here a e small =
        let (rest, f) = first_some 64 (finals_words k left right (standing_at k.ring s.records s.words i)) (subst (λ x. x < 64) e small) in
        ap (completed (word_system k left right)) split
        ∙ completes_here (get_or seen i nowhere) (drop (i + 1) seen) a rest
        (ap (finals_words k left right) (sym standing_of_lem) ∙ f ∙ ap (λ x. x ∷ rest) (sym e))
        ∙ ap (λ p. some (onto p (end a))) prefix_of

    pub hit_later : k.live < 2 ^ 64 → (a : ℕ)
        → a ≡ first_or 64 (finals_words k left right (standing_at k.ring s.records s.words i)) → 64 ≤ a
        → completed (word_system k left right) (drop (i + 1) seen) ≡ completed (word_system k left right) (drop i seen)
    hit_later low a e large =
        sym (ap (completed (word_system k left right)) split
        ∙ completes_later (get_or seen i nowhere) (drop (i + 1) seen)
        (ap (finals_words k left right) (sym standing_of_lem)
        ∙ first_none 64 (finals_words k left right (standing_at k.ring s.records s.words i))
        (finals_below low (standing_at k.ring s.records s.words i)) (subst (λ x. 64 ≤ x) e large)))

  pub hit_none : (s : State) (seen : Seen k left right) → Keeps k left right s seen → (i : ℕ) → s.count ≤ i
      → completed (word_system k left right) (drop i seen) ≡ none
  unfolding completed
  hit_none s seen q i h =
      ap (completed (word_system k left right))
      (drop_of_length-le seen {i = i} (omega (arith, length-map seen (λ e. e.standing), q.standings_count)))
