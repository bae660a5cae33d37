-- Whether the rest of a word completes a refuting word, two bytes at a time: where an atom is not live it does not; the last atom decides.
-- Assumes nothing.
use Prim.Native.Nat.{ℕ, ◌+◌, ◌-◌, ◌^◌, ◌≤◌, ◌<◌}
use native.Mathlib.Omega.{arith}
use mathlib.Core.Path.{◌≡◌, sym, ◌∙◌, ap}
use mathlib.Core.Logic.{⊎_elim}
use mathlib.Core.Bool.{Bool, true, false, not, ◌&&◌}
use mathlib.Core.List.{List}
use lib.ListN.{length, get_or, drop, drop_of_length-le, get_or-eq_default}
use Rattle.kat.specs.Lists.{member, filter}
use Rattle.kat.specs.Word.{end, at}
use Rattle.kat.proofs.Bools.{and_left, and_right, and_both, bool_ext, lt_or_le}
use Rattle.kat.proofs.Sets.{member_in, in_member, in_filter, filter_in}
use Rattle.claims.specs.Query.{bit}
use Rattle.claims.specs.Passing.{completes, refuting}
use Rattle.claims.specs.Standings.{Letter, System}
use Rattle.bits.specs.Sets.{members}
use Rattle.bits.proofs.Members.{member_bit}
use Rattle.standings.specs.Steps.{null_at, alone_words}
use Rattle.sheet_standings.specs.CellSystem.{begin_cells, onward_cells, finals_cells, cell_system}
use Rattle.sheet_word.specs.ByteWords.{word_read}
use Rattle.sheet_word.proofs.WordsRead.{two_left, one_left}

-- the word that is left: a letter and more, or the last atom, which past the end is 0
letter_left : (bs : List ℕ) (i : ℕ) → 1 < length bs - i
    → word_read (drop i bs) ≡ at (get_or bs i 0) (get_or bs (i + 1) 0) (word_read (drop (i + 2) bs))
unfolding word_read
letter_left bs i h = ap word_read (two_left bs i h)

atom_left : (bs : List ℕ) (i : ℕ) → length bs - i ≤ 1 → word_read (drop i bs) ≡ end (get_or bs i 0)
unfolding word_read
atom_left bs i h =
    ⊎_elim (λ l. ap word_read (one_left bs i l h))
    (λ l. ap word_read (drop_of_length-le bs l) ∙ ap end (sym (get_or-eq_default bs 0 l))) (lt_or_le i (length bs))

module _ (ring : Bool) (n live relations : ℕ) (left right : List ℕ) (word : live < 2 ^ 64) where
  abbrev W : System
  W = cell_system ring n live relations left right

  -- a refuting word of length 0
  abbrev lonely : ℕ → Bool
  lonely a = null_at left a && not (null_at right a)

  alone_is : (a : ℕ) → member a (alone_words left right live) ≡ (bit a live && lonely a)
  unfolding alone_words
  alone_is a =
      bool_ext (member a (filter lonely (members live))) (bit a live && lonely a)
      (λ e. let (i, l) = filter_in lonely (members live) (member_in a (filter lonely (members live)) e) in
      and_both (sym (member_bit 64 live a word) ∙ in_member a i) l)
      (λ e. in_member a
      (in_filter lonely (member_in a (members live) (member_bit 64 live a word ∙ and_left (bit a live) (lonely a) e))
      (and_right (bit a live) (lonely a) e)))

  pub dead_alone : (a : ℕ) → bit a live ≡ false → member a (alone_words left right live) ≡ false
  dead_alone a e = alone_is a ∙ ap (λ b. b && lonely a) e

  pub no_left_alone : (a : ℕ) → bit a live ≡ true → null_at left a ≡ false → member a (alone_words left right live) ≡ false
  no_left_alone a e l = alone_is a ∙ ap (λ b. b && lonely a) e ∙ ap (λ b. b && not (null_at right a)) l

  pub left_alone : (a : ℕ) → bit a live ≡ true → null_at left a ≡ true → member a (alone_words left right live) ≡ not (null_at right a)
  left_alone a e l = alone_is a ∙ ap (λ b. b && lonely a) e ∙ ap (λ b. b && not (null_at right a)) l

  module _ (bs : List ℕ) (i : ℕ) where
    abbrev a : ℕ
    a = get_or bs i 0

    abbrev l : Letter
    l = record { atom = get_or bs i 0; relation = get_or bs (i + 1) 0 }

    module _ (t : List ℕ) where
      more : 1 < length bs - i
          → completes W t (word_read (drop i bs)) ≡ (bit a live && completes W (onward_cells ring n live relations left right t l)
          (word_read (drop (i + 2) bs)))
      unfolding completes
      more h =
          ap (completes W t) (letter_left bs i h)
          ∙ ap (λ b. b && completes W (onward_cells ring n live relations left right t l) (word_read (drop (i + 2) bs)))
          (member_bit 64 live a word)

      pub dead_stops : 1 < length bs - i → bit a live ≡ false → completes W t (word_read (drop i bs)) ≡ false
      dead_stops h e =
          more h ∙ ap (λ b. b && completes W (onward_cells ring n live relations left right t l) (word_read (drop (i + 2) bs))) e

      pub live_goes_on : (u : List ℕ) → 1 < length bs - i → bit a live ≡ true → u ≡ onward_cells ring n live relations left right t l
          → completes W u (word_read (drop (i + 2) bs)) ≡ completes W t (word_read (drop i bs))
      live_goes_on u h e q =
          sym (more h ∙ ap (λ b. b && completes W (onward_cells ring n live relations left right t l) (word_read (drop (i + 2) bs))) e
          ∙ ap (λ s. completes W s (word_read (drop (i + 2) bs))) (sym q))

      pub last_decides : length bs - i ≤ 1 → completes W t (word_read (drop i bs)) ≡ member a (finals_cells ring n live relations left right t)
      unfolding completes
      last_decides h = ap (completes W t) (atom_left bs i h)

  -- the whole word
  module _ (bs : List ℕ) where
    abbrev first : Letter
    first = record { atom = get_or bs 0 0; relation = get_or bs 1 0 }

    pub atom_refutes : length bs < 2 → refuting W (word_read bs) ≡ member (get_or bs 0 0) (alone_words left right live)
    unfolding refuting
    atom_refutes h = ap (refuting W) (atom_left bs 0 (omega arith))

    letter_refutes : 2 ≤ length bs
        → refuting W (word_read bs) ≡ (bit (get_or bs 0 0) live && completes W (begin_cells ring n live relations left right first)
        (word_read (drop 2 bs)))
    unfolding refuting
    letter_refutes h =
        ap (refuting W) (letter_left bs 0 (omega arith))
        ∙ ap (λ b. b && completes W (begin_cells ring n live relations left right first) (word_read (drop 2 bs)))
        (member_bit 64 live (get_or bs 0 0) word)

    pub dead_refutes : 2 ≤ length bs → bit (get_or bs 0 0) live ≡ false → refuting W (word_read bs) ≡ false
    dead_refutes h e =
        letter_refutes h ∙ ap (λ b. b && completes W (begin_cells ring n live relations left right first) (word_read (drop 2 bs))) e

    pub live_refutes : (s : List ℕ) → 2 ≤ length bs → bit (get_or bs 0 0) live ≡ true → s ≡ begin_cells ring n live relations left right first
        → completes W s (word_read (drop 2 bs)) ≡ refuting W (word_read bs)
    live_refutes s h e q =
        sym (letter_refutes h ∙ ap (λ b. b && completes W (begin_cells ring n live relations left right first) (word_read (drop 2 bs))) e
        ∙ ap (λ t. completes W t (word_read (drop 2 bs))) (sym q))
