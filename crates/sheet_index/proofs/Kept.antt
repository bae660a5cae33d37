-- The index kept: of no standings it is all zeros; one more is its slot's new head, with the old head behind it. And a lookup that follows
-- a slot: what is left of the standings has the same answer as all of them.
-- Assumes nothing.
use Prim.Native.Nat.{ℕ, zero, suc, ◌≤◌, ◌<◌}
use native.Mathlib.Omega.{arith}
use mathlib.Core.Path.{◌≡◌, refl, sym, ◌∙◌, ap}
use mathlib.Core.Logic.{⊎_elim}
use mathlib.Core.Bool.{Bool, true, false, not}
use mathlib.Core.List.{List, map}
use lib.Dec.{eqb}
use lib.ListN.{get_or, set, length-set, length-replicate, get_or-replicate}
use lib.Seq.{get_or-set_same, get_or-set_other}
use borrow.Author.Tests.{eq-eqb, ne_eqb, eqb-true}
use Rattle.std.specs.Prelude.{Option, Some, None}
use Rattle.std.specs.Option.{is_some}
use Rattle.std.proofs.Math.Bool.{not-not}
use Rattle.kat.specs.Lists.{upto, some}
use Rattle.kat.proofs.Bools.{lt_or_le, bool_ext}
use Rattle.bits.proofs.Lists.{some_map}
use Rattle.claims.specs.Bytes.{same}
use Rattle.claims.proofs.Results.{same_is_equal, same_self}
use Rattle.memory.specs.Memory.{zeros}
use Rattle.memory.proofs.Words.{same_or_not}
use Rattle.sheet_index.specs.Index.{last_where, numbered, slot_of, falls_into, Indexed}
use Rattle.sheet_index.proofs.Last.{last_hit, last_miss, last_below, last_passes, last_some, last_same, last_among}

-- of no standings
pub indexed_none : (listed : ℕ → List ℕ) → Indexed (zeros 8192) (zeros 4096) listed 0
unfolding zeros last_where
indexed_none listed =
    record {
      slots = length-replicate {A = ℕ} 8192 0;
      room = length-replicate {A = ℕ} 4096 0;
      head = λ h l. get_or-replicate {A = ℕ} 8192 h 0 0 l;
      link = λ i l. absurd (omega arith);
      unused = λ i n l. get_or-replicate {A = ℕ} 4096 i 0 0 l;
    }

-- a lookup of the cells c among n standings, at a place: it stands in the slot of the cells, or is none, and the last standing up to it that
-- has them is that of all
pub record Followed (listed : ℕ → List ℕ) (n : ℕ) (c : List ℕ) (place : ℕ) : Type 0 where
  pub within : place ≤ n
  pub falls : last_where (falls_into listed (slot_of c)) place ≡ place
  pub left : last_where (λ i. same (listed i) c) place ≡ last_where (λ i. same (listed i) c) n

module _ (heads chain : List ℕ) (listed : ℕ → List ℕ) (n : ℕ) (I : Indexed heads chain listed n) where
  -- one more: the slot's head is behind it, and it is the slot's head
  module _ (slot v : ℕ) (room : n < 4096) (s : slot ≡ slot_of (listed n)) (small : slot < 8192) (z : v ≡ suc n) where
    head_here : (h : ℕ) → h ≡ slot → get_or (set heads slot v) h 0 ≡ last_where (falls_into listed h) (suc n)
    unfolding falls_into
    head_here h e =
        ap (λ k. get_or (set heads slot v) k 0) e ∙ get_or-set_same heads slot v 0 (omega (arith, I.slots)) ∙ z
        ∙ sym (last_hit (falls_into listed h) n (eq-eqb (slot_of (listed n)) h (sym (e ∙ s))))

    head_other : (h : ℕ) → h < 8192 → (h ≡ slot → ⊥) → get_or (set heads slot v) h 0 ≡ last_where (falls_into listed h) (suc n)
    unfolding falls_into
    head_other h l d =
        get_or-set_other heads slot h v 0 d ∙ I.head h l
        ∙ sym (last_miss (falls_into listed h) n (ne_eqb (slot_of (listed n)) h (λ e. d (sym (s ∙ e)))))

    link_below : (i : ℕ) → i < n → get_or (set chain n (get_or heads slot 0)) i 0 ≡ last_where (falls_into listed (slot_of (listed i))) i
    link_below i l = get_or-set_other chain n i (get_or heads slot 0) 0 (λ e. omega arith) ∙ I.link i l

    link_here : (i : ℕ) → i ≡ n → get_or (set chain n (get_or heads slot 0)) i 0 ≡ last_where (falls_into listed (slot_of (listed i))) i
    link_here i e =
        ap (λ k. get_or (set chain n (get_or heads slot 0)) k 0) e
        ∙ get_or-set_same chain n (get_or heads slot 0) 0 (omega (arith, I.room)) ∙ I.head slot small
        ∙ ap (λ k. last_where (falls_into listed k) n) s ∙ sym (ap (λ k. last_where (falls_into listed (slot_of (listed k))) k) e)

    pub indexed_more : Indexed (set heads slot v) (set chain n (get_or heads slot 0)) listed (suc n)
    indexed_more =
        record {
          slots = length-set heads slot v ∙ I.slots;
          room = length-set chain n (get_or heads slot 0) ∙ I.room;
          head = λ h l. ⊎_elim (head_here h) (head_other h l) (same_or_not h slot);
          link = λ i l. ⊎_elim (link_below i) (λ k. link_here i (omega arith)) (lt_or_le i n);
          unused = λ i k l. get_or-set_other chain n i (get_or heads slot 0) 0 (λ e. omega arith) ∙ I.unused i (omega arith) l;
        }

  -- a lookup in a slot
  module _ (c : List ℕ) where
    -- standing i has the cells that are looked for
    abbrev has : ℕ → Bool
    has i = same (listed i) c

    has_falls : (i : ℕ) → has i ≡ true → falls_into listed (slot_of c) i ≡ true
    unfolding falls_into
    has_falls i e = eq-eqb (slot_of (listed i)) (slot_of c) (ap slot_of (same_is_equal (listed i) c e))

    -- the last in the slot below a place from where nothing was lost
    followed : (m place : ℕ) → place ≡ last_where (falls_into listed (slot_of c)) m → m ≤ n → last_where has m ≡ last_where has n
        → Followed listed n c place
    followed m place e l z =
        record {
          within = omega (arith, last_below (falls_into listed (slot_of c)) m);
          falls = ap (last_where (falls_into listed (slot_of c))) e
              ∙ last_among (falls_into listed (slot_of c)) (falls_into listed (slot_of c)) (λ i h. h) m ∙ sym e;
          left = ap (last_where has) e ∙ last_among (falls_into listed (slot_of c)) has has_falls m ∙ z;
        }

    pub follow_begin : (slot place : ℕ) → slot ≡ slot_of c → slot < 8192 → place ≡ get_or heads slot 0 → Followed listed n c place
    follow_begin slot place e l z =
        followed n place (z ∙ I.head slot l ∙ ap (λ k. last_where (falls_into listed k) n) e) (omega arith) refl

    -- the standing of the place is not it: the one before it in the slot, which is lower
    module _ (place i : ℕ) (F : Followed listed n c place) (e : place ≡ suc i) where
      here_falls : slot_of (listed i) ≡ slot_of c
      unfolding falls_into
      here_falls = eqb-true (slot_of (listed i)) (slot_of c) (last_passes (falls_into listed (slot_of c)) place i (F.falls ∙ e)).1

      link_falls : (next : ℕ) → next ≡ get_or chain i 0 → next ≡ last_where (falls_into listed (slot_of c)) i
      link_falls next z =
          z ∙ I.link i (omega (arith, F.within)) ∙ ap (λ k. last_where (falls_into listed k) i) here_falls

      pub follow_lower : (next : ℕ) → next ≡ get_or chain i 0 → next < place
      follow_lower next z = omega (arith, link_falls next z, last_below (falls_into listed (slot_of c)) i)

      pub follow_more : (next : ℕ) → has i ≡ false → next ≡ get_or chain i 0 → Followed listed n c next
      follow_more next miss z =
          followed i next (link_falls next z) (omega (arith, F.within))
          (sym (last_miss has i miss) ∙ ap (last_where has) (sym e) ∙ F.left)

      -- it is
      pub follow_found : has i ≡ true → Some i ≡ numbered (last_where has n)
      follow_found hit = ap numbered (sym (last_hit has i hit) ∙ ap (last_where has) (sym e) ∙ F.left)

    -- no standing of the slot is left
    pub follow_none : (place : ℕ) → Followed listed n c place → place ≡ 0 → None ≡ numbered (last_where has n)
    unfolding last_where
    follow_none place F e = ap numbered (ap (last_where has) (sym e) ∙ F.left)

-- the order of the two does not matter
pub same_turned : (m n : List ℕ) → same m n ≡ same n m
same_turned m n =
    bool_ext (same m n) (same n m) (λ e. ap (same n) (same_is_equal m n e) ∙ same_self n)
    (λ e. ap (same m) (same_is_equal n m e) ∙ same_self m)

-- a place has a number, and none exactly where it is 0
pub some_numbered : (k : ℕ) → is_some (numbered k) ≡ not (eqb k 0)
some_numbered zero = refl
some_numbered (suc k) = ap not (sym (ne_eqb (suc k) 0 (λ e. omega arith)))

pub none_numbered : (b : Bool) (k : ℕ) (found : Option ℕ) → not b ≡ is_some found → found ≡ numbered k → b ≡ eqb k 0
none_numbered b k found e f = sym (not-not b) ∙ ap not (e ∙ ap is_some f ∙ some_numbered k) ∙ not-not (eqb k 0)

-- a place is found where the cells are among those listed
pub listed_found : (listed : ℕ → List ℕ) (c : List ℕ) (n : ℕ)
    → not (eqb (last_where (λ i. same (listed i) c) n) 0) ≡ some (same c) (map listed (upto 0 n))
listed_found listed c n =
    ap (λ k. not (eqb k 0)) (last_same (λ i. same (listed i) c) (λ i. same c (listed i)) n (λ i h. same_turned (listed i) c))
    ∙ last_some (λ i. same c (listed i)) n ∙ sym (some_map listed (same c) (upto 0 n))
