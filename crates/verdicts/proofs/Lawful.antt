-- What the search and the sheet check rest on in a kind of standing, and that path and ring standings have it. Their equality tests
-- are equality; where no left occurrence is possible none is after any letter, and no word is completed; atoms stand in rising order.
-- The reason for the second: occurrences and ends are sought with `some` over those that may have just been read.
-- Assumes nothing.
use Prim.Native.Nat.{ℕ, suc, ◌<◌}
use mathlib.Core.Path.{◌≡◌, refl, sym, ap, ap₂, subst}
use mathlib.Core.Bool.{Bool, true, false, not, cond, ◌&&◌, beq, true≢false}
use mathlib.Core.List.{List, [], ◌∷◌}
use lib.Dec.{eqb}
use borrow.Author.Tests.{eqb-true, eq-eqb}
use Rattle.kat.specs.Expr.{Expr}
use Rattle.kat.specs.Lists.{upto, member, is_empty, In, here, there}
use Rattle.kat.specs.Tables.{occurrences, reads, null, after, ends}
use Rattle.kat.proofs.Sets.{filter_in, member_in, filter_none}
use Rattle.kat.proofs.Bools.{and_left, and_right, and_both}
use Rattle.notation.specs.Bytes.{same}
use Rattle.notation.proofs.Results.{same_is_equal, same_self}
use Rattle.notation.specs.Query.{Query, atoms, removed, live}
use Rattle.notation.specs.Sides.{Decision, decision}
use Rattle.notation.specs.Tree.{Claim, includes, empty, irreflexive}
use Rattle.verdicts.specs.Standings.{refuting_atoms, Path, path_step, path_finals, path_system, Ring, ring_step, ring_finals, covered, same_rows, ring_system}
use Rattle.verdicts.proofs.Pairwise.{pairwise_filter, rising_upto}
use Rattle.verdicts.specs.Orders.{Rising}
use Rattle.verdicts.specs.Lawful.{Lawful}

-- the tests of lists are equality
rows_sound : (xs ys : List (List ℕ)) → same_rows xs ys ≡ true → xs ≡ ys
rows_sound [] [] e = refl
rows_sound [] (y ∷ ys) e = absurd (true≢false (sym e))
rows_sound (x ∷ xs) [] e = absurd (true≢false (sym e))
rows_sound (x ∷ xs) (y ∷ ys) e =
    ap₂ ◌∷◌ (same_is_equal x y (and_left (same x y) (same_rows xs ys) e)) (rows_sound xs ys (and_right (same x y) (same_rows xs ys) e))

rows_self : (xs : List (List ℕ)) → same_rows xs xs ≡ true
rows_self [] = refl
rows_self (x ∷ xs) = and_both (same_self x) (rows_self xs)

pub beq_sound : (a b : Bool) → beq a b ≡ true → a ≡ b
beq_sound true true e = refl
beq_sound true false e = sym e
beq_sound false true e = e
beq_sound false false e = refl

beq_self : (a : Bool) → beq a a ≡ true
beq_self true = refl
beq_self false = refl

pub and-false : (a : Bool) → (a && false) ≡ false
and-false true = refl
and-false false = refl

empty_nil : (l : List ℕ) → not (is_empty l) ≡ false → l ≡ []
empty_nil [] e = refl
empty_nil (x ∷ xs) e = absurd (true≢false e)

-- where nothing may have just been read, nothing may be read, and no word may end
none_after : (E : Expr) (P : List ℕ) (a r : ℕ) → not (is_empty P) ≡ false → not (is_empty (after E P a r)) ≡ false
unfolding after
none_after E P a r e =
    rw (empty_nil P e, filter_none (λ q. reads E 0 q r && false) (upto 1 (suc (occurrences E))) (λ q. and-false (reads E 0 q r))) refl

none_ends : (E : Expr) (P : List ℕ) (a : ℕ) → not (is_empty P) ≡ false → ends E P a ≡ false
unfolding ends
none_ends E P a e = rw (empty_nil P e) refl

alone_rises : (D : Decision) → Rising D.live → Rising (refuting_atoms D)
unfolding refuting_atoms
alone_rises D h = pairwise_filter ◌<◌ (λ a. null D.left a && not (null D.right a)) D.live h

alone_lives : (D : Decision) (a : ℕ) → In a (refuting_atoms D) → In a D.live
unfolding refuting_atoms
alone_lives D a i = (filter_in (λ b. null D.left b && not (null D.right b)) D.live i).0

pub path_sound : (D : Decision) (s t : Path) → (path_system D).equal s t ≡ true → s ≡ t
path_sound D s t e =
    let p : s.P ≡ t.P = same_is_equal s.P t.P (and_left (same s.P t.P) (same s.S t.S) e) in
    let q : s.S ≡ t.S = same_is_equal s.S t.S (and_right (same s.P t.P) (same s.S t.S) e) in
    λ i. record { P = p i; S = q i }

pub path_self : (D : Decision) (s : Path) → (path_system D).equal s s ≡ true
path_self D s = and_both (same_self s.P) (same_self s.S)

path_ends_lem : (D : Decision) (s : Path) → not (is_empty s.P) ≡ false → path_finals D s ≡ []
unfolding path_finals
path_ends_lem D s e =
    filter_none (λ a. ends D.left s.P a && not (ends D.right s.S a)) D.live
    (λ a. ap (λ b. b && not (ends D.right s.S a)) (none_ends D.left s.P a e))

pub path_lawful : (D : Decision) → Rising D.live → Lawful (path_system D)
unfolding path_step path_finals
path_lawful D h =
    record {
      equal_sound = path_sound D;
      equal_self = path_self D;
      dead_stays = λ s l e. none_after D.left s.P l.atom l.relation e;
      dead_ends = path_ends_lem D;
      finals_rising = λ s. pairwise_filter ◌<◌ (λ a. ends D.left s.P a && not (ends D.right s.S a)) D.live h;
      finals_live = λ s a i. (filter_in (λ b. ends D.left s.P b && not (ends D.right s.S b)) D.live i).0;
      alone_rising = alone_rises D h;
      alone_live = alone_lives D;
      live_rising = h;
    }

pub ring_sound : (D : Decision) (s t : Ring) → (ring_system D).equal s t ≡ true → s ≡ t
ring_sound D s t e =
    let f : Bool = eqb s.first t.first in
    let z : Bool = beq s.Z t.Z in
    let p : Bool = same s.P t.P in
    let m : Bool = same_rows s.M t.M in
    let n : Bool = same_rows s.N t.N in
    let e₃ : (f && z && p && m) ≡ true = and_left (f && z && p && m) n e in
    let e₂ : (f && z && p) ≡ true = and_left (f && z && p) m e₃ in
    let e₁ : (f && z) ≡ true = and_left (f && z) p e₂ in
    let firsts : s.first ≡ t.first = eqb-true s.first t.first (and_left f z e₁) in
    let flags : s.Z ≡ t.Z = beq_sound s.Z t.Z (and_right f z e₁) in
    let reads : s.P ≡ t.P = same_is_equal s.P t.P (and_right (f && z) p e₂) in
    let ms : s.M ≡ t.M = rows_sound s.M t.M (and_right (f && z && p) m e₃) in
    let ns : s.N ≡ t.N = rows_sound s.N t.N (and_right (f && z && p && m) n e) in
    λ i. record { first = firsts i; Z = flags i; P = reads i; M = ms i; N = ns i }

pub ring_self : (D : Decision) (s : Ring) → (ring_system D).equal s s ≡ true
ring_self D s =
    and_both (and_both (and_both (and_both (eq-eqb s.first s.first refl) (beq_self s.Z)) (same_self s.P)) (rows_self s.M))
    (rows_self s.N)

-- a ring completes with its first atom or not at all
module _ (D : Decision) (s : Ring) where
  ring_ends : not (is_empty s.P) ≡ false → ring_finals D s ≡ []
  unfolding ring_finals
  ring_ends e = rw (none_ends D.left s.P s.first e, and-false (member s.first D.live)) refl

  ring_rises : Rising (ring_finals D s)
  unfolding ring_finals
  ring_rises = go (member s.first D.live && ends D.left s.P s.first && not (covered D s))
    where
      go : (b : Bool) → Rising (cond b (s.first ∷ []) [])
      go true = (λ y i. elim i [ ], tt)
      go false = tt

  ring_lives : (a : ℕ) → In a (ring_finals D s) → In a D.live
  unfolding ring_finals
  ring_lives a i = go (member s.first D.live) (ends D.left s.P s.first) (not (covered D s)) refl i
    where
      go : (m e n : Bool) → member s.first D.live ≡ m → In a (cond (m && e && n) (s.first ∷ []) []) → In a D.live
      go true true true h (here q) = subst (λ b. In b D.live) (sym q) (member_in s.first D.live h)
      go true true true h (there x12) = elim x12 [ ]
      go true true false h x8 = elim x8 [ ]
      go true false n h x5 = elim x5 [ ]
      go false e n h x'' = elim x'' [ ]

pub ring_lawful : (D : Decision) → Rising D.live → Lawful (ring_system D)
unfolding ring_step
ring_lawful D h =
    record {
      equal_sound = ring_sound D;
      equal_self = ring_self D;
      dead_stays = λ s l e. none_after D.left s.P l.atom l.relation e;
      dead_ends = ring_ends D;
      finals_rising = ring_rises D;
      finals_live = ring_lives D;
      alone_rising = alone_rises D h;
      alone_live = alone_lives D;
      live_rising = h;
    }

-- the atoms of a query rise, so that its decisions have the laws
pub live_rising : (q : Query) → Rising (live q)
unfolding live
live_rising q =
    pairwise_filter ◌<◌ (λ a. not (removed q a)) (upto 0 (atoms q)) (rising_upto 0 (atoms q))

pub decision_rising : (q : Query) (c : Claim) → Rising (decision q c).live
unfolding decision
decision_rising q (includes e f) = live_rising q
decision_rising q (empty e) = live_rising q
decision_rising q (irreflexive e) = live_rising q
