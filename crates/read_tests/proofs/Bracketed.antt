-- A tree in brackets: what stands behind the opening mark, up to the closing one. Round brackets of tests and of expressions, and the
-- square ones of a test, are read alike.
-- Assumes nothing.
use Prim.Native.Nat.{ℕ, zero, suc, ◌+◌, ◌≤◌}
use native.Mathlib.Omega.{arith}
use mathlib.Core.Path.{◌≡◌, refl, sym, ap, ◌∙◌}
use mathlib.Core.Bool.{true, false}
use mathlib.Core.List.{List, ◌++◌}
use lib.ListN.{length, drop}
use lib.Seq.{sets}
use Rattle.claims.specs.Tokens.{Token, tokens}
use Rattle.claims.specs.Grammar.{Found, got, wrong, deep, and_then, goes_on, past, before_mark}
use Rattle.claims.specs.Names.{Use}
use Rattle.claims.specs.Query.{Query}
use Rattle.read_tokens.proofs.Tokens.{ScannedMark}
use Rattle.std.specs.Prelude.{Some, None, Result, Ok, Err}
use Rattle.read_tests.specs.declared.Place.{Place}
use Rattle.read_tests.specs.declared.Fault.{Fault}
use Rattle.read_next.specs.Next.{mark_next}
use Rattle.read_tests.specs.Places.{Room, Read, ReaderOutcome, Finds}
use Rattle.read_tests.proofs.Told.{told_store, told_as, told_from}
use Rattle.read_next.proofs.Next.{mark_stands, mark_missing, goes_on_lem, passed, one_fewer}
use Rattle.read_tests.proofs.Outcomes.{handed_on}

-- the reader `outer`, with `depth` brackets open, reads what `inner` reads between two marks, with `within` open
pub record Bracket (A B : Type 0) : Type 0 where
  pub outer : ℕ → ℕ → List Token → Found B
  pub inner : ℕ → ℕ → List Token → Found A
  pub depth : ℕ
  pub within : ℕ
  pub wrap : A → B
  pub opening : ℕ
  pub closing : ℕ
  pub extra : List ℕ
  pub inner_codes : Query → A → List ℕ
  pub outer_codes : Query → B → List ℕ
  pub inner_uses : A → List Use
  pub outer_uses : B → List Use
  pub opens : (n : ℕ) (ts : List Token) → goes_on opening ts ≡ true
      → outer (suc n) depth ts ≡ and_then (inner n within (past ts)) (λ t us. before_mark closing (wrap t) us)
  pub codes_wrap : (q : Query) (t : A) → outer_codes q (wrap t) ≡ inner_codes q t ++ extra
  pub uses_wrap : (t : A) → outer_uses (wrap t) ≡ inner_uses t

closed_by : {B : Type 0} (b : ℕ) (x : B) (ts : List Token) → goes_on b ts ≡ true → before_mark b x ts ≡ got x (past ts)
unfolding before_mark
closed_by b x ts h = rw (h, before_mark)

not_closed : {B : Type 0} (b : ℕ) (x : B) (ts : List Token) → goes_on b ts ≡ false → before_mark b x ts ≡ wrong
unfolding before_mark
not_closed b x ts h = rw (h, before_mark)

-- what stands behind the opening mark, as a place
abbrev pub behind : Place → ℕ → Place
behind p next = record { at = next; used = p.used; slip = p.slip }

-- the inner reader's answer x makes the outer one's answer y
through : {A B : Type 0} (K : Bracket A B) (s : List ℕ) (at next : ℕ) → ScannedMark s at K.opening next → (x : Found A) (y : Found B)
    → and_then x (λ t us. before_mark K.closing (K.wrap t) us) ≡ y → Finds K.inner K.within 4 (tokens (drop next s)) x
    → Finds K.outer K.depth 1 (tokens (drop at s)) y
through K s at next m x y e h zero l = absurd (omega arith)
through K s at next m x y e h (suc f) l =
    K.opens f (tokens (drop at s)) (goes_on_lem s at K.opening next m)
    ∙ ap (λ ts. and_then (K.inner f K.within ts) (λ t us. before_mark K.closing (K.wrap t) us)) (passed s at K.opening next m)
    ∙ ap (λ z. and_then z (λ t us. before_mark K.closing (K.wrap t) us)) (h f (omega (arith, one_fewer s at K.opening next m))) ∙ e

-- the ways out, over the answers of the functions that are called
module _ {A B : Type 0} (K : Bracket A B) (s names : List ℕ) (n : ℕ) (p : Place) (before : List ℕ) (next : ℕ)
    (asked : Some next ≡ mark_next s p.at K.opening) (mid : List ℕ) where
  abbrev Inner : Result Place Fault → Type 0
  Inner = ReaderOutcome (Finds K.inner K.within 4) K.inner_codes K.inner_uses s names n (behind p next) before mid

  abbrev Outer : List ℕ → Result Place Fault → Type 0
  Outer = ReaderOutcome (Finds K.outer K.depth 1) K.outer_codes K.outer_uses s names n p before

  opened : ScannedMark s p.at K.opening next
  opened = mark_stands s p.at K.opening next asked

  pub inner_fault : (e : Fault) → Inner (Err e) → Outer mid (Err e)
  inner_fault e o =
      handed_on Inner (Outer mid) (λ h. (through K s p.at next opened wrong wrong refl h.0, h.1))
      (λ h. (through K s p.at next opened deep deep refl h.0, h.1)) e o

  module _ (r : Place) (there : Read (Finds K.inner K.within 4) K.inner_codes K.inner_uses s names n (behind p next) before mid r) where
    pub inner_open : None ≡ mark_next s r.at K.closing → Finds K.outer K.depth 1 (tokens (drop p.at s)) wrong
    inner_open none =
        through K s p.at next opened (got there.tree (tokens (drop r.at s))) wrong
        (not_closed K.closing (K.wrap there.tree) (tokens (drop r.at s)) (mark_missing s r.at K.closing none))
        there.read

    pub inner_closed : (e : ℕ) → Some e ≡ mark_next s r.at K.closing → (after : List ℕ) (used : ℕ) → after ≡ sets mid r.used K.extra → used ≡ r.used + length K.extra
        → length K.extra ≤ 1 → Outer after (Ok (record { at = e; used = used; slip = r.slip }))
    inner_closed e ends after used a u l =
        let m = mark_stands s r.at K.closing e ends in
        let v = there.moved in
        let t = there.tree in
        let end : Place = record { at = e; used = used; slip = r.slip } in
        record {
          tree = K.wrap t;
          read =
              through K s p.at next opened (got t (tokens (drop r.at s))) (got (K.wrap t) (tokens (drop e s)))
              (closed_by K.closing (K.wrap t) (tokens (drop r.at s)) (goes_on_lem s r.at K.closing e m)
              ∙ ap (got (K.wrap t)) (passed s r.at K.closing e m)) there.read;
          moved =
              record {
                onward = omega (arith, opened.after, v.onward, m.after);
                within = m.within;
                room = omega (arith, opened.after, opened.within, v.room, v.within, m.after, m.within);
                fewer = omega (arith, one_fewer s p.at K.opening next opened, v.fewer, one_fewer s r.at K.closing e m);
              };
          told =
              λ q known. told_as q p before after end (K.inner_codes q t ++ K.extra) (K.inner_uses t)
              (told_store q p before mid r (K.inner_codes q t) (K.inner_uses t)
              (told_from q p next before mid r (K.inner_codes q t) (K.inner_uses t) (there.told q known)) after end K.extra refl a u)
              (K.outer_codes q (K.wrap t)) (K.outer_uses (K.wrap t)) (sym (K.codes_wrap q t)) (sym (K.uses_wrap t));
        }

    -- a code behind the inner tree has room, since the closing mark took a byte
    pub inner_room : (e : ℕ) → Some e ≡ mark_next s r.at K.closing → Room s p → r.used + 1 ≤ 4096
    inner_room e ends h =
        let m = mark_stands s r.at K.closing e ends in
        let v = there.moved in
        omega (arith, v.room, m.after, m.within, opened.after)
