-- The postfixes behind a factor, as a loop reads them: each wraps the tree before it, whichever that is.
-- Assumes nothing.
use Prim.Native.Nat.{ℕ, zero, suc, ◌+◌, ◌*◌, ◌-◌, ◌≤◌, ◌<◌}
use native.Mathlib.Omega.{arith}
use mathlib.Core.Path.{◌≡◌, refl, sym, ap, ◌∙◌}
use mathlib.Core.Bool.{false}
use mathlib.Core.List.{List, [], ◌∷◌, ◌++◌, append-nil, append_assoc}
use lib.ListN.{length, drop, set, length-append}
use lib.Seq.{sets}
use Rattle.claims.specs.Bytes.{byte}
use Rattle.claims.specs.Tokens.{Token, tokens}
use Rattle.claims.specs.Grammar.{Found, got, wrong, deep, and_then, goes_on, past, postfix_more, postfix_of, factor_of}
use Rattle.claims.specs.Tree.{Tree, star, plus, opt}
use Rattle.claims.specs.Names.{tree_uses}
use Rattle.codes.specs.Codes.{STAR, PLUS, OPTIONAL, tree_codes}
use Rattle.read_tokens.proofs.Tokens.{ScannedMark}
use Rattle.std.specs.Prelude.{Some, None, Result, Ok, Err}
use Rattle.read_tests.specs.declared.Place.{Place}
use Rattle.read_exprs.specs.declared.Sign.{Sign}
use Rattle.read_tests.specs.declared.Fault.{Fault}
use Rattle.read_next.specs.Next.{mark_next}
use Rattle.read_tests.specs.Places.{Room, Read, TreeOutcome, Finds}
use Rattle.read_exprs.specs.inner.Postfix.{Wraps, SignStands, SignNext, PostfixesNext}
use Rattle.read_next.proofs.Stores.{stores_then}
use Rattle.read_tests.proofs.Told.{told_store, told_as}
use Rattle.read_next.proofs.Next.{mark_stands, mark_missing, goes_on_lem, passed, one_fewer}
use Rattle.read_tests.proofs.Outcomes.{handed_on}

-- a postfix with its mark b and its code c stands next
module _ (s : List ℕ) (at b next c : ℕ) (w : Tree → Tree) (ws : Wraps w (c ∷ [])) (m : ScannedMark s at b next)
    (step : (f d : ℕ) (e : Tree) → postfix_more (suc f) d e (tokens (drop at s)) ≡ postfix_more f d (w e) (past (tokens (drop at s)))) where
  sign_stands : SignStands s at (record { at = next; code = c })
  sign_stands =
      record {
        wrapped = w;
        wraps = ws;
        read = λ f d e. step f d e ∙ ap (λ ts. postfix_more f d (w e) ts) (passed s at b next m);
        after = m.after;
        within = m.within;
        fewer = omega (arith, one_fewer s at b next m);
      }

-- the tests in the order in which they are made
module _ (s : List ℕ) (at : ℕ) where
  pub sign_star : (i : ℕ) → Some i ≡ mark_next s at (byte "*") → SignStands s at (record { at = i; code = STAR })
  unfolding postfix_more tree_codes tree_uses
  sign_star i h =
      let m = mark_stands s at (byte "*") i h in
      sign_stands s at (byte "*") i STAR star (record { codes = λ q e. refl; uses = λ e. refl }) m
      (λ f d e. rw (goes_on_lem s at (byte "*") i m, postfix_more))

  module _ (no : None ≡ mark_next s at (byte "*")) where
    no_star : goes_on (byte "*") (tokens (drop at s)) ≡ false
    no_star = mark_missing s at (byte "*") no

    pub sign_plus : (i : ℕ) → Some i ≡ mark_next s at (byte "+") → SignStands s at (record { at = i; code = PLUS })
    unfolding postfix_more tree_codes tree_uses
    sign_plus i h =
        let m = mark_stands s at (byte "+") i h in
        sign_stands s at (byte "+") i PLUS plus (record { codes = λ q e. refl; uses = λ e. refl }) m
        (λ f d e. rw (no_star, goes_on_lem s at (byte "+") i m, postfix_more))

    module _ (nor : None ≡ mark_next s at (byte "+")) where
      no_plus : goes_on (byte "+") (tokens (drop at s)) ≡ false
      no_plus = mark_missing s at (byte "+") nor

      pub sign_opt : (i : ℕ) → Some i ≡ mark_next s at (byte "?") → SignStands s at (record { at = i; code = OPTIONAL })
      unfolding postfix_more tree_codes tree_uses
      sign_opt i h =
          let m = mark_stands s at (byte "?") i h in
          sign_stands s at (byte "?") i OPTIONAL opt (record { codes = λ q e. refl; uses = λ e. refl }) m
          (λ f d e. rw (no_star, no_plus, goes_on_lem s at (byte "?") i m, postfix_more))

      pub sign_none : None ≡ mark_next s at (byte "?") → SignNext s at None
      unfolding postfix_more
      sign_none h f d e = rw (no_star, no_plus, mark_missing s at (byte "?") h, postfix_more)

-- the postfixes up to `at` were read, and their codes stored
pub record Wrapping (s : List ℕ) (p : Place) (before : List ℕ) (at used : ℕ) (now : List ℕ) : Type 0 where
  pub wrapped : Tree → Tree
  pub codes : List ℕ
  pub wraps : Wraps wrapped codes
  pub reads : (f d : ℕ) (e : Tree) → 8 * length (tokens (drop p.at s)) + 1 ≤ f
      → (g : ℕ) × (8 * length (tokens (drop at s)) + 1 ≤ g)
      × (postfix_more f d e (tokens (drop p.at s)) ≡ postfix_more g d (wrapped e) (tokens (drop at s)))
  pub written : now ≡ sets before p.used codes
  pub count : used ≡ p.used + length codes
  pub onward : p.at ≤ at
  pub within : p.at ≤ length s → at ≤ length s
  pub room : used + (length s - at) ≤ p.used + (length s - p.at)
  pub fewer : length (tokens (drop at s)) ≤ length (tokens (drop p.at s))

module _ (s : List ℕ) (p : Place) (before : List ℕ) where
  pub wrapping_start : Wrapping s p before p.at p.used before
  wrapping_start =
      record {
        wrapped = λ e. e;
        codes = [];
        wraps = record { codes = λ q e. sym (append-nil (tree_codes q e)); uses = λ e. refl };
        reads = λ f d e h. (f, h, refl);
        written = refl;
        count = omega arith;
        onward = omega arith;
        within = λ h. h;
        room = omega arith;
        fewer = omega arith;
      }

  module _ (at used : ℕ) (now : List ℕ) (w : Wrapping s p before at used now) where
    pub wrapping_end : SignNext s at None → PostfixesNext s p before now (record { at = at; used = used; slip = p.slip })
    wrapping_end none =
        record {
          wrapped = w.wrapped;
          codes = w.codes;
          wraps = w.wraps;
          read = λ f d e h. let (g, m, i) = w.reads f d e h in i ∙ ends g d (w.wrapped e) m;
          written = w.written;
          used = w.count;
          slip = refl;
          onward = w.onward;
          within = w.within;
          room = w.room;
          fewer = w.fewer;
        }
      where
        ends : (g d : ℕ) (e : Tree) → 8 * length (tokens (drop at s)) + 1 ≤ g → postfix_more g d e (tokens (drop at s)) ≡ got e (tokens (drop at s))
        ends zero d e m = absurd (omega arith)
        ends (suc g) d e m = none g d e

    module _ (r : Sign) (stands : SignStands s at r) where
      pub sign_room : p.used + (length s - p.at) ≤ 4096 → used < 4096
      sign_room h = let t = stands in omega (arith, t.after, t.within, w.room)

      pub sign_onward : length s - r.at < length s - at
      sign_onward = let t = stands in omega (arith, t.after, t.within)

      pub wrapping_more : Wrapping s p before r.at (used + 1) (set now used r.code)
      wrapping_more =
          record {
            wrapped = λ e. stands.wrapped (w.wrapped e);
            codes = w.codes ++ (r.code ∷ []);
            wraps =
                record {
                  codes =
                      λ q e. stands.wraps.codes q (w.wrapped e) ∙ ap (λ l. l ++ (r.code ∷ [])) (w.wraps.codes q e)
                      ∙ append_assoc (tree_codes q e) w.codes (r.code ∷ []);
                  uses = λ e. stands.wraps.uses (w.wrapped e) ∙ w.wraps.uses e;
                };
            reads =
                λ i d e h.
                let (g, m, z) = w.reads i d e h in
                goes g d (w.wrapped e) m (postfix_more i d e (tokens (drop p.at s))) z;
            written = stores_then before p.used w.codes (r.code ∷ []) now (set now used r.code) used w.written w.count refl;
            count = omega (arith, w.count, length-append w.codes (r.code ∷ []));
            onward = omega (arith, w.onward, stands.after);
            within = λ h. stands.within;
            room = omega (arith, w.room, stands.after, stands.within);
            fewer = omega (arith, w.fewer, stands.fewer);
          }
        where
          goes : (g d : ℕ) (e : Tree) → 8 * length (tokens (drop at s)) + 1 ≤ g → (x : Found Tree) → x ≡ postfix_more g d e (tokens (drop at s))
              → (i : ℕ) × (8 * length (tokens (drop r.at s)) + 1 ≤ i) × (x ≡ postfix_more i d (stands.wrapped e) (tokens (drop r.at s)))
          goes zero d e m x z = absurd (omega arith)
          goes (suc g) d e m x z = (g, omega (arith, stands.fewer), z ∙ stands.read g d e)

-- a factor, and then its postfixes
postfix_step : (n d : ℕ) (ts : List Token) → postfix_of (suc n) d ts ≡ and_then (factor_of n d ts) (λ e us. postfix_more n d e us)
unfolding postfix_of
postfix_step n d ts = refl

-- the factor's answer x makes the answer y
through : (d : ℕ) (ts : List Token) (x y : Found Tree) → Finds factor_of d 1 ts x
    → ((n : ℕ) → 8 * length ts + 1 ≤ n → and_then x (λ e us. postfix_more n d e us) ≡ y) → Finds postfix_of d 2 ts y
through d ts x y h k zero l = absurd (omega arith)
through d ts x y h k (suc n) l =
    postfix_step n d ts ∙ ap (λ z. and_then z (λ e us. postfix_more n d e us)) (h n (omega arith)) ∙ k n (omega arith)

-- the ways out, over the answers of the functions that are called
module _ (d : ℕ) (s names : List ℕ) (n : ℕ) (p : Place) (before mid : List ℕ) where
  abbrev Factor : Result Place Fault → Type 0
  Factor = TreeOutcome (Finds factor_of d 1) s names n p before mid

  pub postfix_fault : (e : Fault) → Factor (Err e) → TreeOutcome (Finds postfix_of d 2) s names n p before mid (Err e)
  postfix_fault e o =
      handed_on Factor (TreeOutcome (Finds postfix_of d 2) s names n p before mid)
      (λ h. (through d (tokens (drop p.at s)) wrong wrong h.0 (λ m l. refl), h.1))
      (λ h. (through d (tokens (drop p.at s)) deep deep h.0 (λ m l. refl), h.1))
      e o

  module _ (r : Place) (there : Read (Finds factor_of d 1) tree_codes tree_uses s names n p before mid r) where
    pub postfix_room : Room s p → Room s r
    postfix_room h = let v = there.moved in omega (arith, v.room)

    pub postfix_got : (after : List ℕ) (e : Place) → PostfixesNext s r mid after e → TreeOutcome (Finds postfix_of d 2) s names n p before after (Ok e)
    postfix_got after e w =
        let t = there.tree in
        let v = there.moved in
        record {
          tree = w.wrapped t;
          read =
              through d (tokens (drop p.at s)) (got t (tokens (drop r.at s))) (got (w.wrapped t) (tokens (drop e.at s)))
              there.read (λ m l. w.read m d t (omega (arith, v.fewer)));
          moved =
              record {
                onward = omega (arith, v.onward, w.onward);
                within = w.within v.within;
                room = omega (arith, v.room, w.room);
                fewer = omega (arith, v.fewer, w.fewer);
              };
          told =
              λ q known. told_as q p before after e (tree_codes q t ++ w.codes) (tree_uses t)
              (told_store q p before mid r (tree_codes q t) (tree_uses t) (there.told q known) after e w.codes w.slip w.written w.used)
              (tree_codes q (w.wrapped t)) (tree_uses (w.wrapped t)) (sym (w.wraps.codes q t)) (sym (w.wraps.uses t));
        }
