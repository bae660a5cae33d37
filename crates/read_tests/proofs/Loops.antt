-- The loop that reads a chain, over the answers of the functions that it calls: one law for a turn, one for each way out.
-- Assumes nothing.
use Prim.Native.Nat.{ℕ, zero, suc, ◌+◌, ◌*◌, ◌-◌, ◌≤◌, ◌<◌}
use native.Mathlib.Omega.{arith}
use mathlib.Core.Path.{◌≡◌, refl, sym, ap, ◌∙◌}
use mathlib.Core.List.{List, ◌++◌}
use mathlib.Core.Option.{some}
use lib.ListN.{length, drop, replicate, length-replicate}
use lib.Seq.{sets}
use Rattle.claims.specs.Tokens.{tokens}
use Rattle.claims.specs.Grammar.{Found, got, wrong, deep, and_then}
use Rattle.claims.specs.Query.{Query}
use Rattle.read_names.specs.Keys.{Knows}
use Rattle.std.specs.Prelude.{Some, None, Result, Ok, Err}
use Rattle.read_tests.specs.declared.Place.{Place}
use Rattle.read_tests.specs.declared.Fault.{Fault}
use Rattle.read_next.specs.Next.{mark_next}
use Rattle.read_next.specs.Written.{used_after, written_after}
use Rattle.read_tests.specs.Places.{Room, Told, Read, ReaderOutcome, Finds}
use Rattle.read_tests.proofs.Told.{told_then, told_store, told_as}
use Rattle.read_next.proofs.Next.{mark_stands, mark_missing, goes_on_lem, passed, one_fewer}
use Rattle.read_next.proofs.Stores.{written_room}
use Rattle.read_tests.proofs.Outcomes.{handed_on}
use Rattle.read_tests.proofs.Chains.{Chain, Waiting, joined, left_codes, left_uses, joined_codes, joined_uses, goes_further, ends_here}

module _ {A : Type 0} {C : Chain A} {d k : ℕ} {s names : List ℕ} {n : ℕ} {p : Place} {before : List ℕ} {place : Place} {more : ℕ} {now : List ℕ}
    (w : Waiting C d k s names n p before place more now) (mid : List ℕ) where
  -- the operand's answer, and the chain's
  abbrev Operand : Result Place Fault → Type 0
  Operand = ReaderOutcome (Finds C.operand d k) C.codes C.uses s names n place now mid

  abbrev Whole : List ℕ → Result Place Fault → Type 0
  Whole = ReaderOutcome (Finds C.whole d (suc k)) C.codes C.uses s names n p before

  -- what the operand's reader finds makes what the chain's finds
  through : (y z : Found A) → ((f : ℕ) → and_then y (λ u us. C.more f d (joined C w.left u) us) ≡ z)
      → Finds C.operand d k (tokens (drop place.at s)) y → Finds C.whole d (suc k) (tokens (drop p.at s)) z
  through y z i h f l =
      let (g, m, e) = w.reads f l in
      e ∙ ap (λ v. and_then v (λ u us. C.more g d (joined C w.left u) us)) (h g m) ∙ i g

  pub loop_fault : (e : Fault) → Operand (Err e) → Whole mid (Err e)
  loop_fault e o =
      handed_on Operand (Whole mid) (λ h. (through wrong wrong (λ _. refl) h.0, h.1)) (λ h. (through deep deep (λ _. refl) h.0, h.1)) e o

  -- an operand was read from `place` to r
  module _ (r : Place) (there : Read (Finds C.operand d k) C.codes C.uses s names n place now mid r) where
    pub loop_onward : (c next : ℕ) → Some next ≡ mark_next s r.at c → length s - next < length s - place.at
    loop_onward c next e =
        let m = mark_stands s r.at c next e in
        let v = there.moved in
        omega (arith, m.after, m.within, v.onward)

    -- the operator that was owed is written behind it
    module _ (used : ℕ) (after : List ℕ) (room : Room s p)
        (writes : (used ≡ used_after r.used more) × (after ≡ written_after mid r.used more C.code)) where
      fits : r.used + more ≤ 4096
      fits = let v = there.moved in omega (arith, w.room, v.room, room)

      wrote : used ≡ r.used + more
      wrote = (written_room mid r.used more C.code used after writes fits).0

      stored : after ≡ sets mid r.used (replicate more C.code)
      stored = (written_room mid r.used more C.code used after writes fits).1

      abbrev whole : A
      whole = joined C w.left there.tree

      behind : (f : ℕ) → 8 * length (tokens (drop p.at s)) + suc k ≤ f
          → (g : ℕ) × (8 * length (tokens (drop r.at s)) + 8 + k ≤ g)
          × (C.whole f d (tokens (drop p.at s)) ≡ C.more g d whole (tokens (drop r.at s)))
      behind f l =
          let v = there.moved in
          let (g, m, e) = w.reads f l in
          (g, omega (arith, v.fewer), e ∙ ap (λ y. and_then y (λ u us. C.more g d (joined C w.left u) us)) (there.read g m))

      whole_told : (q : Query) → Knows names n q → (at : ℕ)
          → Told q p before after (record { at = at; used = used; slip = r.slip }) (C.codes q whole) (C.uses whole)
      whole_told q known at =
          let e : Place = record { at = at; used = used; slip = r.slip } in
          let t = there.tree in
          let parts = left_codes C q w.left ++ C.codes q t in
          let names' = left_uses C w.left ++ C.uses t in
          told_as q p before after e (parts ++ replicate more C.code) names'
          (told_store q p before mid r parts names'
          (told_then q p before now place (left_codes C q w.left) (left_uses C w.left) (w.told q known) mid r (C.codes q t) (C.uses t)
          (there.told q known))
          after e (replicate more C.code) refl stored (wrote ∙ ap (λ l. r.used + l) (sym (length-replicate more C.code))))
          (C.codes q whole) (C.uses whole)
          (ap (λ l. parts ++ replicate l C.code) w.owes ∙ joined_codes C w.laws q w.left t) (joined_uses C w.laws w.left t)

      pub loop_got : None ≡ mark_next s r.at C.sign → Whole after (Ok (record { at = r.at; used = used; slip = r.slip }))
      loop_got asked =
          let v = there.moved in
          record {
            tree = whole;
            read = λ f l. let (g, m, e) = behind f l in e ∙ ends g m;
            moved =
                record {
                  onward = omega (arith, w.onward, v.onward);
                  within = v.within;
                  room = omega (arith, w.room, v.room, wrote);
                  fewer = omega (arith, w.fewer, v.fewer);
                };
            told = λ q known. whole_told q known r.at;
          }
        where
          ends : (g : ℕ) → 8 * length (tokens (drop r.at s)) + 8 + k ≤ g
              → C.more g d whole (tokens (drop r.at s)) ≡ got whole (tokens (drop r.at s))
          ends zero m = absurd (omega arith)
          ends (suc g) m = ends_here w.laws g d whole (tokens (drop r.at s)) (mark_missing s r.at C.sign asked)

      pub loop_turn : (next : ℕ) → Some next ≡ mark_next s r.at C.sign → Waiting C d k s names n p before (record { at = next; used = used; slip = r.slip }) 1 after
      loop_turn next asked =
          let v = there.moved in
          let h = mark_stands s r.at C.sign next asked in
          record {
            laws = w.laws;
            left = some whole;
            owes = refl;
            reads = λ f l. let (g, m, e) = behind f l in goes g m (C.whole f d (tokens (drop p.at s))) e;
            told = λ q known. whole_told q known next;
            onward = omega (arith, w.onward, v.onward, h.after);
            room = omega (arith, w.room, v.room, wrote, h.after, h.within);
            fewer = omega (arith, w.fewer, v.fewer, one_fewer s r.at C.sign next h);
          }
        where
          goes : (g : ℕ) → 8 * length (tokens (drop r.at s)) + 8 + k ≤ g → (y : Found A) → y ≡ C.more g d whole (tokens (drop r.at s))
              → (i : ℕ) × (8 * length (tokens (drop next s)) + k ≤ i)
              × (y ≡ and_then (C.operand i d (tokens (drop next s))) (λ u us. C.more i d (C.join whole u) us))
          goes zero m y e = absurd (omega arith)
          goes (suc g) m y e =
              let h = mark_stands s r.at C.sign next asked in (
                g,
                omega (arith, one_fewer s r.at C.sign next h),
                e ∙ goes_further w.laws g d whole (tokens (drop r.at s)) (goes_on_lem s r.at C.sign next h)
                    ∙ ap (λ ts. and_then (C.operand g d ts) (λ u us. C.more g d (C.join whole u) us)) (passed s r.at C.sign next h),
              )
