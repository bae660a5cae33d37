-- `search_grow::note` meets its contract, by what becomes of the candidate.
-- Assumes nothing.
use Rattle.search_grow.proofs.Noting.{first_word, by_ring, ring_place, ring_records, ring_room, inside_appended, note_impossible, note_spent, note_found, note_over, note_kept}
use Rattle.search_grow.proofs.Adding.{inside_none, inside_count}
use Rattle.search_grow.specs.Kept.{state, Noted}
use Rattle.std.specs.Prelude.{Some, None}
use Rattle.search_store.specs.Store.{standing_in}
use Rattle.search_store.proofs.Standing.{place_some, place_none}
use Rattle.search_standings.specs.declared.Shape.{Shape}
use mathlib.Core.List.{List}
use mathlib.Core.Bool.{true}
use mathlib.Core.Path.{refl, sym, ◌∙◌}
use native.Mathlib.Omega.{arith}
use Prim.Native.Nat.{ℕ, ◌+◌}
use borrow.Author.Rules.{rules}
use Rattle.search_grow.proofs.note.Goals as goal

-- a standing on its way is noted, for every ring claim
abbrev Notes : ℕ → List ℕ → ℕ → List ℕ → ℕ → List ℕ → ℕ → ℕ → Shape → Type 0
Notes cap w n w' m s parent letter k =
    (left right : List ℕ) (rows : List (List ℕ)) → Noted k left right cap (state rows w n) (state rows w' m) (standing_in true s) parent letter

pub returns-then-s-eq0 : goal.returns-then-s-eq0
returns-then-s-eq0 c = let a = c.args in record {
  inside = λ rows. inside_none true a.cap (state rows a.words.now a.n) c.requires.2;
  noted = by_ring (Notes a.cap a.words.now a.n a.words.now a.n a.s.now a.parent a.letter)
      (λ x y z left right rows old low.
      note_impossible (record { ring = true; right = x; live = y; relations = z }) left right a.cap (state rows a.words.now a.n) old
      a.parent a.letter _ (first_word true _ ∙ c.if-s-eq0.true));
}

pub returns-then-cap-n : goal.returns-then-cap-n
returns-then-cap-n c = let a = c.args in record {
  inside = λ rows. inside_none true a.cap (state rows a.words.now a.n) c.requires.2;
  noted = by_ring (Notes a.cap a.words.now a.n a.words.now a.n a.s.now a.parent a.letter)
      (λ x y z left right rows old low.
      note_spent (record { ring = true; right = x; live = y; relations = z }) left right a.cap (state rows a.words.now a.n) old
      a.parent a.letter _ c.if-cap-n.true);
}

pub returns-then-is_some : goal.returns-then-is_some
returns-then-is_some c =
    let a = c.args in
    let f = place_some _ _ _ c.find.result (sym c.is_some.ensures ∙ c.if-is_some.true) c.find.ensures in record {
      inside = λ rows. inside_none true a.cap (state rows a.words.now a.n) c.requires.2;
      noted = by_ring (Notes a.cap a.words.now a.n a.words.now a.n a.s.now a.parent a.letter)
          (λ x y z left right rows old low.
          note_found (record { ring = true; right = x; live = y; relations = z }) left right a.cap (state rows a.words.now a.n) old
          a.parent a.letter _ f.0 (ring_place rows _ _ _ (Some f.0) f.1) (omega arith));
    }

pub returns-then-n-cap : goal.returns-then-n-cap
returns-then-n-cap c = let a = c.args in
    let f = place_none _ _ _ c.find.result (sym c.is_some.ensures ∙ c.if-is_some.false) c.find.ensures in
    let w = c.append.new.words in record {
      inside = λ rows.
          inside_appended true a.cap rows a.words.now a.n a.s.now a.parent a.letter rows w
          (ring_records rows a.n a.s.now a.parent a.letter) c.append.ensures (omega arith);
      noted = by_ring (Notes a.cap a.words.now a.n w (a.n + 1) a.s.now a.parent a.letter)
          (λ x y z left right rows old low.
          note_kept (record { ring = true; right = x; live = y; relations = z }) left right a.cap (state rows a.words.now a.n) old
          a.parent a.letter a.s.now (λ e. c.if-s-eq0.false (sym (first_word true _) ∙ e)) (ring_place rows _ _ _ None f) low
          (ring_room rows a.words.now (a.n + 1) (omega arith)) (omega arith) rows w
          (ring_records rows a.n a.s.now a.parent a.letter) c.append.ensures);
    }

pub returns : goal.returns
returns c = let a = c.args in
    let f = place_none _ _ _ c.find.result (sym c.is_some.ensures ∙ c.if-is_some.false) c.find.ensures in record {
      inside = λ rows.
          inside_count true a.cap (state rows a.words.now a.n) (state rows a.words.now (a.n + 1)) refl refl (omega arith) (omega arith);
      noted = by_ring (Notes a.cap a.words.now a.n a.words.now (a.n + 1) a.s.now a.parent a.letter)
          (λ x y z left right rows old low.
          note_over (record { ring = true; right = x; live = y; relations = z }) left right a.cap (state rows a.words.now a.n) old
          a.parent a.letter a.s.now (λ e. c.if-s-eq0.false (sym (first_word true _) ∙ e)) (ring_place rows _ _ _ None f) (omega arith));
    }
