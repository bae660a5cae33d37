-- `search_writing::next_field` meets its contract: the field is put behind what is written, and its bytes are added to the place.
-- Assumes nothing.
use Prim.Native.Nat.{◌-◌}
use native.Mathlib.Omega.{arith}
use lib.ListN.{length, drop, length-take, length-drop}
use Rattle.search_store.specs.Store.{standing_at}
use Rattle.search_contents.specs.FieldWords.{field_words}
use Rattle.search_contents.proofs.Written.{part_written}
use Rattle.search_writing.proofs.Turns.{fields_next, fields_last}
use borrow.Author.Rules.{rules}
use Rattle.search_writing.proofs.next_field.Goals as goal

pub put_kept-more-requires : goal.put_kept-more-requires
put_kept-more-requires c =
    let s = c in
    let a = s.args in record { i_in_bounds = (λ e. omega (arith, s.requires.0 e)); ring_in_bounds = omega (arith, length-take (length a.buffer.now - a.to) (drop a.to a.buffer.now), length-drop a.to a.buffer.now) }

pub returns-then-i-n : goal.returns-then-i-n
returns-then-i-n c =
    let a = c.args in
    let p = c.put_kept-more in
    λ r b₀ e h.
    let bs = field_words a.ring (standing_at a.ring r a.words.now a.i) in
    let put = part_written a.to bs a.buffer.now p.new.out (omega arith) (p.ensures.1 r e) in
    fields_next _ r _ _ _ _ _ _ _ _ _ h p.ensures.0 put c.if-i-n.true c.looking.ensures

pub returns : goal.returns
returns c =
    let a = c.args in
    let p = c.put_kept-more in
    λ r b₀ e h.
    let bs = field_words a.ring (standing_at a.ring r a.words.now a.i) in
    let put = part_written a.to bs a.buffer.now p.new.out (omega arith) (p.ensures.1 r e) in
    fields_last _ r _ _ _ _ _ _ _ _ _ h p.ensures.0 put c.if-i-n.false c.ended.ensures
