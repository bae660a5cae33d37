-- `search_fields::put_ring` meets its contract: header, first atom, Z, P and the rows of M and N one behind the other are the field.
-- Assumes nothing.
use native.Mathlib.Omega.{arith}
use mathlib.Core.Path.{◌∙◌, ap}
use mathlib.Core.Bool.{true, false}
use lib.ListN.{get_or}
use Rattle.claims.specs.Fields.{big_endian}
use Rattle.claims.proofs.Bytes.{big_endian_length}
use Rattle.search_contents.specs.Written.{written}
use Rattle.search_contents.specs.FieldWords.{rows_bytes}
use Rattle.search_contents.proofs.Fields.{laid_header, laid_next, table_length, ring_put}
use borrow.Author.Rules.{rules}
use Rattle.search_fields.proofs.put_ring.Goals as goal

pub returns : goal.returns
returns c =
    let a = c.args in
    let header = c.put_header-contents in
    let first = c.put_big_endian-flag in
    let flag = c.put_big_endian-left in
    let left = c.put_big_endian-table_m in
    let below = c.put_rows-table_n in
    let above = c.put_rows in
    let w = get_or a.s.now 32 0 in
    let z = get_or a.s.now 33 0 in
    let p = get_or a.s.now 0 0 in
    let h = laid_header 3 266 header.result a.out.now header.new.out header.ensures in
    let i = laid_next (big_endian 1 w) first.new.out 1 first.result h first.ensures.1 (big_endian_length 1 w) first.ensures.0 in
    let j = laid_next (big_endian 1 z) flag.new.out 1 flag.result i flag.ensures.1 (big_endian_length 1 z) flag.ensures.0 in
    let k = laid_next (big_endian 8 p) left.new.out 8 left.result j left.ensures.1 (big_endian_length 8 p) left.ensures.0 in
    let m = laid_next (rows_bytes false a.s.now) below.new.out 128 below.result k below.ensures.1 (table_length false a.s.now) below.ensures.0 in
    let n = laid_next (rows_bytes true a.s.now) above.new.out 128 above.result m above.ensures.1 (table_length true a.s.now) above.ensures.0 in
    (omega arith, n.put ∙ ap (λ bs. written bs a.out.now) (ring_put a.s.now))
