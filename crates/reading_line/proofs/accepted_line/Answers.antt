-- `reading_line::accepted_line` meets its contract. One piece after the other.
-- Assumes nothing.
use Rattle.reading_line.proofs.Shown.{accepted_pieces}
use Rattle.reading_line.proofs.Short.{accepted_short}
use borrow.Author.Rules.{rules}
use Rattle.reading_line.proofs.accepted_line.Goals as goal

pub returns : goal.returns
returns c =
    let n = c in
    let k = c in
    let a = k.args in record {
      puts = accepted_pieces _ _ _ k.put_text-a.ensures k.put_kind-b.ensures
          n.put_spaced-c.ensures n.put_spaced-d.ensures c.put_byte.ensures;
      short = accepted_short a.ring a.left a.right (search rules) (search rules);
    }
