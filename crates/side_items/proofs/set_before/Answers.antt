-- `side_items::set_before` meets its contract.
-- Assumes nothing.
use native.Mathlib.Omega.{arith}
use mathlib.Core.Path.{ap}
use lib.ListN.{length}
use Rattle.side_items.proofs.Room.{slice_fits, part_length, put_back}
use Rattle.side_items.proofs.set_before.Goals as goal

pub test_atoms-requires : goal.test_atoms-requires
test_atoms-requires c =
    let a = c.args in
    let p = c.requires in
    let f = slice_fits a.from a.to a.codes.now in
    (omega (arith, part_length a.args.now a.from a.to p.0 p.1), omega arith)

pub shape_of-args : goal.shape_of-args
shape_of-args c =
    let s = c in
    ap length (put_back s.args.args.now s.args.from s.args.to s.requires.0 s.requires.1 _ s.requires.3 c.test_atoms.ensures.1)

pub returns : goal.returns
returns c =
    let s = c in
    let t = c.test_atoms in
    (t.ensures.0, put_back s.args.args.now s.args.from s.args.to s.requires.0 s.requires.1 _ s.requires.3 t.ensures.1)
