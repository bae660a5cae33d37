-- `side_build::build` meets its contract: as many codes count as there are.
-- Assumes nothing.
use Rattle.side_build.proofs.Assembled.{first_codes, built_of}
use lib.Seq.{length-take-le}
use lib.ListN.{length}
use Prim.Native.Nat.{min}
use mathlib.Core.Path.{sym, ◌∙◌, ap}
use native.Mathlib.Omega.{arith}
use Rattle.side_build.proofs.build.Goals as goal

pub slice_bounds-part-end : goal.slice_bounds-part-end
slice_bounds-part-end c = sym (length-take-le _ _ (omega (arith, c.min.ensures, c.min-m.ensures)))

pub build_with-requires : goal.build_with-requires
build_with-requires c =
    let short = length-take-le c.min-m.result c.args.codes.now (omega (arith, c.min-m.ensures)) in
    (omega (arith, short, c.if-m-le464.true), omega arith, c.requires.0, c.requires.1)

pub returns-then-m-le464 : goal.returns-then-m-le464
returns-then-m-le464 c =
    built_of c.args.tests _ _ _ _ _ (first_codes (min c.args.n 4096) _ c.args.codes.now (c.min-m.ensures ∙ ap (λ k. min k (length c.args.codes.now)) c.min.ensures)) c.build_with.ensures

pub build_with-requires-2 : goal.build_with-requires-2
build_with-requires-2 c =
    let short = length-take-le c.min-m.result c.args.codes.now (omega (arith, c.min-m.ensures)) in
    (omega (arith, short, c.min.ensures, c.min-m.ensures), omega arith, c.requires.0, c.requires.1)

pub returns : goal.returns
returns c =
    built_of c.args.tests _ _ _ _ _ (first_codes (min c.args.n 4096) _ c.args.codes.now (c.min-m.ensures ∙ ap (λ k. min k (length c.args.codes.now)) c.min.ensures)) c.build_with-2.ensures
