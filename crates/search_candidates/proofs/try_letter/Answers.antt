-- `search_candidates::try_letter` meets its contract: each way out is a step, by what becomes of the candidate.
-- Assumes nothing.
use Rattle.search_grow.specs.Masks.{letters_left}
use mathlib.Core.List.{[]}
use Rattle.search_candidates.proofs.OneCandidate.{quiet_steps, ring_steps_lem, passed_over, path_offers, letter_impossible, letter_spent}
use Rattle.search_grow.proofs.Letters.{letters_none}
use lib.Count.{trailing_le}
use mathlib.Core.Path.{◌≡◌, refl, ◌∙◌, subst}
use native.Mathlib.Omega.{arith}
use borrow.Author.Rules.{rules}
use Rattle.search_candidates.proofs.try_letter.Goals as goal

pub returns-in_default : goal.returns-in_default
returns-in_default c =
    let b = c in
    let a = b.args in
    let n = c.next_place in
    λ first later r m e tries at.
    quiet_steps a.k a.left.now a.right.now first later a.cap a.t r a.words.now at n.result n.ensures.quiet
    (n.ensures.on a.k a.left.now a.right.now first later r a.words.now refl tries
    (subst (λ x. letters_left x a.k.relations a.t.rest a.t.relation ≡ []) m c.in_default.ensures)
    at) c.quiet.result c.quiet.ensures

pub overflow_cast-a : goal.overflow_cast-a
overflow_cast-a c = omega (arith, trailing_le 64 c.in-Some.spot.rest)

pub behind-requires : goal.behind-requires
behind-requires c = λ e. omega (arith, c.requires.room e, c.requires.place)

pub overflow_mul-letter : goal.overflow_mul-letter
overflow_mul-letter c = omega (arith, trailing_le 64 c.in-Some.spot.rest)

pub overflow_add-letter : goal.overflow_add-letter
overflow_add-letter c = omega (arith, trailing_le 64 c.in-Some.spot.rest, c.in-Some.ensures.within)

pub overflow_add-c : goal.overflow_add-c
overflow_add-c c = omega (arith, c.in-Some.ensures.within)

pub note-requires : goal.note-requires
note-requires c = let p = c.requires in
    (p.allowance, p.room c.if-k.true, p.counted)

pub returns-then-k : goal.returns-then-k
returns-then-k c =
    let d = c in
    let b = c in
    let q = c in
    let a = q.args in
    let p = q.requires in
    λ first later r m e tries at.
    ring_steps_lem a.k a.left.now a.right.now first later a.cap a.t r a.words.now at tries a.masks.now m q.in-Some.spot.rest
    q.in-Some.spot.relation q.in-Some.ensures.some p.relations_few q.in-Some.ensures.same
    (q.in-Some.ensures.within, q.in-Some.ensures.tried) q.in-Some.ensures.falls _ (b.behind.ensures r e)
    d.if-k.true d.note.result _ (d.note.ensures.inside r)
    (d.note.ensures.noted a.k d.if-k.true a.left.now a.right.now r)
    c.quiet-then-k.result c.quiet-then-k.ensures

pub returns-then-s-eq0 : goal.returns-then-s-eq0
returns-then-s-eq0 c =
    let d = c in
    let b = c in
    let q = c in
    let a = q.args in
    let p = q.requires in
    let z = q.in-Some.ensures.some in
    λ first later r m e tries at.
    passed_over a.k a.left.now a.right.now first later a.cap a.t r a.words.now at tries a.masks.now m q.in-Some.spot.rest
    q.in-Some.spot.relation z p.relations_few q.in-Some.ensures.same (q.in-Some.ensures.within, q.in-Some.ensures.tried) q.in-Some.ensures.falls _
    (b.behind.ensures r e)
    (letter_impossible a.k a.left.now a.right.now first later a.cap a.t r a.words.now at tries _ _
    (omega (arith, p.relations_few, q.in-Some.ensures.within)) _ (b.behind.ensures r e) d.if-s-eq0.true) c.quiet-then-s-eq0.result c.quiet-then-s-eq0.ensures

pub returns-then-cap-t : goal.returns-then-cap-t
returns-then-cap-t c =
    let d = c in
    let b = c in
    let q = c in
    let a = q.args in
    let p = q.requires in
    let z = q.in-Some.ensures.some in
    λ first later r m e tries at.
    passed_over a.k a.left.now a.right.now first later a.cap a.t r a.words.now at tries a.masks.now m q.in-Some.spot.rest
    q.in-Some.spot.relation z p.relations_few q.in-Some.ensures.same (q.in-Some.ensures.within, q.in-Some.ensures.tried) q.in-Some.ensures.falls _
    (b.behind.ensures r e)
    (letter_spent a.k a.left.now a.right.now first later a.cap a.t r a.words.now at tries _ _
    (omega (arith, p.relations_few, q.in-Some.ensures.within)) _ (b.behind.ensures r e) d.if-cap-t.true) c.quiet-then-cap-t.result c.quiet-then-cap-t.ensures

pub returns : goal.returns
returns c =
    let d = c in
    let b = c in
    let q = c in
    let a = q.args in
    let p = q.requires in
    let z = q.in-Some.ensures.some in
    λ first later r m e tries at.
    path_offers a.k a.left.now a.right.now first later a.cap a.t r a.words.now at tries a.masks.now m q.in-Some.spot.rest
    q.in-Some.spot.relation z p.relations_few q.in-Some.ensures.same (q.in-Some.ensures.within, q.in-Some.ensures.tried) q.in-Some.ensures.falls _
    (b.behind.ensures r e) d.if-k.false d.if-s-eq0.false d.if-cap-t.false c.offering.result c.offering.ensures
