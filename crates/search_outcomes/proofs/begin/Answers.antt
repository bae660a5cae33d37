-- `search_outcomes::begin` meets its contract, by what was found.
-- Assumes nothing.
use native.Mathlib.Omega.{arith}
use Rattle.search_outcomes.proofs.Found.{proved_reportable, refuted_reportable, proved_begun, refuted_begun, spent_begun}
use borrow.Author.Rules.{rules}
use Rattle.search_outcomes.proofs.begin.Goals as goal

pub begin_fields-requires : goal.begin_fields-requires
begin_fields-requires c =
    let (r, w, h) = c.requires in
    omega (arith, (proved_reportable _ r w _ _ c.in-Proved.is h).1)

pub begin_word-requires : goal.begin_word-requires
begin_word-requires c =
    let (r, w, h) = c.requires in
    omega (arith, (refuted_reportable _ r w _ _ _ c.in-Refuted.is h).2)

pub returns-in-Proved : goal.returns-in-Proved
returns-in-Proved c =
    let is = c.in-Proved.is in
    λ r w h. proved_begun _ r w _ _ _ _ _ _ is (c.begin_fields.ensures r w (proved_reportable _ r w _ _ is h).0)

pub returns-in-Refuted : goal.returns-in-Refuted
returns-in-Refuted c =
    let is = c.in-Refuted.is in
    λ r w h.
    let (room, falls, few) = refuted_reportable _ r w _ _ _ is h in
    refuted_begun _ r w _ _ _ _ _ _ _ is (c.begin_word.ensures _ r w room falls)

pub returns-in-Spent : goal.returns-in-Spent
returns-in-Spent c = λ r w h. spent_begun _ r w _ _ _ _ c.in-Spent.is c.ended.ensures
