-- `sheet_fields::step` meets its contract, by what is awaited.
-- Assumes nothing.
use mathlib.Core.Path.{subst, sym}
use Rattle.sheet_fields.specs.inner.Between.{Between, Goes, fields_left}
use Rattle.sheet_fields.proofs.step.Goals as goal

pub verdict_read-requires : goal.verdict_read-requires
verdict_read-requires c = (c.args.at, c.requires.0)

pub returns-in-Verdict : goal.returns-in-Verdict
returns-in-Verdict c =
    let a = c.args in
    λ first B.
    subst (λ w. Goes a.f a.sheet.now first a.heads.now a.chain.now (fields_left w) c.verdict_read.result) (sym c.in-Verdict.is)
    (c.verdict_read.ensures a.f first a.at a.heads.now a.chain.now c.requires.0
    (subst (λ w. Between a.f a.sheet.now first a.heads.now a.chain.now w a.at) c.in-Verdict.is B))

pub standing_read-requires : goal.standing_read-requires
standing_read-requires c =
    let a = c.args in
    let (first, B) = c.requires.1 in
    (c.requires.0, (subst (λ w. Between a.f a.sheet.now first a.heads.now a.chain.now w a.at) c.in-Standing.is B).listed)

pub returns-in-Standing : goal.returns-in-Standing
returns-in-Standing c =
    let a = c.args in
    let n = c.standing_read.new in
    λ first B.
    subst (λ w. Goes a.f a.sheet.now first n.heads n.chain (fields_left w) c.standing_read.result) (sym c.in-Standing.is)
    (c.standing_read.ensures first (subst (λ w. Between a.f a.sheet.now first a.heads.now a.chain.now w a.at) c.in-Standing.is B))

pub word_read-requires : goal.word_read-requires
word_read-requires c = (c.args.at, c.requires.0)

pub returns-in-Word : goal.returns-in-Word
returns-in-Word c =
    let a = c.args in
    λ first B.
    subst (λ w. Goes a.f a.sheet.now first a.heads.now a.chain.now (fields_left w) c.word_read.result) (sym c.in-Word.is)
    (c.word_read.ensures first a.at a.heads.now a.chain.now c.requires.0
    (subst (λ w. Between a.f a.sheet.now first a.heads.now a.chain.now w a.at) c.in-Word.is B))
