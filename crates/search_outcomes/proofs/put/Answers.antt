-- `search_outcomes::put` meets its contract, by what was found.
-- Assumes nothing.
use native.Mathlib.Omega.{arith}
use Rattle.search_writing.proofs.Stages.{fields_stage, letters_stage, field_asks, letter_asks, fields_turns, letters_turns}
use Rattle.search_outcomes.proofs.Found.{proved_stands, refuted_stands, spent_stands, proved_next, refuted_next}
use borrow.Author.Rules.{rules}
use Rattle.search_outcomes.proofs.put.Goals as goal

pub next_field-requires : goal.next_field-requires
next_field-requires c =
    let x = c.args.x in
    let (r, b₀, going, h) = c.requires in
    field_asks (fields_stage _ r _ b₀ x going _ _ (proved_stands _ r _ _ b₀ x _ _ _ c.in-Proved.is h))

pub next_letter-requires : goal.next_letter-requires
next_letter-requires c =
    let x = c.args.x in
    let (r, b₀, going, h) = c.requires in
    letter_asks (letters_stage _ r _ b₀ x going _ _ _ _ (refuted_stands _ r _ _ b₀ x _ _ _ _ c.in-Refuted.is h))

pub returns-in-Proved : goal.returns-in-Proved
returns-in-Proved c =
    let x = c.args.x in
    let is = c.in-Proved.is in
    λ r b₀ e going h.
    let left = fields_stage _ r _ b₀ x going _ _ (proved_stands _ r _ _ b₀ x _ _ _ is h) in
    let t = c.next_field.ensures r b₀ e left in
    proved_next _ r _ _ b₀ _ _ _ _ is x (t.0, omega (arith, t.1, fields_turns x going c.in-Proved.n))

pub returns-in-Refuted : goal.returns-in-Refuted
returns-in-Refuted c =
    let x = c.args.x in
    let is = c.in-Refuted.is in
    λ r b₀ e going h.
    let left = letters_stage _ r _ b₀ x going _ _ _ _ (refuted_stands _ r _ _ b₀ x _ _ _ _ is h) in
    let t = c.next_letter.ensures r b₀ _ _ e left in
    refuted_next _ r _ _ b₀ _ _ _ _ _ is x (t.0, omega (arith, t.1, letters_turns x going))

pub returns-in-Spent : goal.returns-in-Spent
returns-in-Spent c = λ r b₀ e going h. absurd (spent_stands _ r _ _ b₀ c.args.x _ _ c.in-Spent.is going h)
