-- A line's end, its slips and the key of its next word, by what the code asks.
-- Assumes nothing.
use Prim.Native.Nat.{ℕ}
use native.Mathlib.Omega.{arith}
use mathlib.Core.Path.{◌≡◌, refl, sym, ap, ◌∙◌}
use mathlib.Core.Logic.{◌⊎◌, ⊎_elim}
use mathlib.Core.Bool.{Bool, true, false, not, ◌&&◌}
use mathlib.Core.List.{List}
use lib.ListN.{drop}
use borrow.Author.Tests.{not-true, not-false}
use Rattle.std.specs.Prelude.{Result, Ok, Err}
use Rattle.claims.specs.Tokens.{tokens}
use Rattle.claims.specs.Lines.{at_end}
use Rattle.read_tokens.specs.declared.Token.{Token}
use Rattle.read_tokens.specs.declared.Token.TheVariants.{Word, Mark, Bad, End}
use Rattle.read_tokens.specs.Scan.{token_at}
use denote.Enum.Declared.{tag_of}
use Rattle.read_tokens.specs.contracts.Token.{the_type}
use Rattle.read_tokens.proofs.Tokens.{Scanned, tokens_scanned}
use Rattle.read_bodies.specs.Bodies.{word_of}
use Rattle.read_bodies.proofs.NextWords.{NoWord}
use Rattle.read_tests.specs.declared.Place.{Place}
use Rattle.read_tests.specs.declared.Fault.{Fault}
use Rattle.refusals.specs.declared.Reason.{Reason}
use Rattle.refusals.specs.declared.Reason.TheVariants.{Notation}
use Rattle.read_declarations.specs.inner.Kinds.{by_slip, checked}

-- the line's end, by the token that is found
abbrev end_of : Bool → Token → Bool
end_of ended (Word k e) = false
end_of ended (Mark b e) = false
end_of ended Bad = false
end_of ended End = ended

scanned_end : (s : List ℕ) (at : ℕ) (ended : Bool) (t : Token) → Scanned s at t → end_of ended t ≡ (at_end (tokens (drop at s)) && ended)
scanned_end s at ended (Word k e) h = ap (λ ts. at_end ts && ended) (sym h.read)
scanned_end s at ended (Mark b e) h = ap (λ ts. at_end ts && ended) (sym h.read)
scanned_end s at ended Bad h = ap (λ ts. at_end ts && ended) (sym h.1)
scanned_end s at ended End h = ap (λ ts. at_end ts && ended) (sym h)

module _ (s : List ℕ) (at : ℕ) (ended : Bool) (t : Token) (e : t ≡ token_at s at) where
  end_of_lem : end_of ended t ≡ (at_end (tokens (drop at s)) && ended)
  end_of_lem = ap (end_of ended) e ∙ scanned_end s at ended (token_at s at) (tokens_scanned s at)

  pub end_stands : t ≡ End → ended ≡ (at_end (tokens (drop at s)) && ended)
  end_stands h = ap (end_of ended) (sym h) ∙ end_of_lem

  pub end_missing : (tag_of the_type t ≡ 0) ⊎ (tag_of the_type t ≡ 1) ⊎ (tag_of the_type t ≡ 2) → false ≡ (at_end (tokens (drop at s)) && ended)
  end_missing h = go t h ∙ end_of_lem
    where
      go : (x : Token) → (tag_of the_type x ≡ 0) ⊎ (tag_of the_type x ≡ 1) ⊎ (tag_of the_type x ≡ 2) → false ≡ end_of ended x
      go (Word k i) h = refl
      go (Mark b i) h = refl
      go Bad h = refl
      go End h = ⊎_elim (λ i. absurd (omega arith)) (⊎_elim (λ i. absurd (omega arith)) (λ i. absurd (omega arith))) h

-- the key of what is no word
pub no_key : (s : List ℕ) (at : ℕ) (t : Token) → t ≡ token_at s at → NoWord t → record { high = 0; low = 0 } ≡ word_of (token_at s at)
unfolding word_of
no_key s at t e n = go t n ∙ ap word_of e
  where
    go : (x : Token) → NoWord x → record { high = 0; low = 0 } ≡ word_of x
    go (Word k i) n = absurd n
    go (Mark b i) n = refl
    go Bad n = refl
    go End n = refl

-- the check of a line that was read up to p
module _ (s : List ℕ) (ended : Bool) (r : Result Place Fault) (p : Place) (got : r ≡ Ok p) (b : Bool) (e : b ≡ (at_end (tokens (drop p.at s)) && ended)) where
  pub checked_unended : not b ≡ true → Err Notation ≡ checked s ended r
  unfolding checked
  checked_unended h = rw (got, ← e, not-true b h)

  pub checked_whole : not b ≡ false → (c : Result ℕ Reason) → c ≡ by_slip p.used p.slip → c ≡ checked s ended r
  unfolding checked
  checked_whole h c f = rw (got, ← e, not-false b h, f)
