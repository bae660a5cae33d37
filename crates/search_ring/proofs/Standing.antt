-- The words that begin and onward leave are those of the standing: the columns as they were joined, and the three other words in their
-- places; and the words behind the standing are as they were.
-- Assumes nothing.
use Prim.Native.Nat.{ℕ, suc, ◌^◌, min}
use native.Mathlib.Omega.{arith}
use mathlib.Core.Path.{◌≡◌, ◌∙◌, ap, ap₂}
use mathlib.Core.Bool.{cond, not, ◌||◌}
use mathlib.Core.List.{List, ◌++◌}
use lib.Bits.{bit_or}
use lib.Dec.{eqb}
use lib.ListN.{length, get_or, take, drop}
use Rattle.kat.specs.Lists.{upto}
use Rattle.claims.specs.Standings.{Letter}
use Rattle.memory.specs.Memory.{zeros}
use Rattle.standings.specs.Steps.{step_from, step_set, null_at}
use Rattle.standings.specs.Steps.{leads}
use Rattle.search_standings.specs.RingWords.{ring_words, begin_column, opened, onward_column, flag, ring_begin, ring_onward}
use Rattle.search_ring.specs.inner.Columns.{pushed, spread_over, laid_out}
use Rattle.search_ring.proofs.Columns.{wiped_length, wiped_column, wiped_behind, pushed_length, pushed_column, pushed_behind, spread_length, spread_column, spread_behind, laid_words, laid_behind}

module _ (left right : List ℕ) (l : Letter) (to : List ℕ) (full : length to ≡ 40) where
  abbrev clean : List ℕ
  clean = zeros 34 ++ drop 34 to

  -- of a prefix of one relation
  pub begin_laid : (n m p z : ℕ) (spread out : List ℕ) → m ≡ min n 31
      → spread ≡ spread_over right l (λ o. 2 ^ o) (upto 0 (suc m)) clean → p ≡ step_from left 0 l.atom l.relation
      → z ≡ flag (null_at right l.atom) → out ≡ laid_out spread p l.atom z
      → (take 34 out ≡ ring_begin left right n l) × (drop 34 out ≡ drop 34 to)
  unfolding ring_begin begin_column
  begin_laid n m p z spread out em es ep ez eo =
      let os : List ℕ = upto 0 (suc (min n 31)) in
      let e : spread ≡ spread_over right l (λ o. 2 ^ o) os clean =
      es ∙ ap (λ k. spread_over right l (λ o. 2 ^ o) (upto 0 (suc k)) clean) em in
      let long : length spread ≡ 40 = ap length e ∙ spread_length right l (λ o. 2 ^ o) os clean in (
        ap (take 34) eo
            ∙ laid_words spread p l.atom z (begin_column right n l) long
            (λ q h k. ap (λ t. get_or t q 0) e
            ∙ spread_column right l (λ o. 2 ^ o) os clean q h k (wiped_column to full q (omega arith)))
            ∙ ap₂ (λ x y. ring_words x (begin_column right n l) l.atom y) ep ez,
        ap (drop 34) eo ∙ laid_behind spread p l.atom z ∙ ap (drop 34) e
            ∙ spread_behind right l (λ o. 2 ^ o) os clean (wiped_length to full) ∙ wiped_behind to full,
      )

  -- of a prefix one relation longer
  pub onward_laid : (p z fresh : ℕ) (s spread sent out : List ℕ)
      → spread ≡ spread_over right l (λ o. get_or s o 0) (upto 1 32) clean → fresh ≡ opened right s l.atom
      → sent ≡ pushed spread (step_from right 0 l.atom l.relation) fresh → p ≡ step_set left (get_or s 0 0) l.atom l.relation
      → z ≡ flag (not (eqb (get_or s 33 0) 0) || null_at right l.atom) → out ≡ laid_out sent p (get_or s 32 0) z
      → (take 34 out ≡ ring_onward left right s l) × (drop 34 out ≡ drop 34 to)
  unfolding ring_onward onward_column leads
  onward_laid p z fresh s spread sent out es eo et ep ez el =
      let first : ℕ = step_from right 0 l.atom l.relation in
      let joins : List ℕ = spread_over right l (λ o. get_or s o 0) (upto 1 32) clean in
      let e : sent ≡ pushed joins first (opened right s l.atom) = et ∙ ap₂ (λ t w. pushed t first w) es eo in
      let long : length sent ≡ 40 = ap length e ∙ pushed_length joins (opened right s l.atom) first in (
        ap (take 34) el
            ∙ laid_words sent p (get_or s 32 0) z (onward_column right s l) long
            (λ q h k. ap (λ t. get_or t q 0) e
            ∙ pushed_column joins first (opened right s l.atom) q h k
            ∙ ap (λ x. bit_or x (cond (leads right l 0 q) (opened right s l.atom) 0))
            (spread_column right l (λ o. get_or s o 0) (upto 1 32) clean q h k (wiped_column to full q (omega arith))))
            ∙ ap₂ (λ x y. ring_words x (onward_column right s l) (get_or s 32 0) y) ep ez,
        ap (drop 34) el ∙ laid_behind sent p (get_or s 32 0) z ∙ ap (drop 34) e
            ∙ pushed_behind joins first (opened right s l.atom) (spread_length right l (λ o. get_or s o 0) (upto 1 32) clean)
            ∙ spread_behind right l (λ o. get_or s o 0) (upto 1 32) clean (wiped_length to full) ∙ wiped_behind to full,
      )
