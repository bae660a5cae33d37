-- A word is in the language of an expression exactly when its occurrence tables read it, from nothing to an occurrence at which it may
-- end. By the word, letter by letter, from the two laws on residuals. Then the same for a word that begins with a prefix: some way
-- reads the prefix, and the tables go on from where it ends.
-- Assumes nothing.
use Prim.Native.Nat.{ℕ, zero, suc, ◌≤◌, ◌<◌}
use native.Mathlib.Omega.{arith}
use mathlib.Core.Path.{◌≡◌, refl, sym, subst}
use mathlib.Core.Logic.{◌⊎◌, ◌↔◌}
use mathlib.Core.Logic.◌⊎◌.{inl, inr}
use mathlib.Core.Bool.{true, ◌&&◌}
use mathlib.Core.List.{List}
use Rattle.kat.specs.Expr.{Expr}
use Rattle.kat.specs.Lists.{In, upto, some}
use Rattle.kat.specs.Word.{Word, end, at, last}
use Rattle.kat.specs.Language.{Lang}
use Rattle.kat.specs.Ring.{Prefix, nothing, then, onto}
use Rattle.kat.specs.Tables.{occurrences, reads, next, stop, firsts, follows, lasts, null, Reads, after, ends}
use Rattle.kat.specs.Rest.{Rest}
use Rattle.kat.specs.Way.{Way}
use Rattle.kat.specs.Turns.{NonEmpty}
use Rattle.kat.proofs.Bools.{and_left, and_right, and_both}
use Rattle.kat.proofs.Sets.{some_in, in_some, filter_in, in_filter, in_upto}
use Rattle.kat.proofs.Shapes.{longer_is_no_end}
use Rattle.kat.proofs.Ranges.{reads_range}
use Rattle.kat.proofs.Residuals.{Goes, letter, cut_rel, cut_rest}
use Rattle.kat.proofs.Letters.{null_rel, letter_rel, last_rest, letter_rest}

-- an occurrence that reads is not 0
pub reads_positive : (E : Expr) (q r : ℕ) → reads E 0 q r ≡ true → 0 < q
reads_positive E q r m = let (a, b) = reads_range E 0 q r m in a

-- where a way has read a letter it ends on an occurrence of the expression
pub way_range : (E : Expr) (p : ℕ) (l : Prefix) (q : ℕ) → NonEmpty l → Way E p l q → (1 ≤ q) × (q ≤ occurrences E)
way_range E p (then l a r) q h (o, w, n, m) = let (lo, hi) = reads_range E 0 q r m in (omega arith, omega arith)
way_range E p nothing q h _ = elim h [ ]

-- after an occurrence, the tables read what the expression can still read to its end
pub rest_of_reads : (E : Expr) (w : Word) (p : ℕ) → 0 < p → Reads E p w → Rest E 0 p w (end (last w))
rest_of_reads E (end a) zero h m = absurd (omega arith)
rest_of_reads E (end a) (suc p) h m = last_rest E 0 (suc p) (end a) m
rest_of_reads E (at a r w) zero h m = absurd (omega arith)
rest_of_reads E (at a r w) (suc p) h (q, n, m, t) =
    letter_rest E 0 (suc p) q a r w (end (last w)) n m (rest_of_reads E w q (reads_positive E q r m) t)

pub reads_of_rest : (E : Expr) (w : Word) (p : ℕ) → 0 < p → Rest E 0 p w (end (last w)) → Reads E p w
reads_of_rest E (end a) zero h t = absurd (omega arith)
reads_of_rest E (end a) (suc p) h t = go (cut_rest E 0 (suc p) (end a) (end a) t)
  where
    go : ((lasts E 0 (suc p) a ≡ true) × (end a ≡ end a)) ⊎ Goes (follows E 0 (suc p)) (reads E 0) (λ q w. Rest E 0 q w (end a)) (end a)
        → lasts E 0 (suc p) a ≡ true
    go (inl (n, e)) = n
    go (inr x5) = elim x5 [ ]
reads_of_rest E (at a r w) zero h t = absurd (omega arith)
reads_of_rest E (at a r w) (suc p) h t = go (cut_rest E 0 (suc p) (at a r w) (end (last w)) t) (reads_of_rest E w)
  where
    go : ((lasts E 0 (suc p) a ≡ true) × (at a r w ≡ end (last w)))
        ⊎ Goes (follows E 0 (suc p)) (reads E 0) (λ q u. Rest E 0 q u (end (last w))) (at a r w)
        → ((q : ℕ) → 0 < q → Rest E 0 q w (end (last w)) → Reads E q w) → Reads E (suc p) (at a r w)
    go (inl (n, e)) k = absurd (longer_is_no_end e)
    go (inr (letter q n m t)) k = (q, n, m, k q (reads_positive E q r m) t)

-- a word is in the language exactly when the tables read it
pub language_is_read : (E : Expr) (w : Word) → Lang E w ↔ Reads E 0 w
language_is_read E w = (to E w, from E w)
  where
    to : (E : Expr) (w : Word) → Lang E w → Reads E 0 w
    to E (end a) h = go (cut_rel E 0 (end a) (end a) h)
      where
        go : ((null E a ≡ true) × (end a ≡ end a)) ⊎ Goes (firsts E 0) (reads E 0) (λ q w. Rest E 0 q w (end a)) (end a) → null E a ≡ true
        go (inl (n, e)) = n
        go (inr x'') = elim x'' [ ]
    to E (at a r w) h = go (cut_rel E 0 (at a r w) (end (last w)) h)
      where
        go : ((null E a ≡ true) × (at a r w ≡ end (last w)))
            ⊎ Goes (firsts E 0) (reads E 0) (λ q u. Rest E 0 q u (end (last w))) (at a r w)
            → Reads E 0 (at a r w)
        go (inl (n, e)) = absurd (longer_is_no_end e)
        go (inr (letter q n m t)) = (q, n, m, reads_of_rest E w q (reads_positive E q r m) t)

    from : (E : Expr) (w : Word) → Reads E 0 w → Lang E w
    from E (end a) n = null_rel E (end a) n
    from E (at a r w) (q, n, m, t) =
        letter_rel E 0 q a r w (end (last w)) n m (rest_of_reads E w q (reads_positive E q r m) t)

-- the tables read a prefix and what comes after it, exactly when a way reads the prefix and they go on from its end
pub reads_onto : (E : Expr) (p : ℕ) (l : Prefix) (w : Word) → Reads E p (onto l w) ↔ ((q : ℕ) × Way E p l q × Reads E q w)
reads_onto E p nothing w = ((λ h. (p, refl, h)), (λ (q, e, h). subst (λ o. Reads E o w) (sym e) h))
reads_onto E p (then l a r) w = (
  (λ h. let (o, v, (q, n, m, t)) = (reads_onto E p l (at a r w)).0 h in (q, (o, v, n, m), t)),
  (λ (q, (o, v, n, m), t). (reads_onto E p l (at a r w)).1 (o, v, (q, n, m, t))),
)

-- the same for the language: the word of a prefix and a last atom
pub language_by_ways : (E : Expr) (l : Prefix) (a : ℕ) → Lang E (onto l (end a)) ↔ ((q : ℕ) × Way E 0 l q × (stop E q a ≡ true))
language_by_ways E l a = (
  (λ h. (reads_onto E 0 l (end a)).0 ((language_is_read E (onto l (end a))).0 h)),
  (λ h. (language_is_read E (onto l (end a))).1 ((reads_onto E 0 l (end a)).1 h)),
)

-- one letter more, in the set of occurrences that may have just been read
pub after_in : (E : Expr) (P : List ℕ) (a r q : ℕ) → In q (after E P a r) ↔ ((p : ℕ) × In p P × (next E p q a ≡ true) × (reads E 0 q r ≡ true))
unfolding after
after_in E P a r q = (
  (λ i.
      let (j, h) = filter_in (λ o. reads E 0 o r && some (λ p. next E p o a) P) (upto 1 (suc (occurrences E))) i in
      let (p, k, n) = some_in (λ p. next E p q a) P (and_right (reads E 0 q r) (some (λ p. next E p q a) P) h) in
      (p, k, n, and_left (reads E 0 q r) (some (λ p. next E p q a) P) h)),
  (λ (p, k, n, m).
      let (lo, hi) = reads_range E 0 q r m in
      in_filter (λ o. reads E 0 o r && some (λ p. next E p o a) P) (in_upto q 1 (suc (occurrences E)) (omega arith) (omega arith))
      (and_both m (in_some (λ p. next E p q a) k n))),
)

-- one of the set may be read last
pub ends_in_lem : (E : Expr) (P : List ℕ) (a : ℕ) → (ends E P a ≡ true) ↔ ((p : ℕ) × In p P × (stop E p a ≡ true))
unfolding ends
ends_in_lem E P a = ((λ h. some_in (λ p. stop E p a) P h), (λ (p, i, n). in_some (λ p. stop E p a) i n))
