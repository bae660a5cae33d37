-- The order of the standings seen: each stands with the least shortest prefix that has it, and these prefixes rise, shorter ones first
-- and then as lists of numbers. The idea: a fresh standing has no shorter prefix, and of its own length the search follows the least.
-- Assumes nothing.
use Prim.Native.Nat.{ℕ, suc, ◌≤◌, ◌<◌}
use native.Mathlib.Nat.{eq-or-lt_of_le}
use native.Mathlib.Decide.{dec_lt}
use native.Mathlib.Omega.{arith}
use mathlib.Core.Path.{◌≡◌, refl, sym, ◌∙◌, ap, subst}
use mathlib.Core.Logic.{◌⊎◌, ⊎_elim, by_cases}
use mathlib.Core.Logic.◌⊎◌.{inl, inr}
use mathlib.Core.List.{List, [], ◌++◌}
use Rattle.kat.specs.Lists.{In}
use Rattle.kat.specs.Ring.{Prefix}
use Rattle.kat.proofs.Sets.{in_append}
use Rattle.verdicts.specs.Standings.{System}
use Rattle.verdicts.specs.Search.{Entry}
use Rattle.verdicts.specs.Verdicts.{relations_in}
use Rattle.verdicts.specs.Lawful.{Lawful}
use Rattle.verdicts.proofs.Pairwise.{pairwise_append, pairwise_other}
use Rattle.verdicts.specs.Orders.{Earlier, Precedes, LeastPrefix, Ordered}
use Rattle.verdicts.proofs.Distinct.{settled_by_image}
use Rattle.verdicts.proofs.Fresh.{Ahead, KeptFor}
use Rattle.verdicts.proofs.Levels.{Reached, new_unseen, new_distinct}

-- those of k levels
pub record OrderedTo (S : System) (k : ℕ) (seen : List (Entry S)) : Type 0 where
  pub early : (e : Entry S) → In e seen → relations_in e.prefix ≤ k
  pub ordered : Ordered S seen

pub start_ordered : (S : System) → OrderedTo S 0 []
start_ordered S = record { early = λ e i. elim i [ ]; ordered = (λ e i. elim i [ ], tt) }

module _ (S : System) (laws : Lawful S) (k : ℕ) (seen new : List (Entry S)) (r : Reached S laws k seen new) where
  new_size : (e : Entry S) → In e new → relations_in e.prefix ≡ suc k
  new_size e i = (r.stands e i).0.1

  -- a prefix of the same length with the same standing is no earlier
  same_size : (e : Entry S) (m : Prefix) → In e new → relations_in m ≡ suc k
      → KeptFor S laws seen new (record { standing = e.standing; prefix = m }) → (e.prefix ≡ m) ⊎ Precedes e.prefix m
  same_size e m i q (inl j) = absurd (new_unseen S laws k seen new r e i j)
  same_size e m i q (inr (x, j, p, h)) =
      let z : x ≡ e = settled_by_image (λ f. f.standing) new (new_distinct S laws k seen new r) j i p in
      ⊎_elim (λ n. inl (sym (ap (λ f. f.prefix) z) ∙ n)) (λ n. inr (inr (new_size e i ∙ sym q, subst (λ f. Earlier f.prefix m) z n))) h

  new_least : (e : Entry S) → In e new → LeastPrefix S e.prefix e.standing
  new_least e i = (
    (r.stands e i).0.0,
    (λ m p. by_cases (dec_lt (relations_in m) (suc k))
        (λ n. absurd (new_unseen S laws k seen new r e i
        (r.behind.complete e.standing (relations_in m, omega arith, (m, p, refl, (r.stands e i).1)))))
        (λ n. ⊎_elim (λ q. same_size e m i (sym q) (r.least (record { standing = e.standing; prefix = m }) (p, sym q) (r.stands e i).1))
        (λ q. let z = new_size e i in inr (inl (omega arith))) (eq-or-lt_of_le (not_below n)))),
  )
    where
      not_below : {m : ℕ} → (m < suc k → ⊥) → suc k ≤ m
      not_below n = omega arith

  pub next_ordered : OrderedTo S k seen → OrderedTo S (suc k) (seen ++ new)
  next_ordered o =
      record {
        early = λ e i. ⊎_elim (λ j. let h = o.early e j in omega arith) (λ j. let h = new_size e j in omega arith) (in_append seen i);
        ordered = (
          (λ e i. ⊎_elim (o.ordered.0 e) (new_least e) (in_append seen i)),
          pairwise_append (λ e f. Precedes e.prefix f.prefix) seen new o.ordered.1
              (pairwise_other (Ahead S) (λ e f. Precedes e.prefix f.prefix) new r.ahead
              (λ e f i j h. inr (new_size e i ∙ sym (new_size f j), h)))
              (λ e f i j. let h = o.early e i in let q = new_size f j in inl (omega arith)),
        );
      }
