-- One side at two atoms a and b, before a relation r. Where one occurrence has the same step at both, for each that may have been read
-- last, so has the set of them; and the test over 0 and the occurrences says it of every number, since no other number has a step or may
-- be last. An atom that is not kept has a lower live atom that is alike.
-- Assumes nothing.
use Prim.Native.Nat.{ℕ, zero, suc, ◌≤◌, ◌<◌}
use native.Mathlib.Omega.{arith}
use mathlib.Core.Path.{◌≡◌, refl, sym, subst}
use mathlib.Core.Logic.{⊎_elim}
use mathlib.Core.Bool.{Bool, true, false, ◌&&◌}
use mathlib.Core.List.{List, [], ◌∷◌}
use Rattle.kat.specs.Expr.{Expr}
use Rattle.kat.specs.Lists.{In, here, upto, filter, some, member, there}
use Rattle.kat.specs.Tables.{occurrences, reads, null, next, stop, after, ends}
use Rattle.kat.proofs.Bools.{bool_ext, le_or_lt, and_left, and_right, and_both, true_not_false, false_not_true}
use Rattle.kat.proofs.Sets.{some_in, in_some, every_in, filter_in, in_filter, filter_same, some_same, in_upto, upto_in}
use Rattle.kat.proofs.Ranges.{reads_range, follows_before, lasts_range}
use Rattle.kat.proofs.Runs.{after_in}
use Rattle.notation.specs.Bytes.{same}
use Rattle.verdicts.specs.Alike.{occurrences_of, states_of, readers_of, same_next, same_last, lowest_alike}
use Rattle.notation.proofs.Results.{same_is_equal}

-- q reads r, and may come next at atom a after one of P
abbrev comes : Expr → List ℕ → ℕ → ℕ → ℕ → Bool
comes E P a r q = reads E 0 q r && some (λ p. next E p q a) P

after_equal : (E : Expr) (P : List ℕ) (a b r : ℕ) → ((q : ℕ) → comes E P a r q ≡ true → comes E P b r q ≡ true)
    → ((q : ℕ) → comes E P b r q ≡ true → comes E P a r q ≡ true) → after E P a r ≡ after E P b r
unfolding after
after_equal E P a b r h k =
    filter_same (comes E P a r) (comes E P b r) (upto 1 (suc (occurrences E)))
    (λ q i. bool_ext (comes E P a r q) (comes E P b r q) (h q) (k q))

only : (p o : ℕ) → In o (p ∷ []) → o ≡ p
only p o (here e) = e
only p o (there x3) = elim x3 [ ]

module _ (E : Expr) (a b : ℕ) where
  -- after p, the same occurrences that read r may come next
  abbrev pub SameStep : ℕ → ℕ → Type 0
  SameStep r p = after E (p ∷ []) a r ≡ after E (p ∷ []) b r

  pub step_next : (r p q : ℕ) → SameStep r p → reads E 0 q r ≡ true → next E p q a ≡ true → next E p q b ≡ true
  step_next r p q h m n =
      let (o, i, k, l) = (after_in E (p ∷ []) b r q).0 (subst (In q) h ((after_in E (p ∷ []) a r q).1 (p, here refl, n, m))) in
      subst (λ x. next E x q b ≡ true) (only p o i) k

  steps_next : (r : ℕ) (P : List ℕ) → ((p : ℕ) → In p P → SameStep r p) → (q : ℕ) → comes E P a r q ≡ true → comes E P b r q ≡ true
  steps_next r P h q e =
      let m : reads E 0 q r ≡ true = and_left (reads E 0 q r) (some (λ p. next E p q a) P) e in
      let (p, i, n) = some_in (λ p. next E p q a) P (and_right (reads E 0 q r) (some (λ p. next E p q a) P) e) in
      and_both m (in_some (λ p. next E p q b) i (step_next r p q (h p i) m n))

-- the set of occurrences after a set
pub after_same : (E : Expr) (a b r : ℕ) (P : List ℕ) → ((p : ℕ) → In p P → SameStep E a b r p) → after E P a r ≡ after E P b r
after_same E a b r P h = after_equal E P a b r (steps_next E a b r P h) (steps_next E b a r P (λ p j. sym (h p j)))

-- one of a set may be last
pub ends_same : (E : Expr) (a b : ℕ) (P : List ℕ) → ((p : ℕ) → In p P → stop E p a ≡ stop E p b) → ends E P a ≡ ends E P b
unfolding ends
ends_same E a b P h = some_same (λ p. stop E p a) (λ p. stop E p b) P h

-- only 0 and the occurrences have a step
next_before : (E : Expr) (p q a : ℕ) → next E p q a ≡ true → p ≤ occurrences E
next_before E zero q a h = omega arith
next_before E (suc p) q a h = let (i, j) = follows_before E 0 (suc p) q a h in omega arith

no_step : (E : Expr) (p a r q : ℕ) → occurrences E < p → comes E (p ∷ []) a r q ≡ true → ⊥
no_step E p a r q h e =
    let (o, i, n) = some_in (λ o. next E o q a) (p ∷ []) (and_right (reads E 0 q r) (some (λ o. next E o q a) (p ∷ [])) e) in
    let k = next_before E o q a n in
    let z : o ≡ p = only p o i in
    omega arith

past_same : (E : Expr) (a b r p : ℕ) → occurrences E < p → SameStep E a b r p
past_same E a b r p h =
    after_equal E (p ∷ []) a b r (λ q e. absurd (no_step E p a r q h e)) (λ q e. absurd (no_step E p b r q h e))

-- what the tests say
pub next_is_same : (E : Expr) (ps : List ℕ) (r a b : ℕ) → same_next E ps r a b ≡ true → (p : ℕ) → In p ps → SameStep E a b r p
unfolding same_next
next_is_same E ps r a b e p i =
    same_is_equal (after E (p ∷ []) a r) (after E (p ∷ []) b r)
    (every_in (λ o. same (after E (o ∷ []) a r) (after E (o ∷ []) b r)) e i)

pub next_is_same_anywhere : (E : Expr) (r a b : ℕ) → same_next E (states_of E) r a b ≡ true → (p : ℕ) → SameStep E a b r p
unfolding states_of
next_is_same_anywhere E r a b e p =
    ⊎_elim (λ h. next_is_same E (states_of E) r a b e p (in_upto p 0 (suc (occurrences E)) (omega arith) (omega arith)))
    (λ h. past_same E a b r p h) (le_or_lt p (occurrences E))

last_half : (E : Expr) (ps : List ℕ) (a b : ℕ) → filter (λ p. stop E p a) ps ≡ filter (λ p. stop E p b) ps → (p : ℕ) → In p ps
    → stop E p a ≡ true → stop E p b ≡ true
last_half E ps a b e p i h = (filter_in (λ o. stop E o b) ps (subst (In p) e (in_filter (λ o. stop E o a) i h))).1

pub last_is_same : (E : Expr) (ps : List ℕ) (a b : ℕ) → same_last E ps a b ≡ true → (p : ℕ) → In p ps → stop E p a ≡ stop E p b
unfolding same_last
last_is_same E ps a b e p i =
    let q : filter (λ o. stop E o a) ps ≡ filter (λ o. stop E o b) ps =
    same_is_equal (filter (λ o. stop E o a) ps) (filter (λ o. stop E o b) ps) e in
    bool_ext (stop E p a) (stop E p b) (last_half E ps a b q p i) (last_half E ps b a (sym q) p i)

-- an occurrence that may be last is one of the side
stop_in : (E : Expr) (p a : ℕ) → stop E (suc p) a ≡ true → In (suc p) (occurrences_of E)
unfolding occurrences_of
stop_in E p a h =
    let (i, j) = lasts_range E 0 (suc p) a h in
    in_upto (suc p) 1 (suc (occurrences E)) (omega arith) (omega arith)

pub last_is_same_anywhere : (E : Expr) (a b : ℕ) → null E a ≡ null E b → same_last E (occurrences_of E) a b ≡ true → (p : ℕ)
    → stop E p a ≡ stop E p b
last_is_same_anywhere E a b n e zero = n
last_is_same_anywhere E a b n e (suc p) =
    bool_ext (stop E (suc p) a) (stop E (suc p) b)
    (λ h. subst (λ c. c ≡ true) (last_is_same E (occurrences_of E) a b e (suc p) (stop_in E p a h)) h)
    (λ h. subst (λ c. c ≡ true) (sym (last_is_same E (occurrences_of E) a b e (suc p) (stop_in E p b h))) h)

-- what was just read reads the relation
pub reads_in : (E : Expr) (q r : ℕ) → reads E 0 q r ≡ true → In q (readers_of E r)
unfolding readers_of occurrences_of
reads_in E q r m =
    let (i, j) = reads_range E 0 q r m in
    in_filter (λ p. reads E 0 p r) (in_upto q 1 (suc (occurrences E)) (omega arith) (omega arith)) m

pub after_readers : (E : Expr) (P : List ℕ) (a r q : ℕ) → In q (after E P a r) → In q (readers_of E r)
after_readers E P a r q i = let (p, j, n, m) = (after_in E P a r q).0 i in reads_in E q r m

-- a live atom that is not kept
pub lower_alike : (alike : ℕ → ℕ → Bool) (live : List ℕ) (a : ℕ) → member a live ≡ true → lowest_alike alike live a ≡ false
    → (b : ℕ) × (b < a) × (member b live ≡ true) × (alike a b ≡ true)
unfolding lowest_alike
lower_alike alike live a m e = go (some (λ b. member b live && alike a b) (upto 0 a)) refl
  where
    go : (c : Bool) → some (λ b. member b live && alike a b) (upto 0 a) ≡ c
        → (b : ℕ) × (b < a) × (member b live ≡ true) × (alike a b ≡ true)
    go true h =
        let (b, i, k) = some_in (λ b. member b live && alike a b) (upto 0 a) h in
        (b, (upto_in b 0 a i).1, and_left (member b live) (alike a b) k, and_right (member b live) (alike a b) k)
    go false h = absurd (true_not_false (and_both m (false_not_true h)) e)
