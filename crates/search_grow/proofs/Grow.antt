-- Candidates one behind the other: what is fresh of two lists in a row is what is fresh of the first, and then what is fresh of the second
-- beside it. The order of what was seen does not matter. One candidate is kept or dropped.
-- Assumes nothing.
use mathlib.Core.Path.{◌≡◌, refl, sym, ◌∙◌, ap}
use mathlib.Core.Bool.{Bool, true, false, not, ◌&&◌, ◌||◌}
use mathlib.Core.List.{List, [], ◌∷◌, ◌++◌, append_assoc, append-nil}
use Rattle.kat.specs.Lists.{some}
use Rattle.claims.specs.Standings.{System}
use Rattle.claims.specs.Search.{Entry, seen_in, fresh}

or_swap : (a b c : Bool) → (a || (b || c)) ≡ (b || (a || c))
or_swap true true c = refl
or_swap true false c = refl
or_swap false true c = refl
or_swap false false c = refl

-- a test of a list in two parts with one in front of the second
some_middle : {A : Type 0} (p : A → Bool) (xs : List A) (x : A) (ys : List A) → some p (x ∷ (xs ++ ys)) ≡ some p (xs ++ (x ∷ ys))
some_middle p [] x ys = refl
some_middle p (y ∷ xs) x ys =
    or_swap (p x) (p y) (some p (xs ++ ys)) ∙ ap (λ b. p y || b) (some_middle p xs x ys)

module _ (S : System) where
  abbrev keeps : List (Entry S) → Entry S → Bool
  keeps seen e = S.possible e.standing && not (seen_in S seen e.standing)

  kept : (seen : List (Entry S)) (e : Entry S) (es : List (Entry S)) → keeps seen e ≡ true
      → fresh S seen (e ∷ es) ≡ e ∷ fresh S (e ∷ seen) es
  unfolding fresh
  kept seen e es h = rw (h, fresh) refl

  dropped : (seen : List (Entry S)) (e : Entry S) (es : List (Entry S)) → keeps seen e ≡ false
      → fresh S seen (e ∷ es) ≡ fresh S seen es
  unfolding fresh
  dropped seen e es h = rw (h, fresh) refl

  none_fresh : (seen : List (Entry S)) → fresh S seen [] ≡ []
  unfolding fresh
  none_fresh seen = refl

  seen_front : (e : Entry S) (seen done : List (Entry S)) (s : S.Standing) → seen_in S seen s ≡ seen_in S done s
      → seen_in S (e ∷ seen) s ≡ seen_in S (e ∷ done) s
  unfolding seen_in
  seen_front e seen done s h = ap (λ b. S.equal s e.standing || b) h

  seen_middle : (e : Entry S) (xs ys : List (Entry S)) (s : S.Standing) → seen_in S (e ∷ (xs ++ ys)) s ≡ seen_in S (xs ++ (e ∷ ys)) s
  unfolding seen_in
  seen_middle e xs ys s = some_middle (λ f. S.equal s f.standing) xs e ys

  -- what was seen counts, not its order
  fresh_same : (seen done : List (Entry S)) (es : List (Entry S)) → ((s : S.Standing) → seen_in S seen s ≡ seen_in S done s)
      → fresh S seen es ≡ fresh S done es
  fresh_same seen done [] h = none_fresh seen ∙ sym (none_fresh done)
  fresh_same seen done (e ∷ es) h =
      go (keeps seen e) refl (fresh_same (e ∷ seen) (e ∷ done) es (both h)) (fresh_same seen done es h)
    where
      both : ((s : S.Standing) → seen_in S seen s ≡ seen_in S done s)
          → (s : S.Standing) → seen_in S (e ∷ seen) s ≡ seen_in S (e ∷ done) s
      both g s = seen_front e seen done s (g s)

      test : keeps seen e ≡ keeps done e
      test = ap (λ b. S.possible e.standing && not b) (h e.standing)

      go : (b : Bool) → keeps seen e ≡ b → fresh S (e ∷ seen) es ≡ fresh S (e ∷ done) es → fresh S seen es ≡ fresh S done es
          → fresh S seen (e ∷ es) ≡ fresh S done (e ∷ es)
      go true k f g = kept seen e es k ∙ ap (λ l. e ∷ l) f ∙ sym (kept done e es (sym test ∙ k))
      go false k f g = dropped seen e es k ∙ g ∙ sym (dropped done e es (sym test ∙ k))

  -- two lists of candidates in a row
  fresh_append : (seen xs ys : List (Entry S)) → fresh S seen (xs ++ ys) ≡ fresh S seen xs ++ fresh S (seen ++ fresh S seen xs) ys
  fresh_append seen [] ys = go (fresh S seen []) (none_fresh seen)
    where
      go : (es : List (Entry S)) → es ≡ [] → fresh S seen ys ≡ es ++ fresh S (seen ++ es) ys
      go es e = rw (e, append-nil seen) refl
  fresh_append seen (x ∷ xs) ys = go (keeps seen x) refl (fresh_append (x ∷ seen) xs ys) (fresh_append seen xs ys)
    where
      front : List (Entry S)
      front = fresh S (x ∷ seen) xs

      go : (b : Bool) → keeps seen x ≡ b
          → fresh S (x ∷ seen) (xs ++ ys) ≡ front ++ fresh S ((x ∷ seen) ++ front) ys
          → fresh S seen (xs ++ ys) ≡ fresh S seen xs ++ fresh S (seen ++ fresh S seen xs) ys
          → fresh S seen (x ∷ (xs ++ ys)) ≡ fresh S seen (x ∷ xs) ++ fresh S (seen ++ fresh S seen (x ∷ xs)) ys
      go true k f g =
          kept seen x (xs ++ ys) k
          ∙ ap (λ l. x ∷ l) (f ∙ ap (λ l. front ++ l) (fresh_same (x ∷ (seen ++ front)) (seen ++ (x ∷ front)) ys (seen_middle x seen front)))
          ∙ sym (ap (λ l. l ++ fresh S (seen ++ l) ys) (kept seen x xs k))
      go false k f g = dropped seen x (xs ++ ys) k ∙ g ∙ sym (ap (λ l. l ++ fresh S (seen ++ l) ys) (dropped seen x xs k))

  -- the entries after no candidates, after two lists of them, and after one that is kept or dropped
  pub grow_none : (seen : List (Entry S)) → seen ++ fresh S seen [] ≡ seen
  grow_none seen = ap (λ l. seen ++ l) (none_fresh seen) ∙ append-nil seen

  pub grow_append : (seen xs ys : List (Entry S))
      → seen ++ fresh S seen (xs ++ ys) ≡ (seen ++ fresh S seen xs) ++ fresh S (seen ++ fresh S seen xs) ys
  grow_append seen xs ys =
      ap (λ l. seen ++ l) (fresh_append seen xs ys)
      ∙ sym (append_assoc seen (fresh S seen xs) (fresh S (seen ++ fresh S seen xs) ys))

  pub grow_kept : (seen : List (Entry S)) (e : Entry S) → keeps seen e ≡ true → seen ++ fresh S seen (e ∷ []) ≡ seen ++ (e ∷ [])
  grow_kept seen e h = ap (λ l. seen ++ l) (kept seen e [] h ∙ ap (λ l. e ∷ l) (none_fresh (e ∷ seen)))

  pub grow_dropped : (seen : List (Entry S)) (e : Entry S) → keeps seen e ≡ false → seen ++ fresh S seen (e ∷ []) ≡ seen
  grow_dropped seen e h = ap (λ l. seen ++ l) (dropped seen e [] h) ∙ grow_none seen
