-- Letters may be left out: the verdict over tests of letters is the verdict, and a sheet passes over tests of letters where it passes.
-- What the tests must keep to: a letter that fails has a step that is not possible or that a sooner letter has too, and that sooner
-- letter need not pass itself. The reason: at each level the candidates of the letters that pass are a thinned list of all candidates,
-- so the fresh ones are the same, entry for entry.
-- Assumes nothing.
use Prim.Native.Nat.{ℕ, zero, suc}
use native.Mathlib.Omega.{arith}
use mathlib.Core.Path.{◌≡◌, refl, sym, ◌∙◌, ap, subst}
use mathlib.Core.Logic.{◌⊎◌}
use mathlib.Core.Logic.◌⊎◌.{inl, inr}
use mathlib.Core.Bool.{Bool, true, false}
use mathlib.Core.List.{List, [], ◌∷◌, ◌++◌}
use mathlib.Core.Option.{some, none}
use lib.Dec.{ltb}
use lib.ListN.{length}
use Rattle.kat.specs.Lists.{In, here, there, filter, every}
use Rattle.kat.specs.Word.{end}
use Rattle.verdicts.specs.Standings.{System, Letter, letters}
use Rattle.verdicts.specs.Search.{Entry, refuted, spent, first_level, lengthened, next_level, fresh, completed, levels, verdict_within, verdict}
use Rattle.verdicts.specs.Passing.{listed, proving}
use Rattle.verdicts.specs.Thin.{thin_next_level, thin_levels, thin_verdict, thin_proving}
use Rattle.verdicts.specs.Verdicts.{StandingOf, begun, grown as more-grown}
use Rattle.verdicts.specs.Lawful.{Lawful}
use Rattle.verdicts.specs.Orders.{Sooner}
use Rattle.verdicts.proofs.Letters.{Fits, in_letters, letters_in_lem, letters_sooner}
use Rattle.verdicts.proofs.Fresh.{entry_of, entry_after, fresh_in}
use Rattle.verdicts.proofs.Candidates.{first_map, grown_map, first_in_lem, next_in}
use Rattle.verdicts.proofs.Thinned.{Thinned, none as thinned-none, Led, thinned_append, thinned_map, filter_thinned, fresh_thinned, listed_thinned}

-- the step f of a letter is not possible, or it is that of a sooner letter
abbrev pub MayLeave : (S : System) → (Letter → S.Standing) → Letter → Type 0
MayLeave S f l = (S.possible (f l) ≡ false) ⊎ ((m : Letter) × Fits S m × Sooner m l × (f m ≡ f l))

-- what is asked of the tests by which letters are tried: first at level 1, later after an entry
pub record Thins (S : System) (first : Letter → Bool) (later : Entry S → Letter → Bool) : Type 0 where
  pub begins : (l : Letter) → Fits S l → first l ≡ false → MayLeave S S.begin l
  pub goes_on : (e : Entry S) → StandingOf S e.prefix e.standing → (l : Letter) → Fits S l → later e l ≡ false
      → MayLeave S (S.onward e.standing) l

-- the same where the tests look at the letter alone, and after any standing: a sheet lists what it will
pub record ThinsAnywhere (S : System) (first later : Letter → Bool) : Type 0 where
  pub begins : (l : Letter) → Fits S l → first l ≡ false → MayLeave S S.begin l
  pub goes_on : (s : S.Standing) (l : Letter) → Fits S l → later l ≡ false → MayLeave S (S.onward s) l

-- what may be left out anywhere may be left out of the search
pub anywhere_thins : (S : System) (first later : Letter → Bool) → ThinsAnywhere S first later → Thins S first (λ e. later)
anywhere_thins S first later t = record { begins = t.begins; goes_on = λ e h. t.goes_on e.standing }

sooner_apart : (l m : Letter) → Sooner l m → Sooner m l → ⊥
sooner_apart l m (inl h) (inl k) = omega arith
sooner_apart l m (inl h) (inr (e, k)) = omega arith
sooner_apart l m (inr (e, h)) (inl k) = omega arith
sooner_apart l m (inr (e, h)) (inr (f, k)) = omega arith

module _ (S : System) (laws : Lawful S) where
  may_leave_led : (f : Letter → S.Standing) (t : Letter → Bool) (l : Letter) → MayLeave S f l
      → Led S Sooner sooner_apart f t [] (letters S) l
  may_leave_led f t l (inl h) = inl (inl h)
  may_leave_led f t l (inr (m, h, k, e)) = inr (m, in_letters S m h, k, e)

  -- the letters that pass a test are a thinned list of the letters
  letters_thinned : (f : Letter → S.Standing) (t : Letter → Bool) → ((l : Letter) → Fits S l → t l ≡ false → MayLeave S f l)
      → Thinned S f [] (letters S) (filter t (letters S))
  letters_thinned f t h =
      filter_thinned S Sooner sooner_apart f t (letters S) (letters_sooner S laws.live_rising)
      (λ l i e. may_leave_led f t l (h l (letters_in_lem S l i) e))

  -- a sheet passes over such tests where it passes
  module _ (first later : Letter → Bool) (thins : ThinsAnywhere S first later) where
    every_step : (ss ts : List S.Standing)
        → every (λ s. every (λ l. listed S ss (S.onward s l)) (filter later (letters S))) ts
        ≡ every (λ s. every (λ l. listed S ss (S.onward s l)) (letters S)) ts
    every_step ss [] = refl
    every_step ss (t ∷ ts) =
        rw (sym (listed_thinned S ss (S.onward t) (letters_thinned (S.onward t) later (thins.goes_on t))), every_step ss ts) refl

    pub thin_proving_lem : (ss : List S.Standing) → thin_proving S first later ss ≡ proving S ss
    unfolding thin_proving proving
    thin_proving_lem ss =
        rw (sym (listed_thinned S ss S.begin (letters_thinned S.begin first thins.begins)), every_step ss ss) refl

  module _ (first : Letter → Bool) (later : Entry S → Letter → Bool) (thins : Thins S first later) where
    -- every entry has the standing of its prefix
    abbrev AllStand : List (Entry S) → Type 0
    AllStand es = (e : Entry S) → In e es → StandingOf S e.prefix e.standing

    first_thinned : Thinned S (λ e. e.standing) [] (first_level S (letters S)) (first_level S (filter first (letters S)))
    first_thinned =
        rw (first_map S (letters S), first_map S (filter first (letters S)))
        (thinned_map S S.begin (λ e. e.standing) (entry_of S) (λ l. refl) (letters_thinned S.begin first thins.begins))

    grown_thinned : (e : Entry S) → StandingOf S e.prefix e.standing
        → Thinned S (λ x. x.standing) [] (lengthened S e (letters S)) (lengthened S e (filter (later e) (letters S)))
    grown_thinned e h =
        rw (grown_map S e (letters S), grown_map S e (filter (later e) (letters S)))
        (thinned_map S (S.onward e.standing) (λ x. x.standing) (entry_after S e) (λ l. refl)
        (letters_thinned (S.onward e.standing) (later e) (thins.goes_on e h)))

    next_thinned : (es : List (Entry S)) → AllStand es
        → Thinned S (λ e. e.standing) [] (next_level S es) (thin_next_level S first later es)
    unfolding next_level thin_next_level
    next_thinned [] h = thinned-none
    next_thinned (e ∷ es) h =
        thinned_append S (λ x. x.standing) (grown_thinned e (h e (here refl))) (next_thinned es (λ x i. h x (there i)))

    first_stand : AllStand (fresh S [] (first_level S (letters S)))
    first_stand x i =
        let (l, (h, k), e) = first_in_lem S x (fresh_in S laws [] (first_level S (letters S)) x i).candidate in
        subst (λ y. StandingOf S y.prefix y.standing) (sym e) (begun h k)

    next_stand : (seen es : List (Entry S)) → AllStand es → AllStand (fresh S seen (next_level S es))
    next_stand seen es s x i =
        let (e, l, j, (h, k), q) = next_in S es x (fresh_in S laws seen (next_level S es) x i).candidate in
        subst (λ y. StandingOf S y.prefix y.standing) (sym q) (more-grown (s e j) h k)

    thin_levels_lem : (f allowance : ℕ) (seen new : List (Entry S)) → AllStand new
        → thin_levels S first later f allowance seen new ≡ levels S f allowance seen new
    unfolding thin_levels levels
    thin_levels_lem zero allowance seen new h = refl
    thin_levels_lem (suc f) allowance seen [] h = refl
    thin_levels_lem (suc f) allowance seen (e ∷ es) h =
        let more : List (Entry S) = fresh S seen (next_level S (e ∷ es)) in
        let same : fresh S seen (thin_next_level S first later (e ∷ es)) ≡ more =
        sym (fresh_thinned S laws seen (λ s i. elim i [ ]) (next_thinned (e ∷ es) h)) in
        ap (λ v. elim (ltb allowance (length seen)) [
          | true ↦ spent
          | false ↦ elim (completed S (e ∷ es)) [ some w ↦ refuted w | none ↦ v ]
        ])
        (ap (λ m. thin_levels S first later f allowance (seen ++ m) m) same
        ∙ thin_levels_lem f allowance (seen ++ more) more (next_stand seen (e ∷ es) h))

    from_first : (f allowance : ℕ)
        → thin_levels S first later f allowance (fresh S [] (first_level S (filter first (letters S)))) (fresh S [] (first_level S (filter first (letters S))))
        ≡ levels S f allowance (fresh S [] (first_level S (letters S))) (fresh S [] (first_level S (letters S)))
    from_first f allowance =
        let new : List (Entry S) = fresh S [] (first_level S (letters S)) in
        ap (λ m. thin_levels S first later f allowance m m) (sym (fresh_thinned S laws [] (λ s i. elim i [ ]) first_thinned))
        ∙ thin_levels_lem f allowance new new first_stand

    -- the verdict over such tests is the verdict
    pub thin_verdict_lem : (allowance : ℕ) → thin_verdict S first later allowance ≡ verdict S allowance
    unfolding thin_verdict verdict verdict_within
    thin_verdict_lem allowance = ap (λ v. elim S.alone [ a ∷ as' ↦ refuted (end a) | [] ↦ v ]) (from_first _ allowance)
