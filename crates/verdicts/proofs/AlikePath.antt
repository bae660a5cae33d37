-- Of atoms that are alike before a relation, path claims need only the lowest. Alike atoms give a standing the same step: whatever was read
-- last, and after a prefix that ends with relation o also by the occurrences that read o alone, since P and S hold no others. So the
-- verdict over the kept atoms is the verdict, and a sheet passes over them exactly where it passes.
-- Assumes nothing.
use Prim.Native.Nat.{ℕ}
use mathlib.Core.Path.{◌≡◌, sym}
use mathlib.Core.Logic.◌⊎◌.{inl, inr}
use mathlib.Core.Bool.{Bool, true, false}
use mathlib.Core.List.{List, [], ◌∷◌}
use Rattle.kat.specs.Lists.{In}
use Rattle.kat.specs.Ring.{Prefix}
use Rattle.kat.specs.Tables.{after}
use Rattle.kat.proofs.Bools.{and_left, and_right}
use Rattle.notation.specs.Sides.{Decision}
use Rattle.verdicts.specs.Standings.{Letter, Path, path_step, path_system}
use Rattle.verdicts.specs.Search.{Entry, verdict}
use Rattle.verdicts.specs.Passing.{proving}
use Rattle.verdicts.specs.Thin.{thin_verdict, thin_proving}
use Rattle.verdicts.specs.Alike.{states_of, readers_of, same_next, alike_path, alike_path_first, alike_path_after, kept_path, kept_path_first, kept_path_after, last_relation, path_letter, path_letter_first, path_letter_after}
use Rattle.verdicts.specs.Verdicts.{StandingOf, begun, grown}
use Rattle.verdicts.specs.Orders.{Rising, letter_of}
use Rattle.verdicts.proofs.Letters.{Fits}
use Rattle.verdicts.proofs.Lawful.{path_lawful}
use Rattle.verdicts.proofs.ThinVerdict.{MayLeave, Thins, ThinsAnywhere, anywhere_thins, thin_verdict_lem, thin_proving_lem}
use Rattle.verdicts.proofs.Alike.{SameStep, after_same, next_is_same, next_is_same_anywhere, after_readers, lower_alike}

module _ (D : Decision) where
  -- a step with either atom, where each occurrence that may have been read last has the same one
  path_step_same : (s : Path) (r a b : ℕ) → ((p : ℕ) → In p s.P → SameStep D.left a b r p)
      → ((p : ℕ) → In p s.S → SameStep D.right a b r p) → path_step D s (letter_of a r) ≡ path_step D s (letter_of b r)
  unfolding path_step
  path_step_same s r a b h k =
      let p : after D.left s.P a r ≡ after D.left s.P b r = after_same D.left a b r s.P h in
      let q : after D.right s.S a r ≡ after D.right s.S b r = after_same D.right a b r s.S k in
      λ i. record { P = p i; S = q i }

  -- alike atoms: after any standing, after nothing, and after a prefix with its last relation
  pub alike_path_step : (s : Path) (r a b : ℕ) → alike_path D r a b ≡ true → path_step D s (letter_of a r) ≡ path_step D s (letter_of b r)
  unfolding alike_path
  alike_path_step s r a b e =
      let l : Bool = same_next D.left (states_of D.left) r a b in
      let m : Bool = same_next D.right (states_of D.right) r a b in
      path_step_same s r a b (λ p i. next_is_same_anywhere D.left r a b (and_left l m e) p)
      (λ p i. next_is_same_anywhere D.right r a b (and_right l m e) p)

  pub alike_path_first_lem : (r a b : ℕ) → alike_path_first D r a b ≡ true
      → (path_system D).begin (letter_of a r) ≡ (path_system D).begin (letter_of b r)
  unfolding alike_path_first
  alike_path_first_lem r a b e =
      let l : Bool = same_next D.left (0 ∷ []) r a b in
      let m : Bool = same_next D.right (0 ∷ []) r a b in
      path_step_same (record { P = 0 ∷ []; S = 0 ∷ [] }) r a b (next_is_same D.left (0 ∷ []) r a b (and_left l m e))
      (next_is_same D.right (0 ∷ []) r a b (and_right l m e))

  -- P and S hold only occurrences that read the last relation of the prefix
  pub path_readers : {l : Prefix} {s : Path} → StandingOf (path_system D) l s
      → ((p : ℕ) → In p s.P → In p (readers_of D.left (last_relation l)))
      × ((p : ℕ) → In p s.S → In p (readers_of D.right (last_relation l)))
  unfolding path_step
  path_readers (begun {a = a} {r = r} h k) =
      (after_readers D.left (0 ∷ []) a r, after_readers D.right (0 ∷ []) a r)
  path_readers (grown {s = s} {a = a} {r = r} t h k) =
      (after_readers D.left s.P a r, after_readers D.right s.S a r)

  pub alike_path_after_lem : (o r a b : ℕ) (s : Path) → ((p : ℕ) → In p s.P → In p (readers_of D.left o))
      → ((p : ℕ) → In p s.S → In p (readers_of D.right o)) → alike_path_after D o r a b ≡ true
      → path_step D s (letter_of a r) ≡ path_step D s (letter_of b r)
  unfolding alike_path_after
  alike_path_after_lem o r a b s h k e =
      let l : Bool = same_next D.left (readers_of D.left o) r a b in
      let m : Bool = same_next D.right (readers_of D.right o) r a b in
      path_step_same s r a b (λ p i. next_is_same D.left (readers_of D.left o) r a b (and_left l m e) p (h p i))
      (λ p i. next_is_same D.right (readers_of D.right o) r a b (and_right l m e) p (k p i))

  -- a letter whose atom is not kept may be left out
  leaves_path : (s : Path) (l : Letter) → Fits (path_system D) l → kept_path D l.relation l.atom ≡ false
      → MayLeave (path_system D) (path_step D s) l
  unfolding kept_path
  leaves_path s l (m, h) e =
      let (b, k, n, q) = lower_alike (alike_path D l.relation) D.live l.atom m e in
      inr (letter_of b l.relation, (n, h), inl k, sym (alike_path_step s l.relation l.atom b q))

  leaves_path_first : (l : Letter) → Fits (path_system D) l → kept_path_first D l.relation l.atom ≡ false
      → MayLeave (path_system D) (path_system D).begin l
  unfolding kept_path_first
  leaves_path_first l (m, h) e =
      let (b, k, n, q) = lower_alike (alike_path_first D l.relation) D.live l.atom m e in
      inr (letter_of b l.relation, (n, h), inl k, sym (alike_path_first_lem l.relation l.atom b q))

  leaves_path_after : (e : Entry (path_system D)) → StandingOf (path_system D) e.prefix e.standing → (l : Letter) → Fits (path_system D) l
      → kept_path_after D (last_relation e.prefix) l.relation l.atom ≡ false
      → MayLeave (path_system D) (path_step D e.standing) l
  unfolding kept_path_after
  leaves_path_after e t l (m, h) f =
      let o : ℕ = last_relation e.prefix in
      let (b, k, n, q) = lower_alike (alike_path_after D o l.relation) D.live l.atom m f in
      let (x, y) = path_readers t in
      inr (letter_of b l.relation, (n, h), inl k, sym (alike_path_after_lem o l.relation l.atom b e.standing x y q))

  pub path_thins_anywhere : ThinsAnywhere (path_system D) (path_letter D) (path_letter D)
  path_thins_anywhere =
      record { begins = leaves_path (record { P = 0 ∷ []; S = 0 ∷ [] }); goes_on = leaves_path }

  pub path_thins : Thins (path_system D) (path_letter_first D) (path_letter_after D)
  path_thins = record { begins = leaves_path_first; goes_on = leaves_path_after }

  module _ (rising : Rising D.live) where
    -- the verdict over the atoms kept by the next relation
    pub kept_path_verdict : (allowance : ℕ) → thin_verdict (path_system D) (path_letter D) (λ e. path_letter D) allowance ≡ verdict (path_system D) allowance
    kept_path_verdict =
        thin_verdict_lem (path_system D) (path_lawful D rising) (path_letter D) (λ e. path_letter D)
        (anywhere_thins (path_system D) (path_letter D) (path_letter D) path_thins_anywhere)

    -- the verdict over the atoms kept by the last and the next relation
    pub kept_path_verdict_after : (allowance : ℕ)
        → thin_verdict (path_system D) (path_letter_first D) (path_letter_after D) allowance ≡ verdict (path_system D) allowance
    kept_path_verdict_after = thin_verdict_lem (path_system D) (path_lawful D rising) (path_letter_first D) (path_letter_after D) path_thins

    -- the check of a sheet over the atoms kept by the next relation
    pub kept_path_proves : (ss : List (path_system D).Standing) → thin_proving (path_system D) (path_letter D) (path_letter D) ss ≡ proving (path_system D) ss
    kept_path_proves = thin_proving_lem (path_system D) (path_lawful D rising) (path_letter D) (path_letter D) path_thins_anywhere
